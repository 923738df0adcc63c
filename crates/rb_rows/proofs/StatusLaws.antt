-- The payload of the apply-status rows, part by part.
use Rattle.std.proofs.Common.{◌≡◌, ℕ, List, [], ◌∷◌, ◌++◌, refl, ap, sym, ◌∙◌, append-nil, append_assoc}
use Rattle.std.specs.Prelude.{Option, Some, None}
use Rattle.byteorder.specs.Endian.{little_bytes}
use Rattle.rb_base.specs.Length.{length_bytes}
use Rattle.rb_base.specs.declared.epoch.Epoch.{Epoch}
use Rattle.rb_base.specs.declared.body.EpochBody.{EpochBody}
use Rattle.rb_log_defs.specs.Event.{zeros}
use Rattle.rb_log_defs.specs.Table.{status_columns}
use Rattle.rb_log_defs.specs.Rows.{row_image, rows_payload, status_row, status_rows, status_written, reflected_row}

-- the part before the rows
abbrev status_head : (flags : ℕ) → List ℕ
status_head flags = zeros 6 ++ (little_bytes 2 flags ++ (2 ∷ 0 ∷ 5 ∷ 31 ∷ []))

status_parts : (body : EpochBody) (flags : ℕ) → status_written body flags ≡ status_head flags ++ status_rows body
unfolding rows_payload length_bytes
status_parts body flags = refl

-- one row is written
pub one_row : (body : EpochBody) (flags : ℕ) (old first new head own : List ℕ) → body.reflected ≡ None → head ≡ status_head flags → own ≡ row_image status_columns (status_row body.server body.epoch.0) →
    first ≡ old ++ head → new ≡ first ++ own → new ≡ old ++ status_written body flags
one_row body flags old first new head own none begins is one two =
    let rows : own ≡ status_rows body = is ∙ sym (append-nil (row_image status_columns (status_row body.server body.epoch.0))) ∙ ap (λ (r : Option Epoch). row_image status_columns (status_row body.server body.epoch.0) ++ reflected_row r) (sym none) in
    two ∙ ap (λ (xs : List ℕ). xs ++ own) one ∙ append_assoc old head own
    ∙ ap (λ (xs : List ℕ). old ++ (xs ++ own)) begins ∙ ap (λ (xs : List ℕ). old ++ (status_head flags ++ xs)) rows ∙ ap (λ (xs : List ℕ). old ++ xs) (sym (status_parts body flags))

-- two rows are written
pub two_rows : (body : EpochBody) (flags : ℕ) (epoch : Epoch) (old first second new head own other : List ℕ) → body.reflected ≡ Some epoch → head ≡ status_head flags → own ≡ row_image status_columns (status_row body.server body.epoch.0) → other ≡ row_image status_columns (status_row 1 epoch.0) →
    first ≡ old ++ head → second ≡ first ++ own → new ≡ second ++ other → new ≡ old ++ status_written body flags
two_rows body flags epoch old first second new head own other some begins is also one two three =
    let image : List ℕ = row_image status_columns (status_row body.server body.epoch.0) in
    let rows : own ++ other ≡ status_rows body = ap (λ (xs : List ℕ). xs ++ other) is ∙ ap (λ (xs : List ℕ). image ++ xs) also ∙ ap (λ (r : Option Epoch). image ++ reflected_row r) (sym some) in
    three ∙ ap (λ (xs : List ℕ). xs ++ other) (two ∙ ap (λ (xs : List ℕ). xs ++ own) one) ∙ append_assoc (old ++ head) own other ∙ append_assoc old head (own ++ other)
    ∙ ap (λ (xs : List ℕ). old ++ (xs ++ (own ++ other))) begins ∙ ap (λ (xs : List ℕ). old ++ (status_head flags ++ xs)) rows ∙ ap (λ (xs : List ℕ). old ++ xs) (sym (status_parts body flags))
