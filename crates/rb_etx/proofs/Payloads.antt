-- The payloads of the rows events of an epoch.
use Rattle.std.proofs.Common.{◌≡◌, ◌<◌, ℕ, ◌+◌, zero, suc, Bool, false, List, [], ◌∷◌, ◌++◌, length, drop, refl, sym, ap, ◌∙◌, arith, append_assoc}
use Rattle.std.specs.Prelude.{◌==◌}
use Rattle.rb_base.specs.declared.schema.Column.{Column}
use Rattle.rb_base.specs.declared.schema.Mapped.{Mapped}
use Rattle.rb_base.specs.declared.change.Change.{Change}
use Rattle.rb_base.specs.declared.body.EpochBody.{EpochBody}
use Rattle.rb_log_defs.specs.Event.{header_bytes, event_bytes}
use Rattle.rb_log_defs.specs.Rows.{transid_extra, present_bitmaps, images_of, rows_written, change_payload, end_flag, ends_statement, status_written, status_payload}
use Rattle.rb_log_defs.proofs.Bounds.{change_payload_is}
use Rattle.rb_rows.proofs.Images.{payload_length}

-- the payload of a list of one change is that of the change
pub change_written : (table : Mapped) (change : Change) (last : Bool) → change.table ≡ table.id → rows_written table.id table.columns (change ∷ []) (end_flag last) ≡ change_payload table.columns change (end_flag last)
unfolding change_payload
change_written table change last named =
    ap (λ (id : ℕ). rows_written id table.columns (change ∷ []) (end_flag last)) (sym named)

-- an event ends the statement if the number of changes after it is 0
pub ends_if_none : (changes : List Change) → (length changes == 0) ≡ ends_statement changes
ends_if_none [] = refl
ends_if_none (change ∷ changes) =
    let some : (length (change ∷ changes) == 0) ≡ false = grind arith in
    some

-- the apply-status rows end the statement if no change follows
pub status_payload_written : (body : EpochBody) → status_written body (end_flag (length body.changes == 0)) ≡ status_payload body
unfolding status_payload
status_payload_written body = ap (λ (last : Bool). status_written body (end_flag last)) (ends_if_none body.changes)

-- the flag does not affect the length
pub change_length : (columns : List Column) (change : Change) (flags other : ℕ) → length (change_payload columns change flags) ≡ length (change_payload columns change other)
change_length columns change flags other =
    let present = present_bitmaps change.kind (length columns) in
    let images = images_of change.kind columns change.before change.after in
    ap length (change_payload_is columns change flags) ∙ payload_length change.table flags (transid_extra change.transid) (length columns) present images
    ∙ sym (ap length (change_payload_is columns change other) ∙ payload_length change.table other (transid_extra change.transid) (length columns) present images)

-- the event of the last change ends the statement, and no other event does
pub ends_if_last : (changes : List Change) (i : ℕ) → i < length changes → (i + 1 == length changes) ≡ ends_statement (drop (i + 1) changes)
ends_if_last [] i inside = absurd (omega arith)
ends_if_last (change ∷ []) zero inside = refl
ends_if_last (change ∷ second ∷ changes) zero inside =
    let other : (1 == length (change ∷ second ∷ changes)) ≡ false = grind arith in
    other
ends_if_last (change ∷ changes) (suc i) inside =
    let same : (suc i + 1 == length (change ∷ changes)) ≡ (i + 1 == length changes) = grind arith in
    let next : suc i + 1 ≡ suc (i + 1) = omega arith in
    rw (same, next) (ends_if_last changes i (omega arith))

-- the payload of a list that is one change
pub written_is : (table : Mapped) (changes : List Change) (change : Change) (last : Bool) → changes ≡ change ∷ [] → change.table ≡ table.id → rows_written table.id table.columns changes (end_flag last) ≡ change_payload table.columns change (end_flag last)
written_is table changes change last same named = rw same (change_written table change last named)

-- a header and the payload after it are the event
pub event_written : (kind server : ℕ) (payload : List ℕ) (start size : ℕ) (old head out : List ℕ) → size ≡ length payload → head ≡ old ++ header_bytes kind server (19 + size) (start + (19 + size)) 0 → out ≡ head ++ payload →
    out ≡ old ++ event_bytes kind server payload start
unfolding event_bytes
event_written kind server payload start size old head out same first is = rw (is, first, same, append_assoc) refl
