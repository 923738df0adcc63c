-- The last row whose epoch is at most a given one, row by row.
use Rattle.std.proofs.Common.{◌≡◌, ◌≤◌, ◌<◌, ℕ, ◌+◌, List, [], ◌∷◌, ◌++◌, length, take, get_or, refl, ap, ◌∙◌, append-nil}
use Rattle.std.specs.Prelude.{Option, Some, None, cond, nat_le, filter}
use Rattle.std.specs.List.{last_or}
use Rattle.std.specs.Option.{option_map_or}
use Rattle.std.proofs.lemmas.Bool.{lt-leb, le-leb}
use Rattle.std.proofs.lemmas.List.Elements.{filter_more}
use Rattle.rb_base.specs.declared.body.IndexRow.{IndexRow}
use Rattle.rb_log_defs.specs.Index.{position_after}

last_or_push : {A : Type 0} (o : Option A) (xs : List A) (x : A) → last_or o (xs ++ x ∷ []) ≡ Some x
last_or_push o [] x = refl
last_or_push o (y ∷ xs) x = last_or_push (Some y) xs x

-- the place at which the log continues after this row, or without a row
abbrev place_of : Option IndexRow → ℕ × ℕ
place_of row = option_map_or (λ (r : IndexRow). (r.next_file, r.next_position)) row (1, 4)

-- the rows with an epoch at most this one
abbrev until : List IndexRow → (epoch : ℕ) → List IndexRow
until rows epoch = filter (λ (row : IndexRow). nat_le row.epoch.0 epoch) rows

one_more : (rows : List IndexRow) (i epoch : ℕ) (d : IndexRow) → i < length rows → until (take (i + 1) rows) epoch ≡ until (take i rows) epoch ++ cond (nat_le (get_or rows i d).epoch.0 epoch) (get_or rows i d ∷ []) []
one_more rows i epoch d within = filter_more (λ (row : IndexRow). nat_le row.epoch.0 epoch) rows i d within

-- a row whose epoch is not above the given one moves the place
pub place_moves : (rows : List IndexRow) (i epoch : ℕ) (d : IndexRow) → i < length rows → (get_or rows i d).epoch.0 ≤ epoch → position_after (take (i + 1) rows) epoch ≡ ((get_or rows i d).next_file, (get_or rows i d).next_position)
place_moves rows i epoch d within early =
    let row : IndexRow = get_or rows i d in
    let counts : cond (nat_le row.epoch.0 epoch) (row ∷ []) [] ≡ row ∷ [] = rw (le-leb row.epoch.0 epoch early) refl in
    ap (λ (rs : List IndexRow). place_of (last_or None rs)) (one_more rows i epoch d within ∙ ap (λ (rs : List IndexRow). until (take i rows) epoch ++ rs) counts)
    ∙ ap place_of (last_or_push None (until (take i rows) epoch) row)

-- a row of a later epoch does not
pub place_stays : (rows : List IndexRow) (i epoch : ℕ) (d : IndexRow) → i < length rows → epoch < (get_or rows i d).epoch.0 → position_after (take (i + 1) rows) epoch ≡ position_after (take i rows) epoch
place_stays rows i epoch d within later =
    let row : IndexRow = get_or rows i d in
    let counts : cond (nat_le row.epoch.0 epoch) (row ∷ []) [] ≡ [] = rw (lt-leb row.epoch.0 epoch later) refl in
    ap (λ (rs : List IndexRow). place_of (last_or None rs)) (one_more rows i epoch d within ∙ ap (λ (rs : List IndexRow). until (take i rows) epoch ++ rs) counts ∙ append-nil (until (take i rows) epoch))
