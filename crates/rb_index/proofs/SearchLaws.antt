-- The last row: of those that a search finds, and as the next one comes.
use Rattle.std.proofs.Common.{◌≡◌, ℕ, zero, suc, ◌-◌, ◌<◌, ◌≤◌, Bool, true, false, List, [], ◌∷◌, ◌++◌, length, take, get_or, refl, sym, ap, ◌∙◌, arith, Option, Some, None, leb}
use Rattle.std.specs.Prelude.{filter, slice_get}
use Rattle.std.specs.List.{AllWithin, last_or}
use Rattle.std.specs.List.Sorted.{IsPartitionPoint}
use Rattle.std.specs.Option.{option_map_or}
use Rattle.std.proofs.lemmas.List.Sorted.{IsNonDecreasingBy-push}
use Rattle.rb_base.specs.declared.body.IndexRow.{IndexRow}
use Rattle.rb_log_defs.specs.Index.{position_after}
use Rattle.rb_device_defs.specs.Index.{NeverFall, last_epoch_of}

-- what passes, if all that passes stands before this place
pub filter_prefix : {X : Type 0} (test : X → Bool) (xs : List X) (i : ℕ) → AllWithin (λ x. test x ≡ true) xs 0 i → AllWithin (λ x. test x ≡ false) xs i (length xs) → i ≤ length xs → filter test xs ≡ take i xs
filter_prefix test [] zero passes fails within = refl
filter_prefix test [] (suc i) passes fails within = refl
filter_prefix {X} test (x ∷ xs) zero passes fails within =
    let here : test x ≡ false = fails 0 x (omega arith) (omega arith) in
    let rest : filter test xs ≡ take 0 xs = filter_prefix test xs zero (λ k d low high. absurd (omega arith)) (λ k d low high. fails (suc k) d (omega arith) (omega arith)) (omega arith) in
    rw here rest
filter_prefix {X} test (x ∷ xs) (suc i) passes fails within =
    let here : test x ≡ true = passes 0 x (omega arith) (omega arith) in
    let rest : filter test xs ≡ take i xs = filter_prefix test xs i (λ k d low high. passes (suc k) d (omega arith) (omega arith)) (λ k d low high. fails (suc k) d (omega arith) (omega arith)) (omega arith) in
    rw here (ap (λ (ys : List X). x ∷ ys) rest)

-- the last element by its place
pub last_by_place : {X : Type 0} (x : X) (xs : List X) (other : Option X) → slice_get (x ∷ xs) (length xs) ≡ last_or other (x ∷ xs)
last_by_place x [] other = refl
last_by_place x (y ∷ ys) other = last_by_place y ys (Some x)

pub last_at : {X : Type 0} (xs : List X) → slice_get xs (length xs - 1) ≡ last_or None xs
last_at [] = refl
last_at (x ∷ xs) = let last : suc (length xs) - 1 ≡ length xs = omega arith in ap (slice_get (x ∷ xs)) last ∙ last_by_place x xs None

-- the place at which the log continues, by the last row that a search finds
pub position_found : (rows found : List IndexRow) (epoch later : ℕ) (last : Option IndexRow) → IsPartitionPoint (λ row. leb row.epoch.0 epoch ≡ true) (λ row. leb row.epoch.0 epoch ≡ false) rows later → later ≤ length rows → found ≡ take later rows
    → last ≡ slice_get found (length found - 1) → option_map_or (λ row. (row.next_file, row.next_position)) last (1, 4) ≡ position_after rows epoch
position_found rows found epoch later last point within is found_last =
    let passing : filter (λ row. leb row.epoch.0 epoch) rows ≡ take later rows = filter_prefix (λ row. leb row.epoch.0 epoch) rows later point.0 point.1 within in
    let same : last ≡ last_or None (filter (λ row. leb row.epoch.0 epoch) rows) = found_last ∙ last_at found ∙ ap (last_or None) (is ∙ sym passing) in
    ap (λ (row : Option IndexRow). option_map_or (λ row. (row.next_file, row.next_position)) row (1, 4)) same

last_is : {X : Type 0} (x : X) (xs : List X) (other : Option X) (d : X) → last_or other (x ∷ xs) ≡ Some (get_or (x ∷ xs) (length xs) d)
last_is x [] other d = refl
last_is x (y ∷ ys) other d = last_is y ys (Some x) d

last_epoch : (rows : List IndexRow) (d : IndexRow) → 0 < length rows → (get_or rows (length rows - 1) d).epoch.0 ≡ last_epoch_of rows
last_epoch [] d some = absurd (omega arith)
last_epoch (row ∷ rows) d some =
    let last : suc (length rows) - 1 ≡ length rows = omega arith in
    ap (λ (i : ℕ). (get_or (row ∷ rows) i d).epoch.0) last ∙ sym (ap (λ (last : Option IndexRow). option_map_or (λ row. row.epoch.0) last 0) (last_is row rows None d))

-- a row after rows that never fall, whose epoch is no lower than the last one
pub never_fall_more : (rows : List IndexRow) (row : IndexRow) → NeverFall rows → last_epoch_of rows ≤ row.epoch.0 → NeverFall (rows ++ row ∷ [])
never_fall_more rows row fall later = IsNonDecreasingBy-push (λ row. row.epoch.0) rows row fall (λ d some. let last = last_epoch rows d some in omega (arith, last))
