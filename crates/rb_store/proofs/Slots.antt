-- The slots of a site's tables when one table changes.
use Rattle.std.proofs.Common.{◌≡◌, ℕ, zero, suc, ◌-◌, ◌<◌, ◌≤◌, Bool, true, false, ◌&&◌, List, [], ◌∷◌, length, get_or, slice_set, slice_get, option_and_then, Option, Some, refl, sym, ap, ◌∙◌, subst, arith}
use Rattle.std.specs.Prelude.{◌==◌, if◌then◌else◌}
use Rattle.std.proofs.lemmas.Grind.{common_steps}
use Rattle.std.proofs.lemmas.Bool.{eqb-true}
use Rattle.std.proofs.lemmas.Option.{slice_get_read, slice_get_past}
use Rattle.rb_store.specs.declared.table.Slot.{Slot}
use Rattle.rb_store.specs.declared.table.Table.{Table}
use Rattle.rb_store.specs.Table.{slot_in, room_of}
use Rattle.rb_store.specs.Tables.{table_at, slot_at}

-- an item of a list in which one is another
pub get_set : {X : Type 0} (xs : List X) (i j : ℕ) (x : X) → i < length xs → slice_get (slice_set xs i x) j ≡ (if i == j then Some x else slice_get xs j)
get_set [] i j x within = absurd (omega arith)
get_set (y ∷ ys) zero zero x within = refl
get_set (y ∷ ys) zero (suc j) x within = let apart : (0 == suc j) ≡ false = grind (arith, common_steps) in rw apart
get_set (y ∷ ys) (suc i) zero x within = let apart : (suc i == 0) ≡ false = grind (arith, common_steps) in rw apart
get_set (y ∷ ys) (suc i) (suc j) x within = let one : (suc i == suc j) ≡ (i == j) = grind (arith, common_steps) in rw one (get_set ys i j x (omega arith))

-- numbers from 1 are the same as their places from 0
place_of : (number t : ℕ) → 1 ≤ number → 1 ≤ t → (number - 1 == t - 1) ≡ (number == t)
place_of number t first second = grind (arith, common_steps)

pub table_set : (tables : List Table) (number t : ℕ) (new : Table) → 1 ≤ number → number ≤ length tables → table_at (slice_set tables (number - 1) new) t ≡ (if number == t then Some new else table_at tables t)
table_set tables number t new first last = grind (arith, common_steps, get_set tables (number - 1) (t - 1) new, place_of number t)

-- the table of a number that is declared
pub table_there : (tables : List Table) (number : ℕ) (old : Table) → 1 ≤ number → number ≤ length tables → old ≡ get_or tables (number - 1) old → table_at tables number ≡ Some old
table_there tables number old first last is = grind (arith, common_steps, slice_get_read tables (length tables) (number - 1) old)

both : {X : Type 0} (a b : Bool) (x y : X) → (if a then (if b then x else y) else y) ≡ (if a && b then x else y)
both true b x y = refl
both false b x y = refl

-- what is read of a slot when one table is replaced
pub changed : {X : Type 0} (read : Option Slot → X) (change : ℕ → X → X) (tables : List Table) (number : ℕ) (old new : Table) → 1 ≤ number → number ≤ length tables → old ≡ get_or tables (number - 1) old
    → ((k : ℕ) → read (slot_in new k) ≡ change k (read (slot_in old k)))
    → (t k : ℕ) → read (slot_at (slice_set tables (number - 1) new) t k) ≡ (if number == t then change k (read (slot_at tables t k)) else read (slot_at tables t k))
changed read change tables number old new first last is each t k =
    ap (λ found. read (option_and_then (λ (table : Table). slot_in table k) found)) (table_set tables number t new first last) ∙ go (number == t) (eqb-true number t)
  where
    go : (b : Bool) → (b ≡ true → number ≡ t) → read (option_and_then (λ (table : Table). slot_in table k) (if b then Some new else table_at tables t)) ≡ (if b then change k (read (slot_at tables t k)) else read (slot_at tables t k))
    go true same = each k ∙ ap (λ found. change k (read (option_and_then (λ (table : Table). slot_in table k) found))) (sym (subst (λ n. table_at tables n ≡ Some old) (same refl) (table_there tables number old first last is)))
    go false other = refl

-- what is read of one key's slot when only that slot changes
pub changed_at : {X : Type 0} (read : Option Slot → X) (change : X → X) (tables : List Table) (number key : ℕ) (old new : Table) → 1 ≤ number → number ≤ length tables → old ≡ get_or tables (number - 1) old
    → ((k : ℕ) → read (slot_in new k) ≡ (if key == k then change (read (slot_in old k)) else read (slot_in old k)))
    → (t k : ℕ) → read (slot_at (slice_set tables (number - 1) new) t k) ≡ (if (number == t) && (key == k) then change (read (slot_at tables t k)) else read (slot_at tables t k))
changed_at {X} read change tables number key old new first last is each t k =
    changed read (λ (k : ℕ) (x : X). if key == k then change x else x) tables number old new first last is each t k ∙ both (number == t) (key == k) _ _

-- a table with room is declared
pub declared_by_room : (tables : List Table) (number key : ℕ) → 0 < room_of (slot_at tables number key) → (1 ≤ number) × (number ≤ length tables)
declared_by_room tables number key room = grind (arith, common_steps, slice_get_past tables (number - 1))
