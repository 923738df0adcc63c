-- The table that a search among ascending ids finds.
use Rattle.std.proofs.Common.{◌≡◌, ℕ, zero, suc, ◌<◌, ◌≤◌, List, [], ◌∷◌, length, get_or, refl, sym, ap, arith, inl, inr, Less, Greater}
use Rattle.std.specs.Prelude.{◌==◌, find, Some, None, Ok, Err, false, true}
use Rattle.std.specs.List.{AllByRecursion}
use Rattle.std.specs.List.Sorted.{IsBinarySearchResult, IsNonDecreasingBy, IsPartitionPoint}
use Rattle.std.specs.Ordering.{nat_cmp, ordering_index}
use Rattle.std.proofs.lemmas.Cmp.{ranked}
use Rattle.std.proofs.lemmas.List.Sorted.{IsNonDecreasingBy-from_default}
use Rattle.std.proofs.lemmas.Bool.{cases_lt}
use Rattle.std.proofs.lemmas.Bool.Decides.{nat_tests}
use Rattle.rb_base.specs.declared.schema.Mapped.{Mapped}
use Rattle.rb_text_defs.specs.LogText.{Ascend}

-- what holds of all holds at each place
at_place : (P : Mapped → Type 0) (tables : List Mapped) (i : ℕ) (d : Mapped) → AllByRecursion P tables → i < length tables → P (get_or tables i d)
at_place P [] i d all within = absurd (omega arith)
at_place P (table ∷ tables) zero d all within = all.0
at_place P (table ∷ tables) (suc i) d all within = at_place P tables i d all.1 (omega arith)

-- the ids of two places
below : (tables : List Mapped) (i j : ℕ) (d : Mapped) → Ascend tables → i < j → j < length tables → (get_or tables i d).id < (get_or tables j d).id
unfolding Ascend
below [] i j d up less within = absurd (omega arith)
below (table ∷ tables) zero zero d up less within = absurd (omega arith)
below (table ∷ tables) zero (suc j) d up less within = at_place (λ other. table.id < other.id) tables j d up.0 (omega arith)
below (table ∷ tables) (suc i) zero d up less within = absurd (omega arith)
below (table ∷ tables) (suc i) (suc j) d up less within = below tables i j d up.1 (omega arith) (omega arith)

-- the comparisons with an id rise along the tables, as a search asks
rise : (tables : List Mapped) (id : ℕ) (d : Mapped) → Ascend tables → IsNonDecreasingBy (λ table. ordering_index (nat_cmp table.id id)) tables
rise tables id d up = IsNonDecreasingBy-from_default (λ table. ordering_index (nat_cmp table.id id)) tables d (λ i j le within.
    let ids : (get_or tables i d).id ≤ (get_or tables j d).id = grind (arith, below tables i j d up, λ (same : i ≡ j). ap (λ (k : ℕ). (get_or tables k d).id) same) in
    grind (arith, nat_tests))

-- the table at a place is the first of its id
found : (tables : List Mapped) (id i : ℕ) (d : Mapped) → Ascend tables → i < length tables → (get_or tables i d).id ≡ id → find (λ table. table.id == id) tables ≡ Some (get_or tables i d)
unfolding Ascend
found [] id i d up within same = absurd (omega arith)
found (table ∷ tables) id zero d up within same = let yes : (table.id == id) ≡ true = grind (arith, nat_tests) in rw yes refl
found (table ∷ tables) id (suc i) d up within same =
    let less : table.id < (get_or tables i d).id = at_place (λ other. table.id < other.id) tables i d up.0 (omega arith) in
    let no : (table.id == id) ≡ false = grind (arith, nat_tests) in
    rw no (found tables id i d up.1 (omega arith) same)

-- no table has an id
absent : (tables : List Mapped) (id : ℕ) (d : Mapped) → ((i : ℕ) → i < length tables → (get_or tables i d).id ≡ id → ⊥) → find (λ table. table.id == id) tables ≡ None
absent [] id d none = refl
absent (table ∷ tables) id d none =
    let differs : table.id ≡ id → ⊥ = none 0 (omega arith) in
    let no : (table.id == id) ≡ false = grind (arith, nat_tests, differs) in
    rw no (absent tables id d (λ i within. none (suc i) (omega arith)))

-- a search by an id that found a place
pub searched_there : (tables : List Mapped) (id i : ℕ) (d : Mapped) → Ascend tables → i < length tables → IsBinarySearchResult {X = Mapped} (λ table. nat_cmp table.id id) tables (Ok i) → find (λ table. table.id == id) tables ≡ Some (get_or tables i d)
searched_there tables id i d up within equal = found tables id i d up within (ranked _ id _ (sym (equal d)))

-- a search by an id that found none
pub searched_none : (tables : List Mapped) (id i : ℕ) → Ascend tables → i ≤ length tables → IsBinarySearchResult {X = Mapped} (λ table. nat_cmp table.id id) tables (Err i) → find (λ table. table.id == id) tables ≡ None
searched_none [] id i up within parted = refl
searched_none (table ∷ tables) id i up within parted = go (table ∷ tables) (parted (rise (table ∷ tables) id table up)) within
  where
    go : (all : List Mapped) → IsPartitionPoint (λ t. nat_cmp t.id id ≡ Less) (λ t. nat_cmp t.id id ≡ Greater) all i → i ≤ length all → find (λ t. t.id == id) all ≡ None
    go all parts within = absent all id table (λ k inside same. elim (cases_lt k i) [
      | inl before ↦ let less : (get_or all k table).id < id = ranked _ id _ (sym (parts.0 k table (omega arith) before)) in omega arith
      | inr following ↦ let more : id < (get_or all k table).id = ranked _ id _ (sym (parts.1 k table following inside)) in omega arith
    ])
