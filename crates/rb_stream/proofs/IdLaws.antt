-- An id among ascending ids.
use Rattle.std.proofs.Common.{◌≡◌, ◌⊎◌, inl, inr, ℕ, zero, suc, ◌<◌, ◌≤◌, true, false, List, [], ◌∷◌, ◌++◌, length, get_or, refl, sym, ap, subst, ◌∙◌, arith}
use Rattle.std.specs.Prelude.{◌==◌}
use Rattle.std.specs.List.{insert, AllByRecursion}
use Rattle.std.proofs.lemmas.Bool.{lt-ltb, le-ltb, cases_lt}
use Rattle.std.proofs.lemmas.Bool.Decides.{nat_tests}
use Rattle.rb_base.specs.declared.change.Change.{Change}
use Rattle.rb_read_defs.specs.Stream.{tables_named}
use Rattle.rb_read_defs.proofs.Ids.{Ascend, among}
use Rattle.rb_read_defs.proofs.TablesNamed.{tables_ascend, named_more}

-- a fact about each item holds for the item at a place
by_place : (P : ℕ → Type 0) (xs : List ℕ) (i : ℕ) → AllByRecursion P xs → i < length xs → P (get_or xs i 0)
by_place P [] i all lt = absurd (omega arith)
by_place P (x ∷ xs) zero all lt = all.0
by_place P (x ∷ xs) (suc i) all lt = by_place P xs i all.1 (omega arith)

-- ascending ids rise from place to place
rising : (xs : List ℕ) → Ascend xs → (i j : ℕ) → i < j → j < length xs → get_or xs i 0 < get_or xs j 0
rising [] up i j lt there = absurd (omega arith)
rising (x ∷ xs) up i zero lt there = absurd (omega arith)
rising (x ∷ xs) up zero (suc j) lt there = by_place (λ n. x < n) xs j up.0 (omega arith)
rising (x ∷ xs) up (suc i) (suc j) lt there = rising xs up.1 i j (omega arith) (omega arith)

pub not_falling : (changes : List Change) (xs : List ℕ) → xs ≡ tables_named changes → (i j : ℕ) → i ≤ j → j < length xs → get_or xs i 0 ≤ get_or xs j 0
not_falling changes xs is i j le there = go (cases_lt i j)
  where
    go : (i < j) ⊎ (j ≤ i) → get_or xs i 0 ≤ get_or xs j 0
    go (inl before) = let up = rising xs (subst Ascend (sym is) (tables_ascend changes)) i j before there in omega arith
    go (inr same) = let at : i ≡ j = omega arith in subst (λ (n : ℕ). get_or xs i 0 ≤ get_or xs n 0) at (omega arith)

-- an id that is already in the list
there_among : (id i : ℕ) (xs : List ℕ) → Ascend xs → i < length xs → get_or xs i 0 ≡ id → among id xs ≡ xs
there_among id i [] up lt is = absurd (omega arith)
there_among id zero (x ∷ xs) up lt is =
    let same : (id == x) ≡ true = grind (arith, nat_tests) in
    rw (le-ltb id x (omega arith), same) refl
there_among id (suc i) (x ∷ xs) up lt is =
    let above = by_place (λ n. x < n) xs i up.0 (omega arith) in
    let other : (id == x) ≡ false = grind (arith, nat_tests) in
    rw (le-ltb id x (omega arith), other) (ap (λ (ids : List ℕ). x ∷ ids) (there_among id i xs up.1 (omega arith) is))

pub among_there : (changes : List Change) (id i : ℕ) (xs : List ℕ) → xs ≡ tables_named changes → i < length xs → get_or xs i 0 ≡ id → among id xs ≡ xs
among_there changes id i xs is lt there = there_among id i xs (subst Ascend (sym is) (tables_ascend changes)) lt there

-- an id that is not in the list yet, inserted at its place
pub among_new : (id i : ℕ) (xs : List ℕ) → i ≤ length xs → ((k : ℕ) → k < i → get_or xs k 0 < id) → ((k : ℕ) → i ≤ k → k < length xs → id < get_or xs k 0) → among id xs ≡ insert xs i id
among_new id zero [] le below above = refl
among_new id (suc i) [] le below above = absurd (omega arith)
among_new id zero (x ∷ xs) le below above = rw (lt-ltb id x (above 0 (omega arith) (omega arith))) refl
among_new id (suc i) (x ∷ xs) le below above =
    let low = below 0 (omega arith) in
    let other : (id == x) ≡ false = grind (arith, nat_tests) in
    rw (le-ltb id x (omega arith), other)
    (ap (λ (ids : List ℕ). x ∷ ids) (among_new id i xs (omega arith) (λ k lt. below (suc k) (omega arith)) (λ k ge lt. above (suc k) (omega arith) (omega arith))))

-- the ids after the insertion are those that the changes and one more change name
pub noted : (id : ℕ) (before after : List ℕ) → after ≡ among id before →
    (changes : List Change) (change : Change) → before ≡ tables_named changes → change.table ≡ id →
    after ≡ tables_named (changes ++ change ∷ [])
noted id before after is changes change named same =
    is ∙ ap (among id) named ∙ ap (λ (one : ℕ). among one (tables_named changes)) (sym same)
    ∙ sym (named_more changes change)
