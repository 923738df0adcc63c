-- Ids in ascending order, and one more id inserted at its place.
use Rattle.std.proofs.Common.{◌≡◌, ℕ, ◌<◌, ◌≤◌, Bool, true, false, cond, List, [], ◌∷◌, ◌++◌, filter, refl, sym, ap, subst, ◌∙◌, arith, inl, inr, eqb-true, ne_eqb}
use Rattle.std.specs.Prelude.{◌⊎◌, ◌==◌, ◌||◌, nat_lt, if◌then◌else◌}
use Rattle.std.specs.List.{list_any, AllByRecursion}
use Rattle.std.proofs.lemmas.Bool.{lt-ltb, le-ltb, cases_lt}
use Rattle.std.proofs.lemmas.Bool.Decides.{nat_tests}

-- ids in ascending order
abbrev pub Ascend : List ℕ → Type 0
Ascend [] = Unit {0}
Ascend (id ∷ ids) = AllByRecursion (λ other. id < other) ids × Ascend ids

-- an id is one of these
abbrev pub has : ℕ → List ℕ → Bool
has id ids = list_any (λ other. other == id) ids

pub same_id : (id : ℕ) → (id == id) ≡ true
same_id id = grind (arith, nat_tests)

has_first : (x : ℕ) (xs : List ℕ) → has x (x ∷ xs) ≡ true
has_first x xs = ap (λ (b : Bool). b || has x xs) (same_id x)

-- an id is not among greater ones
not_above : (n : ℕ) (ids : List ℕ) → AllByRecursion (λ other. n < other) ids → has n ids ≡ false
not_above n [] all = refl
not_above n (x ∷ xs) all =
    let less : n < x = all.0 in
    let no : (x == n) ≡ false = ne_eqb x n (λ same. absurd (omega arith)) in
    ap (λ (b : Bool). b || has n xs) no ∙ not_above n xs all.1

above_all : (low high : ℕ) (ids : List ℕ) → low < high →
    AllByRecursion (λ other. high < other) ids → AllByRecursion (λ other. low < other) ids
above_all low high [] less all = tt
above_all low high (x ∷ xs) less all =
    (let first : high < x = all.0 in omega arith, above_all low high xs less all.1)

pub order_of : (x y : ℕ) → (x < y) ⊎ ((y < x) ⊎ (x ≡ y))
order_of x y = first (cases_lt x y)
  where
    second : y ≤ x → (y < x) ⊎ (x ≤ y) → (x < y) ⊎ ((y < x) ⊎ (x ≡ y))
    second below (inl more) = inr (inl more)
    second below (inr above) = inr (inr (omega arith))

    first : (x < y) ⊎ (y ≤ x) → (x < y) ⊎ ((y < x) ⊎ (x ≡ y))
    first (inl less) = inl less
    first (inr below) = second below (cases_lt y x)

-- two ascending lists with the same ids are equal
pub same_ids : (xs ys : List ℕ) → Ascend xs → Ascend ys →
    ((n : ℕ) → has n xs ≡ has n ys) → xs ≡ ys
same_ids [] [] up over same = refl
same_ids [] (y ∷ ys) up over same =
    absurd (let no : false ≡ true = same y ∙ has_first y ys in cc)
same_ids (x ∷ xs) [] up over same =
    absurd (let no : true ≡ false = sym (has_first x xs) ∙ same x in cc)
same_ids (x ∷ xs) (y ∷ ys) up over same = go (order_of x y) (same_ids xs ys up.1 over.1)
  where
    other : (n : ℕ) (b : Bool) → (x == n) ≡ b → x ≡ y → has n xs ≡ has n ys
    other n true q is =
        let xn : x ≡ n = eqb-true x n q in
        let left : has n xs ≡ false =
        subst (λ (m : ℕ). has m xs ≡ false) xn (not_above x xs up.0) in
        let right : has n ys ≡ false =
        subst (λ (m : ℕ). has m ys ≡ false) (sym is ∙ xn) (not_above y ys over.0) in
        left ∙ sym right
    other n false q is =
        let first : ((x == n) || has n xs) ≡ ((y == n) || has n ys) = same n in
        let left : ((x == n) || has n xs) ≡ has n xs = ap (λ (b : Bool). b || has n xs) q in
        let right : ((y == n) || has n ys) ≡ has n ys =
        ap (λ (b : Bool). b || has n ys) (subst (λ (m : ℕ). (m == n) ≡ false) is q) in
        sym left ∙ first ∙ right

    go : (x < y) ⊎ ((y < x) ⊎ (x ≡ y)) → (((n : ℕ) → has n xs ≡ has n ys) → xs ≡ ys) →
        x ∷ xs ≡ y ∷ ys
    go (inl less) rest =
        let none : has x (y ∷ ys) ≡ false =
        not_above x (y ∷ ys) (less, above_all x y ys less over.0) in
        absurd (let no : true ≡ false = sym (has_first x xs) ∙ same x ∙ none in cc)
    go (inr (inl more)) rest =
        let none : has y (x ∷ xs) ≡ false =
        not_above y (x ∷ xs) (more, above_all y x xs more up.0) in
        absurd (let no : false ≡ true = sym none ∙ same y ∙ has_first y ys in cc)
    go (inr (inr is)) rest =
        ap (λ (z : ℕ). z ∷ xs) is
        ∙ ap (λ (zs : List ℕ). y ∷ zs) (rest (λ n. other n (x == n) refl is))

-- the ids that pass a test
filter_above : (test : ℕ → Bool) (low : ℕ) (ids : List ℕ) →
    AllByRecursion (λ other. low < other) ids →
    AllByRecursion (λ other. low < other) (filter test ids)
filter_above test low [] all = tt
filter_above test low (x ∷ xs) all = go (test x) (filter_above test low xs all.1)
  where
    go : (b : Bool) → AllByRecursion (λ other. low < other) (filter test xs) →
        AllByRecursion (λ other. low < other) (cond b (x ∷ filter test xs) (filter test xs))
    go true rest = (all.0, rest)
    go false rest = rest

pub filter_ascends : (test : ℕ → Bool) (ids : List ℕ) → Ascend ids → Ascend (filter test ids)
filter_ascends test [] up = tt
filter_ascends test (x ∷ xs) up = go (test x) (filter_ascends test xs up.1)
  where
    go : (b : Bool) → Ascend (filter test xs) →
        Ascend (cond b (x ∷ filter test xs) (filter test xs))
    go true rest = (filter_above test x xs up.0, rest)
    go false rest = rest

-- one more id at the end, above all others
pub all_end : (P : ℕ → Type 0) (ids : List ℕ) (id : ℕ) →
    AllByRecursion P ids → P id → AllByRecursion P (ids ++ id ∷ [])
all_end P [] id all last = (last, tt)
all_end P (x ∷ xs) id all last = (all.0, all_end P xs id all.1 last)

pub ascends_end : (ids : List ℕ) (id : ℕ) →
    Ascend ids → AllByRecursion (λ other. other < id) ids → Ascend (ids ++ id ∷ [])
ascends_end [] id up all = (tt, tt)
ascends_end (x ∷ xs) id up all =
    (all_end (λ other. x < other) xs id up.0 all.0, ascends_end xs id up.1 all.1)

-- an id inserted into ascending ids, unless it is already there
abbrev pub among : ℕ → List ℕ → List ℕ
among n [] = n ∷ []
among n (x ∷ xs) = if nat_lt n x then n ∷ x ∷ xs else (if n == x then x ∷ xs else x ∷ among n xs)

below_more : (low id : ℕ) (ids : List ℕ) → low < id →
    AllByRecursion (λ other. low < other) ids → AllByRecursion (λ other. low < other) (among id ids)
below_more low id [] less all = (less, tt)
below_more low id (x ∷ xs) less all = go (nat_lt id x) (id == x) (below_more low id xs less all.1)
  where
    go : (b c : Bool) → AllByRecursion (λ other. low < other) (among id xs) →
        AllByRecursion (λ other. low < other)
        (if b then id ∷ x ∷ xs else (if c then x ∷ xs else x ∷ among id xs))
    go true c rest = (less, all)
    go false true rest = all
    go false false rest = (all.0, rest)

pub among_ascends : (id : ℕ) (ids : List ℕ) → Ascend ids → Ascend (among id ids)
among_ascends id [] up = (tt, tt)
among_ascends id (x ∷ xs) up = elim (cases_lt id x) [
  | inl below ↦ rw (lt-ltb id x below) ((below, above_all id x xs below up.0), up)
  | inr above ↦ rw (le-ltb id x above) (go above (among_ascends id xs up.1) (id == x) refl)
]
  where
    go : x ≤ id → Ascend (among id xs) → (c : Bool) → (id == x) ≡ c →
        Ascend (if c then x ∷ xs else x ∷ among id xs)
    go above rest true is = up
    go above rest false is = (below_more x id xs (grind (arith, nat_tests)) up.0, rest)

-- an id is in the list with one more id if it is that id or was in the list
pub has_among : (n id : ℕ) (ids : List ℕ) → has n (among id ids) ≡ ((id == n) || has n ids)
has_among n id [] = refl
has_among n id (x ∷ xs) = go (nat_lt id x) (id == x) refl (has_among n id xs)
  where
    twice : (a b : Bool) → (a || b) ≡ (a || (a || b))
    twice true b = refl
    twice false b = refl

    or_swap : (a b c : Bool) → (a || (b || c)) ≡ (b || (a || c))
    or_swap true true c = refl
    or_swap true false c = refl
    or_swap false b c = refl

    go : (b c : Bool) → (id == x) ≡ c → has n (among id xs) ≡ ((id == n) || has n xs) →
        has n (if b then id ∷ x ∷ xs else (if c then x ∷ xs else x ∷ among id xs))
        ≡ ((id == n) || ((x == n) || has n xs))
    go true c q rest = refl
    go false true q rest =
        subst (λ (y : ℕ). ((x == n) || has n xs) ≡ ((y == n) || ((x == n) || has n xs)))
        (sym (eqb-true id x q)) (twice (x == n) (has n xs))
    go false false q rest =
        ap (λ (b : Bool). (x == n) || b) rest ∙ or_swap (x == n) (id == n) (has n xs)
