-- Lists by the places of their items.
use Rattle.std.proofs.Common.{◌≡◌, ℕ, zero, suc, ◌+◌, ◌<◌, ◌≤◌, Bool, true, false, cond, List, [], ◌∷◌, ◌++◌, length, map, filter, set, get_or, refl, sym, ap, subst, ◌∙◌, arith, append_assoc, length-append}
use Rattle.std.specs.Prelude.{Some, None}
use Rattle.std.specs.List.{AllByRecursion, enumerate_from, insert, remove, slice_get}
use Rattle.std.specs.Option.{option_map}
use Rattle.std.proofs.lemmas.Grind.{common_steps}
use Rattle.std.proofs.lemmas.List.{get_or-set_other, length-map}
use Rattle.std.proofs.lemmas.List.FromFn.{length-enumerate_from}
use Rattle.std.proofs.lemmas.Option.{slice_get-map}
use Rattle.std.proofs.Math.Seq.{get_or-append_seam}

-- an item of a list that a function gives
pub get_map : {X : Type 0} (f : ℕ → X) (xs : List ℕ) (k x : ℕ) → slice_get xs k ≡ Some x → slice_get (map f xs) k ≡ Some (f x)
get_map f xs k x there = slice_get-map f xs k ∙ ap (option_map f) there

-- an item of the first of two lists
pub get_same : {X : Type 0} (xs ys : List X) (k : ℕ) → k < length xs → slice_get (xs ++ ys) k ≡ slice_get xs k
get_same [] ys k within = absurd (omega arith)
get_same (x ∷ xs) ys zero within = refl
get_same (x ∷ xs) ys (suc k) within = get_same xs ys k (omega arith)

-- an item has what all items have
pub of_all : {X : Type 0} (P : X → Type 0) (xs : List X) (k : ℕ) (x : X) → AllByRecursion P xs → slice_get xs k ≡ Some x → P x
of_all P [] k x all there = absurd (let g : None ≡ Some x = there in cc)
of_all P (y ∷ xs) zero x all there = subst P (let g : Some y ≡ Some x = there in cc) all.0
of_all P (y ∷ xs) (suc k) x all there = of_all P xs k x all.1 there

-- two facts of each item
pub both_of : (P Q : ℕ → Type 0) (xs : List ℕ) → AllByRecursion P xs → AllByRecursion Q xs → AllByRecursion (λ x. P x × Q x) xs
both_of P Q [] p q = tt
both_of P Q (x ∷ xs) p q = ((p.0, q.0), both_of P Q xs p.1 q.1)

-- numbers that pass a test are below what all of them are below
pub filtered_below : (n : ℕ) (test : ℕ → Bool) (xs : List ℕ) → AllByRecursion (λ k. k < n) xs → AllByRecursion (λ k. k < n) (filter test xs)
filtered_below n test [] all = tt
filtered_below n test (x ∷ xs) all = go (test x) (filtered_below n test xs all.1)
  where
    go : (b : Bool) → AllByRecursion (λ k. k < n) (filter test xs) → AllByRecursion (λ k. k < n) (cond b (x ∷ filter test xs) (filter test xs))
    go true rest = (all.0, rest)
    go false rest = rest

-- nothing passes a test that all items fail
pub filter_none : (test : ℕ → Bool) (xs : List ℕ) → AllByRecursion (λ x. test x ≡ false) xs → filter test xs ≡ []
filter_none test [] none = refl
filter_none test (x ∷ xs) none = rw none.0 (filter_none test xs none.1)

-- lists of the same items
pub same_items : {X : Type 0} (xs ys : List X) → length xs ≡ length ys → ((k : ℕ) → k < length xs → slice_get xs k ≡ slice_get ys k) → xs ≡ ys
same_items [] [] long same = refl
same_items [] (y ∷ ys) long same = absurd (omega (arith, long))
same_items (x ∷ xs) [] long same = absurd (omega (arith, long))
same_items {X} (x ∷ xs) (y ∷ ys) long same =
    let first : x ≡ y = (let g : Some x ≡ Some y = same 0 (omega arith) in cc) in
    ap (λ (z : X). z ∷ xs) first ∙ ap (λ (zs : List X). y ∷ zs) (same_items xs ys (omega (arith, long)) (λ k within. same (suc k) (omega arith)))

-- items mapped with their places are as many
pub numbered_count : {X : Type 0} (f : ℕ × X → X) (n : ℕ) (xs : List X) → length (map f (enumerate_from n xs)) ≡ length xs
numbered_count f n xs = length-map (enumerate_from n xs) f ∙ length-enumerate_from n xs

-- a list of which one item was taken out and another put in its place
pub replaced_length : {X : Type 0} (xs : List X) (k : ℕ) (new : X) → k < length xs → length (insert (remove xs k) k new) ≡ length xs
replaced_length xs k new within = grind (arith, common_steps)

-- the item that a loop is at, after those before it
pub whole_more : {X : Type 0} (all before rest after : List X) (x : X) → all ≡ before ++ rest → rest ≡ x ∷ after → all ≡ (before ++ x ∷ []) ++ after
whole_more {X} all before rest after x whole is = whole ∙ ap (λ (xs : List X). before ++ xs) is ∙ sym (append_assoc before (x ∷ []) after)

pub at_place : {X : Type 0} (all before rest after : List X) (x d : X) → all ≡ before ++ rest → rest ≡ x ∷ after → x ≡ get_or all (length before) d
at_place {X} all before rest after x d whole is = sym (ap (λ (xs : List X). get_or xs (length before) d) (whole ∙ ap (λ (xs : List X). before ++ xs) is) ∙ get_or-append_seam before x after d)

pub place_within : {X : Type 0} (all before rest after : List X) (x : X) → all ≡ before ++ rest → rest ≡ x ∷ after → length before < length all
place_within {X} all before rest after x whole is = let n = ap length (whole ∙ ap (λ (xs : List X). before ++ xs) is) in let s = length-append before (x ∷ after) in omega arith

-- the items that a loop has not come to are unchanged
pub todo_items : {X : Type 0} (first now : List X) (at : ℕ) (new : X) → ((k : ℕ) (d : X) → at ≤ k → get_or now k d ≡ get_or first k d) → (k : ℕ) (d : X) → at + 1 ≤ k → get_or (set now at new) k d ≡ get_or first k d
todo_items first now at new todo k d above = get_or-set_other now at k new d (λ same. omega arith) ∙ todo k d (omega arith)
