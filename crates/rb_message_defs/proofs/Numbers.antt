-- The numbers of nodes and buckets, and lists whose items are mapped with their places.
use Rattle.std.proofs.Common.{◌≡◌, ℕ, zero, suc, ◌+◌, ◌<◌, Bool, true, false, List, [], ◌∷◌, ◌++◌, length, map, refl, sym, ap, subst, ◌∙◌, arith, length-append}
use Rattle.std.specs.Prelude.{◌==◌, if◌then◌else◌, Some}
use Rattle.std.specs.List.{AllByRecursion, enumerate_from, find, slice_get}
use Rattle.std.specs.Option.{option_map}
use Rattle.std.proofs.lemmas.Bool.{eqb-true, eqb-false}
use Rattle.rb_journal_defs.specs.Body.{numbers_below}
use Rattle.rb_message_defs.proofs.Messages.{get_end, get_left}

-- there are `n` numbers below `n`
pub length_numbers : (n : ℕ) → length (numbers_below n) ≡ n
length_numbers zero = refl
length_numbers (suc n) = let more = length-append (numbers_below n) (n ∷ []) in let same = length_numbers n in omega arith

-- each number below `n` is at its place
pub number_at : (n k : ℕ) → k < n → slice_get (numbers_below n) k ≡ Some k
number_at zero k within = absurd (omega arith)
number_at (suc n) k within = go (k == n) refl (λ below. number_at n k below)
  where
    go : (b : Bool) → (k == n) ≡ b → (k < n → slice_get (numbers_below n) k ≡ Some k) → slice_get (numbers_below n ++ n ∷ []) k ≡ Some k
    go true is below =
        let same : k ≡ n = eqb-true k n is in
        let count : length (numbers_below n) ≡ k = length_numbers n ∙ sym same in
        ap (slice_get (numbers_below n ++ n ∷ [])) (sym count) ∙ get_end (numbers_below n) n [] ∙ ap (λ (m : ℕ). Some m) (sym same)
    go false is below = get_left (numbers_below n) (n ∷ []) k k (below (let differs = eqb-false k n is in omega arith))

-- an item of a list whose items are mapped with their places
pub numbered_get : {X : Type 0} (f : ℕ × X → X) (n k : ℕ) (xs : List X) → slice_get (map f (enumerate_from n xs)) k ≡ option_map (λ x. f (n + k, x)) (slice_get xs k)
numbered_get f n k [] = refl
numbered_get f n zero (x ∷ xs) = ap (λ (m : ℕ). Some (f (m, x))) (let same : n ≡ n + zero = omega arith in same)
numbered_get f n (suc k) (x ∷ xs) = numbered_get f (n + 1) k xs ∙ ap (λ (m : ℕ). option_map (λ x. f (m, x)) (slice_get xs k)) (let same : n + 1 + k ≡ n + suc k = omega arith in same)

-- an item that a search finds has the facts of all items and passes the test
pub found_in : (P : ℕ → Type 0) (test : ℕ → Bool) (x : ℕ) (xs : List ℕ) → AllByRecursion P xs → find test xs ≡ Some x → P x × (test x ≡ true)
found_in P test x [] all is = absurd cc
found_in P test x (y ∷ xs) all is = go (test y) refl is (λ later. found_in P test x xs all.1 later)
  where
    go : (b : Bool) → test y ≡ b → (if b then Some y else find test xs) ≡ Some x → (find test xs ≡ Some x → P x × (test x ≡ true)) → P x × (test x ≡ true)
    go true passes is rest = let same : y ≡ x = cc in (subst P same all.0, subst (λ (z : ℕ). test z ≡ true) same passes)
    go false passes is rest = rest is
