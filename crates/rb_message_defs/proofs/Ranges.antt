-- Some numbers from one on, such as those of a group's nodes and buckets.
use Rattle.std.proofs.Common.{◌≡◌, ◌≢◌, ◌⊎◌, ℕ, zero, suc, ◌+◌, ◌-◌, ◌<◌, ◌≤◌, Bool, true, false, List, [], ◌∷◌, ◌++◌, length, map, filter, refl, sym, ap, subst, ◌∙◌, inl, inr, arith, add-one, append_assoc, eq-eqb, ne_eqb}
use Rattle.std.specs.Prelude.{◌==◌, Some, replicate}
use Rattle.std.specs.List.{flat_map, list_any, slice_get}
use Rattle.std.proofs.lemmas.Grind.{flat_map-append}
use Rattle.std.proofs.lemmas.List.{append-nil, map-append, length-map}
use Rattle.std.proofs.lemmas.List.Elements.{All-from_recursion, filter-append}
use Rattle.std.proofs.lemmas.List.Folds.{list_any_at, list_any_none, map_fixed}
use Rattle.std.proofs.lemmas.Option.{get_or_from_slice_get}
use Rattle.rb_journal_defs.specs.Body.{numbers_below}
use Rattle.rb_message_defs.proofs.Messages.{all_below, all_mapped}
use Rattle.rb_message_defs.proofs.Numbers.{length_numbers, number_at}
use Rattle.rb_message_defs.proofs.Places.{filter_none, get_map}

-- `count` numbers from `first` on, ascending
abbrev range : (first count : ℕ) → List ℕ
range first count = map (λ step. first + step) (numbers_below count)

-- how many there are
pub numbers_long : {X : Type 0} (f : ℕ → X) (first n : ℕ) → length (map f (range first n)) ≡ n
numbers_long f first n = length-map (range first n) f ∙ length-map (numbers_below n) (λ step. first + step) ∙ length_numbers n

-- the item at a place
pub at_step : {X : Type 0} (f : ℕ → X) (first n k : ℕ) → k < n → slice_get (map f (range first n)) k ≡ Some (f (first + k))
at_step f first n k below = get_map f (range first n) k (first + k) (get_map (λ step. first + step) (numbers_below n) k k (number_at n k below))

-- the item at the place of a number
pub at_number : {X : Type 0} (f : ℕ → X) (first n number : ℕ) → first ≤ number → number < first + n → slice_get (map f (range first n)) (number - first) ≡ Some (f number)
at_number f first n number from below =
    let same : first + (number - first) ≡ number = omega arith in
    at_step f first n (number - first) (omega arith) ∙ ap (λ (x : ℕ). Some (f x)) same

-- a number is among them
pub among : (first n b : ℕ) → first ≤ b → b < first + n → list_any (λ other. other == b) (range first n) ≡ true
among first n b from below =
    let long : length (range first n) ≡ n = length-map (numbers_below n) (λ step. first + step) ∙ length_numbers n in
    let same : first + (b - first) ≡ b = omega arith in
    let at = get_map (λ step. first + step) (numbers_below n) (b - first) (b - first) (number_at n (b - first) (omega arith)) in
    list_any_at (λ other. other == b) (range first n) (b - first) 0 (omega arith)
    (ap (λ (x : ℕ). x == b) (get_or_from_slice_get (range first n) (b - first) (first + (b - first)) 0 at) ∙ eq-eqb (first + (b - first)) b same)

-- or it is not
pub none_among : (first n b : ℕ) → (b < first) ⊎ (first + n ≤ b) → list_any (λ other. other == b) (range first n) ≡ false
none_among first n b outside =
    list_any_none (λ other. other == b) (range first n)
    (All-from_recursion (λ x. (x == b) ≡ false) (range first n)
    (all_mapped (λ x. (x == b) ≡ false) (λ step. first + step) (numbers_below n)
    (all_below {P = λ k. (first + k == b) ≡ false} n (λ k below. ne_eqb (first + k) b (differs k below outside)))))
  where
    differs : (k : ℕ) → k < n → (b < first) ⊎ (first + n ≤ b) → first + k ≢ b
    differs k below (inl l) same = omega arith
    differs k below (inr l) same = omega arith

-- the numbers up to one, and those from there on
pub numbers_split : (first n : ℕ) → numbers_below (first + n) ≡ numbers_below first ++ range first n
numbers_split first zero = ap numbers_below (let same : first + zero ≡ first = omega arith in same) ∙ sym (append-nil (numbers_below first))
numbers_split first (suc n) =
    ap numbers_below (let same : first + suc n ≡ suc (first + n) = omega arith in same)
    ∙ ap (λ (xs : List ℕ). xs ++ (first + n) ∷ []) (numbers_split first n)
    ∙ append_assoc (numbers_below first) (range first n) ((first + n) ∷ [])
    ∙ ap (λ (xs : List ℕ). numbers_below first ++ xs) (sym (map-append (λ step. first + step) (numbers_below n) (n ∷ [])))

-- the numbers that pass are all of one group, if no other passes
pub filtered_within : (p : ℕ → Bool) (first n total : ℕ) → first + n ≤ total → ((k : ℕ) → k < first → p k ≡ false) → ((k : ℕ) → first + n ≤ k → k < total → p k ≡ false) →
    filter p (numbers_below total) ≡ filter p (range first n)
filtered_within p first n total fits lower upper =
    let rest = total - (first + n) in
    let none : filter p (range (first + n) rest) ≡ [] =
    filter_none p (range (first + n) rest) (all_mapped (λ x. p x ≡ false) (λ step. first + n + step) (numbers_below rest)
    (all_below {P = λ k. p (first + n + k) ≡ false} rest (λ k below. upper (first + n + k) (omega arith) (omega arith)))) in
    ap (λ (t : ℕ). filter p (numbers_below t)) (let same : total ≡ (first + n) + rest = omega arith in same)
    ∙ ap (filter p) (numbers_split (first + n) rest)
    ∙ filter-append p (numbers_below (first + n)) (range (first + n) rest)
    ∙ ap (λ (xs : List ℕ). filter p (numbers_below (first + n)) ++ xs) none
    ∙ append-nil (filter p (numbers_below (first + n)))
    ∙ ap (filter p) (numbers_split first n)
    ∙ filter-append p (numbers_below first) (range first n)
    ∙ ap (λ (xs : List ℕ). xs ++ filter p (range first n)) (filter_none p (numbers_below first) (all_below {P = λ k. p k ≡ false} first lower))

-- what is the same for all numbers
pub all_same : {X : Type 0} (f : ℕ → X) (x : X) (first n top : ℕ) → first + n ≤ top → ((k : ℕ) → k < top → f k ≡ x) → map f (range first n) ≡ replicate n x
all_same f x first zero top fits same = refl
all_same {X} f x first (suc n) top fits same =
    ap (map f) (map-append (λ step. first + step) (numbers_below n) (n ∷ []))
    ∙ map-append f (range first n) ((first + n) ∷ [])
    ∙ ap (λ (xs : List X). xs ++ f (first + n) ∷ []) (all_same f x first n top (omega arith) same)
    ∙ ap (λ (y : X). replicate n x ++ y ∷ []) (same (first + n) (omega arith))
    ∙ sym (one_longer n)
  where
    one_longer : (n : ℕ) → replicate (suc n) x ≡ replicate n x ++ x ∷ []
    one_longer zero = refl
    one_longer (suc n) = ap (λ (xs : List X). x ∷ xs) (one_longer n)

-- and what is each number itself
pub all_own : (f : ℕ → ℕ) (first n top : ℕ) → first + n ≤ top → ((k : ℕ) → k < top → f k ≡ k) → map f (range first n) ≡ range first n
all_own f first n top fits own =
    map_fixed f (range first n) (All-from_recursion (λ x. f x ≡ x) (range first n)
    (all_mapped (λ x. f x ≡ x) (λ step. first + step) (numbers_below n)
    (all_below {P = λ k. f (first + k) ≡ first + k} n (λ k below. own (first + k) (omega arith)))))

-- what is made number by number, with one more
pub told_more : {X : Type 0} (told : ℕ → List X) (n : ℕ) → flat_map told (numbers_below (n + 1)) ≡ flat_map told (numbers_below n) ++ told n
told_more {X} told n =
    subst (λ (m : ℕ). flat_map told (numbers_below m) ≡ flat_map told (numbers_below n) ++ told n) (sym (add-one n))
    (flat_map-append told (numbers_below n) (n ∷ []) ∙ ap (λ (xs : List X). flat_map told (numbers_below n) ++ xs) (append-nil (told n)))
