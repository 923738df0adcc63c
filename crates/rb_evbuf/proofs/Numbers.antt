-- Lists over the numbers below a number.
use Rattle.std.proofs.Common.{◌≡◌, ◌⊎◌, inl, inr, ℕ, ◌<◌, ◌≤◌, zero, suc, Bool, true, false, cond, List, [], ◌∷◌, ◌++◌, length, map, refl, subst, sym, ap, ◌∙◌, arith, take, get_or}
use Rattle.std.specs.Prelude.{◌&&◌, nat_lt, Option, Some, None, is_none, filter_map}
use Rattle.std.specs.List.{slice_get, find, list_all, cons_option}
use Rattle.std.specs.Option.{option_or}
use Rattle.std.proofs.lemmas.Bool.{lt-ltb, le-ltb, cases_order}
use Rattle.std.proofs.lemmas.List.Folds.{find-append}
use Rattle.std.proofs.lemmas.List.{map-append}
use Rattle.std.proofs.lemmas.List.Elements.{filter_map-append}
use Rattle.std.proofs.lemmas.Option.{slice_get-get_or}
use Rattle.std.proofs.Math.Seq.{take-suc}
use Rattle.rb_journal_defs.specs.Body.{numbers_below}
use Rattle.rb_journal_defs.specs.Transaction.{first_of}

-- the lowest number below a count at which nothing is held; it is n if n is below the count
pub find_lowest : {X : Type 0} (held : ℕ → Option X) (n : ℕ) → ((p : ℕ) → p < n → is_none (held p) ≡ false) → is_none (held n) ≡ true →
    (count : ℕ) → find (λ p. is_none (held p)) (numbers_below count) ≡ cond (nat_lt n count) (Some n) None
find_lowest held n there gone zero = sym (rw (le-ltb n 0 (omega arith)) refl)
find_lowest {X} held n there gone (suc c) =
    find-append (λ p. is_none (held p)) (numbers_below c) (c ∷ [])
    ∙ ap (λ (o : Option ℕ). option_or o (cond (is_none (held c)) (Some c) None)) (find_lowest held n there gone c)
    ∙ go (cases_order n c)
  where
    go : (n ≡ c) ⊎ ((n < c) ⊎ (c < n)) → option_or (cond (nat_lt n c) (Some n) None) (cond (is_none (held c)) (Some c) None) ≡ cond (nat_lt n (suc c)) (Some n) None
    go (inl same) = rw (le-ltb n c (omega arith), lt-ltb n (suc c) (omega arith), sym same, gone) refl
    go (inr (inl below)) = rw (lt-ltb n c below, lt-ltb n (suc c) (omega arith)) refl
    go (inr (inr above)) = rw (le-ltb n c (omega arith), le-ltb n (suc c) (omega arith), there c above) refl

-- what is held at each place of a list
pub filter_map_prefix : {X : Type 0} (xs : List X) (later : ℕ → Option X) (count : ℕ) → count ≤ length xs →
    filter_map (λ p. option_or (slice_get xs p) (later p)) (numbers_below count) ≡ take count xs
filter_map_prefix xs later zero within = refl
filter_map_prefix [] later (suc c) within = absurd (omega arith)
filter_map_prefix (x ∷ xs) later (suc c) within =
    filter_map-append (λ p. option_or (slice_get (x ∷ xs) p) (later p)) (numbers_below c) (c ∷ [])
    ∙ ap (λ ys. ys ++ cons_option (option_or (slice_get (x ∷ xs) c) (later c)) []) (filter_map_prefix (x ∷ xs) later c (omega arith))
    ∙ rw (slice_get-get_or (x ∷ xs) c x (omega arith)) (sym (take-suc (x ∷ xs) c x (omega arith)))

-- lists of functions that agree below a number
pub find_same : (f g : ℕ → Bool) (n : ℕ) → ((k : ℕ) → k < n → f k ≡ g k) → find f (numbers_below n) ≡ find g (numbers_below n)
find_same f g zero same = refl
find_same f g (suc n) same =
    find-append f (numbers_below n) (n ∷ [])
    ∙ ap (λ o. option_or o (cond (f n) (Some n) None)) (find_same f g n (λ k below. same k (omega arith)))
    ∙ ap (λ b. option_or (find g (numbers_below n)) (cond b (Some n) None)) (same n (omega arith))
    ∙ sym (find-append g (numbers_below n) (n ∷ []))

pub filter_map_same : {X : Type 0} (f g : ℕ → Option X) (n : ℕ) → ((k : ℕ) → k < n → f k ≡ g k) → filter_map f (numbers_below n) ≡ filter_map g (numbers_below n)
filter_map_same f g zero same = refl
filter_map_same f g (suc n) same =
    filter_map-append f (numbers_below n) (n ∷ [])
    ∙ ap (λ xs. xs ++ cons_option (f n) []) (filter_map_same f g n (λ k below. same k (omega arith)))
    ∙ ap (λ o. filter_map g (numbers_below n) ++ cons_option o []) (same n (omega arith))
    ∙ sym (filter_map-append g (numbers_below n) (n ∷ []))

pub map_same : {X : Type 0} (f g : ℕ → X) (n : ℕ) → ((k : ℕ) → k < n → f k ≡ g k) → map f (numbers_below n) ≡ map g (numbers_below n)
map_same f g zero same = refl
map_same f g (suc n) same =
    map-append f (numbers_below n) (n ∷ [])
    ∙ ap (λ xs. xs ++ f n ∷ []) (map_same f g n (λ k below. same k (omega arith)))
    ∙ ap (λ x. map g (numbers_below n) ++ x ∷ []) (same n (omega arith))
    ∙ sym (map-append g (numbers_below n) (n ∷ []))

-- nothing is given exactly if no number is first
pub all_none : {X Y : Type 0} (f : X → Option Y) (xs : List X) → list_all (λ x. is_none (f x)) xs ≡ is_none (first_of (filter_map f xs))
all_none f [] = refl
all_none {X} {Y} f (x ∷ xs) = go (f x) (all_none f xs)
  where
    go : (o : Option Y) → list_all (λ y. is_none (f y)) xs ≡ is_none (first_of (filter_map f xs)) →
        (is_none o && list_all (λ y. is_none (f y)) xs) ≡ is_none (first_of (cons_option o (filter_map f xs)))
    go None rest = rest
    go (Some y) rest = refl

-- the first that is given, after one more number
pub first_more : {X : Type 0} (f : ℕ → Option X) (n : ℕ) → first_of (filter_map f (numbers_below (suc n))) ≡ option_or (first_of (filter_map f (numbers_below n))) (f n)
first_more {X} f n = ap first_of (filter_map-append f (numbers_below n) (n ∷ [])) ∙ go (filter_map f (numbers_below n)) (f n)
  where
    go : (xs : List X) (o : Option X) → first_of (xs ++ cons_option o []) ≡ option_or (first_of xs) o
    go [] None = refl
    go [] (Some x) = refl
    go (y ∷ ys) o = refl

-- the first that is given stays first
pub first_stays : {X : Type 0} (f : ℕ → Option X) (i : ℕ) (x : X) → first_of (filter_map f (numbers_below i)) ≡ None → f i ≡ Some x → (n : ℕ) → i < n → first_of (filter_map f (numbers_below n)) ≡ Some x
first_stays f i x none found zero within = absurd (omega arith)
first_stays {X} f i x none found (suc n) within = first_more f n ∙ go (cases_order i n) (λ below. first_stays f i x none found n below)
  where
    go : (i ≡ n) ⊎ ((i < n) ⊎ (n < i)) → (i < n → first_of (filter_map f (numbers_below n)) ≡ Some x) → option_or (first_of (filter_map f (numbers_below n))) (f n) ≡ Some x
    go (inl same) stays = subst (λ (k : ℕ). option_or (first_of (filter_map f (numbers_below k))) (f k) ≡ Some x) same (rw none found)
    go (inr (inl below)) stays = rw (stays below) refl
    go (inr (inr above)) stays = absurd (omega arith)

some_none : {X : Type 0} (x : X) → Some x ≡ None → ⊥
some_none x e = cc

none_parts : {X : Type 0} (a b : Option X) → option_or a b ≡ None → (a ≡ None) × (b ≡ None)
none_parts None b none = (refl, none)
none_parts (Some x) b none = let h : Some x ≡ None = none in absurd (some_none x h)

-- if no number is first, nothing is given
pub none_given : {X : Type 0} (f : ℕ → Option X) (n : ℕ) → first_of (filter_map f (numbers_below n)) ≡ None → (k : ℕ) → k < n → f k ≡ None
none_given f zero none k below = absurd (omega arith)
none_given {X} f (suc n) none k below = go (cases_order k n) (none_parts _ (f n) (sym (first_more f n) ∙ none)) (λ parts less. none_given f n parts k less)
  where
    go : (k ≡ n) ⊎ ((k < n) ⊎ (n < k)) → (first_of (filter_map f (numbers_below n)) ≡ None) × (f n ≡ None) → (first_of (filter_map f (numbers_below n)) ≡ None → k < n → f k ≡ None) → f k ≡ None
    go (inl same) parts rest = ap f same ∙ parts.1
    go (inr (inl less)) parts rest = rest parts.0 less
    go (inr (inr more)) parts rest = absurd (omega arith)

-- a list by its items at each place
pub list_by_places : {X : Type 0} (f : ℕ → X) (xs : List X) (n : ℕ) → n ≤ length xs → ((k : ℕ) (d : X) → k < n → get_or xs k d ≡ f k) → take n xs ≡ map f (numbers_below n)
list_by_places f xs zero within same = refl
list_by_places f xs (suc n) within same =
    take-suc xs n (f n) within
    ∙ ap (λ ys. ys ++ get_or xs n (f n) ∷ []) (list_by_places f xs n (omega arith) (λ k d below. same k d (omega arith)))
    ∙ ap (λ x. map f (numbers_below n) ++ x ∷ []) (same n (f n) (omega arith))
    ∙ sym (map-append f (numbers_below n) (n ∷ []))

-- the first number, if something is given for it
pub first_at_zero : {X : Type 0} (f : ℕ → Option X) (x : X) (n : ℕ) → 0 < n → f 0 ≡ Some x → first_of (filter_map f (numbers_below n)) ≡ Some x
first_at_zero f x n some found = first_stays f 0 x refl found n some
