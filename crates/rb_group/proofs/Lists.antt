-- Lists of nodes and of epochs.
use Rattle.std.proofs.Common.{◌≡◌, ◌⊎◌, inl, inr, ℕ, ◌+◌, ◌-◌, ◌<◌, ◌≤◌, zero, suc, Bool, true, false, cond, List, [], ◌∷◌, ◌++◌, length, map, set, get_or, refl, subst, sym, ap, ◌∙◌, arith, add-one}
use Rattle.std.specs.Prelude.{◌==◌, if◌then◌else◌, nat_lt, Option, Some, None, filter, replicate, unwrap_or}
use Rattle.std.specs.List.{slice_get, find, flat_map, AllByRecursion}
use Rattle.std.specs.Option.{option_or}
use Rattle.std.proofs.lemmas.List.Folds.{find-append}
use Rattle.std.proofs.Math.Dec.{eqb-suc-zero, eqb-zero-suc, eqb-suc-suc}
use Rattle.std.proofs.lemmas.Bool.{cases_eq, cases_lt, ne_eqb, eq-eqb}
use Rattle.std.proofs.lemmas.List.{map-append, append-nil, length-append}
use Rattle.std.proofs.lemmas.List.Elements.{filter-append}
use Rattle.std.proofs.lemmas.Grind.{flat_map-append}
use Rattle.rb_base.specs.declared.epoch.Epoch.{Epoch}
use Rattle.rb_journal_defs.specs.Body.{numbers_below}
use Rattle.std.proofs.lemmas.Bool.{lt-ltb, le-ltb}
use Rattle.std.proofs.lemmas.Option.{slice_get-get_or, unwrap_or-slice_get}
use Rattle.rb_message_defs.proofs.Messages.{all_mapped, all_below, all_joined}
use Rattle.rb_bucket.specs.Bucket.{Rising}
use Rattle.rb_group.specs.Kept.{is_after, acknowledged_after}
use Rattle.rb_group.specs.Nodes.{epoch_numbers, numbers_from}
use Rattle.rb_group.proofs.After.{after_both, filter_both}

-- an item written
pub slice_get_set : {X : Type 0} (xs : List X) (i : ℕ) (x : X) (j : ℕ) → i < length xs → slice_get (set xs i x) j ≡ cond (i == j) (Some x) (slice_get xs j)
slice_get_set [] i x j within = absurd (omega arith)
slice_get_set (y ∷ ys) zero x zero within = refl
slice_get_set (y ∷ ys) zero x (suc j) within = rw (eqb-zero-suc j) refl
slice_get_set (y ∷ ys) (suc i) x zero within = rw (eqb-suc-zero i) refl
slice_get_set (y ∷ ys) (suc i) x (suc j) within = rw (eqb-suc-suc i j) (slice_get_set ys i x j (omega arith))

-- the first that passes is the first of those that pass
pub find_first : {X : Type 0} (p : X → Bool) (xs : List X) → find p xs ≡ slice_get (filter p xs) 0
find_first p [] = refl
find_first {X} p (x ∷ xs) = go (p x) (find_first p xs)
  where
    go : (b : Bool) → find p xs ≡ slice_get (filter p xs) 0 → cond b (Some x) (find p xs) ≡ slice_get (cond b (x ∷ filter p xs) (filter p xs)) 0
    go true rest = refl
    go false rest = rest

-- one more number
pub numbers_more : (first n : ℕ) → numbers_from first (n + 1) ≡ numbers_from first n ++ (first + n) ∷ []
numbers_more first n = rw (add-one n) (map-append (λ step. first + step) (numbers_below n) (n ∷ []))

-- what is said of one more number
pub map_more : {X : Type 0} (f : ℕ → X) (first n : ℕ) → map f (numbers_from first (n + 1)) ≡ map f (numbers_from first n) ++ f (first + n) ∷ []
map_more f first n = ap (map f) (numbers_more first n) ∙ map-append f (numbers_from first n) ((first + n) ∷ [])

-- lists made for one more number
pub flat_more : {X : Type 0} (f : ℕ → List X) (first n : ℕ) → flat_map f (numbers_from first (n + 1)) ≡ flat_map f (numbers_from first n) ++ f (first + n)
flat_more f first n = ap (flat_map f) (numbers_more first n) ∙ flat_map-append f (numbers_from first n) ((first + n) ∷ []) ∙ ap (λ ys. flat_map f (numbers_from first n) ++ ys) (append-nil (f (first + n)))

-- one more number that may pass
pub filter_more : (p : ℕ → Bool) (first n : ℕ) → filter p (numbers_from first (n + 1)) ≡ filter p (numbers_from first n) ++ (if p (first + n) then (first + n) ∷ [] else [])
filter_more p first n = ap (filter p) (numbers_more first n) ∙ filter-append p (numbers_from first n) ((first + n) ∷ [])

-- lists made for one more number that may pass
pub flat_filter_more : {X : Type 0} (f : ℕ → List X) (p : ℕ → Bool) (first n : ℕ) →
    flat_map f (filter p (numbers_from first (n + 1))) ≡ flat_map f (filter p (numbers_from first n)) ++ (if p (first + n) then f (first + n) else [])
flat_filter_more {X} f p first n = ap (flat_map f) (filter_more p first n) ∙ flat_map-append f (filter p (numbers_from first n)) (if p (first + n) then (first + n) ∷ [] else [])
    ∙ ap (λ ys. flat_map f (filter p (numbers_from first n)) ++ ys) (go (p (first + n)))
  where
    go : (b : Bool) → flat_map f (if b then (first + n) ∷ [] else []) ≡ (if b then f (first + n) else [])
    go true = append-nil (f (first + n))
    go false = refl

-- how many there are
pub numbers_count : (first n : ℕ) → length (numbers_from first n) ≡ n
numbers_count first zero = refl
numbers_count first (suc n) = ap length (map-append (λ step. first + step) (numbers_below n) (n ∷ [])) ∙ length-append (numbers_from first n) ((first + n) ∷ []) ∙ ap (λ (k : ℕ). k + 1) (numbers_count first n) ∙ add-one n

-- the item at a place
pub there : {X : Type 0} (xs : List X) (k : ℕ) (d : X) → k < length xs → slice_get xs k ≡ Some (unwrap_or (slice_get xs k) d)
there xs k d within = slice_get-get_or xs k d within ∙ ap Some (sym (unwrap_or-slice_get xs k d))

-- the items after the one that is written are unchanged
pub todo_next : {X : Type 0} (first now : List X) (at : ℕ) (new : X) → at < length now → ((k : ℕ) → at ≤ k → slice_get now k ≡ slice_get first k) →
    (k : ℕ) → at + 1 ≤ k → slice_get (set now at new) k ≡ slice_get first k
todo_next first now at new within todo k above = slice_get_set now at new k within ∙ rw (ne_eqb at k (λ same. omega arith)) (todo k (omega arith))

pub some_is : {X : Type 0} (x y : X) → Some x ≡ Some y → x ≡ y
some_is x y same = ap (λ o. unwrap_or o x) same

-- one item more is done
pub done_next : {X : Type 0} (P : ℕ → X → Type 0) (now : List X) (at : ℕ) (new : X) → at < length now → P at new →
    ((k : ℕ) (x : X) → k < at → slice_get now k ≡ Some x → P k x) → (k : ℕ) (x : X) → k < at + 1 → slice_get (set now at new) k ≡ Some x → P k x
done_next {X} P now at new within here done k x below is = go (cases_eq at k) (sym (slice_get_set now at new k within) ∙ is)
  where
    go : (at ≡ k) ⊎ (at ≡ k → ⊥) → cond (at == k) (Some new) (slice_get now k) ≡ Some x → P k x
    go (inl same) found = subst (λ (i : ℕ). P i x) same (subst (P at) (some_is new x (sym (ap (λ (b : Bool). cond b (Some new) (slice_get now k)) (eq-eqb at k same)) ∙ found)) here)
    go (inr differs) found = done k x (omega arith) (sym (ap (λ (b : Bool). cond b (Some new) (slice_get now k)) (ne_eqb at k differs)) ∙ found)

-- numbers after one, of those after the acknowledged ones
pub following : (a : Option ℕ) (t : ℕ) (xs : List ℕ) → filter (nat_lt t) (filter (is_after a) xs) ≡ filter (is_after (Some (acknowledged_after a t))) xs
following a t xs = filter_both (nat_lt t) (is_after a) (is_after (Some (acknowledged_after a t))) xs (after_both a t)

-- if the first of rising epochs is above one, all are
all_later : (top through x : ℕ) (xs : List ℕ) → Rising top (x ∷ xs) → through < x → x ∷ xs ≡ filter (nat_lt through) (x ∷ xs)
all_later top through x [] rising later = rw (lt-ltb through x later) refl
all_later top through x (y ∷ ys) rising later = rw (lt-ltb through x later) (ap (λ (rest : List ℕ). x ∷ rest) (all_later top through y ys rising.2 (omega (arith, later, rising.1.0))))

-- the same of epochs, whose first is read
pub all_stay : (top through : ℕ) (first : Epoch) (epochs : List Epoch) → first ≡ get_or epochs 0 first → Rising top (epoch_numbers epochs) → through < first.0 →
    epoch_numbers epochs ≡ filter (nat_lt through) (epoch_numbers epochs)
all_stay top through first [] is rising later = refl
all_stay top through first (epoch ∷ epochs) is rising later = all_later top through epoch.0 (epoch_numbers epochs) rising (subst (λ (e : Epoch). through < e.0) is later)

-- each item of equal ones
pub same_item : {X : Type 0} (n : ℕ) (x : X) (k : ℕ) (s : X) → slice_get (replicate n x) k ≡ Some s → x ≡ s
same_item {X} zero x k s at = absurd (let h : ◌≡◌ {A = Option X} None (Some s) = at in cc)
same_item (suc n) x zero s at = some_is x s at
same_item (suc n) x (suc k) s at = same_item n x k s at

pub replicate_count : {X : Type 0} (n : ℕ) (x : X) → length (replicate n x) ≡ n
replicate_count zero x = refl
replicate_count (suc n) x = ap suc (replicate_count n x)

-- what each number has
pub numbers_all : (P : ℕ → Type 0) (first n : ℕ) → ((k : ℕ) → k < n → P (first + k)) → AllByRecursion P (numbers_from first n)
numbers_all P first n each = all_mapped P (λ step. first + step) (numbers_below n) (all_below {P = λ k. P (first + k)} n each)

-- the first of some numbers, and those after it
numbers_cons : (start n : ℕ) → numbers_from start (suc n) ≡ start ∷ numbers_from (start + 1) n
numbers_cons start zero = let e : start + 0 ≡ start = omega arith in ap (λ (k : ℕ). k ∷ []) e
numbers_cons start (suc n) =
    let e : start + suc n ≡ start + 1 + n = omega arith in
    map-append (λ step. start + step) (numbers_below (suc n)) (suc n ∷ [])
    ∙ ap (λ (xs : List ℕ). xs ++ (start + suc n) ∷ []) (numbers_cons start n)
    ∙ ap (λ (k : ℕ). start ∷ (numbers_from (start + 1) n ++ k ∷ [])) e
    ∙ ap (λ (xs : List ℕ). start ∷ xs) (sym (map-append (λ step. start + 1 + step) (numbers_below n) (n ∷ [])))

-- the numbers above one
pub numbers_above : (first number n : ℕ) → first ≤ number → filter (nat_lt number) (numbers_from first n) ≡ numbers_from (number + 1) (first + n - (number + 1))
numbers_above first number zero low = let e : first + 0 - (number + 1) ≡ 0 = omega arith in rw e refl
numbers_above first number (suc n) low =
    subst (λ (m : ℕ). filter (nat_lt number) (numbers_from first m) ≡ numbers_from (number + 1) (first + m - (number + 1))) (add-one n)
    (filter_more (nat_lt number) first n ∙ ap (λ (xs : List ℕ). xs ++ (if nat_lt number (first + n) then (first + n) ∷ [] else [])) (numbers_above first number n low) ∙ go (cases_lt number (first + n)))
  where
    go : (number < first + n) ⊎ (first + n ≤ number) → numbers_from (number + 1) (first + n - (number + 1)) ++ (if nat_lt number (first + n) then (first + n) ∷ [] else []) ≡ numbers_from (number + 1) (first + (n + 1) - (number + 1))
    go (inl above) =
        let a : first + (n + 1) - (number + 1) ≡ first + n - (number + 1) + 1 = omega arith in
        let b : number + 1 + (first + n - (number + 1)) ≡ first + n = omega arith in
        ap (λ (t : Bool). numbers_from (number + 1) (first + n - (number + 1)) ++ (if t then (first + n) ∷ [] else [])) (lt-ltb number (first + n) above)
        ∙ ap (λ (k : ℕ). numbers_from (number + 1) (first + n - (number + 1)) ++ k ∷ []) (sym b) ∙ sym (numbers_more (number + 1) (first + n - (number + 1))) ∙ ap (numbers_from (number + 1)) (sym a)
    go (inr under) =
        let a : first + (n + 1) - (number + 1) ≡ 0 = omega arith in
        let b : first + n - (number + 1) ≡ 0 = omega arith in
        ap (λ (t : Bool). numbers_from (number + 1) (first + n - (number + 1)) ++ (if t then (first + n) ∷ [] else [])) (le-ltb number (first + n) under)
        ∙ ap (λ (k : ℕ). numbers_from (number + 1) k ++ []) b ∙ ap (numbers_from (number + 1)) (sym a)

-- the numbers below one
below_some : (first number n : ℕ) → n ≤ number - first → filter (λ other. nat_lt other number) (numbers_from first n) ≡ numbers_from first n
below_some first number zero low = refl
below_some first number (suc n) low =
    subst (λ (m : ℕ). filter (λ other. nat_lt other number) (numbers_from first m) ≡ numbers_from first m) (add-one n)
    (filter_more (λ other. nat_lt other number) first n ∙ ap (λ (xs : List ℕ). xs ++ (if nat_lt (first + n) number then (first + n) ∷ [] else [])) (below_some first number n (omega arith))
    ∙ ap (λ (t : Bool). numbers_from first n ++ (if t then (first + n) ∷ [] else [])) (lt-ltb (first + n) number (omega arith)) ∙ sym (numbers_more first n))

pub numbers_under : (first number n d : ℕ) → first + d ≡ number → d ≤ n → filter (λ other. nat_lt other number) (numbers_from first n) ≡ numbers_from first d
numbers_under first number zero d at low = let e : d ≡ 0 = omega arith in rw e refl
numbers_under first number (suc n) d at low = go (cases_lt n d) (λ less. numbers_under first number n d at less)
  where
    go : (n < d) ⊎ (d ≤ n) → (d ≤ n → filter (λ other. nat_lt other number) (numbers_from first n) ≡ numbers_from first d) → filter (λ other. nat_lt other number) (numbers_from first (suc n)) ≡ numbers_from first d
    go (inl whole) rest = below_some first number (suc n) (omega arith) ∙ (let e : suc n ≡ d = omega arith in ap (numbers_from first) e)
    go (inr less) rest =
        subst (λ (m : ℕ). filter (λ other. nat_lt other number) (numbers_from first m) ≡ numbers_from first d) (add-one n)
        (filter_more (λ other. nat_lt other number) first n ∙ ap (λ (xs : List ℕ). xs ++ (if nat_lt (first + n) number then (first + n) ∷ [] else [])) (rest less)
        ∙ ap (λ (t : Bool). numbers_from first d ++ (if t then (first + n) ∷ [] else [])) (le-ltb (first + n) number (omega arith)) ∙ append-nil (numbers_from first d))

-- what is found in some numbers, if the first passes or not
pub numbers_found : (p : ℕ → Bool) (start n : ℕ) → 0 < n → p start ≡ true → find p (numbers_from start n) ≡ Some start
numbers_found p start zero some passes = absurd (omega arith)
numbers_found p start (suc n) some passes = ap (find p) (numbers_cons start n) ∙ rw passes refl

pub numbers_step : (p : ℕ → Bool) (start n : ℕ) → 0 < n → p start ≡ false → find p (numbers_from start n) ≡ find p (numbers_from (start + 1) (n - 1))
numbers_step p start zero some fails = absurd (omega arith)
numbers_step p start (suc n) some fails = ap (find p) (numbers_cons start n) ∙ (let e : suc n - 1 ≡ n = omega arith in rw (fails, e) refl)

-- what is found passes
pub find_passes : {X : Type 0} (p : X → Bool) (xs : List X) (s : X) → find p xs ≡ Some s → p s ≡ true
find_passes {X} p [] s found = absurd (let h : ◌≡◌ {A = Option X} None (Some s) = found in cc)
find_passes {X} p (x ∷ xs) s found = go (p x) refl found (find_passes p xs s)
  where
    go : (t : Bool) → p x ≡ t → cond t (Some x) (find p xs) ≡ Some s → (find p xs ≡ Some s → p s ≡ true) → p s ≡ true
    go true here is rest = subst (λ (y : X). p y ≡ true) (some_is x s is) here
    go false here is rest = rest is

-- and has what all have
pub found_in : {X : Type 0} (P : X → Type 0) (p : X → Bool) (xs : List X) (s : X) → AllByRecursion P xs → find p xs ≡ Some s → P s
found_in {X} P p [] s all found = absurd (let h : ◌≡◌ {A = Option X} None (Some s) = found in cc)
found_in {X} P p (x ∷ xs) s all found = go (p x) found (found_in P p xs s all.1)
  where
    go : (t : Bool) → cond t (Some x) (find p xs) ≡ Some s → (find p xs ≡ Some s → P s) → P s
    go true is rest = subst P (some_is x s is) all.0
    go false is rest = rest is

-- all that pass have what all have
pub all_filter : {X : Type 0} (P : X → Type 0) (q : X → Bool) (xs : List X) → AllByRecursion P xs → AllByRecursion P (filter q xs)
all_filter P q [] all = tt
all_filter {X} P q (x ∷ xs) all = go (q x) (all_filter P q xs all.1)
  where
    go : (t : Bool) → AllByRecursion P (filter q xs) → AllByRecursion P (cond t (x ∷ filter q xs) (filter q xs))
    go true rest = (all.0, rest)
    go false rest = rest

-- of numbers that rise, those that pass rise
pub rising_some : (q : ℕ → Bool) (top : ℕ) (xs : List ℕ) → Rising top xs → Rising top (filter q xs)
rising_some q top [] rising = tt
rising_some q top (x ∷ xs) rising = go (q x) (rising_some q top xs rising.2)
  where
    go : (t : Bool) → Rising top (filter q xs) → Rising top (cond t (x ∷ filter q xs) (filter q xs))
    go true rest = (rising.0, all_filter (λ y. x < y) q xs rising.1, rest)
    go false rest = rest

-- the same of closed epochs
closes_above : (n : ℕ) (q : ℕ × ℕ → Bool) (cs : List (ℕ × ℕ)) → AllByRecursion (λ y. n < y) (map (λ close. close.0) cs) → AllByRecursion (λ y. n < y) (map (λ close. close.0) (filter q cs))
closes_above n q [] all = tt
closes_above n q (c ∷ cs) all = go (q c) (closes_above n q cs all.1)
  where
    go : (t : Bool) → AllByRecursion (λ y. n < y) (map (λ close. close.0) (filter q cs)) → AllByRecursion (λ y. n < y) (map (λ close. close.0) (cond t (c ∷ filter q cs) (filter q cs)))
    go true rest = (all.0, rest)
    go false rest = rest

pub rising_closes : (q : ℕ × ℕ → Bool) (top : ℕ) (cs : List (ℕ × ℕ)) → Rising top (map (λ close. close.0) cs) → Rising top (map (λ close. close.0) (filter q cs))
rising_closes q top [] rising = tt
rising_closes q top (c ∷ cs) rising = go (q c) (rising_closes q top cs rising.2)
  where
    go : (t : Bool) → Rising top (map (λ close. close.0) (filter q cs)) → Rising top (map (λ close. close.0) (cond t (c ∷ filter q cs) (filter q cs)))
    go true rest = (rising.0, closes_above c.0 q cs rising.1, rest)
    go false rest = rest

-- what is found among numbers that pass
pub find_same_in : (f g q : ℕ → Bool) (first n : ℕ) → ((k : ℕ) → k < n → f (first + k) ≡ g (first + k)) → find f (filter q (numbers_from first n)) ≡ find g (filter q (numbers_from first n))
find_same_in f g q first zero same = refl
find_same_in f g q first (suc n) same =
    subst (λ (m : ℕ). find f (filter q (numbers_from first m)) ≡ find g (filter q (numbers_from first m))) (add-one n)
    (ap (find f) (filter_more q first n) ∙ find-append f (filter q (numbers_from first n)) (if q (first + n) then (first + n) ∷ [] else [])
    ∙ ap (λ (o : Option ℕ). option_or o (find f (if q (first + n) then (first + n) ∷ [] else []))) (find_same_in f g q first n (λ k below. same k (omega arith)))
    ∙ ap (λ (o : Option ℕ). option_or (find g (filter q (numbers_from first n))) o) (go (q (first + n)))
    ∙ sym (ap (find g) (filter_more q first n) ∙ find-append g (filter q (numbers_from first n)) (if q (first + n) then (first + n) ∷ [] else [])))
  where
    go : (t : Bool) → find f (if t then (first + n) ∷ [] else []) ≡ find g (if t then (first + n) ∷ [] else [])
    go true = ap (λ (b : Bool). cond b (Some (first + n)) None) (same n (omega arith))
    go false = refl

-- numbers that rise, and one more above all
pub rising_more : (top next : ℕ) (xs : List ℕ) → Rising top xs → top < next → Rising next (xs ++ top ∷ [])
rising_more top next [] rising above = (above, tt, tt)
rising_more top next (x ∷ xs) rising above = (omega (arith, rising.0), all_joined (λ (y : ℕ). x < y) xs (top ∷ []) rising.1 (rising.0, tt), rising_more top next xs rising.2 above)
