-- Ascending lists of keys: one more at the end, or one taken out.
use Rattle.std.proofs.Common.{◌≡◌, ℕ, zero, suc, ◌<◌, Bool, true, false, cond, List, [], ◌∷◌, ◌++◌, filter, refl, sym, ap, subst, ◌∙◌, arith, le-ltb, ne_eqb, eqb-true}
use Rattle.std.specs.Prelude.{◌==◌, not, ◌&&◌, nat_lt}
use Rattle.std.specs.List.{AllByRecursion}
use Rattle.std.specs.Ordering.{nat_cmp, is_eq}
use Rattle.std.specs.declared.cmp.Ordering.TheVariants.{Less, Equal, Greater}
use Rattle.std.specs.BTreeMap.{is_at}
use Rattle.std.specs.BTreeSet.{insert_key}
use Rattle.std.specs.Set.{remove_key}
use Rattle.std.proofs.lemmas.Bool.{ltb-true}
use Rattle.rb_journal_defs.specs.Body.{numbers_below}
use Rattle.rb_message_defs.proofs.Messages.{all_below, all_joined, all_more}

is_equal : (b : Bool) → is_eq (cond b Equal Greater) ≡ b
is_equal true = refl
is_equal false = refl

-- the test of a query
pub at_key : (key other : ℕ) → is_at (nat_cmp key) other ≡ (key == other)
at_key key other = go (nat_lt key other) refl
  where
    go : (b : Bool) → nat_lt key other ≡ b → is_eq (cond b Less (cond (key == other) Equal Greater)) ≡ (key == other)
    go true below = let less : key < other = ltb-true key other below in sym (ne_eqb key other (λ same. absurd (omega arith)))
    go false above = is_equal (key == other)

-- a key above all others is put at their end
pub insert_last : (n : ℕ) (keys : List ℕ) → AllByRecursion (λ k. k < n) keys → insert_key nat_cmp keys n ≡ keys ++ n ∷ []
insert_last n [] below = refl
insert_last n (k ∷ keys) below =
    rw (le-ltb n k (let l : k < n = below.0 in omega arith), ne_eqb n k (let l : k < n = below.0 in omega arith)) (ap (λ (ks : List ℕ). k ∷ ks) (insert_last n keys below.1))

-- what is below a number is below the next one
pub below_next : (n : ℕ) (xs : List ℕ) → AllByRecursion (λ k. k < n) xs → AllByRecursion (λ k. k < suc n) xs
below_next n xs all = all_more (λ k. k < n) (λ k. k < suc n) xs (λ k below. omega arith) all

pub below_more : (n : ℕ) (xs : List ℕ) → AllByRecursion (λ k. k < n) xs → AllByRecursion (λ k. k < suc n) (xs ++ n ∷ [])
below_more n xs all = all_joined (λ k. k < suc n) xs (n ∷ []) (below_next n xs all) (omega arith, tt)

-- a key that the test does not keep is not among those that it keeps
pub none_removed : (place : ℕ) (test : ℕ → Bool) (xs : List ℕ) → test place ≡ false → remove_key (is_at (nat_cmp place)) (filter test xs) ≡ filter test xs
none_removed place test [] out = refl
none_removed place test (x ∷ xs) out = go (test x) refl (none_removed place test xs out)
  where
    go : (b : Bool) → test x ≡ b → remove_key (is_at (nat_cmp place)) (filter test xs) ≡ filter test xs → remove_key (is_at (nat_cmp place)) (cond b (x ∷ filter test xs) (filter test xs)) ≡ cond b (x ∷ filter test xs) (filter test xs)
    go true kept more =
        let other : is_at (nat_cmp place) x ≡ false = at_key place x ∙ ne_eqb place x (λ same. let both : true ≡ false = sym kept ∙ ap test (sym same) ∙ out in absurd cc) in
        rw other (ap (λ (ys : List ℕ). x ∷ ys) more)
    go false kept more = more

-- a key is taken out before or after a test
pub removed_kept : (place : ℕ) (test : ℕ → Bool) (xs : List ℕ) → filter test (remove_key (is_at (nat_cmp place)) xs) ≡ remove_key (is_at (nat_cmp place)) (filter test xs)
removed_kept place test [] = refl
removed_kept place test (x ∷ xs) = go (is_at (nat_cmp place) x) (test x) refl refl (removed_kept place test xs)
  where
    go : (same b : Bool) → is_at (nat_cmp place) x ≡ same → test x ≡ b → filter test (remove_key (is_at (nat_cmp place)) xs) ≡ remove_key (is_at (nat_cmp place)) (filter test xs) →
        filter test (cond same xs (x ∷ remove_key (is_at (nat_cmp place)) xs)) ≡ remove_key (is_at (nat_cmp place)) (cond b (x ∷ filter test xs) (filter test xs))
    go true true q kept more = rw q refl
    go true false q kept more =
        let px : place ≡ x = eqb-true place x (sym (at_key place x) ∙ q) in
        sym (none_removed place test xs (ap test px ∙ kept))
    go false true q kept more = rw (q, kept) (ap (λ (ys : List ℕ). x ∷ ys) more)
    go false false q kept more = rw kept more

pub removed_below : (n place : ℕ) (xs : List ℕ) → AllByRecursion (λ k. k < n) xs → AllByRecursion (λ k. k < n) (remove_key (is_at (nat_cmp place)) xs)
removed_below n place [] all = tt
removed_below n place (x ∷ xs) all = go (is_at (nat_cmp place) x) (removed_below n place xs all.1)
  where
    go : (b : Bool) → AllByRecursion (λ k. k < n) (remove_key (is_at (nat_cmp place)) xs) → AllByRecursion (λ k. k < n) (cond b xs (x ∷ remove_key (is_at (nat_cmp place)) xs))
    go true rest = all.1
    go false rest = (all.0, rest)

-- numbers that rise
pub Rising : List ℕ → Type 0
Rising [] = Unit {0}
Rising (x ∷ xs) = AllByRecursion (λ y. x < y) xs × Rising xs

rising_end : (n : ℕ) (xs : List ℕ) → Rising xs → AllByRecursion (λ k. k < n) xs → Rising (xs ++ n ∷ [])
unfolding Rising
rising_end n [] rising below = (tt, tt)
rising_end n (x ∷ xs) rising below = (all_joined (λ y. x < y) xs (n ∷ []) rising.0 (below.0, tt), rising_end n xs rising.1 below.1)

-- the numbers below one are below it, and rise
pub numbers_are_below : (n : ℕ) → AllByRecursion (λ k. k < n) (numbers_below n)
numbers_are_below n = all_below {P = λ k. k < n} n (λ k below. below)

pub numbers_rise : (n : ℕ) → Rising (numbers_below n)
unfolding Rising
numbers_rise zero = tt
numbers_rise (suc n) = rising_end n (numbers_below n) (numbers_rise n) (numbers_are_below n)

-- a key that is taken out of rising numbers is in none of them
pub without_key : (place : ℕ) (test : ℕ → Bool) (xs : List ℕ) → Rising xs → remove_key (is_at (nat_cmp place)) (filter test xs) ≡ filter (λ x. not (place == x) && test x) xs
unfolding Rising
without_key place test [] rising = refl
without_key place test (x ∷ xs) rising = go (test x) (place == x) refl refl (without_key place test xs rising.1)
  where
    all_other : (place : ℕ) (xs : List ℕ) → AllByRecursion (λ y. place < y) xs → filter test xs ≡ filter (λ x. not (place == x) && test x) xs
    all_other place [] all = refl
    all_other place (y ∷ ys) all = rw (ne_eqb place y (let l : place < y = all.0 in omega arith)) (one (test y) (all_other place ys all.1))
      where
        one : (b : Bool) → filter test ys ≡ filter (λ x. not (place == x) && test x) ys → cond b (y ∷ filter test ys) (filter test ys) ≡ cond b (y ∷ filter (λ x. not (place == x) && test x) ys) (filter (λ x. not (place == x) && test x) ys)
        one true q = ap (λ (zs : List ℕ). y ∷ zs) q
        one false q = q

    go : (b same : Bool) → test x ≡ b → (place == x) ≡ same → remove_key (is_at (nat_cmp place)) (filter test xs) ≡ filter (λ x. not (place == x) && test x) xs → remove_key (is_at (nat_cmp place)) (cond b (x ∷ filter test xs) (filter test xs)) ≡ cond (not same && b) (x ∷ filter (λ x. not (place == x) && test x) xs) (filter (λ x. not (place == x) && test x) xs)
    go true true t q more =
        let at : is_at (nat_cmp place) x ≡ true = at_key place x ∙ q in
        let px : place ≡ x = eqb-true place x q in
        rw at (all_other place xs (subst (λ (n : ℕ). AllByRecursion (λ y. n < y) xs) (sym px) rising.0))
    go true false t q more =
        let at : is_at (nat_cmp place) x ≡ false = at_key place x ∙ q in
        rw at (ap (λ (ys : List ℕ). x ∷ ys) more)
    go false true t q more = more
    go false false t q more = more
