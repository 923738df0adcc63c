-- Epochs after the acknowledged ones.
use Rattle.std.proofs.Common.{◌≡◌, ◌⊎◌, inl, inr, ℕ, ◌<◌, ◌≤◌, Bool, true, false, List, [], ◌∷◌, refl, sym, ap, ◌∙◌, arith}
use Rattle.std.specs.Prelude.{◌&&◌, not, nat_lt, max, Option, Some, None, filter}
use Rattle.std.proofs.Math.Nat.{max-eq_left, max-eq_right}
use Rattle.std.proofs.lemmas.Bool.{cases_lt, lt-ltb, le-ltb, ltb-true}
use Rattle.rb_group.specs.Kept.{is_after, acknowledged_after}

-- a later epoch is after them too
pub after_more : (a : Option ℕ) (e f : ℕ) → is_after a e ≡ true → e ≤ f → is_after a f ≡ true
after_more None e f above later = refl
after_more (Some last) e f above later = lt-ltb last f (let l = ltb-true last e above in omega arith)

-- an epoch after those that are acknowledged and after one more
pub after_both : (a : Option ℕ) (through e : ℕ) → is_after (Some (acknowledged_after a through)) e ≡ (is_after a e && nat_lt through e)
after_both None through e = refl
after_both (Some last) through e = go (cases_lt through last) (cases_lt through e) (cases_lt last e)
  where
    go : (through < last) ⊎ (last ≤ through) → (through < e) ⊎ (e ≤ through) → (last < e) ⊎ (e ≤ last) → nat_lt (max last through) e ≡ (nat_lt last e && nat_lt through e)
    go (inl lower) (inl above) (inl after) = let m : max last through ≡ last = max-eq_left (omega arith) in rw (m, lt-ltb last e after, lt-ltb through e above) refl
    go (inl lower) (inl above) (inr before) = let m : max last through ≡ last = max-eq_left (omega arith) in rw (m, le-ltb last e before) refl
    go (inl lower) (inr under) _ = let m : max last through ≡ last = max-eq_left (omega arith) in rw (m, le-ltb last e (omega arith)) refl
    go (inr higher) (inl above) _ = let m : max last through ≡ through = max-eq_right higher in rw (m, lt-ltb through e above, lt-ltb last e (omega arith)) refl
    go (inr higher) (inr under) _ = let m : max last through ≡ through = max-eq_right higher in rw (m, le-ltb through e under) (sym (and_false (nat_lt last e)))
      where
        and_false : (t : Bool) → (t && false) ≡ false
        and_false true = refl
        and_false false = refl

-- one that is acknowledged already changes nothing
pub after_same : (a : Option ℕ) (through : ℕ) → is_after a through ≡ false → Some (acknowledged_after a through) ≡ a
after_same None through old = absurd (let f : true ≡ false = old in cc)
after_same (Some last) through old = ap Some (max-eq_left (go (cases_lt last through)))
  where
    go : (last < through) ⊎ (through ≤ last) → through ≤ last
    go (inl above) = absurd (let f : true ≡ false = sym (lt-ltb last through above) ∙ old in cc)
    go (inr under) = under

-- one that is not is the last one afterwards
pub after_new : (a : Option ℕ) (through : ℕ) → is_after a through ≡ true → Some through ≡ Some (acknowledged_after a through)
after_new None through new = refl
after_new (Some last) through new = ap Some (sym (max-eq_right (let l = ltb-true last through new in omega arith)))

-- what passes two tests
pub filter_both : {X : Type 0} (p q r : X → Bool) (xs : List X) → ((x : X) → r x ≡ (q x && p x)) → filter p (filter q xs) ≡ filter r xs
filter_both p q r [] both = refl
filter_both {X} p q r (x ∷ xs) both = go (p x) refl (q x) refl (filter_both p q r xs both)
  where
    go : (t : Bool) → p x ≡ t → (u : Bool) → q x ≡ u → filter p (filter q xs) ≡ filter r xs → filter p (filter q (x ∷ xs)) ≡ filter r (x ∷ xs)
    go t first true second rest = rw (both x, second, first, rest) refl
    go t first false second rest = rw (both x, second) rest

-- a test read from its opposite
pub not_turned : {t u : Bool} → u ≡ not t → t ≡ not u
not_turned {t = true} opposite = ap not (sym opposite)
not_turned {t = false} opposite = ap not (sym opposite)
