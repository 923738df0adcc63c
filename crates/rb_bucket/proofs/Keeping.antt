-- One bucket's changes after one more is kept.
use Rattle.std.proofs.Common.{◌≡◌, ◌⊎◌, inl, inr, ℕ, ◌-◌, ◌<◌, ◌≤◌, zero, suc, Bool, true, false, cond, List, [], ◌∷◌, ◌++◌, length, set, get_or, refl, subst, sym, ap, ◌∙◌, arith}
use Rattle.std.specs.Prelude.{◌==◌, ◌&&◌, if◌then◌else◌, nat_le, Option, Some, None}
use Rattle.std.specs.List.{slice_get, All}
use Rattle.std.specs.Map.{lookup}
use Rattle.std.specs.Option.{option_and_then, unwrap_or}
use Rattle.std.specs.Ordering.{nat_cmp}
use Rattle.std.specs.BTreeMap.{BTreeMap, is_at}
use Rattle.std.specs.BTreeMap as tree
use Rattle.std.proofs.Math.Dec.{eqb-suc-zero, eqb-zero-suc, eqb-suc-suc}
use Rattle.std.proofs.lemmas.Bool.{cases_eq, cases_lt, le-leb, lt-leb, ne_eqb, eq-eqb, and_right}
use Rattle.std.proofs.lemmas.Option.{slice_get_read, slice_get_past, get_or_from_slice_get}
use Rattle.rb_base.specs.declared.change.Change.{Change}
use Rattle.rb_bucket.specs.Bucket.{changes_in, changes_at, with_change}

-- what these buckets hold
abbrev pub held_in : (first : ℕ) → List (BTreeMap ℕ (List Change)) → (epoch bucket : ℕ) → List Change
held_in first xs epoch bucket =
    if nat_le first bucket then unwrap_or (option_and_then (λ epochs. tree.get nat_cmp epochs epoch) (slice_get xs (bucket - first))) [] else []

-- an item written
slice_get_set : {X : Type 0} (xs : List X) (i : ℕ) (x : X) (j : ℕ) → i < length xs → slice_get (set xs i x) j ≡ cond (i == j) (Some x) (slice_get xs j)
slice_get_set [] i x j within = absurd (omega arith)
slice_get_set (y ∷ ys) zero x zero within = refl
slice_get_set (y ∷ ys) zero x (suc j) within = rw (eqb-zero-suc j) refl
slice_get_set (y ∷ ys) (suc i) x zero within = rw (eqb-suc-zero i) refl
slice_get_set (y ∷ ys) (suc i) x (suc j) within = rw (eqb-suc-suc i j) (slice_get_set ys i x j (omega arith))

-- another bucket than the one that is written
other_bucket : (first : ℕ) (xs : List (BTreeMap ℕ (List Change))) (new : BTreeMap ℕ (List Change)) (bucket e b : ℕ) →
    first ≤ bucket → bucket - first < length xs → (bucket ≡ b → ⊥) → held_in first (set xs (bucket - first) new) e b ≡ held_in first xs e b
other_bucket first xs new bucket e b from within differs = go (cases_lt b first)
  where
    go : (b < first) ⊎ (first ≤ b) → held_in first (set xs (bucket - first) new) e b ≡ held_in first xs e b
    go (inl below) = rw (lt-leb first b below) refl
    go (inr above) = rw (slice_get_set xs (bucket - first) new (b - first) within, ne_eqb (bucket - first) (b - first) (λ same. differs (omega arith))) refl

-- the bucket that is written
same_bucket : (first : ℕ) (xs : List (BTreeMap ℕ (List Change))) (new : BTreeMap ℕ (List Change)) (bucket e : ℕ) →
    first ≤ bucket → bucket - first < length xs → held_in first (set xs (bucket - first) new) e bucket ≡ changes_in new e
same_bucket first xs new bucket e from within =
    rw (le-leb first bucket from, slice_get_set xs (bucket - first) new (bucket - first) within, eq-eqb (bucket - first) (bucket - first) refl) refl

-- what is held of a bucket that exists
pub held_there : (first : ℕ) (xs : List (BTreeMap ℕ (List Change))) (old : BTreeMap ℕ (List Change)) (bucket e : ℕ) →
    first ≤ bucket → bucket - first < length xs → old ≡ get_or xs (bucket - first) old → held_in first xs e bucket ≡ changes_in old e
held_there first xs old bucket e from within is =
    rw (le-leb first bucket from, slice_get_read xs (length xs) (bucket - first) old refl within is) refl

-- one more change is kept
pub kept_one : (first : ℕ) (xs : List (BTreeMap ℕ (List Change))) (old new : BTreeMap ℕ (List Change)) (bucket epoch : ℕ) (change : Change) →
    first ≤ bucket → bucket - first < length xs → old ≡ get_or xs (bucket - first) old →
    ((e : ℕ) → changes_in new e ≡ (if epoch == e then changes_in old e ++ change ∷ [] else changes_in old e)) →
    (e b : ℕ) → held_in first (set xs (bucket - first) new) e b ≡ with_change epoch bucket change (held_in first xs) e b
kept_one first xs old new bucket epoch change from within is kept e b = go (cases_eq bucket b)
  where
    go : (bucket ≡ b) ⊎ (bucket ≡ b → ⊥) → held_in first (set xs (bucket - first) new) e b ≡ with_change epoch bucket change (held_in first xs) e b
    go (inl same) = subst (λ (k : ℕ). held_in first (set xs (bucket - first) new) e k ≡ with_change epoch bucket change (held_in first xs) e k) same
        (same_bucket first xs new bucket e from within ∙ kept e ∙ here (epoch == e))
      where
        here : (b : Bool) → (if b then changes_in old e ++ change ∷ [] else changes_in old e) ≡ (if b && (bucket == bucket) then held_in first xs e bucket ++ change ∷ [] else held_in first xs e bucket)
        here true = rw (eq-eqb bucket bucket refl, held_there first xs old bucket e from within is) refl
        here false = sym (held_there first xs old bucket e from within is)
    go (inr differs) = other_bucket first xs new bucket e b from within differs
        ∙ sym (ap (λ (b' : Bool). if b' then held_in first xs e b ++ change ∷ [] else held_in first xs e b) (and_right (epoch == e) (bucket == b) (ne_eqb bucket b differs)))

-- nothing more is kept
pub kept_none : (first : ℕ) (xs : List (BTreeMap ℕ (List Change))) (old new : BTreeMap ℕ (List Change)) (bucket : ℕ) →
    first ≤ bucket → bucket - first < length xs → old ≡ get_or xs (bucket - first) old → ((e : ℕ) → changes_in new e ≡ changes_in old e) →
    (e b : ℕ) → held_in first (set xs (bucket - first) new) e b ≡ held_in first xs e b
kept_none first xs old new bucket from within is same e b = go (cases_eq bucket b)
  where
    go : (bucket ≡ b) ⊎ (bucket ≡ b → ⊥) → held_in first (set xs (bucket - first) new) e b ≡ held_in first xs e b
    go (inl equal) = subst (λ (k : ℕ). held_in first (set xs (bucket - first) new) e k ≡ held_in first xs e k) equal
        (same_bucket first xs new bucket e from within ∙ same e ∙ sym (held_there first xs old bucket e from within is))
    go (inr differs) = other_bucket first xs new bucket e b from within differs

-- empty buckets hold nothing
pub held_in_none : (first : ℕ) (xs : List (BTreeMap ℕ (List Change))) → All (λ (epochs : BTreeMap ℕ (List Change)). epochs.entries ≡ []) xs → (e b : ℕ) → held_in first xs e b ≡ []
held_in_none first xs empty e b = go (cases_lt b first) (cases_lt (b - first) (length xs))
  where
    look : (m : BTreeMap ℕ (List Change)) → m.entries ≡ [] → unwrap_or (tree.get nat_cmp m e) [] ≡ []
    look m none = ap (λ (entries : List (ℕ × List Change)). unwrap_or (lookup (is_at (nat_cmp e)) entries) []) none

    at : (o : Option (BTreeMap ℕ (List Change))) → slice_get xs (b - first) ≡ o → (b - first) < length xs → unwrap_or (option_and_then (λ epochs. tree.get nat_cmp epochs e) o) [] ≡ []
    at None is within = refl
    at (Some m) is within = look m (subst (λ (x : BTreeMap ℕ (List Change)). x.entries ≡ []) (get_or_from_slice_get xs (b - first) m m is) (empty (b - first) m within))

    go : (b < first) ⊎ (first ≤ b) → (b - first < length xs) ⊎ (length xs ≤ b - first) → held_in first xs e b ≡ []
    go (inl below) _ = rw (lt-leb first b below) refl
    go (inr above) (inl within) = rw (le-leb first b above) (at (slice_get xs (b - first)) refl within)
    go (inr above) (inr past) = rw (le-leb first b above, slice_get_past xs (b - first) past) refl

-- the epochs up to one are forgotten
pub held_after : (first through : ℕ) (old new : List (BTreeMap ℕ (List Change))) →
    ((place e : ℕ) → changes_at new place e ≡ (if nat_le e through then [] else changes_at old place e)) →
    (e b : ℕ) → held_in first new e b ≡ (if nat_le e through then [] else held_in first old e b)
held_after first through old new kept e b = go (nat_le first b)
  where
    nothing : (following : Bool) → ◌≡◌ {A = List Change} [] (if following then [] else [])
    nothing true = refl
    nothing false = refl

    go : (within : Bool) → (if within then changes_at new (b - first) e else []) ≡ (if nat_le e through then [] else (if within then changes_at old (b - first) e else []))
    go true = kept (b - first) e
    go false = nothing (nat_le e through)
