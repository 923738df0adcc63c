-- The rows that the operations so far name.
use Rattle.std.proofs.Common.{◌≡◌, ℕ, ◌+◌, ◌<◌, Bool, true, false, cond, if◌then◌else◌, ◌&&◌, ◌||◌, not, List, [], ◌∷◌, ◌++◌, length, get_or, take, refl, sym, ap, ◌∙◌, arith}
use Rattle.std.specs.Prelude.{◌==◌, nat_lt}
use Rattle.std.specs.List.{list_any}
use Rattle.std.specs.Ordering.{ordering_then, nat_cmp, is_eq}
use Rattle.std.specs.declared.cmp.Ordering.{Ordering}
use Rattle.std.specs.declared.cmp.Ordering.TheVariants.{Less, Equal, Greater}
use Rattle.std.specs.BTreeMap.{is_at}
use Rattle.std.specs.BTreeSet.{BTreeSet, Updates}
use Rattle.std.proofs.lemmas.Bool.{ltb-true, ne_eqb}
use Rattle.std.proofs.lemmas.Grind.{common_steps}
use Rattle.std.proofs.lemmas.List.{take_more}
use Rattle.std.proofs.lemmas.List.Folds.{list_any-append}
use Rattle.rb_base.specs.declared.script.ClientOp.{ClientOp}
use Rattle.rb_commit.specs.Named.{pair_cmp, is_named}

-- an operation names this row
abbrev pub names_row : (table key : ℕ) → ClientOp → Bool
names_row table key operation = (table == operation.table) && (key == operation.key)

is_equal : (b : Bool) → is_eq (cond b Equal Greater) ≡ b
is_equal true = refl
is_equal false = refl

at_number : (one other : ℕ) → is_eq (nat_cmp one other) ≡ (other == one)
at_number one other = go (nat_lt one other) refl
  where
    go : (b : Bool) → nat_lt one other ≡ b → is_eq (cond b Less (cond (one == other) Equal Greater)) ≡ (other == one)
    go true below = let less : one < other = ltb-true one other below in sym (ne_eqb other one (λ same. absurd (omega arith)))
    go false above = let flip : (one == other) ≡ (other == one) = grind (arith, common_steps) in is_equal (one == other) ∙ flip

both : (one other : Ordering) → is_eq (ordering_then one other) ≡ (is_eq one && is_eq other)
both Less other = refl
both Equal other = refl
both Greater other = refl

at_pair : (table key t k : ℕ) → is_at (pair_cmp (table, key)) (t, k) ≡ ((t == table) && (k == key))
at_pair table key t k = both (nat_cmp table t) (nat_cmp key k) ∙ ap (λ (b : Bool). b && is_eq (nat_cmp key k)) (at_number table t) ∙ ap (λ (b : Bool). (t == table) && b) (at_number key k)

-- a set of rows with one more
pub row_added : (old new : BTreeSet (ℕ × ℕ)) (table key t k : ℕ) → Updates pair_cmp old new (table, key) true → is_named new t k ≡ (if (t == table) && (k == key) then true else is_named old t k)
row_added old new table key t k updates = updates.0 (t, k) ∙ ap (λ (b : Bool). if b then true else is_named old t k) (at_pair table key t k)

or_last : (b c : Bool) → (if b then true else c) ≡ (c || (b || false))
or_last true true = refl
or_last true false = refl
or_last false true = refl
or_last false false = refl

-- one more operation names one more row
pub named_more : (all : List ClientOp) (i : ℕ) (operation : ClientOp) (t k : ℕ) (old new : Bool) → i < length all → operation ≡ get_or all i operation → old ≡ list_any (names_row t k) (take i all)
    → new ≡ (if (t == operation.table) && (k == operation.key) then true else old) → new ≡ list_any (names_row t k) (take (i + 1) all)
named_more all i operation t k old new within is before now =
    now ∙ ap (λ (b : Bool). if names_row t k operation then true else b) before
    ∙ or_last (names_row t k operation) (list_any (names_row t k) (take i all))
    ∙ sym (list_any-append (names_row t k) (take i all) (operation ∷ []))
    ∙ ap (list_any (names_row t k)) (sym (take_more all i operation within ∙ ap (λ at. take i all ++ at ∷ []) (sym is)))

-- no operation names no row
pub none_named : (named : BTreeSet (ℕ × ℕ)) (t k : ℕ) → named.keys ≡ [] → is_named named t k ≡ false
none_named named t k none = ap (λ (keys : List (ℕ × ℕ)). list_any (is_at (pair_cmp (t, k))) keys) none

-- a row that is not new was named, and a new one was not
pub was_named : (new named : Bool) → new ≡ not named → new ≡ false → named ≡ true
was_named new true same old = refl
was_named new false same old = cc

pub was_new : (new named : Bool) → new ≡ not named → new ≡ true → named ≡ false
was_new new true same fresh = cc
was_new new false same fresh = refl
