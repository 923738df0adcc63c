-- A new group, and one after its first changes, can do what it is asked.
use Rattle.std.proofs.Common.{◌≡◌, ◌⊎◌, inl, inr, ℕ, ◌+◌, ◌-◌, ◌^◌, ◌<◌, ◌≤◌, zero, suc, Bool, true, false, List, [], ◌∷◌, ◌++◌, length, refl, subst, ap, ◌∙◌, arith, add-one}
use Rattle.std.specs.Prelude.{◌==◌, ◌&&◌, if◌then◌else◌, nat_le, Option, Some, None, replicate, unwrap_or}
use Rattle.std.specs.List.{slice_get}
use Rattle.std.specs.Option.{option_map_or}
use Rattle.std.proofs.lemmas.Bool.{cases_eq, cases_lt, le-leb, ne_eqb}
use Rattle.std.proofs.lemmas.List.{length-append}
use Rattle.rb_base.specs.declared.change.Change.{Change}
use Rattle.rb_message_defs.proofs.Messages.{get_left, get_end}
use Rattle.rb_group.specs.Kept.{Kept, new_group, with_part, covers_in, owner_in}
use Rattle.rb_group.specs.Group.{AllFit, AllCover}
use Rattle.rb_group.specs.Nodes.{numbers_from}
use Rattle.rb_group.proofs.Lists.{numbers_more, numbers_count, replicate_count}

-- the number at a place
pub number_at : (first n k : ℕ) → k < n → slice_get (numbers_from first n) k ≡ Some (first + k)
number_at first zero k below = absurd (omega arith)
number_at first (suc n) k below = subst (λ (m : ℕ). slice_get (numbers_from first m) k ≡ Some (first + k)) (add-one n)
    (ap (λ (xs : List ℕ). slice_get xs k) (numbers_more first n) ∙ go (cases_lt k n) (λ less. number_at first n k less))
  where
    go : (k < n) ⊎ (n ≤ k) → (k < n → slice_get (numbers_from first n) k ≡ Some (first + k)) → slice_get (numbers_from first n ++ (first + n) ∷ []) k ≡ Some (first + k)
    go (inl less) before = get_left (numbers_from first n) ((first + n) ∷ []) k (first + k) (before less)
    go (inr last) before =
        let at : length (numbers_from first n) ≡ k = (let c = numbers_count first n in omega arith) in
        let is : first + n ≡ first + k = omega arith in
        subst (λ (i : ℕ). slice_get (numbers_from first n ++ (first + n) ∷ []) i ≡ Some (first + k)) at (get_end (numbers_from first n) (first + n) [] ∙ ap Some is)

item_at : {X : Type 0} (n : ℕ) (x : X) (k : ℕ) → k < n → slice_get (replicate n x) k ≡ Some x
item_at zero x k below = absurd (omega arith)
item_at (suc n) x zero below = refl
item_at (suc n) x (suc k) below = item_at n x k (omega arith)

-- all nodes of a new group cover
pub new_covers : (first nodes opened : ℕ) → AllCover (new_group first nodes opened)
new_covers first nodes opened bucket is =
    let below : bucket < first + nodes = subst (λ (n : ℕ). bucket < first + n) (replicate_count nodes (Some opened)) is.1 in
    let there : first + (bucket - first) ≡ bucket = omega (arith, is.0) in
    let owner : owner_in (new_group first nodes opened) bucket ≡ bucket = ap (λ (o : Option ℕ). unwrap_or o bucket) (number_at first nodes (bucket - first) (omega (arith, is.0))) ∙ there in
    ap (covers_in (new_group first nodes opened)) owner
    ∙ ap (λ (o : Option (Option ℕ)). option_map_or (λ since. nat_le since opened) (unwrap_or o None) false) (item_at nodes (Some opened) (bucket - first) (omega (arith, is.0)))
    ∙ le-leb opened opened (omega arith)

pub new_fits : (first nodes opened : ℕ) → AllFit (new_group first nodes opened)
new_fits first nodes opened epoch bucket = omega arith

-- and one more change
pub part_fits : (kept : Kept) (bucket : ℕ) (change : Change) → AllFit kept → length (kept.changes kept.opened bucket) < 2 ^ 32 - 1 → AllFit (with_part bucket change kept)
part_fits kept bucket change fits room e b = go (cases_eq kept.opened e) (cases_eq bucket b)
  where
    plain : (t : Bool) → length (kept.changes e b) < 2 ^ 32 - 1 → length (if t then kept.changes e b ++ change ∷ [] else kept.changes e b) < 2 ^ 32
    plain true low = let l = length-append (kept.changes e b) (change ∷ []) in omega arith
    plain false low = omega arith

    other : (t : Bool) → t ≡ false → length (if t then kept.changes e b ++ change ∷ [] else kept.changes e b) < 2 ^ 32
    other true h = absurd (let f : true ≡ false = h in cc)
    other false h = fits e b

    go : (kept.opened ≡ e) ⊎ (kept.opened ≡ e → ⊥) → (bucket ≡ b) ⊎ (bucket ≡ b → ⊥) → length (if (kept.opened == e) && (bucket == b) then kept.changes e b ++ change ∷ [] else kept.changes e b) < 2 ^ 32
    go (inl same) (inl here) = plain ((kept.opened == e) && (bucket == b)) (subst (λ (n : ℕ). length (kept.changes n b) < 2 ^ 32 - 1) same (subst (λ (n : ℕ). length (kept.changes kept.opened n) < 2 ^ 32 - 1) here room))
    go (inr differs) _ = other ((kept.opened == e) && (bucket == b)) (rw (ne_eqb kept.opened e differs) refl)
    go (inl same) (inr differs) = other ((kept.opened == e) && (bucket == b)) (rw (ne_eqb bucket b differs) (and_false (kept.opened == e)))
      where
        and_false : (t : Bool) → (t && false) ≡ false
        and_false true = refl
        and_false false = refl

pub part_covers : (kept : Kept) (bucket : ℕ) (change : Change) → AllCover kept → AllCover (with_part bucket change kept)
part_covers kept bucket change cover = cover
