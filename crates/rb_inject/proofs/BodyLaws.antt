-- The tables of a body, and its reflected epoch.
use Rattle.std.proofs.Common.{◌≡◌, ℕ, ◌+◌, ◌<◌, Bool, List, [], ◌∷◌, ◌++◌, length, take, filter, refl, sym, ap, ◌∙◌, get_or}
use Rattle.std.specs.Prelude.{Option, Some, None, if◌then◌else◌, filter_map}
use Rattle.std.specs.List.{flat_map, last_or}
use Rattle.std.proofs.lemmas.List.{take_more, flat_map_more}
use Rattle.std.proofs.lemmas.List.Elements.{filter-append, filter_map-append}
use Rattle.rb_base.specs.declared.epoch.Epoch.{Epoch}
use Rattle.rb_base.specs.declared.change.Change.{Change}
use Rattle.rb_base.specs.declared.schema.Mapped.{Mapped}

-- one table more that is named, or not
pub named_more : (named : Mapped → Bool) (tables : List Mapped) (i : ℕ) (table : Mapped) (before after : List Mapped) (test : Bool) → i < length tables → table ≡ get_or tables i table → before ≡ filter named (take i tables) → after ≡ before ++ (if test then table ∷ [] else []) → test ≡ named table → after ≡ filter named (take (i + 1) tables)
named_more named tables i table before after test within is so_far now same =
    now
    ∙ ap (λ (ts : List Mapped). ts ++ (if test then table ∷ [] else [])) so_far
    ∙ ap (λ (b : Bool). filter named (take i tables) ++ (if b then table ∷ [] else [])) same
    ∙ sym (filter-append named (take i tables) (table ∷ []))
    ∙ ap (filter named) (sym (take_more tables i table within ∙ ap (λ (t : Mapped). take i tables ++ t ∷ []) (sym is)))

-- the last item of two lists, joined
pub last_or_append : {X : Type 0} (xs ys : List X) (o : Option X) → last_or o (xs ++ ys) ≡ last_or (last_or o xs) ys
last_or_append [] ys o = refl
last_or_append (x ∷ xs) ys o = last_or_append xs ys (Some x)

-- the last epoch that one more part records
pub told_more : (applied : Change → Option Epoch) (parts : List (List Change)) (i : ℕ) (part : List Change) (before after : Option Epoch) → i < length parts → part ≡ get_or parts i part → before ≡ last_or None (filter_map applied (flat_map (λ p. p) (take i parts))) → after ≡ last_or before (filter_map applied part) → after ≡ last_or None (filter_map applied (flat_map (λ p. p) (take (i + 1) parts)))
told_more applied parts i part before after within is so_far now =
    let earlier : List Change = flat_map (λ p. p) (take i parts) in
    let joined : earlier ++ part ≡ flat_map (λ p. p) (take (i + 1) parts) =
    flat_map_more {X = List Change} {A = Change} (λ p. p) [] (take i parts) part
    ∙ ap (flat_map (λ p. p)) (sym (take_more parts i part within ∙ ap (λ (p : List Change). take i parts ++ p ∷ []) (sym is))) in
    now
    ∙ ap (λ (o : Option Epoch). last_or o (filter_map applied part)) so_far
    ∙ sym (last_or_append (filter_map applied earlier) (filter_map applied part) None)
    ∙ ap (last_or None) (sym (filter_map-append applied earlier part))
    ∙ ap (λ (changes : List Change). last_or None (filter_map applied changes)) joined

-- the last epoch that one more change records
pub told_by_more : (applied : Change → Option Epoch) (changes : List Change) (i : ℕ) (change : Change) (first before after : Option Epoch) → i < length changes → change ≡ get_or changes i change → before ≡ last_or first (filter_map applied (take i changes)) → after ≡ last_or before (filter_map applied (change ∷ [])) → after ≡ last_or first (filter_map applied (take (i + 1) changes))
told_by_more applied changes i change first before after within is so_far now =
    now
    ∙ ap (λ (o : Option Epoch). last_or o (filter_map applied (change ∷ []))) so_far
    ∙ sym (last_or_append (filter_map applied (take i changes)) (filter_map applied (change ∷ [])) first)
    ∙ ap (last_or first) (sym (filter_map-append applied (take i changes) (change ∷ [])))
    ∙ ap (λ (cs : List Change). last_or first (filter_map applied cs)) (sym (take_more changes i change within ∙ ap (λ (c : Change). take i changes ++ c ∷ []) (sym is)))
