-- What one node's buffer holds, from one step to the next.
use Rattle.std.proofs.Common.{◌≡◌, ◌⊎◌, inl, inr, ℕ, ◌+◌, ◌<◌, ◌≤◌, Bool, true, false, List, [], ◌∷◌, ◌++◌, length, map, refl, subst, sym, ap, ◌∙◌, arith}
use Rattle.std.specs.Prelude.{◌==◌, ◌&&◌, if◌then◌else◌, nat_le, nat_lt, Option, Some, None, filter}
use Rattle.std.specs.Option.{option_map}
use Rattle.std.proofs.lemmas.Bool.{cases_eq, cases_lt, le-leb, lt-leb, lt-ltb, le-ltb, ne_eqb, and_right}
use Rattle.std.proofs.lemmas.List.{append-nil}
use Rattle.std.proofs.lemmas.List.Elements.{filter-append}
use Rattle.rb_base.specs.declared.change.Change.{Change}
use Rattle.rb_bucket.specs.Bucket as node
use Rattle.rb_bucket.specs.Bucket.{Rising}
use Rattle.rb_bucket.specs.declared.bucket.BucketBuffer.{BucketBuffer}
use Rattle.rb_group.specs.Kept.{Kept, IsOpenOf, is_after, acknowledged_after, HoldsFrom, HoldsNode, with_part, only_closed, with_acknowledged}
use Rattle.rb_group.specs.Group.{IsOrdered}
use Rattle.rb_group.proofs.After.{after_both, filter_both}
use Rattle.rb_group.proofs.Lists.{rising_closes}

-- a node is up if it has a buffer, which knows its first epoch
pub since_same : (b : Option BucketBuffer) (since : Option ℕ) (kept : Kept) → HoldsNode b since kept → since ≡ option_map node.since_of b
since_same None None kept holds = refl
since_same (Some b) (Some since) kept holds = ap Some (sym holds.since_is)
since_same None (Some since) kept holds = absurd holds
since_same (Some b) None kept holds = absurd holds

-- what is held of an epoch that is buffered and not acknowledged
pub held_here : (since : ℕ) (buffer : BucketBuffer) (kept : Kept) (e b : ℕ) → HoldsFrom since buffer kept → since ≤ e → is_after kept.acknowledged e ≡ true → node.changes_kept buffer e b ≡ kept.changes e b
held_here since buffer kept e b holds from above = holds.changes e b ∙ rw (le-leb since e from, above) refl

-- one more change
pub holds_part : (since : ℕ) (old new : BucketBuffer) (bucket : ℕ) (change : Change) (kept : Kept) → HoldsFrom since old kept → since ≤ kept.opened → is_after kept.acknowledged kept.opened ≡ true →
    ((e b : ℕ) → node.changes_kept new e b ≡ node.with_change kept.opened bucket change (node.changes_kept old) e b) → node.closes_kept new ≡ node.closes_kept old → node.open_of new ≡ Some kept.opened →
    node.since_of new ≡ node.since_of old → ((b : ℕ) → node.IsBucketOf old b → node.IsBucketOf new b) → HoldsFrom since new (with_part bucket change kept)
holds_part since old new bucket change kept holds from above added closes opens same buckets = record {
  changes = λ e b. added e b ∙ go e b (cases_eq kept.opened e);
  closes = closes ∙ holds.closes;
  opened = subst (λ (o : Option ℕ). IsOpenOf o since kept.opened new) (sym opens) (refl, from);
  since_is = same ∙ holds.since_is;
  buckets = λ b low high. buckets b (holds.buckets b low high);
}
  where
    go : (e b : ℕ) → (kept.opened ≡ e) ⊎ (kept.opened ≡ e → ⊥) → node.with_change kept.opened bucket change (node.changes_kept old) e b
        ≡ (if nat_le since e && is_after kept.acknowledged e then node.with_change kept.opened bucket change kept.changes e b else [])
    go e b (inl is) =
        let after : is_after kept.acknowledged e ≡ true = subst (λ (n : ℕ). is_after kept.acknowledged n ≡ true) is above in
        let test : (nat_le since e && is_after kept.acknowledged e) ≡ true = rw (le-leb since e (omega arith), after) refl in
        ap (λ (cs : List Change). if (kept.opened == e) && (bucket == b) then cs ++ change ∷ [] else cs) (held_here since old kept e b holds (omega arith) after)
        ∙ sym (ap (λ (t : Bool). if t then node.with_change kept.opened bucket change kept.changes e b else []) test)
    go e b (inr differs) = rw (ne_eqb kept.opened e differs) (holds.changes e b)

-- a change of an epoch that is not buffered yet
pub skips_part : (since : ℕ) (buffer : BucketBuffer) (bucket : ℕ) (change : Change) (kept : Kept) → HoldsFrom since buffer kept → kept.opened < since →
    HoldsFrom since buffer (with_part bucket change kept)
skips_part since buffer bucket change kept holds early = record {
  changes = λ e b. holds.changes e b ∙ go e b (cases_eq kept.opened e);
  closes = holds.closes;
  opened = holds.opened;
  since_is = holds.since_is;
  buckets = holds.buckets;
}
  where
    go : (e b : ℕ) → (kept.opened ≡ e) ⊎ (kept.opened ≡ e → ⊥) → ◌≡◌ {A = List Change} (if nat_le since e && is_after kept.acknowledged e then kept.changes e b else [])
        (if nat_le since e && is_after kept.acknowledged e then node.with_change kept.opened bucket change kept.changes e b else [])
    go e b (inl is) = rw (lt-leb since e (omega arith)) refl
    go e b (inr differs) = rw (ne_eqb kept.opened e differs) refl

-- nothing is held of an epoch after the open one
nothing_later : (since : ℕ) (buffer : BucketBuffer) (kept : Kept) (e b : ℕ) → HoldsFrom since buffer kept → IsOrdered kept → kept.opened < e → node.changes_kept buffer e b ≡ []
nothing_later since buffer kept e b holds order above =
    holds.changes e b ∙ ap (λ (cs : List Change). if nat_le since e && is_after kept.acknowledged e then cs else []) (order.later e b above) ∙ plain (nat_le since e && is_after kept.acknowledged e)
  where
    plain : (t : Bool) → ◌≡◌ {A = List Change} (if t then [] else []) []
    plain true = refl
    plain false = refl

-- an epoch that a node holds after one more is acknowledged
held_after : (since : ℕ) (a : Option ℕ) (t e : ℕ) → (nat_le since e && is_after (Some (acknowledged_after a t)) e) ≡ (nat_le since e && is_after a e && nat_lt t e)
held_after since a t e = ap (λ (b : Bool). nat_le since e && b) (after_both a t e) ∙ go (nat_le since e)
  where
    go : (b : Bool) → (b && (is_after a e && nat_lt t e)) ≡ ((b && is_after a e) && nat_lt t e)
    go true = refl
    go false = refl

-- the open epoch is closed
pub holds_close : (since : ℕ) (old new : BucketBuffer) (prev next : ℕ) (kept : Kept) → HoldsFrom since old kept → since ≤ kept.opened → IsOrdered kept → kept.opened < next →
    ((e b : ℕ) → node.changes_kept new e b ≡ node.changes_kept old e b) → node.closes_kept new ≡ node.closes_kept old ++ (kept.opened, prev) ∷ [] → node.open_of new ≡ None →
    node.since_of new ≡ node.since_of old → ((b : ℕ) → node.IsBucketOf old b → node.IsBucketOf new b) → HoldsFrom since new (only_closed prev next kept)
holds_close since old new prev next kept holds from order above same closed opens stays buckets = record {
  changes = λ e b. same e b ∙ holds.changes e b;
  closes = closed ∙ ap (λ (cs : List (ℕ × ℕ)). cs ++ (kept.opened, prev) ∷ []) holds.closes
      ∙ sym (filter-append (λ (close : ℕ × ℕ). nat_le since close.0 && is_after kept.acknowledged close.0) kept.closes ((kept.opened, prev) ∷ [])
      ∙ rw (le-leb since kept.opened from, order.acknowledged) refl);
  opened = subst (λ (o : Option ℕ). IsOpenOf o since next new) (sym opens) (λ b. same next b ∙ nothing_later since old kept next b holds order above);
  since_is = stays ∙ holds.since_is;
  buckets = λ b low high. buckets b (holds.buckets b low high);
}

-- an epoch is closed that is not buffered
pub skips_close : (since : ℕ) (buffer : BucketBuffer) (prev next : ℕ) (kept : Kept) → HoldsFrom since buffer kept → kept.opened < since → IsOrdered kept → kept.opened < next →
    HoldsFrom since buffer (only_closed prev next kept)
skips_close since buffer prev next kept holds early order above = record {
  changes = holds.changes;
  closes = holds.closes
      ∙ sym (filter-append (λ (close : ℕ × ℕ). nat_le since close.0 && is_after kept.acknowledged close.0) kept.closes ((kept.opened, prev) ∷ [])
      ∙ rw (lt-leb since kept.opened early) (append-nil (filter (λ (close : ℕ × ℕ). nat_le since close.0 && is_after kept.acknowledged close.0) kept.closes)));
  opened = go (node.open_of buffer) holds.opened;
  since_is = holds.since_is;
  buckets = holds.buckets;
}
  where
    go : (o : Option ℕ) → IsOpenOf o since kept.opened buffer → IsOpenOf o since next buffer
    go None none = λ b. nothing_later since buffer kept next b holds order above
    go (Some epoch) is = absurd (omega (arith, is.0, is.1))

-- the closes after an epoch of those that a node holds
closes_after : (since : ℕ) (a : Option ℕ) (t : ℕ) (cs : List (ℕ × ℕ)) →
    filter (λ (close : ℕ × ℕ). nat_lt t close.0) (filter (λ (close : ℕ × ℕ). nat_le since close.0 && is_after a close.0) cs)
    ≡ filter (λ (close : ℕ × ℕ). nat_le since close.0 && is_after (Some (acknowledged_after a t)) close.0) cs
closes_after since a t cs =
    filter_both (λ (close : ℕ × ℕ). nat_lt t close.0) (λ (close : ℕ × ℕ). nat_le since close.0 && is_after a close.0) (λ (close : ℕ × ℕ). nat_le since close.0 && is_after (Some (acknowledged_after a t)) close.0) cs
    (λ close. held_after since a t close.0)

-- the closed epochs that a node holds rise
pub closes_rise : (buffer : BucketBuffer) (since : Option ℕ) (kept : Kept) → HoldsNode (Some buffer) since kept → IsOrdered kept → Rising kept.opened (map (λ close. close.0) (node.closes_kept buffer))
closes_rise buffer None kept holds order = absurd holds
closes_rise buffer (Some since) kept holds order = subst (λ (cs : List (ℕ × ℕ)). Rising kept.opened (map (λ close. close.0) cs)) (sym holds.closes)
    (rising_closes (λ (close : ℕ × ℕ). nat_le since close.0 && is_after kept.acknowledged close.0) kept.opened kept.closes order.closes)

-- more is acknowledged
pub holds_release : (since : ℕ) (old new : BucketBuffer) (through : ℕ) (kept : Kept) → HoldsFrom since old kept →
    ((e b : ℕ) → node.changes_kept new e b ≡ (if nat_le e through then [] else node.changes_kept old e b)) → node.closes_kept new ≡ filter (λ (close : ℕ × ℕ). nat_lt through close.0) (node.closes_kept old) →
    node.open_of new ≡ node.open_of old → node.since_of new ≡ node.since_of old → ((b : ℕ) → node.IsBucketOf old b → node.IsBucketOf new b) → HoldsFrom since new (with_acknowledged through kept)
holds_release since old new through kept holds forgotten closed opens stays buckets = record {
  changes = λ e b. forgotten e b ∙ go e b (cases_lt through e);
  closes = closed ∙ ap (filter (λ (close : ℕ × ℕ). nat_lt through close.0)) holds.closes ∙ closes_after since kept.acknowledged through kept.closes;
  opened = subst (λ (o : Option ℕ). IsOpenOf o since kept.opened new) (sym opens) (still (node.open_of old) holds.opened);
  since_is = stays ∙ holds.since_is;
  buckets = λ b low high. buckets b (holds.buckets b low high);
}
  where
    go : (e b : ℕ) → (through < e) ⊎ (e ≤ through) → (if nat_le e through then [] else node.changes_kept old e b) ≡ (if nat_le since e && is_after (Some (acknowledged_after kept.acknowledged through)) e then kept.changes e b else [])
    go e b (inl above) = rw (lt-leb e through above) (holds.changes e b
        ∙ ap (λ (t : Bool). if t then kept.changes e b else []) (sym (held_after since kept.acknowledged through e ∙ rw (lt-ltb through e above) (and_true (nat_le since e && is_after kept.acknowledged e)))))
      where
        and_true : (t : Bool) → (t && true) ≡ t
        and_true true = refl
        and_true false = refl
    go e b (inr under) = rw (le-leb e through under) (ap (λ (t : Bool). if t then kept.changes e b else [])
        (sym (held_after since kept.acknowledged through e ∙ and_right (nat_le since e && is_after kept.acknowledged e) (nat_lt through e) (le-ltb through e under))))

    still : (o : Option ℕ) → IsOpenOf o since kept.opened old → IsOpenOf o since kept.opened new
    still None none = λ b. forgotten kept.opened b ∙ plain b (nat_le kept.opened through) (none b)
      where
        plain : (b : ℕ) (t : Bool) → node.changes_kept old kept.opened b ≡ [] → (if t then [] else node.changes_kept old kept.opened b) ≡ []
        plain b true same = refl
        plain b false same = same
    still (Some epoch) is = is

-- the same, of a node that may be down
pub node_released : (old new : BucketBuffer) (since : Option ℕ) (through : ℕ) (kept : Kept) → HoldsNode (Some old) since kept →
    ((e b : ℕ) → node.changes_kept new e b ≡ (if nat_le e through then [] else node.changes_kept old e b)) → node.closes_kept new ≡ filter (λ (close : ℕ × ℕ). nat_lt through close.0) (node.closes_kept old) →
    node.open_of new ≡ node.open_of old → node.since_of new ≡ node.since_of old → ((b : ℕ) → node.IsBucketOf old b → node.IsBucketOf new b) → HoldsNode (Some new) since (with_acknowledged through kept)
node_released old new None through kept holds forgotten closed opens stays buckets = absurd holds
node_released old new (Some since) through kept holds forgotten closed opens stays buckets = holds_release since old new through kept holds forgotten closed opens stays buckets

pub node_with_part : (old new : BucketBuffer) (since : Option ℕ) (bucket : ℕ) (change : Change) (kept : Kept) → HoldsNode (Some old) since kept → node.since_of old ≤ kept.opened → is_after kept.acknowledged kept.opened ≡ true →
    ((e b : ℕ) → node.changes_kept new e b ≡ node.with_change kept.opened bucket change (node.changes_kept old) e b) → node.closes_kept new ≡ node.closes_kept old → node.open_of new ≡ Some kept.opened →
    node.since_of new ≡ node.since_of old → ((b : ℕ) → node.IsBucketOf old b → node.IsBucketOf new b) → HoldsNode (Some new) since (with_part bucket change kept)
node_with_part old new None bucket change kept holds from above added closes opens same buckets = absurd holds
node_with_part old new (Some since) bucket change kept holds from above added closes opens same buckets = holds_part since old new bucket change kept holds (omega (arith, holds.since_is)) above added closes opens same buckets

pub node_skips_part : (buffer : BucketBuffer) (since : Option ℕ) (bucket : ℕ) (change : Change) (kept : Kept) → HoldsNode (Some buffer) since kept → kept.opened < node.since_of buffer → HoldsNode (Some buffer) since (with_part bucket change kept)
node_skips_part buffer None bucket change kept holds early = absurd holds
node_skips_part buffer (Some since) bucket change kept holds early = skips_part since buffer bucket change kept holds (omega (arith, holds.since_is))

pub node_closed : (old new : BucketBuffer) (since : Option ℕ) (prev next : ℕ) (kept : Kept) → HoldsNode (Some old) since kept → node.since_of old ≤ kept.opened → IsOrdered kept → kept.opened < next →
    ((e b : ℕ) → node.changes_kept new e b ≡ node.changes_kept old e b) → node.closes_kept new ≡ node.closes_kept old ++ (kept.opened, prev) ∷ [] → node.open_of new ≡ None →
    node.since_of new ≡ node.since_of old → ((b : ℕ) → node.IsBucketOf old b → node.IsBucketOf new b) → HoldsNode (Some new) since (only_closed prev next kept)
node_closed old new None prev next kept holds from order above same closed opens stays buckets = absurd holds
node_closed old new (Some since) prev next kept holds from order above same closed opens stays buckets = holds_close since old new prev next kept holds (omega (arith, holds.since_is)) order above same closed opens stays buckets

pub node_skips_close : (buffer : BucketBuffer) (since : Option ℕ) (prev next : ℕ) (kept : Kept) → HoldsNode (Some buffer) since kept → kept.opened < node.since_of buffer → IsOrdered kept → kept.opened < next → HoldsNode (Some buffer) since (only_closed prev next kept)
node_skips_close buffer None prev next kept holds early order above = absurd holds
node_skips_close buffer (Some since) prev next kept holds early order above = skips_close since buffer prev next kept holds (omega (arith, holds.since_is)) order above

-- a node that is down stays so
pub down_stays : (since : Option ℕ) (kept next : Kept) → HoldsNode None since kept → HoldsNode None since next
down_stays None kept next holds = tt
down_stays (Some since) kept next holds = absurd holds

-- no closed epoch is as late as one that was not closed
none_from : (top since : ℕ) (a : Option ℕ) (cs : List (ℕ × ℕ)) → Rising top (map (λ close. close.0) cs) → top ≤ since → filter (λ (close : ℕ × ℕ). nat_le since close.0 && is_after a close.0) cs ≡ []
none_from top since a [] rising late = refl
none_from top since a (c ∷ cs) rising late = rw (lt-leb since c.0 (omega (arith, rising.0))) (none_from top since a cs rising.2 late)

-- an empty buffer, of a node that comes up
pub fresh : (since : ℕ) (buffer : BucketBuffer) (kept : Kept) → Rising kept.opened (map (λ close. close.0) kept.closes) → kept.opened ≤ since → ((e b : ℕ) → since ≤ e → kept.changes e b ≡ []) →
    ((e b : ℕ) → node.changes_kept buffer e b ≡ []) → node.closes_kept buffer ≡ [] → node.open_of buffer ≡ None → node.since_of buffer ≡ since →
    ((b : ℕ) → kept.first ≤ b → b < kept.first + length kept.nodes → node.IsBucketOf buffer b) → HoldsFrom since buffer kept
fresh since buffer kept rising late nothing empty closes opens is buckets = record {
  changes = λ e b. empty e b ∙ go e b (cases_lt e since);
  closes = closes ∙ sym (none_from kept.opened since kept.acknowledged kept.closes rising late);
  opened = subst (λ (o : Option ℕ). IsOpenOf o since kept.opened buffer) (sym opens) (λ b. empty kept.opened b);
  since_is = is;
  buckets = buckets;
}
  where
    plain : (t : Bool) → ◌≡◌ {A = List Change} [] (if t then [] else [])
    plain true = refl
    plain false = refl

    go : (e b : ℕ) → (e < since) ⊎ (since ≤ e) → ◌≡◌ {A = List Change} [] (if nat_le since e && is_after kept.acknowledged e then kept.changes e b else [])
    go e b (inl early) = rw (lt-leb since e early) refl
    go e b (inr from) = plain (nat_le since e && is_after kept.acknowledged e) ∙ ap (λ (cs : List Change). if nat_le since e && is_after kept.acknowledged e then cs else []) (sym (nothing e b from))
