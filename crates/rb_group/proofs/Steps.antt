-- A group's steps: what it sends, and what it keeps after them.
use Rattle.std.proofs.Common.{◌≡◌, ℕ, ◌+◌, ◌-◌, ◌<◌, Bool, true, false, cond, List, [], ◌∷◌, ◌++◌, length, map, set, refl, subst, sym, ap, ◌∙◌, arith}
use Rattle.std.specs.Prelude.{◌==◌, ◌&&◌, not, if◌then◌else◌, nat_lt, Option, Some, None, filter}
use Rattle.std.specs.List.{slice_get, find, flat_map, AllByRecursion, enumerate_from}
use Rattle.std.specs.Option.{option_map, option_or}
use Rattle.std.proofs.lemmas.List.{map-append, length-map}
use Rattle.std.proofs.lemmas.List.Elements.{filter-append}
use Rattle.std.proofs.lemmas.List.Folds.{find-append}
use Rattle.rb_base.specs.declared.change.Change.{Change}
use Rattle.rb_base.specs.declared.epoch.Epoch.{Epoch}
use Rattle.rb_base.specs.declared.message.Message.TheVariants.{Part, Done}
use Rattle.rb_base.specs.declared.message.Sent.{Sent}
use Rattle.rb_message_defs.specs.Message.{home_node}
use Rattle.rb_message_defs.proofs.Messages.{all_mapped, all_joined}
use Rattle.rb_bucket.specs.Bucket.{Rising}
use Rattle.rb_bucket.specs.declared.bucket.BucketBuffer.{BucketBuffer}
use Rattle.rb_group.specs.declared.group.Group.{Group}
use Rattle.rb_group.specs.Kept.{Kept, is_after, HoldsNode, numbers_of, owner_in, covers_in, returns_in, done_in, again_in, only_closed, with_close, with_since, with_takeover, sent_at_close, sent_at_resend, sent_at_takeover, others_after, successor_in, owned_in}
use Rattle.rb_group.specs.Group.{Keeps, IsNumberOf, AllCover, part_sent}
use Rattle.rb_group.specs.Nodes.{AllHold, IsIn, numbers_from, numbers_in, covers_of, owner_of, count_of, again_of, done_of, returns_of, returned_of, owner_after, others_of, owned_of, taken_of}
use Rattle.rb_group.proofs.After.{after_more}
use Rattle.rb_group.proofs.Lists.{numbers_count, numbers_all, numbers_above, numbers_under, find_passes, found_in, all_filter, find_same_in, rising_more}
use Rattle.rb_group.proofs.Standing.{also_is, covers_same, owner_same, owner_is_in, moved_nodes, keeps_moved, set_holds, nodes_count}
use Rattle.rb_group.proofs.Covering.{again_same, count_same, numbers_same, map_same, flat_same, flat_filter_same, filter_same}

-- an owner that covers in one of the things that a group keeps covers in all of them
pub owner_covers : (group : Group) (one kept : Kept) (bucket : ℕ) → Keeps group one → IsNumberOf one bucket → covers_in one (owner_in one bucket) ≡ true → Keeps group kept → covers_in kept (owner_in kept bucket) ≡ true
owner_covers group one kept bucket k1 is covers keeps =
    covers_same group kept (owner_in kept bucket) keeps (owner_is_in group kept bucket keeps (also_is group one kept bucket k1 is keeps))
    ∙ ap (covers_of group) (owner_same group kept bucket keeps ∙ sym (owner_same group one bucket k1))
    ∙ sym (covers_same group one (owner_in one bucket) k1 (owner_is_in group one bucket k1 is)) ∙ covers

pub all_cover : (group : Group) (one kept : Kept) → Keeps group one → AllCover one → Keeps group kept → AllCover kept
all_cover group one kept k1 cover keeps bucket is = let there = also_is group kept one bucket keeps is k1 in owner_covers group one kept bucket k1 there (cover bucket there) keeps

-- a number of the group's list is one of its numbers
pub one_of : (group : Group) (kept : Kept) (k : ℕ) → Keeps group kept → k < length group.owners.items → IsNumberOf kept (group.first + k)
one_of group kept k keeps below =
    let same : length group.owners.items ≡ length kept.nodes = ap length keeps.owners ∙ keeps.owner_count in
    let a = keeps.first in
    (omega arith, omega arith)

-- what the owner of a bucket resends
owner_again : (group : Group) (kept : Kept) (bucket : ℕ) → Keeps group kept → IsNumberOf kept bucket → covers_in kept (owner_in kept bucket) ≡ true → again_in kept (owner_in kept bucket) bucket ≡ again_of group (owner_of group bucket) bucket
owner_again group kept bucket keeps is covers =
    again_same group kept (owner_in kept bucket) bucket keeps (owner_is_in group kept bucket keeps is) covers ∙ ap (λ (n : ℕ). again_of group n bucket) (owner_same group kept bucket keeps)

owner_count : (group : Group) (kept : Kept) (bucket : ℕ) → Keeps group kept → IsNumberOf kept bucket → covers_in kept (owner_in kept bucket) ≡ true → length (kept.changes kept.opened bucket) ≡ count_of group (owner_of group bucket) bucket
owner_count group kept bucket keeps is covers =
    count_same group kept (owner_in kept bucket) bucket keeps (owner_is_in group kept bucket keeps is) covers ∙ ap (λ (n : ℕ). count_of group n bucket) (owner_same group kept bucket keeps)

-- a resend
pub resend_is : (group : Group) (kept : Kept) → Keeps group kept → AllCover kept → flat_map (λ bucket. again_of group (owner_of group bucket) bucket) (numbers_in group) ≡ sent_at_resend kept
resend_is group kept keeps cover =
    sym (ap (flat_map (λ bucket. again_in kept (owner_in kept bucket) bucket)) (numbers_same group kept keeps)
    ∙ flat_same (λ bucket. again_in kept (owner_in kept bucket) bucket) (λ bucket. again_of group (owner_of group bucket) bucket) group.first (length group.owners.items)
    (λ k below. let is = one_of group kept k keeps below in owner_again group kept (group.first + k) keeps is (cover (group.first + k) is)))

-- a change as it is sent
pub part_is : (group : Group) (kept : Kept) (bucket sender place : ℕ) (change now : Change) → Keeps group kept → IsNumberOf kept bucket → covers_in kept (owner_in kept bucket) ≡ true →
    sender ≡ owner_of group bucket → place ≡ count_of group sender bucket → change ≡ now →
    ◌≡◌ {A = Sent} (record { sender = sender; message = Part bucket group.opened place change }) (part_sent kept bucket now)
part_is group kept bucket sender place change now keeps is covers by at copied =
    let from : sender ≡ owner_in kept bucket = by ∙ sym (owner_same group kept bucket keeps) in
    let count : place ≡ length (kept.changes kept.opened bucket) = at ∙ ap (λ (n : ℕ). count_of group n bucket) by ∙ sym (owner_count group kept bucket keeps is covers) in
    ap {B = Sent} (λ (s : ℕ). record { sender = s; message = Part bucket group.opened place change }) from
    ∙ ap {B = Sent} (λ (n : ℕ). record { sender = owner_in kept bucket; message = Part bucket (record { 0 = n }) place change }) keeps.opened
    ∙ ap {B = Sent} (λ (n : ℕ). record { sender = owner_in kept bucket; message = Part bucket (record { 0 = kept.opened }) n change }) count
    ∙ ap {B = Sent} (λ (c : Change). record { sender = owner_in kept bucket; message = Part bucket (record { 0 = kept.opened }) (length (kept.changes kept.opened bucket)) c }) copied

-- a Done as it is sent
done_is : (group : Group) (kept : Kept) (prev : Epoch) (bucket : ℕ) → Keeps group kept → IsNumberOf kept bucket → covers_in kept (owner_in kept bucket) ≡ true →
    ◌≡◌ {A = Sent} (record { sender = owner_in kept bucket; message = done_in kept bucket (kept.opened, prev.0) }) (done_of group prev bucket)
done_is group kept prev bucket keeps is covers =
    ap {B = Sent} (λ (s : ℕ). record { sender = s; message = Done bucket (record { 0 = kept.opened }) prev (length (kept.changes kept.opened bucket)) }) (owner_same group kept bucket keeps)
    ∙ ap {B = Sent} (λ (n : ℕ). record { sender = owner_of group bucket; message = Done bucket (record { 0 = kept.opened }) prev n }) (owner_count group kept bucket keeps is covers)
    ∙ ap {B = Sent} (λ (n : ℕ). record { sender = owner_of group bucket; message = Done bucket (record { 0 = n }) prev (count_of group (owner_of group bucket) bucket) }) (sym keeps.opened)

-- the same buckets return
returns_same : (group : Group) (kept : Kept) (bucket : ℕ) → Keeps group kept → IsNumberOf kept bucket → returns_in kept bucket ≡ returns_of group bucket
returns_same group kept bucket keeps is =
    ap (λ (n : ℕ). not (n == bucket) && covers_in kept bucket) (owner_same group kept bucket keeps) ∙ ap (λ (t : Bool). not (owner_of group bucket == bucket) && t) (covers_same group kept bucket keeps is)

-- what is sent at a close
pub close_is : (group mid : Group) (kept : Kept) (prev : Epoch) (next : ℕ) → Keeps group kept → AllCover kept → Keeps mid (only_closed prev.0 next kept) →
    map (done_of group prev) (numbers_in group) ++ returned_of mid ≡ sent_at_close prev.0 next kept
close_is group mid kept prev next keeps cover after =
    ap (λ (ss : List Sent). ss ++ returned_of mid) (sym (ap (map told) (numbers_same group kept keeps)
    ∙ map_same told (done_of group prev) group.first (length group.owners.items) (λ k below. let is = one_of group kept k keeps below in done_is group kept prev (group.first + k) keeps is (cover (group.first + k) is))))
    ∙ ap (λ (ss : List Sent). map told (numbers_of kept) ++ ss) (sym (ap (λ (ns : List ℕ). flat_map (λ bucket. again_in ended bucket bucket) (filter (returns_in ended) ns)) (numbers_same mid ended after)
    ∙ flat_filter_same (λ bucket. again_in ended bucket bucket) (λ bucket. again_of mid bucket bucket) (returns_in ended) (returns_of mid) mid.first (length mid.owners.items)
    (λ k below. back (mid.first + k) (one_of mid ended k after below))))
  where
    told : ℕ → Sent
    told bucket = record { sender = owner_in kept bucket; message = done_in kept bucket (kept.opened, prev.0) }

    ended : Kept
    ended = only_closed prev.0 next kept

    go : (bucket : ℕ) (t : Bool) → (t ≡ true → again_in ended bucket bucket ≡ again_of mid bucket bucket) → ◌≡◌ {A = List Sent} (if t then again_in ended bucket bucket else []) (if t then again_of mid bucket bucket else [])
    go bucket true same = same refl
    go bucket false same = refl

    right : (a b : Bool) → (a && b) ≡ true → b ≡ true
    right true b h = h
    right false b h = absurd (let f : false ≡ true = h in cc)

    back : (bucket : ℕ) → IsNumberOf ended bucket → ◌≡◌ {A = List Sent} (if returns_in ended bucket then again_in ended bucket bucket else []) (if returns_of mid bucket then again_of mid bucket bucket else [])
    back bucket is = go bucket (returns_in ended bucket) (λ h. again_same mid ended bucket bucket after is (right (not (owner_in ended bucket == bucket)) (covers_in ended bucket) h))
        ∙ ap (λ (t : Bool). if t then again_of mid bucket bucket else []) (returns_same mid ended bucket after is)

-- the open epoch is closed in all nodes
pub keeps_closed : (old new : Group) (kept : Kept) (prev next : ℕ) → Keeps old kept → kept.opened < next → new.first ≡ old.first → new.opened.0 ≡ next → new.acknowledged ≡ old.acknowledged → new.owners ≡ old.owners →
    length new.buffers.items ≡ length old.buffers.items → new.closed.items ≡ old.closed.items ++ old.opened ∷ [] → AllHold new.buffers.items (only_closed prev next kept) → Keeps new (only_closed prev next kept)
keeps_closed old new kept prev next keeps above first opened acknowledged owners count closed hold = record {
  first = first ∙ keeps.first;
  opened = opened;
  acknowledged = ap (option_map (λ (e : Epoch). e.0)) acknowledged ∙ keeps.acknowledged;
  count = count ∙ keeps.count;
  nodes = hold;
  owners = ap (λ v. v.items) owners ∙ keeps.owners;
  owner_count = keeps.owner_count;
  owners_in = keeps.owners_in;
  some = keeps.some;
  fits = keeps.fits;
  order = record {
    closes = subst (Rising next) (sym (map-append (λ (close : ℕ × ℕ). close.0) kept.closes ((kept.opened, prev) ∷ []))) (rising_more kept.opened next (map (λ close. close.0) kept.closes) keeps.order.closes above);
    acknowledged = after_more kept.acknowledged kept.opened next keeps.order.acknowledged (omega arith);
    later = λ e b late. keeps.order.later e b (omega arith);
  };
  closed = ap (map (λ (e : Epoch). e.0)) closed ∙ map-append (λ (e : Epoch). e.0) old.closed.items (old.opened ∷ [])
      ∙ ap (λ (xs : List ℕ). xs ++ old.opened.0 ∷ []) keeps.closed ∙ ap (λ (n : ℕ). filter (is_after kept.acknowledged) (map (λ close. close.0) kept.closes) ++ n ∷ []) keeps.opened
      ∙ sym (ap (filter (is_after kept.acknowledged)) (map-append (λ (close : ℕ × ℕ). close.0) kept.closes ((kept.opened, prev) ∷ [])) ∙ filter-append (is_after kept.acknowledged) (map (λ close. close.0) kept.closes) (kept.opened ∷ [])
      ∙ ap (λ (t : Bool). filter (is_after kept.acknowledged) (map (λ close. close.0) kept.closes) ++ cond t (kept.opened ∷ []) []) keeps.order.acknowledged);
  countable = (let h = keeps.countable in let size : length new.owners.items ≡ length old.owners.items = ap (λ v. length v.items) owners in omega arith);
}

-- and buckets return
pub keeps_returned : (mid new : Group) (kept : Kept) (prev next : ℕ) → Keeps mid (only_closed prev next kept) → new.first ≡ mid.first → new.opened ≡ mid.opened → new.acknowledged ≡ mid.acknowledged → new.closed ≡ mid.closed → new.buffers ≡ mid.buffers →
    new.owners.items ≡ map (owner_after mid) (numbers_in mid) → Keeps new (with_close prev next kept)
keeps_returned mid new kept prev next after first opened acknowledged closed buffers owners =
    keeps_moved mid new ended kept.nodes (map following (numbers_of kept)) after first opened acknowledged closed
    (owners ∙ sym (ap (map following) (numbers_same mid ended after) ∙ map_same following (owner_after mid) mid.first (length mid.owners.items) (λ k below. same (mid.first + k) (one_of mid ended k after below))))
    (length-map (numbers_of kept) following ∙ numbers_count kept.first (length kept.nodes) ∙ sym after.owner_count)
    (all_mapped (IsNumberOf ended) following (numbers_of kept) (numbers_all (λ bucket. IsNumberOf ended (following bucket)) kept.first (length kept.nodes) (λ k below. inside (kept.first + k) (omega arith, omega arith))))
    refl (ap (λ v. length v.items) buffers)
    (λ k b s at_b at_s. moved_nodes b s ended kept.nodes (map following (numbers_of kept)) refl (after.nodes k b s (ap (λ v. slice_get v.items k) (sym buffers) ∙ at_b) at_s))
  where
    ended : Kept
    ended = only_closed prev next kept

    following : ℕ → ℕ
    following bucket = if returns_in ended bucket then home_node bucket else owner_in kept bucket

    same : (bucket : ℕ) → IsNumberOf ended bucket → following bucket ≡ owner_after mid bucket
    same bucket is = ap (λ (t : Bool). if t then bucket else owner_in kept bucket) (returns_same mid ended bucket after is) ∙ ap (λ (n : ℕ). if returns_of mid bucket then bucket else n) (owner_same mid ended bucket after)

    inside : (bucket : ℕ) → IsNumberOf ended bucket → IsNumberOf ended (following bucket)
    inside bucket is = go (returns_in ended bucket)
      where
        go : (t : Bool) → IsNumberOf ended (if t then bucket else owner_in kept bucket)
        go true = is
        go false = owner_is_in mid ended bucket after is

-- the successor, read off the group
pub successor_same : (group : Group) (kept : Kept) (number : ℕ) → Keeps group kept → successor_in kept number ≡ find (covers_of group) (others_of group number)
successor_same group kept number keeps =
    ap (λ (ns : List ℕ). find (covers_in kept) (filter (nat_lt number) ns ++ filter (λ other. nat_lt other number) ns)) (numbers_same group kept keeps)
    ∙ find-append (covers_in kept) (filter (nat_lt number) (numbers_in group)) (filter (λ other. nat_lt other number) (numbers_in group))
    ∙ ap (λ (o : Option ℕ). option_or o (find (covers_in kept) (filter (λ other. nat_lt other number) (numbers_in group)))) (same (nat_lt number))
    ∙ ap (λ (o : Option ℕ). option_or (find (covers_of group) (filter (nat_lt number) (numbers_in group))) o) (same (λ other. nat_lt other number))
    ∙ sym (find-append (covers_of group) (filter (nat_lt number) (numbers_in group)) (filter (λ other. nat_lt other number) (numbers_in group)))
  where
    same : (q : ℕ → Bool) → find (covers_in kept) (filter q (numbers_in group)) ≡ find (covers_of group) (filter q (numbers_in group))
    same q = find_same_in (covers_in kept) (covers_of group) q group.first (length group.owners.items) (λ k below. covers_same group kept (group.first + k) keeps (one_of group kept k keeps below))

-- found by going over the nodes after one, and then those before
pub successor_found : (group : Group) (number : ℕ) → IsIn group number → find (covers_of group) (others_of group number)
    ≡ option_or (find (covers_of group) (numbers_from (group.first + (number - group.first + 1)) (length group.owners.items - (number - group.first + 1)))) (find (covers_of group) (numbers_from (group.first + 0) (number - group.first - 0)))
successor_found group number is =
    let a : group.first + (number - group.first + 1) ≡ number + 1 = omega (arith, is.0) in
    let b : length group.owners.items - (number - group.first + 1) ≡ group.first + length group.owners.items - (number + 1) = omega (arith, is.0, is.1) in
    let d : group.first + 0 ≡ group.first = omega arith in
    let e : number - group.first - 0 ≡ number - group.first = omega arith in
    find-append (covers_of group) (filter (nat_lt number) (numbers_in group)) (filter (λ other. nat_lt other number) (numbers_in group))
    ∙ ap (λ (ns : List ℕ). option_or (find (covers_of group) ns) (find (covers_of group) (filter (λ other. nat_lt other number) (numbers_in group)))) (numbers_above group.first number (length group.owners.items) is.0)
    ∙ ap (λ (ns : List ℕ). option_or (find (covers_of group) (numbers_from (number + 1) (group.first + length group.owners.items - (number + 1)))) (find (covers_of group) ns)) (numbers_under group.first number (length group.owners.items) (number - group.first) (omega (arith, is.0)) (omega (arith, is.0, is.1)))
    ∙ ap (λ (k : ℕ). option_or (find (covers_of group) (numbers_from k (group.first + length group.owners.items - (number + 1)))) (find (covers_of group) (numbers_from group.first (number - group.first)))) (sym a)
    ∙ ap (λ (k : ℕ). option_or (find (covers_of group) (numbers_from (group.first + (number - group.first + 1)) k)) (find (covers_of group) (numbers_from group.first (number - group.first)))) (sym b)
    ∙ ap (λ (k : ℕ). option_or (find (covers_of group) (numbers_from (group.first + (number - group.first + 1)) (length group.owners.items - (number - group.first + 1)))) (find (covers_of group) (numbers_from k (number - group.first)))) (sym d)
    ∙ ap (λ (k : ℕ). option_or (find (covers_of group) (numbers_from (group.first + (number - group.first + 1)) (length group.owners.items - (number - group.first + 1)))) (find (covers_of group) (numbers_from (group.first + 0) k))) (sym e)

-- a successor is one of the nodes, and covers
pub successor_is_in : (kept : Kept) (number successor : ℕ) → successor_in kept number ≡ Some successor → IsNumberOf kept successor
successor_is_in kept number successor found = found_in (IsNumberOf kept) (covers_in kept) (others_after kept number) successor
    (all_joined (IsNumberOf kept) (filter (nat_lt number) (numbers_of kept)) (filter (λ other. nat_lt other number) (numbers_of kept)) (all_filter (IsNumberOf kept) (nat_lt number) (numbers_of kept) all) (all_filter (IsNumberOf kept) (λ other. nat_lt other number) (numbers_of kept) all)) found
  where
    all : AllByRecursion (IsNumberOf kept) (numbers_of kept)
    all = numbers_all (IsNumberOf kept) kept.first (length kept.nodes) (λ k below. (omega arith, omega arith))

pub successor_covers : (kept : Kept) (number successor : ℕ) → successor_in kept number ≡ Some successor → covers_in kept successor ≡ true
successor_covers kept number successor found = find_passes (covers_in kept) (others_after kept number) successor found

-- the buckets that a node owns
pub owned_is : (group : Group) (kept : Kept) (number : ℕ) → Keeps group kept → owned_of group number ≡ owned_in kept number
owned_is group kept number keeps =
    sym (ap (filter (λ bucket. owner_in kept bucket == number)) (numbers_same group kept keeps)
    ∙ filter_same (λ bucket. owner_in kept bucket == number) (λ bucket. owner_of group bucket == number) group.first (length group.owners.items) (λ k below. ap (λ (n : ℕ). n == number) (owner_same group kept (group.first + k) keeps)))

-- what a successor sends
pub taken_is : (group : Group) (kept : Kept) (number successor : ℕ) → Keeps group kept → successor_in kept number ≡ Some successor → taken_of group number successor ≡ sent_at_takeover number successor kept
taken_is group kept number successor keeps found =
    sym (ap (λ (ns : List ℕ). flat_map (again_in kept successor) (filter (λ bucket. owner_in kept bucket == number) ns)) (numbers_same group kept keeps)
    ∙ flat_filter_same (again_in kept successor) (again_of group successor) (λ bucket. owner_in kept bucket == number) (λ bucket. owner_of group bucket == number) group.first (length group.owners.items)
    (λ k below. ap (λ (ss : List Sent). if owner_in kept (group.first + k) == number then ss else []) (again_same group kept successor (group.first + k) keeps (successor_is_in kept number successor found) (successor_covers kept number successor found))
    ∙ ap (λ (n : ℕ). if n == number then again_of group successor (group.first + k) else []) (owner_same group kept (group.first + k) keeps)))

-- a takeover
pub keeps_taken : (old new : Group) (kept : Kept) (number successor : ℕ) → Keeps old kept → IsNumberOf kept number → successor_in kept number ≡ Some successor → new.first ≡ old.first → new.opened ≡ old.opened → new.acknowledged ≡ old.acknowledged → new.closed ≡ old.closed →
    new.owners.items ≡ map (λ owner. if owner == number then successor else owner) old.owners.items → new.buffers.items ≡ set old.buffers.items (number - old.first) None → HoldsNode None None kept → length new.buffers.items ≡ length old.buffers.items → Keeps new (with_takeover number successor kept)
keeps_taken old new kept number successor keeps is found first opened acknowledged closed owners buffers down count =
    keeps_moved old new kept nodes (map next kept.owners) keeps first opened acknowledged closed (owners ∙ ap (map next) keeps.owners) (length-map kept.owners next)
    (all_mapped (IsNumberOf kept) next kept.owners (each kept.owners keeps.owners_in)) (nodes_count kept.first number 0 None kept.nodes) count
    (λ k b s at_b at_s. moved_nodes b s (with_since number None kept) nodes (map next kept.owners) refl
    (set_holds old.buffers.items kept number None None keeps.nodes is keeps.count down k b s (ap (λ (bs : List (Option BucketBuffer)). slice_get bs k) (sym (buffers ∙ ap (λ (f : ℕ). set old.buffers.items (number - f) None) keeps.first)) ∙ at_b) at_s))
  where
    nodes : List (Option ℕ)
    nodes = map (λ numbered. if kept.first + numbered.0 == number then None else numbered.1) (enumerate_from 0 kept.nodes)

    next : ℕ → ℕ
    next owner = if owner == number then successor else owner

    one : (t : Bool) (owner : ℕ) → IsNumberOf kept owner → IsNumberOf kept (if t then successor else owner)
    one true owner there = successor_is_in kept number successor found
    one false owner there = there

    each : (xs : List ℕ) → AllByRecursion (IsNumberOf kept) xs → AllByRecursion (λ owner. IsNumberOf kept (next owner)) xs
    each [] all = tt
    each (x ∷ xs) all = (one (x == number) x all.0, each xs all.1)
