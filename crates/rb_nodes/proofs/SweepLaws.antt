-- What the nodes of a site represent after an event of all groups: a close, a resend, an
-- acknowledgement.
use Rattle.std.proofs.Common.{◌≡◌, ◌≢◌, ◌⊎◌, ℕ, ◌+◌, ◌*◌, ◌<◌, ◌≤◌, Bool, List, [], ◌∷◌, ◌++◌, length, map, set, get_or, sym, ap, subst, ◌∙◌, inl, inr, arith, length-append}
use Rattle.std.specs.Prelude.{◌==◌, ◌&&◌, not, if◌then◌else◌}
use Rattle.std.proofs.lemmas.List.{get_or-set_same, get_or-set_other}
use Rattle.rb_base.specs.declared.message.Sent.{Sent}
use Rattle.rb_journal_defs.proofs.Order.{eq_or_ne}
use Rattle.rb_message_defs.specs.Message.{home_node}
use Rattle.rb_message_defs.specs.Nodes.{owner_in, returns, with_returns}
use Rattle.rb_message_defs.proofs.Places.{numbered_count, place_within}
use Rattle.rb_message_defs.proofs.Ranges.{told_more}
use Rattle.rb_message_defs.proofs.Members.{owner_returned}
use Rattle.rb_group.specs.Kept as share
use Rattle.rb_group.specs.Kept.{Kept, returns_in, covers_in}
use Rattle.rb_group.specs.Group as called
use Rattle.rb_group.specs.Group.{Keeps, AllCover}
use Rattle.rb_group.specs.Nodes.{numbers_from}
use Rattle.rb_group.specs.declared.group.Group.{Group}
use Rattle.rb_group.proofs.Covering.{map_same}
use Rattle.rb_nodes.specs.Nodes.{Buffered, needed_by, share_of, only_closed, with_close, with_acknowledged, sent_at_close, sent_at_resend, GroupHolds, GroupsHold, HoldsNodes, OwnersCover, CanCloseAll, CanResend, CanAcknowledge}
use Rattle.rb_nodes.specs.declared.nodes.Nodes.{Nodes}
use Rattle.rb_nodes.proofs.ShareLaws.{owner_share, covers_share}
use Rattle.rb_nodes.proofs.NodeLaws.{share_count, owner_covers, group_here, group_more}
use Rattle.rb_nodes.proofs.MemberLaws.{fits_in}
use Rattle.rb_nodes.proofs.GroupLaws.{share_fits}

-- those that it has come to represent what they are to
pub done_groups : (buckets : ℕ) (site : Buffered) (now : List Group) (at : ℕ) (new : Group) → at < length now → ((k : ℕ) (d : Group) → k < at → GroupHolds buckets site k (get_or now k d)) → GroupHolds buckets site at new →
    (k : ℕ) (d : Group) → k < at + 1 → GroupHolds buckets site k (get_or (set now at new) k d)
done_groups buckets site now at new within done here k d below = go (eq_or_ne k at)
  where
    go : (k ≡ at) ⊎ (k ≢ at) → GroupHolds buckets site k (get_or (set now at new) k d)
    go (inl same) = subst (λ (n : ℕ). GroupHolds buckets site n (get_or (set now at new) n d)) (sym same) (subst (GroupHolds buckets site at) (sym (get_or-set_same now at new d within)) here)
    go (inr differs) = subst (GroupHolds buckets site k) (sym (get_or-set_other now at k new d differs)) (done k d (omega arith))

-- the group that a loop has come to
pub group_waits : (nodes : Nodes) (buckets : ℕ) (site : Buffered) (now : List Group) (at : ℕ) (group : Group) → HoldsNodes nodes buckets site → at < length nodes.groups.items →
    ((k : ℕ) (d : Group) → at ≤ k → get_or now k d ≡ get_or nodes.groups.items k d) → group ≡ get_or now at group → GroupHolds buckets site at group
group_waits nodes buckets site now at group held within todo there =
    subst (GroupHolds buckets site at) (sym (there ∙ todo at group (omega arith))) (held.groups at group within)

-- it can learn an acknowledgement
pub can_acknowledge : (nodes : Nodes) (through : ℕ) (now : List Group) (at : ℕ) (group : Group) → CanAcknowledge nodes through → at < length nodes.groups.items →
    ((k : ℕ) (d : Group) → at ≤ k → get_or now k d ≡ get_or nodes.groups.items k d) → group ≡ get_or now at group → called.CanAcknowledge group through
can_acknowledge nodes through now at group (buckets, site, held, below) within todo there =
    (share_of buckets site at, group_waits nodes buckets site now at group held within todo there, below)

-- the nodes after an acknowledgement
pub nodes_acknowledged : (nodes next : Nodes) (buckets : ℕ) (site : Buffered) (through : ℕ) → HoldsNodes nodes buckets site → next.buckets ≡ nodes.buckets → next.replicas ≡ nodes.replicas →
    length next.groups.items ≡ length nodes.groups.items → ((k : ℕ) (d : Group) → k < length next.groups.items → GroupHolds buckets (with_acknowledged through site) k (get_or next.groups.items k d)) →
    HoldsNodes next buckets (with_acknowledged through site)
nodes_acknowledged nodes next buckets site through held same_buckets same_replicas count groups = record {
  buckets_are = same_buckets ∙ held.buckets_are;
  replicas = same_replicas ∙ held.replicas;
  some = (let s = held.some in omega arith);
  count = ap (λ (n : ℕ). n * next.replicas) count ∙ ap (λ (r : ℕ). length nodes.groups.items * r) same_replicas ∙ held.count;
  members = held.members;
  owners = held.owners;
  groups = groups;
}

-- a bucket's owner covers at the site if it covers in its group
pub all_cover : (nodes : Nodes) (buckets : ℕ) (site : Buffered) (number : ℕ) (group : Group) → HoldsNodes nodes buckets site → OwnersCover buckets site → number < length nodes.groups.items → GroupHolds buckets site number group →
    AllCover (share_of buckets site number)
all_cover nodes buckets site number group held cover within here = λ bucket is.
    let count = share_count buckets site number in
    let from = is.0 in
    let below = is.1 in
    let fits = fits_in nodes buckets site number held within in
    owner_covers buckets site number bucket (length nodes.groups.items) group here (record { within = within; from = from; below = omega arith }) (omega arith) cover

-- a group can resend what is not acknowledged
pub can_resend : (nodes : Nodes) (number : ℕ) (group : Group) → CanResend nodes → number < length nodes.groups.items → group ≡ get_or nodes.groups.items number group → called.CanResend group
can_resend nodes number group (buckets, site, held, cover, count) within there =
    let here : GroupHolds buckets site number group = subst (GroupHolds buckets site number) (sym there) (held.groups number group within) in
    (share_of buckets site number, here, all_cover nodes buckets site number group held cover within here, share_fits buckets site number count)

-- what it sends is the next of all that is sent
pub resend_here : (nodes : Nodes) (buckets : ℕ) (site : Buffered) (number : ℕ) (group : Group) (before after messages : List Sent) → HoldsNodes nodes buckets site → number < length nodes.groups.items → group ≡ get_or nodes.groups.items number group →
    ((kept : Kept) → Keeps group kept → messages ≡ share.sent_at_resend kept) → before ≡ sent_at_resend buckets site number → after ≡ before ++ messages → after ≡ sent_at_resend buckets site (number + 1)
resend_here nodes buckets site number group before after messages held within there sends so_far more =
    more
    ∙ ap (λ (ss : List Sent). ss ++ messages) so_far
    ∙ ap (λ (ss : List Sent). sent_at_resend buckets site number ++ ss) (sends (share_of buckets site number) (subst (GroupHolds buckets site number) (sym there) (held.groups number group within)))
    ∙ sym (told_more (λ n. share.sent_at_resend (share_of buckets site n)) number)

-- a group can be closed
pub can_close_group : (nodes : Nodes) (next : ℕ) (before rest after : List Group) (group : Group) → CanCloseAll nodes next → nodes.groups.items ≡ before ++ rest → rest ≡ group ∷ after → called.CanClose group next
can_close_group nodes next before rest after group (buckets, site, held, cover, count, later) whole is =
    let number = length before in
    let here = group_here nodes buckets site before rest after group held whole is in
    (share_of buckets site number, here, all_cover nodes buckets site number group held cover (place_within nodes.groups.items before rest after group whole is) here, share_fits buckets site number count, later)

-- the owners of a group after a close are those of the site after it
owners_closed : (nodes : Nodes) (buckets : ℕ) (site : Buffered) (prev next number : ℕ) → HoldsNodes nodes buckets site → number < length nodes.groups.items →
    (share.with_close prev next (share_of buckets site number)).owners ≡ (share_of buckets (with_close prev next site) number).owners
owners_closed nodes buckets site prev next number held within =
    ap (λ (n : ℕ). map next_owner (numbers_from first n)) (share_count buckets site number)
    ∙ map_same next_owner (owner_in (with_returns needed site.members)) first site.members.replicas one
  where
    first : ℕ
    first = number * site.members.replicas

    after : Kept
    after = share.only_closed prev next (share_of buckets site number)

    needed : ℕ
    needed = needed_by (only_closed prev next site)

    next_owner : ℕ → ℕ
    next_owner bucket = if returns_in after bucket then home_node bucket else share.owner_in (share_of buckets site number) bucket

    one : (k : ℕ) → k < site.members.replicas → next_owner (first + k) ≡ owner_in (with_returns needed site.members) (first + k)
    one k below =
        let bucket = first + k in
        let many = held.owners in
        let room = fits_in nodes buckets site number held within in
        ap (λ (o : ℕ). if not (o == home_node bucket) && covers_in after (home_node bucket) then home_node bucket else o) (owner_share buckets site number bucket (omega arith) (omega arith))
        ∙ ap (λ (c : Bool). if not (owner_in site.members bucket == home_node bucket) && c then home_node bucket else owner_in site.members bucket) (covers_share buckets (only_closed prev next site) number bucket (omega arith) (omega arith))
        ∙ sym (owner_returned needed bucket site.members (omega arith))

-- a group that closed represents its share of the site that closed
group_closed : (nodes : Nodes) (buckets : ℕ) (site : Buffered) (prev next number : ℕ) (new : Group) → HoldsNodes nodes buckets site → number < length nodes.groups.items →
    Keeps new (share.with_close prev next (share_of buckets site number)) → GroupHolds buckets (with_close prev next site) number new
group_closed nodes buckets site prev next number new held within keeps =
    subst (λ (owners : List ℕ). Keeps new (record (share.only_closed prev next (share_of buckets site number)) { owners = owners })) (owners_closed nodes buckets site prev next number held within) keeps

-- one group more that closed
pub closed_more : (nodes : Nodes) (buckets : ℕ) (site : Buffered) (prev next : ℕ) (before rest after closed more : List Group) (old new : Group) → HoldsNodes nodes buckets site → nodes.groups.items ≡ before ++ rest → rest ≡ old ∷ after →
    length closed ≡ length before → GroupsHold buckets (with_close prev next site) closed → ((kept : Kept) → Keeps old kept → Keeps new (share.with_close prev next kept)) → more ≡ closed ++ new ∷ [] →
    GroupsHold buckets (with_close prev next site) more
closed_more nodes buckets site prev next before rest after closed more old new held whole is count so_far closes items =
    let number = length before in
    let within = place_within nodes.groups.items before rest after old whole is in
    subst (GroupsHold buckets (with_close prev next site)) (sym items)
    (group_more buckets (with_close prev next site) closed new so_far
    (subst (λ (n : ℕ). GroupHolds buckets (with_close prev next site) n new) (sym count)
    (group_closed nodes buckets site prev next number new held within (closes (share_of buckets site number) (group_here nodes buckets site before rest after old held whole is)))))

-- what it sends is the next of all that is sent
pub close_here : (nodes : Nodes) (buckets : ℕ) (site : Buffered) (prev next : ℕ) (before rest after : List Group) (group : Group) (so_far more messages : List Sent) → HoldsNodes nodes buckets site → nodes.groups.items ≡ before ++ rest → rest ≡ group ∷ after →
    ((kept : Kept) → Keeps group kept → messages ≡ share.sent_at_close prev next kept) → so_far ≡ sent_at_close buckets site prev next (length before) → more ≡ so_far ++ messages →
    more ≡ sent_at_close buckets site prev next (length (before ++ group ∷ []))
close_here nodes buckets site prev next before rest after group so_far more messages held whole is sends told items =
    items
    ∙ ap (λ (ss : List Sent). ss ++ messages) told
    ∙ ap (λ (ss : List Sent). sent_at_close buckets site prev next (length before) ++ ss) (sends (share_of buckets site (length before)) (group_here nodes buckets site before rest after group held whole is))
    ∙ sym (told_more (λ n. share.sent_at_close prev next (share_of buckets site n)) (length before))
    ∙ ap (sent_at_close buckets site prev next) (sym (length-append before (group ∷ [])))

-- the nodes after a close
pub nodes_closed : (nodes next : Nodes) (buckets : ℕ) (site : Buffered) (prev opens : ℕ) → HoldsNodes nodes buckets site → next.buckets ≡ nodes.buckets → next.replicas ≡ nodes.replicas →
    length next.groups.items ≡ length nodes.groups.items → GroupsHold buckets (with_close prev opens site) next.groups.items → HoldsNodes next buckets (with_close prev opens site)
nodes_closed nodes next buckets site prev opens held same_buckets same_replicas count groups = record {
  buckets_are = same_buckets ∙ held.buckets_are;
  replicas = same_replicas ∙ held.replicas;
  some = (let s = held.some in omega arith);
  count = ap (λ (n : ℕ). n * next.replicas) count ∙ ap (λ (r : ℕ). length nodes.groups.items * r) same_replicas ∙ held.count;
  members = held.members;
  owners = numbered_count (λ numbered. if returns site.members (needed_by (only_closed prev opens site)) numbered.0 then home_node numbered.0 else numbered.1) 0 site.members.owners ∙ held.owners;
  groups = groups;
}
