-- What the nodes of a site represent after a commit.
use Rattle.std.proofs.Common.{◌≡◌, ◌≢◌, ℕ, zero, suc, ◌+◌, ◌*◌, ◌/◌, ◌<◌, ◌≤◌, Bool, true, false, List, [], ◌∷◌, ◌++◌, length, get_or, sym, ap, subst, ◌∙◌, inl, inr, arith, length-append}
use Rattle.std.specs.Prelude.{◌⊎◌, ◌==◌, ◌-◌, if◌then◌else◌}
use Rattle.std.specs.List.{insert, remove}
use Rattle.std.proofs.lemmas.List.{get_or_append_left}
use Rattle.std.proofs.Math.Seq.{get_or-append_seam}
use Rattle.std.proofs.lemmas.List.Edits.{get_or-remove_below, get_or-remove_above, get_or-insert_at, get_or-insert_below, get_or-insert_above}
use Rattle.std.proofs.lemmas.Grind.{common_steps}
use Rattle.rb_base.specs.Bucket.{bucket_number}
use Rattle.rb_base.specs.declared.change.Change.{Change}
use Rattle.rb_base.specs.declared.message.Message.TheVariants.{Part}
use Rattle.rb_base.specs.declared.message.Sent.{Sent}
use Rattle.rb_journal_defs.specs.Body.{in_bucket}
use Rattle.rb_journal_defs.proofs.Counts.{filter_length}
use Rattle.rb_message_defs.specs.Message.{part_message, sent_by}
use Rattle.rb_message_defs.specs.Nodes.{node_at, owner_in}
use Rattle.rb_message_defs.proofs.Places.{of_all, replaced_length, at_place, place_within}
use Rattle.rb_message_defs.proofs.Ranges.{at_number, among, none_among, numbers_long}
use Rattle.rb_message_defs.proofs.Groups.{IsIn, group_of_bucket, outside}
use Rattle.rb_journal_defs.proofs.Order.{eq_or_ne, lt_or_le}
use Rattle.rb_group.specs.Kept.{Kept, with_part, covers_in, owner_in as kept_owner}
use Rattle.rb_group.specs.Group.{Keeps, IsNumberOf, part_sent, CanCommit as CanCommitPart}
use Rattle.rb_group.specs.declared.group.Group.{Group}
use Rattle.rb_nodes.specs.Nodes.{Buffered, OwnersCover, since_of, kept_in, share_of, with_changes, GroupHolds, GroupsHold, HoldsNodes, CanCommit}
use Rattle.rb_nodes.specs.declared.nodes.Nodes.{Nodes}
use Rattle.rb_nodes.proofs.ShareLaws.{owner_share, covers_share}
use Rattle.rb_nodes.proofs.CommitLaws.{is_of_group, group_committed, group_beside}

-- the group of a bucket has it, and the others have not
pub of_its_group : (site : Buffered) (bucket number groups : ℕ) → IsIn bucket number site.members.replicas groups → is_of_group site number bucket ≡ true
of_its_group site bucket number groups is = among (number * site.members.replicas) site.members.replicas bucket is.from is.below

of_no_other : (site : Buffered) (bucket number k groups : ℕ) → IsIn bucket number site.members.replicas groups → k ≢ number → is_of_group site k bucket ≡ false
of_no_other site bucket number k groups is differs =
    none_among (k * site.members.replicas) site.members.replicas bucket (outside bucket number k site.members.replicas groups is differs)

-- the same number of groups after a commit
pub groups_stay : (nodes : Nodes) (bucket number : ℕ) (new : Group) (groups : List Group) → CanCommit nodes → bucket < nodes.buckets → number ≡ bucket / nodes.replicas → groups ≡ insert (remove nodes.groups.items number) number new → length groups ≡ length nodes.groups.items
groups_stay nodes bucket number new groups (buckets, site, held, some, cover, room) below at items =
    let own = held.buckets_are in
    let is = group_of_bucket bucket nodes.replicas (length nodes.groups.items) buckets held.some held.count (omega arith) in
    ap length items ∙ replaced_length nodes.groups.items number new (subst (λ (n : ℕ). n < length nodes.groups.items) (sym at) is.within)

-- the groups after a commit
groups_committed : (buckets : ℕ) (site : Buffered) (groups : List Group) (number bucket : ℕ) (new : Group) (c : Change) →
    IsIn bucket number site.members.replicas (length groups) → bucket ≡ bucket_number c.table c.key buckets →
    GroupsHold buckets site groups → Keeps new (with_part bucket c (share_of buckets site number)) →
    GroupsHold buckets (with_changes (c ∷ []) site) (insert (remove groups number) number new)
groups_committed buckets site groups number bucket new c is named held keeps = λ k d within. go k d (let n = replaced_length groups number new is.within in omega arith) (lt_or_le k number) (eq_or_ne k number)
  where
    other : (k : ℕ) (d : Group) → k < length groups → k ≢ number → GroupHolds buckets (with_changes (c ∷ []) site) k (get_or groups k d)
    other k d within differs = group_beside buckets site k bucket (get_or groups k d) c named (of_no_other site bucket number k (length groups) is differs) (held k d within)

    room : number ≤ length (remove groups number)
    room = let w = is.within in grind (arith, common_steps)

    go : (k : ℕ) (d : Group) → k < length groups → (k < number) ⊎ (number ≤ k) → (k ≡ number) ⊎ (k ≢ number) → GroupHolds buckets (with_changes (c ∷ []) site) k (get_or (insert (remove groups number) number new) k d)
    go k d within which (inl q) =
        subst (λ (n : ℕ). GroupHolds buckets (with_changes (c ∷ []) site) n (get_or (insert (remove groups number) number new) n d)) (sym q)
        (subst (GroupHolds buckets (with_changes (c ∷ []) site) number) (sym (get_or-insert_at (remove groups number) number new d room))
        (group_committed buckets site number bucket new c named (of_its_group site bucket number (length groups) is) keeps))
    go k d within (inl l) (inr differs) =
        subst (GroupHolds buckets (with_changes (c ∷ []) site) k)
        (sym (get_or-insert_below (remove groups number) number new d k l room ∙ get_or-remove_below groups number d k l is.within))
        (other k d within differs)
    go zero d within (inr l) (inr differs) = absurd (differs (omega arith))
    go (suc k) d within (inr l) (inr differs) =
        let one : k + 1 ≡ suc k = omega arith in
        subst (λ (n : ℕ). GroupHolds buckets (with_changes (c ∷ []) site) n (get_or (insert (remove groups number) number new) n d)) one
        (subst (GroupHolds buckets (with_changes (c ∷ []) site) (k + 1))
        (sym (get_or-insert_above (remove groups number) number new d k (omega arith) room ∙ get_or-remove_above groups number d k (omega arith) is.within))
        (other (k + 1) d (omega arith) (λ same. differs (omega arith))))

-- the group of a bucket
pub group_there : (nodes : Nodes) (buckets : ℕ) (site : Buffered) (bucket number : ℕ) (group : Group) → HoldsNodes nodes buckets site → bucket < nodes.buckets → number ≡ bucket / nodes.replicas → group ≡ get_or nodes.groups.items number group →
    GroupHolds buckets site number group × IsIn bucket number site.members.replicas (length nodes.groups.items)
group_there nodes buckets site bucket number group held below at there =
    let own = held.buckets_are in
    let is : IsIn bucket number nodes.replicas (length nodes.groups.items) = subst (λ (n : ℕ). IsIn bucket n nodes.replicas (length nodes.groups.items)) (sym at) (group_of_bucket bucket nodes.replicas (length nodes.groups.items) buckets held.some held.count (omega arith)) in
    (subst (GroupHolds buckets site number) (sym there) (held.groups number group is.within), subst (λ (r : ℕ). IsIn bucket number r (length nodes.groups.items)) held.replicas is)

-- the nodes after a commit
pub nodes_committed : (nodes next : Nodes) (buckets : ℕ) (site : Buffered) (bucket number : ℕ) (old new : Group) (c : Change) →
    HoldsNodes nodes buckets site → bucket < nodes.buckets → bucket ≡ bucket_number c.table c.key nodes.buckets → number ≡ bucket / nodes.replicas →
    old ≡ get_or nodes.groups.items number old →
    ((kept : Kept) → Keeps old kept → Keeps new (with_part bucket c kept)) →
    next.buckets ≡ nodes.buckets → next.replicas ≡ nodes.replicas → next.groups.items ≡ insert (remove nodes.groups.items number) number new →
    HoldsNodes next buckets (with_changes (c ∷ []) site)
nodes_committed nodes next buckets site bucket number old new c held below named at there keeps same_buckets same_replicas items =
    let own = held.buckets_are in
    let (group, is) = group_there nodes buckets site bucket number old held below at there in
    let named_here : bucket ≡ bucket_number c.table c.key buckets = named ∙ ap (bucket_number c.table c.key) own in
    let long : length next.groups.items ≡ length nodes.groups.items = ap length items ∙ replaced_length nodes.groups.items number new is.within in
    record {
      buckets_are = same_buckets ∙ own;
      replicas = same_replicas ∙ held.replicas;
      some = let s = held.some in omega arith;
      count = ap (λ (n : ℕ). n * next.replicas) long ∙ ap (λ (r : ℕ). length nodes.groups.items * r) same_replicas ∙ held.count;
      members = held.members;
      owners = held.owners;
      groups = subst (GroupsHold buckets (with_changes (c ∷ []) site)) (sym items)
          (groups_committed buckets site nodes.groups.items number bucket new c is named_here held.groups (keeps (share_of buckets site number) group));
    }

-- the nodes of a share are as many as the numbers of its group
pub share_count : (buckets : ℕ) (site : Buffered) (number : ℕ) → length (share_of buckets site number).nodes ≡ site.members.replicas
share_count buckets site number = numbers_long (λ node. since_of (node_at site.members node)) (number * site.members.replicas) site.members.replicas

-- a bucket's owner is of the bucket's group
pub owner_number : (buckets : ℕ) (site : Buffered) (number bucket groups : ℕ) (group : Group) → GroupHolds buckets site number group → IsIn bucket number site.members.replicas groups →
    IsNumberOf (share_of buckets site number) (owner_in site.members bucket)
owner_number buckets site number bucket groups group held is =
    of_all (IsNumberOf (share_of buckets site number)) (share_of buckets site number).owners (bucket - number * site.members.replicas) (owner_in site.members bucket) held.owners_in
    (at_number (owner_in site.members) (number * site.members.replicas) site.members.replicas bucket is.from is.below)

-- and covers in its share if it does at the site
pub owner_covers : (buckets : ℕ) (site : Buffered) (number bucket groups : ℕ) (group : Group) → GroupHolds buckets site number group → IsIn bucket number site.members.replicas groups → bucket < buckets → OwnersCover buckets site →
    covers_in (share_of buckets site number) (kept_owner (share_of buckets site number) bucket) ≡ true
owner_covers buckets site number bucket groups group held is below cover =
    let owner = owner_in site.members bucket in
    let its = owner_number buckets site number bucket groups group held is in
    let count = share_count buckets site number in
    ap (covers_in (share_of buckets site number)) (owner_share buckets site number bucket is.from is.below)
    ∙ covers_share buckets site number owner its.0 (let l = its.1 in omega arith)
    ∙ cover bucket below

-- the group of a change's bucket can commit it
pub can_commit : (nodes : Nodes) (bucket number : ℕ) (group : Group) → CanCommit nodes → bucket < nodes.buckets → number ≡ bucket / nodes.replicas → group ≡ get_or nodes.groups.items number group → CanCommitPart group bucket
can_commit nodes bucket number group (buckets, site, held, some, cover, room) below at there =
    let (here, is) = group_there nodes buckets site bucket number group held below at there in
    let own = held.buckets_are in
    let count = share_count buckets site number in
    let from = is.from in
    let most = is.below in
    let one : kept_in site buckets number site.opened bucket ≡ in_bucket buckets bucket (site.changes site.opened) = ap (λ (x : Bool). if x then in_bucket buckets bucket (site.changes site.opened) else []) (of_its_group site bucket number (length nodes.groups.items) is) in
    let few = filter_length (λ change. bucket_number change.table change.key buckets == bucket) (site.changes site.opened) in
    let many : length (kept_in site buckets number site.opened bucket) ≡ length (in_bucket buckets bucket (site.changes site.opened)) = ap length one in
    (share_of buckets site number, here, (from, omega arith), owner_covers buckets site number bucket (length nodes.groups.items) group here is (omega arith) cover, omega arith)

-- what the owner of a change's bucket sends
pub part_there : (nodes : Nodes) (buckets : ℕ) (site : Buffered) (bucket number : ℕ) (group : Group) (c : Change) (sent : Sent) → HoldsNodes nodes buckets site → bucket < nodes.buckets → bucket ≡ bucket_number c.table c.key nodes.buckets →
    number ≡ bucket / nodes.replicas → group ≡ get_or nodes.groups.items number group → ((kept : Kept) → Keeps group kept → sent ≡ part_sent kept bucket c) →
    sent ≡ sent_by (owner_in site.members) (part_message buckets site.opened (site.changes site.opened) c)
part_there nodes buckets site bucket number group c sent held below named at there is_sent =
    let (here, is) = group_there nodes buckets site bucket number group held below at there in
    let one : kept_in site buckets number site.opened bucket ≡ in_bucket buckets bucket (site.changes site.opened) = ap (λ (x : Bool). if x then in_bucket buckets bucket (site.changes site.opened) else []) (of_its_group site bucket number (length nodes.groups.items) is) in
    let named_here : bucket ≡ bucket_number c.table c.key buckets = named ∙ ap (bucket_number c.table c.key) held.buckets_are in
    is_sent (share_of buckets site number) here
    ∙ ap (λ (o : ℕ). record { sender = o; message = Part bucket (record { 0 = site.opened }) (length (kept_in site buckets number site.opened bucket)) c }) (owner_share buckets site number bucket is.from is.below)
    ∙ ap (λ (cs : List Change). record { sender = owner_in site.members bucket; message = Part bucket (record { 0 = site.opened }) (length cs) c }) one
    ∙ ap (λ (b : ℕ). record { sender = owner_in site.members b; message = Part b (record { 0 = site.opened }) (length (in_bucket buckets b (site.changes site.opened))) c }) named_here

-- one group more
pub group_more : (buckets : ℕ) (site : Buffered) (groups : List Group) (group : Group) → GroupsHold buckets site groups → GroupHolds buckets site (length groups) group → GroupsHold buckets site (groups ++ group ∷ [])
group_more buckets site groups group held is = λ k d within. go k d (let n = length-append groups (group ∷ []) in omega arith) (eq_or_ne k (length groups))
  where
    go : (k : ℕ) (d : Group) → k < length groups + 1 → (k ≡ length groups) ⊎ (k ≢ length groups) → GroupHolds buckets site k (get_or (groups ++ group ∷ []) k d)
    go k d within (inl q) =
        subst (λ (n : ℕ). GroupHolds buckets site n (get_or (groups ++ group ∷ []) n d)) (sym q)
        (subst (GroupHolds buckets site (length groups)) (sym (get_or-append_seam groups group [] d)) is)
    go k d within (inr differs) =
        subst (GroupHolds buckets site k) (sym (get_or_append_left groups (group ∷ []) d k (omega arith))) (held k d (omega arith))

pub group_here : (nodes : Nodes) (buckets : ℕ) (site : Buffered) (before rest after : List Group) (group : Group) → HoldsNodes nodes buckets site → nodes.groups.items ≡ before ++ rest → rest ≡ group ∷ after →
    GroupHolds buckets site (length before) group
group_here nodes buckets site before rest after group held whole is =
    subst (GroupHolds buckets site (length before)) (sym (at_place nodes.groups.items before rest after group group whole is))
    (held.groups (length before) group (place_within nodes.groups.items before rest after group whole is))
