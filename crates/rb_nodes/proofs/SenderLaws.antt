-- Who sends is one of the site's nodes.
use Rattle.std.proofs.Common.{◌≡◌, ℕ, ◌+◌, ◌*◌, ◌<◌, List, [], ◌∷◌, ◌++◌, length, map, filter, sym, ap, subst}
use Rattle.std.specs.Prelude.{Some}
use Rattle.std.specs.List.{AllByRecursion, flat_map}
use Rattle.rb_base.specs.declared.message.Sent.{Sent}
use Rattle.rb_journal_defs.specs.Body.{numbers_below}
use Rattle.rb_message_defs.specs.Nodes.{numbers_in, group_of, successor_of, owned_by}
use Rattle.rb_message_defs.proofs.Messages.{all_below, all_joined, all_mapped, all_more}
use Rattle.rb_message_defs.proofs.Again.{all_flat}
use Rattle.rb_message_defs.proofs.Places.{both_of, filtered_below}
use Rattle.rb_message_defs.proofs.Groups.{IsOf, numbers_are}
use Rattle.rb_message_defs.proofs.Parts.{from_sender}
use Rattle.rb_group.specs.Kept as group
use Rattle.rb_group.specs.Kept.{Kept, numbers_of, done_in, again_in, returns_in, unacknowledged_in}
use Rattle.rb_nodes.specs.Nodes.{Buffered, needed_by, share_of, HoldsNodes, sent_at_close, sent_at_resend, sent_at_takeover}
use Rattle.rb_nodes.specs.declared.nodes.Nodes.{Nodes}
use Rattle.rb_nodes.proofs.NodeLaws.{share_count}
use Rattle.rb_nodes.proofs.PlaceLaws.{numbers_below_all, owner_below, successor_below}
use Rattle.rb_nodes.proofs.ShareLaws.{owner_share}

-- the numbers of a share are those of its group
pub numbers_share : (buckets : ℕ) (site : Buffered) (number : ℕ) → numbers_of (share_of buckets site number) ≡ numbers_in site.members number
numbers_share buckets site number = ap (λ (n : ℕ). map (λ step. number * site.members.replicas + step) (numbers_below n)) (share_count buckets site number)

-- the owners of a group's buckets are nodes of the site
owners_below : (nodes : Nodes) (buckets : ℕ) (site : Buffered) (number : ℕ) → HoldsNodes nodes buckets site → number < length nodes.groups.items →
    AllByRecursion (λ bucket. group.owner_in (share_of buckets site number) bucket < buckets) (numbers_in site.members number)
owners_below nodes buckets site number held within =
    all_more (λ bucket. IsOf site.members.replicas number bucket × (bucket < buckets)) (λ bucket. group.owner_in (share_of buckets site number) bucket < buckets) (numbers_in site.members number) one
    (both_of (IsOf site.members.replicas number) (λ bucket. bucket < buckets) (numbers_in site.members number) (numbers_are site.members number) (numbers_below_all nodes buckets site number held within))
  where
    one : (bucket : ℕ) → IsOf site.members.replicas number bucket × (bucket < buckets) → group.owner_in (share_of buckets site number) bucket < buckets
    one bucket is =
        let same = owner_share buckets site number bucket is.0.0 is.0.1 in
        let below = owner_below nodes buckets site bucket held is.1 in
        subst (λ (owner : ℕ). owner < buckets) (sym same) below

-- what is resent by senders below a number
again_senders : (kept : Kept) (most : ℕ) (sender : ℕ → ℕ) (buckets : List ℕ) → AllByRecursion (λ bucket. sender bucket < most) buckets → AllByRecursion (λ m. m.sender < most) (flat_map (λ bucket. again_in kept (sender bucket) bucket) buckets)
again_senders kept most sender [] below = tt
again_senders kept most sender (bucket ∷ buckets) below =
    all_joined (λ (m : Sent). m.sender < most) (again_in kept (sender bucket) bucket) (flat_map (λ b. again_in kept (sender b) b) buckets)
    (from_sender most (sender bucket) (unacknowledged_in kept bucket) below.0)
    (again_senders kept most sender buckets below.1)

-- who sends at a close
pub closing_senders : (nodes : Nodes) (buckets : ℕ) (site : Buffered) (prev next : ℕ) → HoldsNodes nodes buckets site → AllByRecursion (λ m. m.sender < buckets) (sent_at_close buckets site prev next (length nodes.groups.items))
closing_senders nodes buckets site prev next held =
    all_flat (λ (m : Sent). m.sender < buckets) (λ number. group.sent_at_close prev next (share_of buckets site number)) (numbers_below (length nodes.groups.items))
    (all_below (length nodes.groups.items) one)
  where
    done : ℕ → ℕ → Sent
    done number bucket = record { sender = group.owner_in (share_of buckets site number) bucket; message = done_in (share_of buckets site number) bucket (site.opened, prev) }

    after : ℕ → Kept
    after number = group.only_closed prev next (share_of buckets site number)

    one : (number : ℕ) → number < length nodes.groups.items → AllByRecursion (λ (m : Sent). m.sender < buckets) (group.sent_at_close prev next (share_of buckets site number))
    one number within =
        subst (λ (numbers : List ℕ). AllByRecursion (λ (m : Sent). m.sender < buckets) (map (done number) numbers ++ flat_map (λ bucket. again_in (after number) bucket bucket) (filter (returns_in (after number)) numbers)))
        (sym (numbers_share buckets site number))
        (all_joined (λ (m : Sent). m.sender < buckets) (map (done number) (numbers_in site.members number))
        (flat_map (λ bucket. again_in (after number) bucket bucket) (filter (returns_in (after number)) (numbers_in site.members number)))
        (all_mapped (λ (m : Sent). m.sender < buckets) (done number) (numbers_in site.members number) (owners_below nodes buckets site number held within))
        (again_senders (after number) buckets (λ bucket. bucket) (filter (returns_in (after number)) (numbers_in site.members number))
        (filtered_below buckets (returns_in (after number)) (numbers_in site.members number) (numbers_below_all nodes buckets site number held within))))

-- who resends
pub resending_senders : (nodes : Nodes) (buckets : ℕ) (site : Buffered) → HoldsNodes nodes buckets site → AllByRecursion (λ m. m.sender < buckets) (sent_at_resend buckets site (length nodes.groups.items))
resending_senders nodes buckets site held =
    all_flat (λ (m : Sent). m.sender < buckets) (λ number. group.sent_at_resend (share_of buckets site number)) (numbers_below (length nodes.groups.items))
    (all_below (length nodes.groups.items) one)
  where
    one : (number : ℕ) → number < length nodes.groups.items → AllByRecursion (λ (m : Sent). m.sender < buckets) (group.sent_at_resend (share_of buckets site number))
    one number within =
        subst (λ (numbers : List ℕ). AllByRecursion (λ (m : Sent). m.sender < buckets) (flat_map (λ bucket. again_in (share_of buckets site number) (group.owner_in (share_of buckets site number) bucket) bucket) numbers))
        (sym (numbers_share buckets site number))
        (again_senders (share_of buckets site number) buckets (group.owner_in (share_of buckets site number)) (numbers_in site.members number) (owners_below nodes buckets site number held within))

-- who sends at a takeover
pub takeover_senders : (nodes : Nodes) (buckets : ℕ) (site : Buffered) (node successor : ℕ) → HoldsNodes nodes buckets site → node < buckets → successor_of site.members (needed_by site) node ≡ Some successor →
    AllByRecursion (λ m. m.sender < buckets) (sent_at_takeover buckets site node successor)
takeover_senders nodes buckets site node successor held below is =
    again_senders (share_of buckets site (group_of site.members node)) buckets (λ bucket. successor) (owned_by site.members node) (each (owned_by site.members node))
  where
    each : (owned : List ℕ) → AllByRecursion (λ (bucket : ℕ). successor < buckets) owned
    each [] = tt
    each (bucket ∷ owned) = (successor_below nodes buckets site (needed_by site) node successor held below is, each owned)
