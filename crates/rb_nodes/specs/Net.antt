-- The data nodes of a site with the messages that they sent, and what each event leaves of them.
use Rattle.std.specs.Prelude.{◌≡◌, ℕ, ◌+◌, ◌*◌, ◌/◌, ◌-◌, ◌^◌, ◌<◌, max, List, [], ◌∷◌, ◌++◌, length, map, true, false, Option, Some, None}
use Rattle.std.specs.List.{flat_map, slice_get}
use Rattle.std.specs.Option.{option_map, option_map_or, option_and_then}
use Rattle.rb_base.specs.declared.epoch.Epoch.{Epoch}
use Rattle.rb_base.specs.declared.change.Change.{Change}
use Rattle.rb_base.specs.declared.message.Sent.{Sent}
use Rattle.rb_message_defs.specs.Message.{parts_sent, sent_by}
use Rattle.rb_message_defs.specs.Nodes as members
use Rattle.rb_message_defs.specs.Nodes.{nodes_at_first, node_at, owner_in, group_of, successor_of, owned_by, with_failure, with_restart, with_owner, waiting_places}
use Rattle.rb_bucket.specs.declared.bucket.BucketBuffer.{BucketBuffer}
use Rattle.rb_group.specs.Nodes.{buffer_of}
use Rattle.rb_group.specs.declared.answers.GroupFault.{GroupFault}
use Rattle.rb_group.specs.declared.answers.GroupFault.TheVariants as faults
use Rattle.rb_nodes.specs.Nodes.{Buffered, HoldsNodes, OwnersCover, CanCount, nothing_done, needed_by, with_changes, with_close, with_members, with_acknowledged, sent_at_close, sent_at_resend, sent_at_takeover}
use Rattle.rb_nodes.specs.Outbox as outbox
use Rattle.rb_nodes.specs.Outbox.{HoldsSent, nodes_in}
use Rattle.rb_nodes.specs.declared.site_nodes.SiteNodes.{SiteNodes}
use Rattle.rb_nodes.specs.declared.answers.NodeFailure.{NodeFailure}
use Rattle.rb_nodes.specs.declared.answers.NodeFailure.TheVariants as failures

-- what was done at a site's nodes; all messages that they sent, and the places of those that were
-- delivered; and the lost group, if one is lost, with the epoch that was needed when it was lost
pub record Net : Type 0 where
  pub buffered : Buffered
  pub sent : List Sent
  pub delivered : List ℕ
  pub lost : Option (ℕ × ℕ)

-- how many messages had been sent when a node last failed
abbrev pub failed_in : Net → (node : ℕ) → ℕ
failed_in net node = (node_at net.buffered.members node).failed_at

-- the places of the messages that were never delivered and whose sender has not failed since
abbrev pub waiting_in : Net → List ℕ
waiting_in net = waiting_places (failed_in net) net.sent net.delivered

-- the number of a site's buckets, as many as its nodes
abbrev pub buckets_in : SiteNodes → ℕ
buckets_in nodes = nodes.nodes.buckets

-- the number of its node groups
abbrev pub groups_in : SiteNodes → ℕ
groups_in nodes = length nodes.nodes.groups.items

-- the number of nodes in each group
abbrev pub replicas_in : SiteNodes → ℕ
replicas_in nodes = nodes.nodes.replicas

-- the number of messages that were sent
abbrev pub count_in : SiteNodes → ℕ
count_in nodes = outbox.count_in nodes.outbox

-- the lost group, if one is lost
abbrev pub lost_in : SiteNodes → Option (ℕ × Epoch)
lost_in nodes = nodes.lost

-- the same, with the number of the needed epoch
abbrev pub loss_of : Option (ℕ × Epoch) → Option (ℕ × ℕ)
loss_of lost = option_map (λ loss. (loss.0, loss.1.0)) lost

-- the buffer of a node that is up
abbrev pub buffer_at : SiteNodes → (node : ℕ) → Option BucketBuffer
buffer_at nodes node = option_and_then (λ group. buffer_of group node) (slice_get nodes.nodes.groups.items (node / nodes.nodes.replicas))

-- `groups` groups of `replicas` nodes each
abbrev pub HasGroups : (groups replicas : ℕ) → SiteNodes → Type 0
HasGroups groups replicas nodes = (groups_in nodes ≡ groups) × (replicas_in nodes ≡ replicas)

-- the same number of groups, of the same number of nodes
abbrev pub SameSize : (old new : SiteNodes) → Type 0
SameSize old new = HasGroups (groups_in old) (replicas_in old) new

-- the nodes of a site with this many buckets represent what was done and sent
pub record HoldsNet (nodes : SiteNodes) (buckets : ℕ) (net : Net) : Type 0 where
  pub groups : HoldsNodes nodes.nodes buckets net.buffered
  pub outbox : HoldsSent nodes.outbox net.sent net.delivered (failed_in net)
  pub senders : nodes_in nodes.outbox ≡ buckets
  pub lost : loss_of (lost_in nodes) ≡ net.lost

-- new nodes: nothing was done and nothing sent
abbrev pub new_net : (groups replicas opened : ℕ) → Net
new_net groups replicas opened = record {
  buffered = nothing_done opened (nodes_at_first groups replicas);
  sent = [];
  delivered = [];
  lost = None;
}

-- more messages were sent
abbrev pub with_sent : List Sent → Net → Net
with_sent messages net = record net { sent = net.sent ++ messages }

-- after a commit of changes in the open epoch: each bucket's owner sent a Part for each change
abbrev pub committed_net : (buckets : ℕ) → List Change → Net → Net
committed_net buckets changes net = record net {
  buffered = with_changes changes net.buffered;
  sent = net.sent ++ map (sent_by (owner_in net.buffered.members)) (parts_sent buckets net.buffered.opened (net.buffered.changes net.buffered.opened) changes);
}

-- after the close of the open epoch, before which `prev` was closed; `next` opens
abbrev pub closed_net : (buckets prev next : ℕ) → Net → Net
closed_net buckets prev next net = record net {
  buffered = with_close prev next net.buffered;
  sent = net.sent ++ sent_at_close buckets net.buffered prev next (buckets / net.buffered.members.replicas);
}

-- after a node failed and its successor took over its buckets and resent them
abbrev pub taken_over_net : (buckets node successor : ℕ) → Net → Net
taken_over_net buckets node successor net = record net {
  buffered = with_members (with_owner node successor (with_failure node (length net.sent) net.buffered.members)) net.buffered;
  sent = net.sent ++ sent_at_takeover buckets net.buffered node successor;
}

-- after a node failed in whose group no other node covers: the group is lost
abbrev pub lost_net : (node : ℕ) → Net → Net
lost_net node net = record net {
  buffered = with_members (with_failure node (length net.sent) net.buffered.members) net.buffered;
  lost = Some (group_of net.buffered.members node, needed_by net.buffered);
}

-- after the failure of a node that was up
abbrev pub failed_net : (buckets node : ℕ) → Net → Net
failed_net buckets node net =
    option_map_or (λ successor. taken_over_net buckets node successor net) (successor_of net.buffered.members (needed_by net.buffered) node) (lost_net node net)

-- what the failure did
abbrev pub failure_of : (node : ℕ) → Net → NodeFailure
failure_of node net =
    option_map_or (λ successor. failures.Takeover (length (owned_by net.buffered.members node))) (successor_of net.buffered.members (needed_by net.buffered) node)
    (failures.Lost (group_of net.buffered.members node) (record { 0 = needed_by net.buffered }))

-- after the restart of a node that was down
abbrev pub restarted_net : (node : ℕ) → Net → Net
restarted_net node net = record net { buffered = with_members (with_restart node net.buffered.opened net.buffered.members) net.buffered }

-- after each bucket's owner resent what is not acknowledged
abbrev pub resent_net : (buckets : ℕ) → Net → Net
resent_net buckets net = with_sent (sent_at_resend buckets net.buffered (buckets / net.buffered.members.replicas)) net

-- after the message at this place was delivered
abbrev pub delivered_net : (place : ℕ) → Net → Net
delivered_net place net = record net { delivered = place ∷ net.delivered }

-- after all epochs up to one are acknowledged, and at least those that already were
abbrev pub acknowledged_net : (through : ℕ) → Net → Net
acknowledged_net through net = record net { buffered = with_acknowledged (max net.buffered.acknowledged through) net.buffered }

-- this many more changes fit, and the owners of their buckets can send them
abbrev pub CanCommit : SiteNodes → List Change → Type 0
CanCommit nodes changes =
    (buckets : ℕ) × (net : Net) × HoldsNet nodes buckets net × (0 < buckets) × OwnersCover buckets net.buffered
    × (length (net.buffered.changes net.buffered.opened) + length changes < 2 ^ 32)

-- what a close needs
abbrev pub CanClose : SiteNodes → (next : ℕ) → Type 0
CanClose nodes next =
    (buckets : ℕ) × (net : Net) × HoldsNet nodes buckets net × OwnersCover buckets net.buffered × CanCount net.buffered × (net.buffered.opened < next)

-- what the failure of a node needs
abbrev pub CanFail : SiteNodes → (node : ℕ) → Type 0
CanFail nodes node = (buckets : ℕ) × (net : Net) × HoldsNet nodes buckets net × (node < buckets) × CanCount net.buffered

-- what the restart of a node needs
abbrev pub CanRestart : SiteNodes → (node : ℕ) → Type 0
CanRestart nodes node =
    (buckets : ℕ) × (net : Net) × HoldsNet nodes buckets net × (node < buckets) × (net.buffered.opened < 2 ^ 64 - 1)

-- what a resend needs
abbrev pub CanResend : SiteNodes → Type 0
CanResend nodes = (buckets : ℕ) × (net : Net) × HoldsNet nodes buckets net × OwnersCover buckets net.buffered × CanCount net.buffered

-- what an acknowledgement needs
abbrev pub CanAcknowledge : SiteNodes → (through : ℕ) → Type 0
CanAcknowledge nodes through = (buckets : ℕ) × (net : Net) × HoldsNet nodes buckets net × (through < net.buffered.opened)

-- why a node does not fail: it is down already, and the nodes are unchanged; or memory ran out
abbrev pub RefusesFailure : (node : ℕ) → (buckets : ℕ) → Net → (new : SiteNodes) → GroupFault → Type 0
RefusesFailure node buckets net new (faults.NodeDown other) = (other ≡ node) × ((node_at net.buffered.members node).up ≡ false) × HoldsNet new buckets net
RefusesFailure node buckets net new (faults.NodeUp other) = ⊥
RefusesFailure node buckets net new faults.NoMemory = Unit {0}
