-- What the node groups of a site represent.
use Rattle.std.specs.Prelude.{◌≡◌, ℕ, ◌+◌, ◌*◌, ◌-◌, ◌^◌, ◌<◌, ◌≤◌, ◌==◌, true, false, if◌then◌else◌, List, [], ◌∷◌, ◌++◌, length, map, nat_lt, get_or, Option, Some, None, unwrap_or}
use Rattle.std.specs.List.{find, flat_map, list_any}
use Rattle.rb_base.specs.declared.change.Change.{Change}
use Rattle.rb_base.specs.declared.message.Sent.{Sent}
use Rattle.rb_journal_defs.specs.Body.{in_bucket, numbers_below}
use Rattle.rb_message_defs.specs.Nodes as members
use Rattle.rb_message_defs.specs.Nodes.{Node, node_at, owner_in, covers, numbers_in, group_of, successor_of, owned_by}
use Rattle.rb_group.specs.Kept.{Kept, again_in}
use Rattle.rb_group.specs.Kept as group
use Rattle.rb_group.specs.Group.{Keeps}
use Rattle.rb_group.specs.declared.group.Group.{Group}
use Rattle.rb_group.specs.declared.answers.FailOutcome.{FailOutcome}
use Rattle.rb_group.specs.declared.answers.FailOutcome.TheVariants as outcomes
use Rattle.rb_group.specs.declared.answers.GroupFault.{GroupFault}
use Rattle.rb_group.specs.declared.answers.GroupFault.TheVariants as faults
use Rattle.rb_nodes.specs.declared.nodes.Nodes.{Nodes}

-- what was done at a site's nodes: the open epoch; the last acknowledged one, or 0; all changes of
-- each epoch; the closed epochs, each with the one closed before it, the oldest first; and the nodes
-- with the owners of the buckets
pub record Buffered : Type 0 where
  pub opened : ℕ
  pub acknowledged : ℕ
  pub changes : (epoch : ℕ) → List Change
  pub closes : List (ℕ × ℕ)
  pub members : members.Nodes

-- the needed epoch
abbrev pub needed_by : Buffered → ℕ
needed_by site = unwrap_or (find (nat_lt site.acknowledged) (map (λ close. close.0) site.closes)) site.opened

-- the first epoch that a node buffers, if it is up
abbrev pub since_of : Node → Option ℕ
since_of node = if node.up then Some node.since else None

-- what a group keeps of a bucket: its changes, if the bucket is one of the group's
abbrev pub kept_in : Buffered → (buckets number epoch bucket : ℕ) → List Change
kept_in site buckets number epoch bucket =
    if list_any (λ other. other == bucket) (numbers_in site.members number) then in_bucket buckets bucket (site.changes epoch) else []

-- the share of group `number`
abbrev pub share_of : (buckets : ℕ) → Buffered → (number : ℕ) → Kept
share_of buckets site number = record {
  first = number * site.members.replicas;
  opened = site.opened;
  acknowledged = Some site.acknowledged;
  changes = kept_in site buckets number;
  closes = site.closes;
  nodes = map (λ node. since_of (node_at site.members node)) (numbers_in site.members number);
  owners = map (owner_in site.members) (numbers_in site.members number);
}

-- a group represents its share
abbrev pub GroupHolds : (buckets : ℕ) → Buffered → (number : ℕ) → Group → Type 0
GroupHolds buckets site number group = Keeps group (share_of buckets site number)

-- each group represents its share
abbrev pub GroupsHold : (buckets : ℕ) → Buffered → List Group → Type 0
GroupsHold buckets site groups = (k : ℕ) (d : Group) → k < length groups → GroupHolds buckets site k (get_or groups k d)

-- the nodes of a site with this many buckets represent what was done
pub record HoldsNodes (nodes : Nodes) (buckets : ℕ) (site : Buffered) : Type 0 where
  pub buckets_are : nodes.buckets ≡ buckets
  pub replicas : nodes.replicas ≡ site.members.replicas
  pub some : 1 ≤ nodes.replicas
  pub count : length nodes.groups.items * nodes.replicas ≡ buckets
  pub members : length site.members.nodes ≡ buckets
  pub owners : length site.members.owners ≡ buckets
  pub groups : GroupsHold buckets site nodes.groups.items

-- each bucket's owner covers
abbrev pub OwnersCover : (buckets : ℕ) → Buffered → Type 0
OwnersCover buckets site = (bucket : ℕ) → bucket < buckets → covers (needed_by site) (node_at site.members (owner_in site.members bucket)) ≡ true

-- `groups` groups of `replicas` nodes each
abbrev pub HasNodes : (groups replicas : ℕ) → Nodes → Type 0
HasNodes groups replicas nodes = (length nodes.groups.items ≡ groups) × (nodes.replicas ≡ replicas)

-- the same number of groups, of the same number of nodes
abbrev pub SameGroups : (old new : Nodes) → Type 0
SameGroups old new = HasNodes (length old.groups.items) old.replicas new

-- the changes of each epoch can be counted in 32 bits
abbrev pub CanCount : Buffered → Type 0
CanCount site = (epoch : ℕ) → length (site.changes epoch) < 2 ^ 32

-- nothing was done yet: all nodes are up, and each owns the bucket of its number
abbrev pub nothing_done : (opened : ℕ) → members.Nodes → Buffered
nothing_done opened nodes = record { opened = opened; acknowledged = 0; changes = λ epoch. []; closes = []; members = nodes }

-- after more changes of the open epoch
abbrev pub with_changes : List Change → Buffered → Buffered
with_changes changes site = record site { changes = λ epoch. if site.opened == epoch then site.changes epoch ++ changes else site.changes epoch }

-- after the close of the open epoch, before which `prev` was closed; `next` opens
abbrev pub only_closed : (prev next : ℕ) → Buffered → Buffered
only_closed prev next site = record site { opened = next; closes = site.closes ++ (site.opened, prev) ∷ [] }

-- the same, with the buckets that return to their home nodes
abbrev pub with_close : (prev next : ℕ) → Buffered → Buffered
with_close prev next site =
    let after = only_closed prev next site in
    record after { members = members.with_returns (needed_by after) site.members }

-- with other nodes
abbrev pub with_members : members.Nodes → Buffered → Buffered
with_members nodes site = record site { members = nodes }

-- after all epochs up to one are acknowledged
abbrev pub with_acknowledged : (through : ℕ) → Buffered → Buffered
with_acknowledged through site = record site { acknowledged = through }

-- what the groups send at a close, group 0 first
abbrev pub sent_at_close : (buckets : ℕ) → Buffered → (prev next groups : ℕ) → List Sent
sent_at_close buckets site prev next groups =
    flat_map (λ number. group.sent_at_close prev next (share_of buckets site number)) (numbers_below groups)

-- what the owners resend, group 0 first
abbrev pub sent_at_resend : (buckets : ℕ) → Buffered → (groups : ℕ) → List Sent
sent_at_resend buckets site groups = flat_map (λ number. group.sent_at_resend (share_of buckets site number)) (numbers_below groups)

-- what the successor of a node sends when it takes over the node's buckets
abbrev pub sent_at_takeover : (buckets : ℕ) → Buffered → (node successor : ℕ) → List Sent
sent_at_takeover buckets site node successor =
    flat_map (again_in (share_of buckets site (group_of site.members node)) successor) (owned_by site.members node)

-- one more change fits, and its bucket's owner can send it
abbrev pub CanCommit : Nodes → Type 0
CanCommit nodes =
    (buckets : ℕ) × (site : Buffered) × HoldsNodes nodes buckets site × (0 < buckets) × OwnersCover buckets site × (length (site.changes site.opened) < 2 ^ 32 - 1)

-- this many more changes fit
abbrev pub CanSend : Nodes → List Change → Type 0
CanSend nodes changes =
    (buckets : ℕ) × (site : Buffered) × HoldsNodes nodes buckets site × (0 < buckets) × OwnersCover buckets site
    × (length (site.changes site.opened) + length changes < 2 ^ 32)

-- what a close needs
abbrev pub CanCloseAll : Nodes → (next : ℕ) → Type 0
CanCloseAll nodes next =
    (buckets : ℕ) × (site : Buffered) × HoldsNodes nodes buckets site × OwnersCover buckets site × CanCount site × (site.opened < next)

-- what a resend needs
abbrev pub CanResend : Nodes → Type 0
CanResend nodes = (buckets : ℕ) × (site : Buffered) × HoldsNodes nodes buckets site × OwnersCover buckets site × CanCount site

-- what the failure of a node needs
abbrev pub CanFail : Nodes → (node : ℕ) → Type 0
CanFail nodes node = (buckets : ℕ) × (site : Buffered) × HoldsNodes nodes buckets site × (node < buckets) × CanCount site

-- what the restart of a node needs
abbrev pub CanRestart : Nodes → (node : ℕ) → Type 0
CanRestart nodes node = (buckets : ℕ) × (site : Buffered) × HoldsNodes nodes buckets site × (node < buckets) × (site.opened < 2 ^ 64 - 1)

-- what an acknowledgement needs
abbrev pub CanAcknowledge : Nodes → (through : ℕ) → Type 0
CanAcknowledge nodes through =
    (buckets : ℕ) × (site : Buffered) × HoldsNodes nodes buckets site × (through < site.opened)

-- what a failure leaves, when `sent` messages were sent: a successor took over the buckets, or the
-- group is lost
abbrev pub FailsTo : (buckets : ℕ) → Buffered → (node sent : ℕ) → FailOutcome → (new : Nodes) → Type 0
FailsTo buckets site node sent (outcomes.Takeover count messages) new =
    (successor : ℕ) × (successor_of site.members (needed_by site) node ≡ Some successor) × (count ≡ length (owned_by site.members node))
    × (messages ≡ sent_at_takeover buckets site node successor)
    × HoldsNodes new buckets (with_members (members.with_owner node successor (members.with_failure node sent site.members)) site)
FailsTo buckets site node sent (outcomes.Lost group epoch) new =
    (successor_of site.members (needed_by site) node ≡ None) × (group ≡ group_of site.members node) × (epoch.0 ≡ needed_by site)
    × HoldsNodes new buckets (with_members (members.with_failure node sent site.members) site)

-- why a node does not fail
abbrev pub FailFault : Buffered → (node : ℕ) → GroupFault → Type 0
FailFault site node (faults.NodeDown other) = (other ≡ node) × ((node_at site.members node).up ≡ false)
FailFault site node (faults.NodeUp other) = ⊥
FailFault site node faults.NoMemory = Unit {0}

-- why a node does not restart
abbrev pub RestartFault : Buffered → (node : ℕ) → GroupFault → Type 0
RestartFault site node (faults.NodeDown other) = ⊥
RestartFault site node (faults.NodeUp other) = (other ≡ node) × ((node_at site.members node).up ≡ true)
RestartFault site node faults.NoMemory = Unit {0}
