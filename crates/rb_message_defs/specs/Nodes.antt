-- The data nodes of a site: which are up, from which epoch on each of them buffers, which node owns
-- each bucket, and what a new owner resends. All of it is this project's own.
use Rattle.std.specs.Prelude.{ℕ, ◌+◌, ◌*◌, ◌/◌, ◌==◌, nat_le, nat_lt, ◌&&◌, not, Bool, true, false, if◌then◌else◌, List, [], ◌∷◌, ◌++◌, map, filter, length, Option, unwrap_or}
use Rattle.std.specs.List.{enumerate_from, find, flat_map, list_any, slice_get}
use Rattle.std.specs.Option.{option_map_or}
use Rattle.rb_base.specs.declared.message.Message.{Message}
use Rattle.rb_base.specs.declared.message.Message.TheVariants.{Part}
use Rattle.rb_base.specs.declared.message.Sent.{Sent}
use Rattle.rb_journal_defs.specs.Journal.{Journal, closed_epochs}
use Rattle.rb_journal_defs.specs.Body.{Shape, part_of, numbers_below}
use Rattle.rb_journal_defs.specs.Clock.{first_epoch}
use Rattle.rb_message_defs.specs.Message.{done_message, home_node}

-- a node: whether it is up, the number from which on it buffers epochs, and how many messages the
-- site had sent when the node last failed
pub record Node : Type 0 where
  pub up : Bool
  pub since : ℕ
  pub failed_at : ℕ

-- a node that is up and buffers from this epoch on, and never failed
abbrev pub node_from : (since : ℕ) → Node
node_from since = record { up = true; since = since; failed_at = 0 }

-- a node that is down
abbrev pub down : Node
down = record { up = false; since = 0; failed_at = 0 }

-- the nodes of a site by their numbers, `replicas` in each group, and the owner of each bucket
pub record Nodes : Type 0 where
  pub replicas : ℕ
  pub nodes : List Node
  pub owners : List ℕ

-- the nodes of a new site, `groups` groups of `replicas` nodes: all are up, and each owns the
-- bucket with its number
abbrev pub nodes_at_first : (groups replicas : ℕ) → Nodes
nodes_at_first groups replicas = record {
  replicas = replicas;
  nodes = map (λ number. node_from first_epoch) (numbers_below (groups * replicas));
  owners = numbers_below (groups * replicas);
}

-- the node with this number
abbrev pub node_at : Nodes → (number : ℕ) → Node
node_at site number = unwrap_or (slice_get site.nodes number) down

-- the owner of a bucket
abbrev pub owner_in : Nodes → (bucket : ℕ) → ℕ
owner_in site bucket = unwrap_or (slice_get site.owners bucket) (home_node bucket)

-- the oldest epoch that may have to be resent: the first closed epoch that is not acknowledged, or
-- the open epoch if every closed one is acknowledged
abbrev pub needed_epoch : (acknowledged opened : ℕ) → Journal → ℕ
needed_epoch acknowledged opened journal = unwrap_or (find (nat_lt acknowledged) (closed_epochs journal)) opened

-- a node covers if it is up and buffers from the needed epoch on, or from an earlier one
abbrev pub covers : (needed : ℕ) → Node → Bool
covers needed node = node.up && nat_le node.since needed

-- the Parts of a bucket in an epoch, in the order of their places
abbrev pub part_messages : Shape → (epoch bucket : ℕ) → Journal → List Message
part_messages shape epoch bucket journal =
    map (λ numbered. Part bucket (record { 0 = epoch }) numbered.0 numbered.1) (enumerate_from 0 (part_of shape epoch bucket journal))

-- the messages of a bucket in a closed epoch: its Parts, and then its Done
abbrev pub messages_of : Shape → (bucket : ℕ) → Journal → (epoch : ℕ) → List Message
messages_of shape bucket journal epoch = part_messages shape epoch bucket journal ++ done_message shape epoch bucket journal ∷ []

-- the messages of a bucket that are not acknowledged: its messages of the closed epochs above the
-- acknowledged one, in order, and its Parts in the open epoch
abbrev pub unacknowledged : Shape → (acknowledged opened : ℕ) → Journal → (bucket : ℕ) → List Message
unacknowledged shape acknowledged opened journal bucket =
    flat_map (messages_of shape bucket journal) (filter (nat_lt acknowledged) (closed_epochs journal))
    ++ part_messages shape opened bucket journal

-- the messages of a bucket in the buffer of a node that buffers from `since` on: those of the
-- closed epochs from `since` on and above the acknowledged one, in order, and the Parts in the open
-- epoch if that is not below `since`
abbrev pub buffered : Shape → (since acknowledged opened : ℕ) → Journal → (bucket : ℕ) → List Message
buffered shape since acknowledged opened journal bucket =
    flat_map (messages_of shape bucket journal) (filter (λ epoch. nat_le since epoch && nat_lt acknowledged epoch) (closed_epochs journal))
    ++ (if nat_le since opened then part_messages shape opened bucket journal else [])

-- these messages as a node sends them
abbrev pub sent_from : (sender : ℕ) → List Message → List Sent
sent_from sender messages = map (λ message. record { sender = sender; message = message }) messages

-- the group of the node with this number, which is also the group of the bucket with this number
abbrev pub group_of : Nodes → (number : ℕ) → ℕ
group_of site number = number / site.replicas

-- the numbers of a group's nodes, in ascending order; they are also the numbers of its buckets
abbrev pub numbers_in : Nodes → (group : ℕ) → List ℕ
numbers_in site group = map (λ step. group * site.replicas + step) (numbers_below site.replicas)

-- the other nodes of a node's group, in cyclic order: those above the node, and then those below it
abbrev pub others_after : Nodes → (node : ℕ) → List ℕ
others_after site node =
    filter (nat_lt node) (numbers_in site (group_of site node)) ++ filter (λ other. nat_lt other node) (numbers_in site (group_of site node))

-- the node that takes over the buckets of a failed node: the next one in cyclic order that covers
abbrev pub successor_of : Nodes → (needed node : ℕ) → Option ℕ
successor_of site needed node = find (λ other. covers needed (node_at site other)) (others_after site node)

-- the buckets that a node owns, in ascending order
abbrev pub owned_by : Nodes → (node : ℕ) → List ℕ
owned_by site node = filter (λ bucket. owner_in site bucket == node) (numbers_below (length site.owners))

-- the nodes with this one in place of the node with its number
abbrev pub with_node : (number : ℕ) → Node → Nodes → Nodes
with_node number node site =
    record site { nodes = map (λ numbered. if numbered.0 == number then node else numbered.1) (enumerate_from 0 site.nodes) }

-- the nodes after one of them fails when `sent` messages have been sent; its buffer is lost
abbrev pub with_failure : (number sent : ℕ) → Nodes → Nodes
with_failure number sent site = with_node number (record { up = false; since = 0; failed_at = sent }) site

-- the nodes after one of them restarts while this epoch is open; its buffer is empty and begins
-- with the next epoch
abbrev pub with_restart : (number opened : ℕ) → Nodes → Nodes
with_restart number opened site = with_node number (record { up = true; since = opened + 1; failed_at = (node_at site number).failed_at }) site

-- the nodes after all buckets of one owner go to another
abbrev pub with_owner : (old new : ℕ) → Nodes → Nodes
with_owner old new site = record site { owners = map (λ owner. if owner == old then new else owner) site.owners }

-- a bucket returns to its home node at a close: another node owns it, and the home node covers
abbrev pub returns : Nodes → (needed bucket : ℕ) → Bool
returns site needed bucket = not (owner_in site bucket == home_node bucket) && covers needed (node_at site (home_node bucket))

-- the nodes after a close, at which such buckets have returned to their home nodes
abbrev pub with_returns : (needed : ℕ) → Nodes → Nodes
with_returns needed site =
    record site { owners = map (λ numbered. if returns site needed numbered.0 then home_node numbered.0 else numbered.1) (enumerate_from 0 site.owners) }

-- the message at this place is lost: it was among the messages sent when its sender last failed
abbrev pub is_gone : (failed_at : ℕ → ℕ) → List Sent → (place : ℕ) → Bool
is_gone failed_at sent place = option_map_or (λ message. nat_lt place (failed_at message.sender)) (slice_get sent place) false

-- the places of the messages that were never delivered and are not lost, in ascending order
abbrev pub waiting_places : (failed_at : ℕ → ℕ) → (sent : List Sent) → (delivered : List ℕ) → List ℕ
waiting_places failed_at sent delivered =
    filter (λ place. not (list_any (λ other. other == place) delivered) && not (is_gone failed_at sent place)) (numbers_below (length sent))
