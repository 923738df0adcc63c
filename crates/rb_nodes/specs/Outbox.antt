-- What an outbox represents.
use Rattle.std.specs.Prelude.{◌≡◌, ℕ, ◌<◌, ◌≤◌, not, List, filter, length, Some}
use Rattle.std.specs.List.{AllByRecursion, slice_get}
use Rattle.rb_base.specs.declared.message.Sent.{Sent}
use Rattle.rb_message_defs.specs.Nodes.{owner_in, is_gone, waiting_places}
use Rattle.rb_nodes.specs.Nodes.{Buffered, HoldsNodes}
use Rattle.rb_nodes.specs.declared.outbox.Outbox.{Outbox}
use Rattle.rb_nodes.specs.declared.nodes.Nodes.{Nodes}

-- the number of nodes that send
abbrev pub nodes_in : Outbox → ℕ
nodes_in outbox = length outbox.failed.items

-- the number of messages that were sent
abbrev pub count_in : Outbox → ℕ
count_in outbox = length outbox.sent.items

-- an outbox in which these messages were sent, and those at these places delivered; each node last
-- failed when this many messages had been sent
pub record HoldsSent (outbox : Outbox) (sent : List Sent) (delivered : List ℕ) (failed_at : ℕ → ℕ) : Type 0 where
  pub sent_is : outbox.sent.items ≡ sent
  pub failed_is : (node : ℕ) → node < length outbox.failed.items → slice_get outbox.failed.items node ≡ Some (failed_at node)
  pub senders : AllByRecursion (λ message. message.sender < length outbox.failed.items) sent
  pub failed_within : (node : ℕ) → failed_at node ≤ length sent
  pub waiting : filter (λ place. not (is_gone failed_at sent place)) outbox.waiting.keys ≡ waiting_places failed_at sent delivered
  pub within : AllByRecursion (λ place. place < length sent) outbox.waiting.keys
  pub below : AllByRecursion (λ place. place < length sent) delivered

-- the owners of the buckets are among the nodes that send
abbrev pub OwnersIn : Nodes → Outbox → Type 0
OwnersIn nodes outbox =
    (buckets : ℕ) (site : Buffered) → HoldsNodes nodes buckets site → (bucket : ℕ) → bucket < buckets → owner_in site.members bucket < nodes_in outbox
