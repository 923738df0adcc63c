use Rattle.std.proofs.Common.{◌≡◌, ℕ, List, map, take, ◌++◌}
use Rattle.rb_base.specs.declared.message.Sent.{Sent}
use Rattle.rb_message_defs.specs.Message.{parts_sent, sent_by}
use Rattle.rb_message_defs.specs.Nodes.{owner_in}
use Rattle.rb_nodes.specs.Nodes.{Buffered, with_changes, HoldsNodes, SameGroups}
use Rattle.rb_nodes.specs.Outbox.{HoldsSent, nodes_in}
use Rattle.rb_nodes.proofs.sending.send_parts.Given as goal

-- the changes so far are buffered and sent
abbrev pub invariant-loop-change : goal.invariant-loop-change
invariant-loop-change l = record {
  nodes : (buckets : ℕ) (site : Buffered) → HoldsNodes l.fn.nodes buckets site → HoldsNodes l.nodes buckets (with_changes (take l.change-index l.changes) site);
  sent : (buckets : ℕ) (site : Buffered) (sent : List Sent) (delivered : List ℕ) (failed_at : ℕ → ℕ) → HoldsNodes l.fn.nodes buckets site → HoldsSent l.initial.outbox sent delivered failed_at →
      HoldsSent l.outbox (sent ++ map (sent_by (owner_in site.members)) (parts_sent buckets site.opened (site.changes site.opened) (take l.change-index l.changes))) delivered failed_at;
  senders : nodes_in l.outbox ≡ nodes_in l.initial.outbox;
  groups : SameGroups l.fn.nodes l.nodes;
}
