use Rattle.std.proofs.Common.{◌≡◌, ℕ}
use Rattle.rb_nodes.specs.Nodes.{Buffered, HoldsNodes, sent_at_resend}
use Rattle.rb_nodes.proofs.nodes.Nodes.resend.Given as goal

-- what the groups below the index send is there
abbrev pub invariant-loop-group : goal.invariant-loop-group
invariant-loop-group l = record {
  told : (buckets : ℕ) (site : Buffered) → HoldsNodes l.self buckets site → l.sent.items ≡ sent_at_resend buckets site l.group-index;
}
