use Rattle.std.proofs.Common.{◌≡◌, ◌++◌, ℕ, length}
use Rattle.rb_nodes.specs.Nodes.{Buffered, with_close, sent_at_close, GroupsHold, HoldsNodes}
use Rattle.rb_nodes.proofs.nodes.Nodes.close.Given as goal

-- the groups so far are closed, and what they send is there
abbrev pub invariant-loop-group : goal.invariant-loop-group
invariant-loop-group l = record {
  whole : l.fn.self.groups.items ≡ l.yielded ++ l.group-iterator.rest.items;
  count : length l.groups.items ≡ length l.yielded;
  closed : (buckets : ℕ) (site : Buffered) → HoldsNodes l.fn.self buckets site → GroupsHold buckets (with_close l.prev.0 l.next.0 site) l.groups.items;
  told : (buckets : ℕ) (site : Buffered) → HoldsNodes l.fn.self buckets site → l.sent.items ≡ sent_at_close buckets site l.prev.0 l.next.0 (length l.yielded);
}
