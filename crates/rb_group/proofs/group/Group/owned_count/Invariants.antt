use Rattle.std.proofs.Common.{◌≡◌, ◌≤◌, length, filter}
use Rattle.std.specs.Prelude.{◌==◌}
use Rattle.rb_group.specs.Nodes.{numbers_from, owner_of}
use Rattle.rb_group.proofs.group.Group.owned_count.Given as goal

-- how many of the buckets so far it owns
abbrev pub invariant-loop-index : goal.invariant-loop-index
invariant-loop-index l = record {
  count : l.count ≡ length (filter (λ bucket. owner_of l.self bucket == l.node) (numbers_from l.self.first l.index));
  low : l.count ≤ l.index;
}
