use Rattle.std.proofs.Common.{◌≡◌, ◌<◌, ◌≤◌, ℕ, length, get_or}
use Rattle.std.specs.Prelude.{max}
use Rattle.rb_group.specs.declared.group.Group.{Group}
use Rattle.rb_nodes.specs.Nodes.{Buffered, with_acknowledged, GroupHolds, HoldsNodes}
use Rattle.rb_nodes.proofs.nodes.Nodes.acknowledge.Given as goal

-- the groups below the index know it, and the others are unchanged
abbrev pub invariant-loop-index : goal.invariant-loop-index
invariant-loop-index l = record {
  replicas : l.self.replicas ≡ l.initial.self.replicas;
  buckets : l.self.buckets ≡ l.initial.self.buckets;
  count : length l.self.groups.items ≡ length l.initial.self.groups.items;
  todo : (k : ℕ) (d : Group) → l.index ≤ k → get_or l.self.groups.items k d ≡ get_or l.initial.self.groups.items k d;
  done : (buckets : ℕ) (site : Buffered) → HoldsNodes l.initial.self buckets site → (k : ℕ) (d : Group) → k < l.index → GroupHolds buckets (with_acknowledged (max site.acknowledged l.through.0) site) k (get_or l.self.groups.items k d);
}
