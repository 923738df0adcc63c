use Rattle.std.proofs.Common.{◌≡◌, filter}
use Rattle.std.specs.Prelude.{◌==◌}
use Rattle.std.specs.List.{flat_map}
use Rattle.rb_group.specs.Nodes.{numbers_from, again_of, owner_of}
use Rattle.rb_group.proofs.group.Group.taken.Given as goal

-- what the successor sends of the buckets so far
abbrev pub invariant-loop-index : goal.invariant-loop-index
invariant-loop-index l = l.sent.items ≡ flat_map (again_of l.self l.successor) (filter (λ bucket. owner_of l.self bucket == l.node) (numbers_from l.self.first l.index))
