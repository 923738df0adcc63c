use Rattle.std.proofs.Common.{◌≡◌, map, take}
use Rattle.std.specs.Prelude.{◌==◌, if◌then◌else◌}
use Rattle.rb_group.proofs.group.Group.owners_moved.Given as goal

-- the owners of the buckets so far
abbrev pub invariant-loop-index : goal.invariant-loop-index
invariant-loop-index l = l.owners.items ≡ map (λ owner. if owner == l.node then l.successor else owner) (take l.index l.self.owners.items)
