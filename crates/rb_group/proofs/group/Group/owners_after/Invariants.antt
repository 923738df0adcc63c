use Rattle.std.proofs.Common.{◌≡◌, map}
use Rattle.rb_group.specs.Nodes.{numbers_from, owner_after}
use Rattle.rb_group.proofs.group.Group.owners_after.Given as goal

-- the owners of the buckets so far
abbrev pub invariant-loop-index : goal.invariant-loop-index
invariant-loop-index l = l.owners.items ≡ map (owner_after l.self) (numbers_from l.self.first l.index)
