use Rattle.std.proofs.Common.{◌≡◌, map}
use Rattle.rb_group.specs.Nodes.{numbers_from, done_of}
use Rattle.rb_group.proofs.group.Group.dones.Given as goal

-- the Dones of the buckets so far
abbrev pub invariant-loop-index : goal.invariant-loop-index
invariant-loop-index l = l.sent.items ≡ map (done_of l.self l.prev) (numbers_from l.self.first l.index)
