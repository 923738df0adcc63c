use Rattle.std.proofs.Common.{◌≡◌}
use Rattle.std.specs.List.{flat_map}
use Rattle.rb_group.specs.Nodes.{numbers_from, again_of, owner_of}
use Rattle.rb_group.proofs.group.Group.again.Given as goal

-- what the owners of the buckets so far resend
abbrev pub invariant-loop-index : goal.invariant-loop-index
invariant-loop-index l = l.sent.items ≡ flat_map (λ bucket. again_of l.self (owner_of l.self bucket) bucket) (numbers_from l.self.first l.index)
