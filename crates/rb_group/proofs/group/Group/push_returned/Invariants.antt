use Rattle.std.proofs.Common.{◌≡◌, ◌++◌, filter}
use Rattle.std.specs.List.{flat_map}
use Rattle.rb_group.specs.Nodes.{numbers_from, again_of, returns_of}
use Rattle.rb_group.proofs.group.Group.push_returned.Given as goal

-- what the home nodes of the buckets so far resend
abbrev pub invariant-loop-index : goal.invariant-loop-index
invariant-loop-index l = l.sent.items ≡ l.initial.sent.items ++ flat_map (λ bucket. again_of l.self bucket bucket) (filter (returns_of l.self) (numbers_from l.self.first l.index))
