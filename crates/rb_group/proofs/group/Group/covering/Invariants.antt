use Rattle.std.proofs.Common.{◌≡◌, ◌+◌, ◌-◌, ◌≤◌}
use Rattle.std.specs.List.{find}
use Rattle.rb_group.specs.Nodes.{covers_of, numbers_from}
use Rattle.rb_group.proofs.group.Group.covering.Given as goal

-- none of the nodes so far covers
abbrev pub invariant-loop-index : goal.invariant-loop-index
invariant-loop-index l = record {
  low : l.from ≤ l.index;
  high : l.index ≤ l.until;
  rest : find (covers_of l.self) (numbers_from (l.self.first + l.from) (l.until - l.from)) ≡ find (covers_of l.self) (numbers_from (l.self.first + l.index) (l.until - l.index));
}
