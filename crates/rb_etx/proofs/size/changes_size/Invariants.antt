use Rattle.std.proofs.Common.{◌≡◌, ◌≤◌, ◌*◌, take}
use Rattle.rb_etx.specs.Size.{changes_size}
use Rattle.rb_etx.proofs.size.changes_size.Given as goal

-- the length of the events so far
abbrev pub invariant-loop-change : goal.invariant-loop-change
invariant-loop-change l = record {
  size : l.size ≡ changes_size l.tables (take l.change-index l.changes);
  most : l.size ≤ 8388807 * l.change-index;
}
