use Rattle.std.proofs.Common.{◌≡◌, ◌-◌}
use Rattle.rb_rows.specs.Rows.{change_in}
use Rattle.rb_rows.proofs.RowLaws.{IsItems}
use Rattle.rb_rows.proofs.read.rows.read_changes.Given as goal

-- the changes so far
abbrev pub invariant-loop-alloc : goal.invariant-loop-alloc
invariant-loop-alloc l = record {
  part : IsItems (change_in l.kind l.server l.table l.transid) l.initial.fields.bytes.now l.initial.fields.at l.changes l.fields.at;
  bytes : l.fields.bytes ≡ l.initial.fields.bytes;
}

abbrev pub decreases-loop-alloc : goal.decreases-loop-alloc
decreases-loop-alloc l = l.end - l.fields.at
