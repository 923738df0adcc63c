use Rattle.std.proofs.Common.{◌≡◌, ◌-◌}
use Rattle.rb_rows.specs.Rows.{status}
use Rattle.rb_rows.proofs.RowLaws.{IsItems}
use Rattle.rb_rows.proofs.read.status.read_status_rows.Given as goal

-- the rows so far
abbrev pub invariant-loop-alloc : goal.invariant-loop-alloc
invariant-loop-alloc l = record {
  part : IsItems (status l.table) l.initial.fields.bytes.now l.initial.fields.at l.rows l.fields.at;
  bytes : l.fields.bytes ≡ l.initial.fields.bytes;
}

abbrev pub decreases-loop-alloc : goal.decreases-loop-alloc
decreases-loop-alloc l = l.end - l.fields.at
