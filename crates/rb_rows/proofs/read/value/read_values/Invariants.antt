use Rattle.std.proofs.Common.{◌≡◌, ◌≤◌, length, drop}
use Rattle.rb_rows.specs.Rows.{IsFirstLong}
use Rattle.rb_rows.proofs.RowLaws.{IsValues}
use Rattle.rb_rows.proofs.read.value.read_values.Given as goal

-- the values of the columns so far
abbrev pub invariant-loop-column : goal.invariant-loop-column
invariant-loop-column l = record {
  part : IsValues l.columns l.fn.key l.initial.fields.bytes.now l.initial.fields.at l.values (drop l.column-index l.columns) l.wanted l.fields.at;
  bytes : l.fields.bytes ≡ l.initial.fields.bytes;
  later : l.initial.fields.at ≤ l.fields.at;
  count : length l.values ≡ l.column-index;
  first : IsFirstLong l.columns l.values;
}
