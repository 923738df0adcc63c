use Rattle.std.proofs.Common.{◌≡◌, ◌++◌, drop}
use Rattle.std.specs.Io.{StartsWith}
use Rattle.rb_log_defs.specs.Rows.{values_bytes}
use Rattle.rb_rows.proofs.write.image.write_values.Given as goal

-- the bytes so far and those of the values from here on are all bytes
abbrev pub invariant-loop-index : goal.invariant-loop-index
invariant-loop-index l = record {
  whole : l.out.items ++ values_bytes (drop l.index l.columns) (drop l.index l.values) ≡ l.fn.out.items ++ values_bytes l.columns l.values;
  starts : StartsWith l.out.items l.fn.out.items;
}
