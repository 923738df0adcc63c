use Rattle.std.proofs.Common.{◌≡◌, ◌≤◌, ◌+◌, ◌*◌, length, drop}
use Rattle.rb_log_defs.specs.Rows.{values_bytes}
use Rattle.rb_rows.proofs.write.size.values_size.Given as goal

-- the length so far and that of the values from here on are the whole length
abbrev pub invariant-loop-index : goal.invariant-loop-index
invariant-loop-index l = record {
  whole : l.size + length (values_bytes (drop l.index l.columns) (drop l.index l.values)) ≡ length (values_bytes l.columns l.values);
  most : l.size ≤ 65537 * l.index;
}
