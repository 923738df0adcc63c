use Rattle.std.proofs.Common.{◌≡◌, ◌≤◌, ◌*◌, length, take}
use Rattle.rb_log_defs.specs.Table.{all_metadata}
use Rattle.rb_etx.proofs.size.metadata_size.Given as goal

-- the length of the metadata so far
abbrev pub invariant-loop-column : goal.invariant-loop-column
invariant-loop-column l = record {
  size : l.size ≡ length (all_metadata (take l.column-index l.columns));
  most : l.size ≤ 2 * l.column-index;
}
