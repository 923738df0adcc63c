use Rattle.std.proofs.Common.{◌≡◌, take}
use Rattle.rb_log_defs.specs.Table.{all_metadata}
use Rattle.rb_codec.proofs.table_map.metadata.Given as goal

-- the metadata of the columns so far
abbrev pub invariant-loop-column : goal.invariant-loop-column
invariant-loop-column l = l.metadata.items ≡ all_metadata (take l.column-index l.columns)
