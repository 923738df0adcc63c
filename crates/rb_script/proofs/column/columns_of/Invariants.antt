use Rattle.std.proofs.Common.{◌≡◌, map, take}
use Rattle.rb_script.specs.Seen.{column_seen}
use Rattle.rb_script.proofs.column.columns_of.Given as goal

abbrev pub invariant-loop-column_type : goal.invariant-loop-column_type
invariant-loop-column_type l = l.columns.items ≡ map column_seen (take l.column_type-index l.types)
