use Rattle.std.proofs.Common.{◌≡◌, take}
use Rattle.rb_cluster.proofs.mapping.copy_tables.Given as goal

abbrev pub invariant-loop-table : goal.invariant-loop-table
invariant-loop-table l = record { so_far : l.copy ≡ take l.table-index l.tables }
