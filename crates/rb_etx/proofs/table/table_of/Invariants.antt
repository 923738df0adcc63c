use Rattle.std.proofs.Common.{◌≡◌, drop}
use Rattle.rb_log_defs.specs.Table.{columns_of}
use Rattle.rb_etx.proofs.table.table_of.Given as goal

-- the table is among those from here on
abbrev pub invariant-loop-table : goal.invariant-loop-table
invariant-loop-table l = columns_of l.tables l.id ≡ columns_of (drop l.table-index l.tables) l.id
