use Rattle.std.proofs.Common.{◌+◌, ◌++◌, length, map, drop}
use Rattle.rb_log_defs.specs.Table.{table_map_event}
use Rattle.rb_log_defs.specs.Epoch.{joined_from}
use Rattle.rb_log_defs.proofs.Joined.{IsLeft}
use Rattle.rb_etx.proofs.epoch.write_tables.Given as goal

-- the maps of the tables from here on remain
abbrev pub invariant-loop-table : goal.invariant-loop-table
invariant-loop-table l = IsLeft l.start l.out.items (map (table_map_event l.server) (drop l.table-index l.tables))
    (l.fn.out.items ++ joined_from (l.start + length l.fn.out.items) (map (table_map_event l.server) l.tables))
