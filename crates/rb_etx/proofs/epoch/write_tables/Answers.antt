use Rattle.std.proofs.Common.{◌+◌, ◌++◌, List, ℕ, length, map, drop, arith, length-append}
use Rattle.rb_log_defs.specs.Table.{table_map_event}
use Rattle.rb_log_defs.specs.Epoch.{joined_from}
use Rattle.rb_etx.proofs.Steps.{table_left, one_within}
use Rattle.rb_etx.proofs.epoch.write_tables.Goals as goal

pub position-at-requires : goal.position-at-requires
position-at-requires c =
    let start = c.args.start in let server = c.args.server in let tables = c.args.tables.now in let written = c.loop-table.out.items in
    let i = c.loop-table.table-index in let table = c.table-item.result in
    let total : List ℕ = c.args.out.now.items ++ joined_from (start + length c.args.out.now.items) (map (table_map_event server) tables) in
    omega (
      arith,
      one_within start written (table_map_event server table) (map (table_map_event server) (drop (i + 1) tables)) total
          (omega (arith, length-append c.args.out.now.items (joined_from (start + length c.args.out.now.items) (map (table_map_event server) tables)), c.requires.fits))
          (table_left start server written tables i table total (omega arith) c.table-item.is c.loop-table.invariant),
    )

pub write_table_map-requires-clause-fits : goal.write_table_map-requires-clause-fits
write_table_map-requires-clause-fits c =
    let start = c.args.start in let server = c.args.server in let tables = c.args.tables.now in let written = c.loop-table.out.items in
    let i = c.loop-table.table-index in let table = c.table-item.result in
    let total : List ℕ = c.args.out.now.items ++ joined_from (start + length c.args.out.now.items) (map (table_map_event server) tables) in
    rw c.position-at.ensures (omega (
      arith,
      one_within start written (table_map_event server table) (map (table_map_event server) (drop (i + 1) tables)) total
          (omega (arith, length-append c.args.out.now.items (joined_from (start + length c.args.out.now.items) (map (table_map_event server) tables)), c.requires.fits))
          (table_left start server written tables i table total (omega arith) c.table-item.is c.loop-table.invariant),
    ))
