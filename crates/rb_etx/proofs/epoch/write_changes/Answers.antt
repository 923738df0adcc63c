use Rattle.std.proofs.Common.{◌+◌, ◌++◌, List, ℕ, length, drop, arith, length-append}
use Rattle.rb_log_defs.specs.Table.{columns_of}
use Rattle.rb_log_defs.specs.Rows.{change_event, end_flag, ends_statement}
use Rattle.rb_log_defs.specs.Epoch.{joined_from, change_events}
use Rattle.rb_etx.proofs.Steps.{change_left, one_within}
use Rattle.rb_etx.proofs.Whole.{with_one}
use Rattle.rb_etx.proofs.epoch.write_changes.Goals as goal

pub position-at-requires : goal.position-at-requires
position-at-requires c =
    let start = c.args.start in let server = c.args.server in let tables = c.args.tables.now in let changes = c.args.changes.now in
    let written = c.loop-index.out.items in let i = c.loop-index.index in let change = c.index-changes-index.result in
    let total : List ℕ = c.args.out.now.items ++ joined_from (start + length c.args.out.now.items) (change_events server tables changes) in
    omega (
      arith,
      one_within start written (change_event server (columns_of tables change.table) change (end_flag (ends_statement (drop (i + 1) changes)))) (change_events server tables (drop (i + 1) changes)) total
          (omega (arith, length-append c.args.out.now.items (joined_from (start + length c.args.out.now.items) (change_events server tables changes)), c.requires.fits))
          (change_left start server written tables changes i change total (omega arith) c.index-changes-index.is c.loop-index.invariant),
    )

pub write_change-requires-clause-fits : goal.write_change-requires-clause-fits
write_change-requires-clause-fits c =
    let start = c.args.start in let server = c.args.server in let tables = c.args.tables.now in let changes = c.args.changes.now in
    let written = c.loop-index.out.items in let i = c.loop-index.index in let change = c.index-changes-index.result in
    let total : List ℕ = c.args.out.now.items ++ joined_from (start + length c.args.out.now.items) (change_events server tables changes) in
    rw (c.position-at.ensures, c.table_of-table.ensures.columns, c.is_last-last.ensures) (omega (
      arith,
      one_within start written (change_event server (columns_of tables change.table) change (end_flag (ends_statement (drop (i + 1) changes)))) (change_events server tables (drop (i + 1) changes)) total
          (omega (arith, length-append c.args.out.now.items (joined_from (start + length c.args.out.now.items) (change_events server tables changes)), c.requires.fits))
          (change_left start server written tables changes i change total (omega arith) c.index-changes-index.is c.loop-index.invariant),
    ))

pub loop-index-preserved : goal.loop-index-preserved
loop-index-preserved c =
    let start = c.args.start in let server = c.args.server in let tables = c.args.tables.now in let changes = c.args.changes.now in
    let written = c.loop-index.out.items in let i = c.loop-index.index in let change = c.index-changes-index.result in
    let total : List ℕ = c.args.out.now.items ++ joined_from (start + length c.args.out.now.items) (change_events server tables changes) in
    with_one start written c.write_change.new.out.items (change_event server (columns_of tables change.table) change (end_flag (ends_statement (drop (i + 1) changes)))) (change_events server tables (drop (i + 1) changes)) total
    c.position-at.result c.position-at.ensures (rw (c.table_of-table.ensures.columns, c.is_last-last.ensures) at c.in_ok-write_change.ensures)
    (change_left start server written tables changes i change total (omega arith) c.index-changes-index.is c.loop-index.invariant)
