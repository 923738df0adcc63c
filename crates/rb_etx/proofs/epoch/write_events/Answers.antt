use Rattle.std.proofs.Common.{◌+◌, [], length, map, codes, arith}
use Rattle.rb_log_defs.specs.Event.{query_event, xid_event}
use Rattle.rb_log_defs.specs.Table.{table_map_event, status_table}
use Rattle.rb_log_defs.specs.Rows.{status_event}
use Rattle.rb_log_defs.specs.Epoch.{change_events}
use Rattle.rb_log_defs.proofs.Sizes.{query_length, xid_length}
use Rattle.rb_etx.proofs.Steps.{one_within, more_within}
use Rattle.rb_etx.proofs.Whole.{after_begin, after_status_map, after_maps, after_status, after_changes, whole, whole_fits, at_start, left_1, left_2, left_3, left_4, left_5, none_left}
use Rattle.rb_etx.proofs.epoch.write_events.Goals as goal

pub write_query-requires : goal.write_query-requires
write_query-requires c =
    let body = c.args.body.now in let start = c.args.start in let old = c.args.out.now.items in
    let fits = whole_fits body start old c.requires.fits in
    rw c.position-at.ensures (omega (arith, one_within start old (query_event body.server (codes "BEGIN")) (after_begin body) (whole body start old) fits (at_start body start old), query_length body.server (codes "BEGIN") (start + length old)))

pub position-at-requires-2 : goal.position-at-requires-2
position-at-requires-2 c =
    let body = c.args.body.now in let start = c.args.start in let old = c.args.out.now.items in
    let fits = whole_fits body start old c.requires.fits in
    let first = left_1 body start old c.write_query.new.out.items c.position-at.result c.position-at.ensures c.in_ok-write_query.ensures.ok in
    omega (arith, one_within start c.write_query.new.out.items (table_map_event body.server status_table) (after_status_map body) (whole body start old) fits first)

pub write_table_map-requires-clause-fits : goal.write_table_map-requires-clause-fits
write_table_map-requires-clause-fits c =
    let body = c.args.body.now in let start = c.args.start in let old = c.args.out.now.items in
    let fits = whole_fits body start old c.requires.fits in
    let first = left_1 body start old c.write_query.new.out.items c.position-at.result c.position-at.ensures c.in_ok-write_query.ensures.ok in
    rw (c.position-at-2.ensures, c.in_ok-status.ensures) (omega (arith, one_within start c.write_query.new.out.items (table_map_event body.server status_table) (after_status_map body) (whole body start old) fits first))

pub write_tables-requires-clause-fits : goal.write_tables-requires-clause-fits
write_tables-requires-clause-fits c =
    let body = c.args.body.now in let start = c.args.start in let old = c.args.out.now.items in
    let fits = whole_fits body start old c.requires.fits in
    let first = left_1 body start old c.write_query.new.out.items c.position-at.result c.position-at.ensures c.in_ok-write_query.ensures.ok in
    let second = left_2 body start old c.write_query.new.out.items c.write_table_map.new.out.items c.in_ok-status.status c.position-at-2.result c.in_ok-status.ensures c.position-at-2.ensures c.in_ok-write_table_map.ensures.ok first in
    rw c.as_slice-tables.ensures (more_within start c.write_table_map.new.out.items (map (table_map_event body.server) body.tables) (after_maps body) (whole body start old) fits second)

pub position-at-requires-3 : goal.position-at-requires-3
position-at-requires-3 c =
    let body = c.args.body.now in let start = c.args.start in let old = c.args.out.now.items in
    let fits = whole_fits body start old c.requires.fits in
    let first = left_1 body start old c.write_query.new.out.items c.position-at.result c.position-at.ensures c.in_ok-write_query.ensures.ok in
    let second = left_2 body start old c.write_query.new.out.items c.write_table_map.new.out.items c.in_ok-status.status c.position-at-2.result c.in_ok-status.ensures c.position-at-2.ensures c.in_ok-write_table_map.ensures.ok first in
    let third = left_3 body start old c.write_table_map.new.out.items c.write_tables.new.out.items c.as_slice-tables.result.now c.as_slice-tables.ensures c.in_ok-write_tables.ensures second in
    omega (arith, one_within start c.write_tables.new.out.items (status_event body) (after_status body) (whole body start old) fits third)

pub write_status_event-requires : goal.write_status_event-requires
write_status_event-requires c =
    let body = c.args.body.now in let start = c.args.start in let old = c.args.out.now.items in
    let fits = whole_fits body start old c.requires.fits in
    let first = left_1 body start old c.write_query.new.out.items c.position-at.result c.position-at.ensures c.in_ok-write_query.ensures.ok in
    let second = left_2 body start old c.write_query.new.out.items c.write_table_map.new.out.items c.in_ok-status.status c.position-at-2.result c.in_ok-status.ensures c.position-at-2.ensures c.in_ok-write_table_map.ensures.ok first in
    let third = left_3 body start old c.write_table_map.new.out.items c.write_tables.new.out.items c.as_slice-tables.result.now c.as_slice-tables.ensures c.in_ok-write_tables.ensures second in
    rw c.position-at-3.ensures (omega (arith, one_within start c.write_tables.new.out.items (status_event body) (after_status body) (whole body start old) fits third))

pub write_changes-requires-clause-fits : goal.write_changes-requires-clause-fits
write_changes-requires-clause-fits c =
    let body = c.args.body.now in let start = c.args.start in let old = c.args.out.now.items in
    let fits = whole_fits body start old c.requires.fits in
    let first = left_1 body start old c.write_query.new.out.items c.position-at.result c.position-at.ensures c.in_ok-write_query.ensures.ok in
    let second = left_2 body start old c.write_query.new.out.items c.write_table_map.new.out.items c.in_ok-status.status c.position-at-2.result c.in_ok-status.ensures c.position-at-2.ensures c.in_ok-write_table_map.ensures.ok first in
    let third = left_3 body start old c.write_table_map.new.out.items c.write_tables.new.out.items c.as_slice-tables.result.now c.as_slice-tables.ensures c.in_ok-write_tables.ensures second in
    let fourth = left_4 body start old c.write_tables.new.out.items c.write_status_event.new.out.items c.position-at-3.result c.position-at-3.ensures c.in_ok-write_status_event.ensures third in
    rw (c.as_slice-tables.ensures, c.as_slice-changes.ensures) (more_within start c.write_status_event.new.out.items (change_events body.server body.tables body.changes) (after_changes body) (whole body start old) fits fourth)

pub position-at-requires-4 : goal.position-at-requires-4
position-at-requires-4 c =
    let body = c.args.body.now in let start = c.args.start in let old = c.args.out.now.items in
    let fits = whole_fits body start old c.requires.fits in
    let first = left_1 body start old c.write_query.new.out.items c.position-at.result c.position-at.ensures c.in_ok-write_query.ensures.ok in
    let second = left_2 body start old c.write_query.new.out.items c.write_table_map.new.out.items c.in_ok-status.status c.position-at-2.result c.in_ok-status.ensures c.position-at-2.ensures c.in_ok-write_table_map.ensures.ok first in
    let third = left_3 body start old c.write_table_map.new.out.items c.write_tables.new.out.items c.as_slice-tables.result.now c.as_slice-tables.ensures c.in_ok-write_tables.ensures second in
    let fourth = left_4 body start old c.write_tables.new.out.items c.write_status_event.new.out.items c.position-at-3.result c.position-at-3.ensures c.in_ok-write_status_event.ensures third in
    let fifth = left_5 body start old c.write_status_event.new.out.items c.write_changes.new.out.items c.as_slice-tables.result.now c.as_slice-changes.result.now c.as_slice-tables.ensures c.as_slice-changes.ensures c.in_ok-write_changes.ensures fourth in
    omega (arith, one_within start c.write_changes.new.out.items (xid_event body.server body.epoch.0) [] (whole body start old) fits fifth)

pub write_xid-requires : goal.write_xid-requires
write_xid-requires c =
    let body = c.args.body.now in let start = c.args.start in let old = c.args.out.now.items in
    let fits = whole_fits body start old c.requires.fits in
    let first = left_1 body start old c.write_query.new.out.items c.position-at.result c.position-at.ensures c.in_ok-write_query.ensures.ok in
    let second = left_2 body start old c.write_query.new.out.items c.write_table_map.new.out.items c.in_ok-status.status c.position-at-2.result c.in_ok-status.ensures c.position-at-2.ensures c.in_ok-write_table_map.ensures.ok first in
    let third = left_3 body start old c.write_table_map.new.out.items c.write_tables.new.out.items c.as_slice-tables.result.now c.as_slice-tables.ensures c.in_ok-write_tables.ensures second in
    let fourth = left_4 body start old c.write_tables.new.out.items c.write_status_event.new.out.items c.position-at-3.result c.position-at-3.ensures c.in_ok-write_status_event.ensures third in
    let fifth = left_5 body start old c.write_status_event.new.out.items c.write_changes.new.out.items c.as_slice-tables.result.now c.as_slice-changes.result.now c.as_slice-tables.ensures c.as_slice-changes.ensures c.in_ok-write_changes.ensures fourth in
    rw c.position-at-4.ensures (omega (arith, one_within start c.write_changes.new.out.items (xid_event body.server body.epoch.0) [] (whole body start old) fits fifth, xid_length body.server body.epoch.0 (start + length c.write_changes.new.out.items)))

pub returns : goal.returns
returns c =
    let body = c.args.body.now in let start = c.args.start in let old = c.args.out.now.items in
    let first = left_1 body start old c.write_query.new.out.items c.position-at.result c.position-at.ensures c.in_ok-write_query.ensures.ok in
    let second = left_2 body start old c.write_query.new.out.items c.write_table_map.new.out.items c.in_ok-status.status c.position-at-2.result c.in_ok-status.ensures c.position-at-2.ensures c.in_ok-write_table_map.ensures.ok first in
    let third = left_3 body start old c.write_table_map.new.out.items c.write_tables.new.out.items c.as_slice-tables.result.now c.as_slice-tables.ensures c.in_ok-write_tables.ensures second in
    let fourth = left_4 body start old c.write_tables.new.out.items c.write_status_event.new.out.items c.position-at-3.result c.position-at-3.ensures c.in_ok-write_status_event.ensures third in
    let fifth = left_5 body start old c.write_status_event.new.out.items c.write_changes.new.out.items c.as_slice-tables.result.now c.as_slice-changes.result.now c.as_slice-tables.ensures c.as_slice-changes.ensures c.in_ok-write_changes.ensures fourth in
    none_left body start old c.write_changes.new.out.items c.write_xid.new.out.items c.position-at-4.result c.position-at-4.ensures c.in_ok-write_xid.ensures.ok fifth
