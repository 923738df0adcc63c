-- The length of an epoch, which does not depend on its position.
use Rattle.std.proofs.Common.{◌≡◌, ◌≤◌, ℕ, ◌+◌, List, [], ◌∷◌, ◌++◌, length, map, codes, refl, arith, length-append}
use Rattle.std.proofs.lemmas.List.Sums.{sum_by-cons}
use Rattle.rb_base.specs.Length.{length_bytes}
use Rattle.rb_base.specs.declared.schema.Mapped.{Mapped}
use Rattle.rb_base.specs.declared.change.Change.{Change}
use Rattle.rb_base.specs.declared.body.EpochBody.{EpochBody}
use Rattle.rb_log_defs.specs.Event.{Placed, query_event, xid_event}
use Rattle.rb_log_defs.specs.Table.{all_metadata, bitmap_size, columns_of, status_table, table_map_payload, table_map_event}
use Rattle.rb_log_defs.specs.Rows.{rows_type, change_payload, change_event, end_flag, ends_statement, status_payload, status_event}
use Rattle.rb_log_defs.specs.Epoch.{joined_from, change_events, epoch_bytes}
use Rattle.rb_log_defs.specs.Fits.{CanBeMapped}
use Rattle.rb_log_defs.proofs.Joined.{joined_append}
use Rattle.rb_log_defs.proofs.Sizes.{event_length, query_length, xid_length, metadata_bound, table_map_payload_length}
use Rattle.rb_rows.proofs.Images.{length_one}
use Rattle.rb_etx.specs.Size.{map_size, maps_size, change_size, changes_size}
use Rattle.rb_etx.proofs.Payloads.{change_length}
use Rattle.rb_etx.proofs.Whole.{after_begin, after_status_map, after_maps, after_status}

pub map_length : (table : Mapped) → CanBeMapped table → map_size table ≡ 33 + length table.schema + length table.name + length table.columns + bitmap_size (length table.columns) + length (all_metadata table.columns)
map_length table mapped =
    let few = mapped.few in
    let metadata : length (all_metadata table.columns) ≤ 250 = omega (arith, metadata_bound table.columns) in
    omega (arith, table_map_payload_length table, length_one (length table.columns) (omega arith), length_one (length (all_metadata table.columns)) metadata)

maps_joined : (server : ℕ) (tables : List Mapped) (start : ℕ) → length (joined_from start (map (table_map_event server) tables)) ≡ maps_size tables
maps_joined server [] start = refl
maps_joined server (table ∷ tables) start =
    let event : List ℕ = table_map_event server table start in
    omega (arith, length-append event (joined_from (start + length event) (map (table_map_event server) tables)), event_length 19 server (table_map_payload table) start, maps_joined server tables (start + length event), sum_by-cons map_size table tables)

changes_joined : (server : ℕ) (tables : List Mapped) (changes : List Change) (start : ℕ) → length (joined_from start (change_events server tables changes)) ≡ changes_size tables changes
changes_joined server tables [] start = refl
changes_joined server tables (change ∷ changes) start =
    let columns = columns_of tables change.table in
    let event : List ℕ = change_event server columns change (end_flag (ends_statement changes)) start in
    omega (
      arith,
      length-append event (joined_from (start + length event) (change_events server tables changes)),
      event_length (rows_type change.kind) server (change_payload columns change (end_flag (ends_statement changes))) start,
      change_length columns change (end_flag (ends_statement changes)) 0,
      changes_joined server tables changes (start + length event),
      sum_by-cons (change_size tables) change changes,
    )

status_map_length : length (table_map_payload status_table) ≡ 43
unfolding table_map_payload length_bytes
status_map_length = refl

-- events and the events that follow them
both_length : (events later : List Placed) (start : ℕ) → length (joined_from start (events ++ later)) ≡ length (joined_from start events) + length (joined_from (start + length (joined_from start events)) later)
both_length events later start =
    rw (joined_append start events later) (length-append (joined_from start events) (joined_from (start + length (joined_from start events)) later))

-- one event and the events that follow it
one_length : (event : Placed) (later : List Placed) (start : ℕ) → length (joined_from start (event ∷ later)) ≡ length (event start) + length (joined_from (start + length (event start)) later)
one_length event later start = length-append (event start) (joined_from (start + length (event start)) later)

rows_length : (body : EpochBody) (start : ℕ) → length (joined_from start (after_status body)) ≡ changes_size body.tables body.changes + 27
rows_length body start =
    let changes : List Placed = change_events body.server body.tables body.changes in
    let last : ℕ = start + length (joined_from start changes) in
    omega (
      arith,
      both_length changes (xid_event body.server body.epoch.0 ∷ []) start,
      changes_joined body.server body.tables body.changes start,
      one_length (xid_event body.server body.epoch.0) [] last,
      xid_length body.server body.epoch.0 last,
    )

maps_length : (body : EpochBody) (start : ℕ) → length (joined_from start (after_status_map body)) ≡ maps_size body.tables + (19 + length (status_payload body)) + changes_size body.tables body.changes + 27
maps_length body start =
    let maps : List Placed = map (table_map_event body.server) body.tables in
    let at : ℕ = start + length (joined_from start maps) in
    omega (
      arith,
      both_length maps (after_maps body) start,
      maps_joined body.server body.tables start,
      one_length (status_event body) (after_status body) at,
      event_length 30 body.server (status_payload body) at,
      rows_length body (at + length (status_event body at)),
    )

pub epoch_length : (body : EpochBody) (start : ℕ) → length (epoch_bytes body start) ≡ 100 + maps_size body.tables + (19 + length (status_payload body)) + changes_size body.tables body.changes + 27
unfolding epoch_bytes
epoch_length body start =
    let first : Placed = query_event body.server (codes "BEGIN") in
    let second : Placed = table_map_event body.server status_table in
    let at : ℕ = start + length (first start) in
    omega (
      arith,
      one_length first (after_begin body) start,
      query_length body.server (codes "BEGIN") start,
      one_length second (after_status_map body) at,
      event_length 19 body.server (table_map_payload status_table) at,
      status_map_length,
      maps_length body (at + length (second at)),
    )
