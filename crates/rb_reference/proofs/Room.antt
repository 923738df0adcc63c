-- Conditions of a writer that hold if the binlog has room afterwards.
use Rattle.std.proofs.Common.{◌≤◌, ◌<◌, ◌^◌, ℕ, ◌+◌, List, [], ◌∷◌, ◌++◌, length, arith, length-append}
use Rattle.std.specs.Prelude.{map, codes}
use Rattle.rb_base.specs.declared.site.SiteId.{SiteId}
use Rattle.rb_base.specs.declared.schema.Mapped.{Mapped}
use Rattle.rb_base.specs.declared.change.Change.{Change}
use Rattle.rb_base.specs.declared.body.EpochBody.{EpochBody}
use Rattle.rb_log_defs.specs.Event.{Placed, event_bytes, query_event, xid_event}
use Rattle.rb_log_defs.specs.Table.{columns_of, status_table, table_map_event}
use Rattle.rb_log_defs.specs.Rows.{rows_type, change_payload, end_flag, ends_statement, status_event}
use Rattle.rb_log_defs.specs.Epoch.{joined_from, change_events, epoch_bytes}
use Rattle.rb_log_defs.specs.File.{Binlog, with_epoch}
use Rattle.rb_log_defs.proofs.Joined.{joined_append}
use Rattle.rb_log_defs.proofs.Sizes.{event_length}
use Rattle.rb_reference.specs.Standing.{AreSmall}
use Rattle.rb_reference.proofs.Growing.{grown, small_before_rotation}

-- an epoch ends within 32 bits
pub epoch_fits : (site : SiteId) (limit : ℕ) (log : Binlog) (body : EpochBody) → AreSmall (with_epoch site limit log body) → length log.last + length (epoch_bytes body (length log.last)) < 2 ^ 32
epoch_fits site limit log body small =
    let after : AreSmall (grown site log body) = small_before_rotation site limit (grown site log body) small in
    let fits : length (log.last ++ epoch_bytes body (length log.last)) < 2 ^ 32 = after.last in
    omega (arith, length-append log.last (epoch_bytes body (length log.last)))

changes_within : (server : ℕ) (tables : List Mapped) (changes : List Change) (start : ℕ) → length changes ≤ length (joined_from start (change_events server tables changes))
changes_within server tables [] start = omega arith
changes_within server tables (change ∷ changes) start =
    let payload : List ℕ = change_payload (columns_of tables change.table) change (end_flag (ends_statement changes)) in
    let kind : ℕ = rows_type change.kind in
    let next : ℕ = start + length (event_bytes kind server payload start) in
    omega (arith, length-append (event_bytes kind server payload start) (joined_from next (change_events server tables changes)), event_length kind server payload start, changes_within server tables changes next)

rows_within : (body : EpochBody) (start : ℕ) → length body.changes ≤ length (joined_from start (change_events body.server body.tables body.changes ++ xid_event body.server body.epoch.0 ∷ []))
rows_within body start =
    let events : List Placed = change_events body.server body.tables body.changes in
    let last : List Placed = xid_event body.server body.epoch.0 ∷ [] in
    rw (joined_append start events last)
    (omega (arith, length-append (joined_from start events) (joined_from (start + length (joined_from start events)) last), changes_within body.server body.tables body.changes start))

status_within : (body : EpochBody) (start : ℕ) → length body.changes ≤ length (joined_from start (status_event body ∷ (change_events body.server body.tables body.changes ++ xid_event body.server body.epoch.0 ∷ [])))
status_within body start =
    let later : List Placed = change_events body.server body.tables body.changes ++ xid_event body.server body.epoch.0 ∷ [] in
    let next : ℕ = start + length (status_event body start) in
    omega (arith, length-append (status_event body start) (joined_from next later), rows_within body next)

maps_within : (body : EpochBody) (start : ℕ) → length body.changes ≤ length (joined_from start (map (table_map_event body.server) body.tables
    ++ (status_event body ∷ (change_events body.server body.tables body.changes ++ xid_event body.server body.epoch.0 ∷ []))))
maps_within body start =
    let maps : List Placed = map (table_map_event body.server) body.tables in
    let later : List Placed = status_event body ∷ (change_events body.server body.tables body.changes ++ xid_event body.server body.epoch.0 ∷ []) in
    let next : ℕ = start + length (joined_from start maps) in
    rw (joined_append start maps later)
    (omega (arith, length-append (joined_from start maps) (joined_from next later), status_within body next))

-- an epoch has at least as many bytes as changes
pub changes_fit : (body : EpochBody) (start : ℕ) → length body.changes ≤ length (epoch_bytes body start)
unfolding epoch_bytes
changes_fit body start =
    let maps : List Placed = map (table_map_event body.server) body.tables ++ (status_event body ∷ (change_events body.server body.tables body.changes ++ xid_event body.server body.epoch.0 ∷ [])) in
    let begin : List ℕ = query_event body.server (codes "BEGIN") start in
    let second : ℕ = start + length begin in
    let status : List ℕ = table_map_event body.server status_table second in
    let third : ℕ = second + length status in
    omega (arith, length-append begin (status ++ joined_from third maps), length-append status (joined_from third maps), maps_within body third)
