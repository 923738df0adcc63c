-- An epoch as one transaction of the binlog. As the MySQL manual describes for NDB Cluster
-- Replication, the injector writes the apply-status row together with the rows of each epoch.
use Rattle.std.specs.Prelude.{ℕ, ◌+◌, List, [], ◌∷◌, ◌++◌, length, map, codes}
use Rattle.rb_base.specs.declared.change.Change.{Change}
use Rattle.rb_base.specs.declared.body.EpochBody.{EpochBody}
use Rattle.rb_base.specs.declared.schema.Mapped.{Mapped}
use Rattle.rb_log_defs.specs.Event.{Placed, query_event, xid_event}
use Rattle.rb_log_defs.specs.Table.{table_map_event, columns_of, status_table}
use Rattle.rb_log_defs.specs.Rows.{change_event, end_flag, ends_statement, status_event}

-- the bytes of these events, joined, with the first event at this position
abbrev pub joined_from : (start : ℕ) → List Placed → List ℕ
joined_from start [] = []
joined_from start (event ∷ events) = event start ++ joined_from (start + length (event start)) events

-- one rows event for each change; the last one carries the flag that ends the statement
abbrev pub change_events : (server : ℕ) → List Mapped → List Change → List Placed
change_events server tables [] = []
change_events server tables (change ∷ later) =
    change_event server (columns_of tables change.table) change (end_flag (ends_statement later)) ∷ change_events server tables later

-- the events of an epoch: BEGIN, the table maps of the apply-status table and of the epoch's
-- tables, the rows event of the apply-status table, the changes, XID
abbrev pub epoch_events : EpochBody → List Placed
epoch_events body =
    query_event body.server (codes "BEGIN") ∷ table_map_event body.server status_table
    ∷ (map (table_map_event body.server) body.tables
    ++ (status_event body ∷ (change_events body.server body.tables body.changes
    ++ (xid_event body.server body.epoch.0 ∷ []))))

-- the bytes of an epoch whose first event is at this position
unfoldable pub epoch_bytes : EpochBody → Placed
epoch_bytes body start = joined_from start (epoch_events body)
