-- The length of each event, which does not depend on its position.
use Rattle.std.proofs.Common.{◌≡◌, ◌≤◌, ◌<◌, ◌*◌, ℕ, ◌+◌, ◌-◌, List, [], ◌∷◌, ◌++◌, length, refl, arith, length-append}
use Rattle.std.proofs.lemmas.List.{length-replicate, length-map}
use Rattle.std.proofs.lemmas.Grind.{common_steps}
use Rattle.std.proofs.lemmas.Fmt.{length-decimal-le}
use Rattle.std.specs.Prelude.{map, codes, replicate}
use Rattle.std.specs.Fmt.{decimal}
use Rattle.rb_base.specs.declared.site.SiteId.{SiteId}
use Rattle.rb_base.specs.declared.site.SiteId.TheVariants.{A, B}
use Rattle.rb_base.specs.declared.change.Change.{Change}
use Rattle.rb_base.specs.declared.body.EpochBody.{EpochBody}
use Rattle.rb_log_defs.specs.Rows.{rows_type, change_payload, end_flag, ends_statement, status_payload, status_event}
use Rattle.rb_log_defs.specs.Epoch.{joined_from, change_events, epoch_events, epoch_bytes}
use Rattle.rb_base.specs.Length.{length_bytes}
use Rattle.rb_base.specs.declared.schema.Column.{Column}
use Rattle.rb_base.specs.declared.schema.Column.TheVariants.{Num, Long, Text}
use Rattle.rb_base.specs.declared.schema.Mapped.{Mapped}
use Rattle.rb_log_defs.specs.Table.{all_metadata, bitmap_size, table_map_payload, table_map_event, columns_of, status_table}
use Rattle.rb_log_defs.specs.File.{base_name, file_name}
use Rattle.rb_log_defs.specs.Fits.{CanBeMapped}
use Rattle.rb_log_defs.specs.Event.{Placed, header_bytes, event_bytes, query_payload, query_event, rotate_payload, rotate_event, format_payload, format_event, xid_payload, xid_event}

pub header_length : (kind server size end flags : ℕ) → length (header_bytes kind server size end flags) ≡ 19
unfolding header_bytes
header_length kind server size end flags = refl

pub event_length : (kind server : ℕ) (payload : List ℕ) (start : ℕ) → length (event_bytes kind server payload start) ≡ 19 + length payload
unfolding event_bytes
event_length kind server payload start =
    let size : ℕ = 19 + length payload in
    omega (arith, length-append (header_bytes kind server size (start + size) 0) payload, header_length kind server size (start + size) 0)

pub query_payload_length : (text : List ℕ) → length (query_payload text) ≡ 14 + length text
unfolding query_payload
query_payload_length text = grind arith

pub query_length : (server : ℕ) (text : List ℕ) (start : ℕ) → length (query_event server text start) ≡ 33 + length text
query_length server text start = omega (arith, event_length 2 server (query_payload text) start, query_payload_length text)

pub rotate_payload_length : (position : ℕ) (name : List ℕ) → length (rotate_payload position name) ≡ 8 + length name
unfolding rotate_payload
rotate_payload_length position name = grind arith

pub rotate_length : (server position : ℕ) (name : List ℕ) (start : ℕ) → length (rotate_event server position name start) ≡ 27 + length name
rotate_length server position name start = omega (arith, event_length 4 server (rotate_payload position name) start, rotate_payload_length position name)

pub format_payload_length : length format_payload ≡ 92
unfolding format_payload
format_payload_length = refl

pub format_length : (server start : ℕ) → length (format_event server start) ≡ 111
format_length server start = omega (arith, event_length 15 server format_payload start, format_payload_length)

pub xid_payload_length : (xid : ℕ) → length (xid_payload xid) ≡ 8
unfolding xid_payload
xid_payload_length xid = refl

pub xid_length : (server xid start : ℕ) → length (xid_event server xid start) ≡ 27
xid_length server xid start = omega (arith, event_length 16 server (xid_payload xid) start, xid_payload_length xid)

-- the length of an event does not depend on its position
pub event_same_length : (kind server : ℕ) (payload : List ℕ) (start other : ℕ) → length (event_bytes kind server payload start) ≡ length (event_bytes kind server payload other)
event_same_length kind server payload start other =
    omega (arith, event_length kind server payload start, event_length kind server payload other)

pub length_bytes_bound : (n : ℕ) → length (length_bytes n) ≤ 9
unfolding length_bytes
length_bytes_bound n = grind (arith, common_steps)

pub metadata_bound : (columns : List Column) → length (all_metadata columns) ≤ 2 * length columns
metadata_bound [] = omega arith
metadata_bound (Num ∷ columns) = omega (arith, metadata_bound columns)
metadata_bound (Long ∷ columns) = omega (arith, metadata_bound columns)
metadata_bound (Text most ∷ columns) = omega (arith, metadata_bound columns)

pub table_map_payload_length : (table : Mapped) → length (table_map_payload table) ≡ 12 + length table.schema + length table.name
    + length (length_bytes (length table.columns)) + length table.columns + length (length_bytes (length (all_metadata table.columns)))
    + length (all_metadata table.columns) + bitmap_size (length table.columns)
unfolding table_map_payload
table_map_payload_length table = simp (length-append, length-map, length-replicate) (omega arith)

-- a bound on the length of a table map, for conditions on the position after it
pub table_map_bound : (server : ℕ) (table : Mapped) (start : ℕ) → CanBeMapped table → length (table_map_event server table start) ≤ 1000
table_map_bound server table start mapped =
    omega (arith, event_length 19 server (table_map_payload table) start, table_map_payload_length table, metadata_bound table.columns, length_bytes_bound (length table.columns), length_bytes_bound (length (all_metadata table.columns)), mapped.schema, mapped.name, mapped.few)

-- an event whose length does not depend on its position
abbrev pub IsSameLength : Placed → Type 0
IsSameLength event = (start other : ℕ) → length (event start) ≡ length (event other)

-- events whose lengths do not depend on their positions
abbrev pub AreSameLength : List Placed → Type 0
AreSameLength [] = Unit {0}
AreSameLength (event ∷ events) = IsSameLength event × AreSameLength events

both_same_length : (events later : List Placed) → AreSameLength events → AreSameLength later → AreSameLength (events ++ later)
both_same_length [] later same rest = rest
both_same_length (event ∷ events) later same rest = (same.0, both_same_length events later same.1 rest)

joined_same_length : (events : List Placed) → AreSameLength events → (start other : ℕ) → length (joined_from start events) ≡ length (joined_from other events)
joined_same_length [] same start other = refl
joined_same_length (event ∷ events) same start other =
    omega (
      arith,
      length-append (event start) (joined_from (start + length (event start)) events),
      length-append (event other) (joined_from (other + length (event other)) events),
      same.0 start other,
      joined_same_length events same.1 (start + length (event start)) (other + length (event other)),
    )

maps_same_length : (server : ℕ) (tables : List Mapped) → AreSameLength (map (table_map_event server) tables)
maps_same_length server [] = tt
maps_same_length server (table ∷ tables) = (event_same_length 19 server (table_map_payload table), maps_same_length server tables)

changes_same_length : (server : ℕ) (tables : List Mapped) (changes : List Change) → AreSameLength (change_events server tables changes)
changes_same_length server tables [] = tt
changes_same_length server tables (change ∷ changes) =
    (event_same_length (rows_type change.kind) server (change_payload (columns_of tables change.table) change (end_flag (ends_statement changes))), changes_same_length server tables changes)

events_same_length : (body : EpochBody) → AreSameLength (epoch_events body)
events_same_length body =
    let last : AreSameLength (xid_event body.server body.epoch.0 ∷ []) = (event_same_length 16 body.server (xid_payload body.epoch.0), tt) in
    let rows : AreSameLength (change_events body.server body.tables body.changes ++ xid_event body.server body.epoch.0 ∷ [])
    = both_same_length (change_events body.server body.tables body.changes) (xid_event body.server body.epoch.0 ∷ []) (changes_same_length body.server body.tables body.changes) last in
    let status : AreSameLength (status_event body ∷ (change_events body.server body.tables body.changes ++ xid_event body.server body.epoch.0 ∷ []))
    = (event_same_length 30 body.server (status_payload body), rows) in (
      event_same_length 2 body.server (query_payload (codes "BEGIN")),
      (
        event_same_length 19 body.server (table_map_payload status_table),
        both_same_length (map (table_map_event body.server) body.tables) (status_event body ∷ (change_events body.server body.tables body.changes ++ xid_event body.server body.epoch.0 ∷ []))
            (maps_same_length body.server body.tables) status,
      ),
    )

-- the length of an epoch does not depend on its position
pub epoch_same_length : (body : EpochBody) (start other : ℕ) → length (epoch_bytes body start) ≡ length (epoch_bytes body other)
unfolding epoch_bytes
epoch_same_length body start other = joined_same_length (epoch_events body) (events_same_length body) start other

base_length : (site : SiteId) → length (base_name site) ≡ 6
base_length A = refl
base_length B = refl

-- the length of a file's name, whose number has at most ten digits
pub name_length : (site : SiteId) (number : ℕ) → number < 10000000000 → length (file_name site number) ≤ 16
name_length site number few =
    let digits : length (decimal number) ≤ 10 = length-decimal-le 10 number (omega arith) (omega arith) (omega arith) in
    let zero_digit : ℕ = 48 in
    omega (
      arith,
      length-append (base_name site) (replicate (6 - length (decimal number)) zero_digit ++ decimal number),
      length-append (replicate (6 - length (decimal number)) zero_digit) (decimal number),
      length-replicate (6 - length (decimal number)) zero_digit,
      base_length site,
    )
