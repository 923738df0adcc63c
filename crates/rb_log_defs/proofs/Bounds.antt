-- A bound on the length of an epoch with short rows.
use Rattle.std.proofs.Common.{◌≡◌, ◌≤◌, ◌*◌, ℕ, ◌+◌, ◌-◌, ◌^◌, List, [], ◌∷◌, ◌++◌, length, refl, ap, arith, append-nil, length-append}
use Rattle.std.proofs.lemmas.List.{length-replicate}
use Rattle.std.specs.Prelude.{map, codes, replicate, nat_le, Bool, true, false, if◌then◌else◌, Option, Some, None}
use Rattle.std.proofs.lemmas.Grind.{common_steps}
use Rattle.std.specs.List.{AllByRecursion}
use Rattle.byteorder.specs.Endian.{little_bytes}
use Rattle.byteorder.specs.Numbers.{length-bytes_low_first}
use Rattle.rb_base.specs.declared.change.Kind.{Kind}
use Rattle.rb_base.specs.declared.change.Kind.TheVariants.{Insert, Update, Remove}
use Rattle.rb_base.specs.declared.change.Change.{Change}
use Rattle.rb_base.specs.declared.epoch.Epoch.{Epoch}
use Rattle.rb_base.specs.declared.body.EpochBody.{EpochBody}
use Rattle.rb_base.specs.declared.row.Row.{Row}
use Rattle.rb_base.specs.declared.row.Value.{Value}
use Rattle.rb_base.specs.declared.schema.Column.{Column}
use Rattle.rb_base.specs.declared.schema.Column.TheVariants.{Num, Long, Text}
use Rattle.rb_base.specs.declared.schema.Mapped.{Mapped}
use Rattle.rb_base.specs.Length.{length_bytes}
use Rattle.rb_log_defs.specs.Event.{Placed, query_event, xid_event}
use Rattle.rb_log_defs.specs.Table.{metadata_of, all_metadata, bitmap_size, table_map_payload, table_map_event, columns_of, status_table}
use Rattle.rb_log_defs.specs.Rows.{text_bytes, values_bytes, row_image, image_of, images_of, present_bitmap, present_bitmaps, rows_payload, rows_type, change_payload, change_event, transid_extra, status_payload, status_event, end_flag, ends_statement}
use Rattle.rb_log_defs.specs.Epoch.{joined_from, change_events, epoch_bytes}
use Rattle.rb_log_defs.specs.Fits.{FitsColumns, IsImage, FitsKind, Fits}
use Rattle.rb_log_defs.proofs.Sizes.{event_length, query_length, xid_length, table_map_payload_length}

-- at most 16 columns, whose values take at most 1,000 bytes in a row
pub record AreShort (columns : List Column) : Type 0 where
  pub few : length columns ≤ 16
  pub short : (row : List Value) → FitsColumns columns row → length (values_bytes columns row) ≤ 1000

bitmap_bound : (columns : ℕ) → columns ≤ 16 → bitmap_size columns ≤ 2
bitmap_bound columns few = omega arith

length_one : (n : ℕ) → n ≤ 32 → length (length_bytes n) ≡ 1
unfolding length_bytes
length_one n few = grind (arith, common_steps)

metadata_bound : (columns : List Column) → length (all_metadata columns) ≤ 2 * length columns
metadata_bound [] = omega arith
metadata_bound (Num ∷ columns) = let h = metadata_bound columns in omega arith
metadata_bound (Long ∷ columns) = let h = metadata_bound columns in omega arith
metadata_bound (Text most ∷ columns) = omega (arith, length-append (metadata_of (Text most)) (all_metadata columns), metadata_bound columns)

-- a table of at most 16 columns whose schema is that of user tables and whose name is short
pub record IsNarrow (table : Mapped) : Type 0 where
  pub few : length table.columns ≤ 16
  pub schema : length table.schema ≡ 2
  pub name : length table.name ≤ 32

pub map_bound : (server : ℕ) (table : Mapped) (start : ℕ) → IsNarrow table → length (table_map_event server table start) ≤ 117
map_bound server table start narrow =
    let few = narrow.few in
    let two : length (all_metadata table.columns) ≤ 2 * length table.columns = metadata_bound table.columns in
    let metadata : length (length_bytes (length (all_metadata table.columns))) ≡ 1 = length_one (length (all_metadata table.columns)) (omega arith) in
    omega (arith, event_length 19 server (table_map_payload table) start, table_map_payload_length table, length_one (length table.columns) (omega arith), bitmap_bound (length table.columns) few, narrow.schema, narrow.name, metadata, two)

-- the length of a text with its length before it
pub text_bound : (most : ℕ) (text : List ℕ) → length text ≤ most → length (text_bytes most text) ≤ most + (if nat_le most 255 then 1 else 2)
unfolding text_bytes
text_bound most text fits = go (nat_le most 255)
  where
    go : (b : Bool) → length (little_bytes (if b then 1 else 2) (length text) ++ text) ≤ most + (if b then 1 else 2)
    go true = omega (arith, length-append (little_bytes 1 (length text)) text, fits)
    go false = omega (arith, length-append (little_bytes 2 (length text)) text, fits)

row_bound : (columns : List Column) (row : Row) → AreShort columns → FitsColumns columns row.values → length (row_image columns row) ≤ 1002
unfolding row_image
row_bound columns row short fits =
    let zero_byte : ℕ = 0 in
    omega (arith, length-append (replicate (bitmap_size (length columns)) zero_byte) (values_bytes columns row.values), length-replicate (bitmap_size (length columns)) zero_byte, bitmap_bound (length columns) short.few, short.short row.values fits)

image_bound : (columns : List Column) (row : Option Row) → AreShort columns → IsImage columns row → length (image_of columns row) ≤ 1002
image_bound columns None short is = absurd is
image_bound columns (Some row) short is = row_bound columns row short is

images_bound : (kind : Kind) (columns : List Column) (before after : Option Row) → AreShort columns → FitsKind kind columns before after → length (images_of kind columns before after) ≤ 2004
images_bound Insert columns before after short fits = let h : length (image_of columns after) ≤ 1002 = image_bound columns after short fits.1 in omega arith
images_bound Update columns before after short fits =
    omega (arith, length-append (image_of columns before) (image_of columns after), image_bound columns before short fits.0, image_bound columns after short fits.1)
images_bound Remove columns before after short fits = let h : length (image_of columns before) ≤ 1002 = image_bound columns before short fits.0 in omega arith

present_bound : (columns : ℕ) → columns ≤ 16 → length (present_bitmap columns) ≤ 2
present_bound columns few = let s : length (present_bitmap columns) ≡ bitmap_size columns = length-bytes_low_first 0 (bitmap_size columns) (2 ^ columns - 1) in omega (arith, bitmap_bound columns few)

presents_bound : (kind : Kind) (columns : ℕ) → columns ≤ 16 → length (present_bitmaps kind columns) ≤ 4
presents_bound Insert columns few = let h : length (present_bitmap columns) ≤ 2 = present_bound columns few in omega arith
presents_bound Update columns few = omega (arith, length-append (present_bitmap columns) (present_bitmap columns), present_bound columns few)
presents_bound Remove columns few = let h : length (present_bitmap columns) ≤ 2 = present_bound columns few in omega arith

rows_payload_bound : (table flags : ℕ) (extra : List ℕ) (columns : ℕ) (present rows : List ℕ) → length (rows_payload table flags extra columns present rows) ≡ 10 + length extra + length (length_bytes columns) + length present + length rows
unfolding rows_payload
rows_payload_bound table flags extra columns present rows = simp length-append (omega arith)

-- the payload of the rows event of one change, with its row images alone
pub change_payload_is : (columns : List Column) (change : Change) (flags : ℕ) → change_payload columns change flags
    ≡ rows_payload change.table flags (transid_extra change.transid) (length columns) (present_bitmaps change.kind (length columns)) (images_of change.kind columns change.before change.after)
unfolding change_payload
change_payload_is columns change flags =
    ap (rows_payload change.table flags (transid_extra change.transid) (length columns) (present_bitmaps change.kind (length columns))) (append-nil (images_of change.kind columns change.before change.after))

pub change_bound : (server : ℕ) (columns : List Column) (change : Change) (flags start : ℕ) → AreShort columns → Fits columns change → length (change_event server columns change flags start) ≤ 2047
change_bound server columns change flags start short fits =
    omega (
      arith,
      event_length (rows_type change.kind) server (change_payload columns change flags) start,
      ap length (change_payload_is columns change flags),
      rows_payload_bound change.table flags (transid_extra change.transid) (length columns) (present_bitmaps change.kind (length columns)) (images_of change.kind columns change.before change.after),
      length_one (length columns) (let few = short.few in omega arith),
      presents_bound change.kind (length columns) short.few,
      images_bound change.kind columns change.before change.after short fits,
    )

-- the length of the rows events of changes that have short rows
changes_bound : (server : ℕ) (tables : List Mapped) (changes : List Change) (last : Placed) (most : ℕ) → ((at : ℕ) → length (last at) ≤ most) → AllByRecursion (λ change. AreShort (columns_of tables change.table) × Fits (columns_of tables change.table) change) changes → (start : ℕ) → length (joined_from start (change_events server tables changes ++ last ∷ [])) ≤ 2047 * length changes + most
changes_bound server tables [] last most bound fit start = omega (arith, length-append (last start) [], bound start)
changes_bound server tables (change ∷ changes) last most bound fit start =
    let event : List ℕ = change_event server (columns_of tables change.table) change (end_flag (ends_statement changes)) start in
    omega (
      arith,
      length-append event (joined_from (start + length event) (change_events server tables changes ++ last ∷ [])),
      change_bound server (columns_of tables change.table) change (end_flag (ends_statement changes)) start fit.0.0 fit.0.1,
      changes_bound server tables changes last most bound fit.1 (start + length event),
    )

-- the length of table maps and of the events after them
maps_bound : (server : ℕ) (tables : List Mapped) (rest : List Placed) (most : ℕ) → ((at : ℕ) → length (joined_from at rest) ≤ most) → AllByRecursion IsNarrow tables → (start : ℕ) → length (joined_from start (map (table_map_event server) tables ++ rest)) ≤ 117 * length tables + most
maps_bound server [] rest most bound narrow start = let h : length (joined_from start rest) ≤ most = bound start in omega arith
maps_bound server (table ∷ tables) rest most bound narrow start =
    let event : List ℕ = table_map_event server table start in
    omega (
      arith,
      length-append event (joined_from (start + length event) (map (table_map_event server) tables ++ rest)),
      map_bound server table start narrow.0,
      maps_bound server tables rest most bound narrow.1 (start + length event),
    )

status_map_length : length (table_map_payload status_table) ≡ 43
unfolding table_map_payload length_bytes
status_map_length = refl

-- the length of the apply-status event, which has one row or two
status_bound : (server epoch : ℕ) (reflected : Option Epoch) (tables : List Mapped) (changes : List Change) → length (status_payload (record { server = server; epoch = record { 0 = epoch }; reflected = reflected; tables = tables; changes = changes })) ≤ 72
unfolding status_payload rows_payload row_image length_bytes text_bytes
status_bound server epoch None tables changes = omega arith
status_bound server epoch (Some other) tables changes = omega arith

-- the length of an epoch with short rows: a constant, and a constant for each table and each change
pub epoch_bound : (body : EpochBody) (start : ℕ) → AllByRecursion IsNarrow body.tables → AllByRecursion (λ change. AreShort (columns_of body.tables change.table) × Fits (columns_of body.tables change.table) change) body.changes → length (epoch_bytes body start) ≤ 218 + 117 * length body.tables + 2047 * length body.changes
unfolding epoch_bytes
epoch_bound body start narrow fit =
    let first : Placed = query_event body.server (codes "BEGIN") in
    let second : Placed = table_map_event body.server status_table in
    let rows : List Placed = change_events body.server body.tables body.changes ++ xid_event body.server body.epoch.0 ∷ [] in
    let rest : List Placed = status_event body ∷ rows in
    let later : List Placed = map (table_map_event body.server) body.tables ++ rest in
    let rest_bound : (at : ℕ) → length (joined_from at rest) ≤ 118 + 2047 * length body.changes = λ at.
    let event : List ℕ = status_event body at in
    omega (
      arith,
      length-append event (joined_from (at + length event) rows),
      event_length 30 body.server (status_payload body) at,
      status_bound body.server body.epoch.0 body.reflected body.tables body.changes,
      changes_bound body.server body.tables body.changes (xid_event body.server body.epoch.0) 27 (λ place. let h = xid_length body.server body.epoch.0 place in omega arith) fit (at + length event),
    ) in
    let at1 : ℕ = start + length (first start) in
    let at2 : ℕ = at1 + length (second at1) in
    omega (
      arith,
      length-append (first start) (joined_from at1 (second ∷ later)),
      length-append (second at1) (joined_from at2 later),
      query_length body.server (codes "BEGIN") start,
      event_length 19 body.server (table_map_payload status_table) at1,
      status_map_length,
      maps_bound body.server body.tables rest (118 + 2047 * length body.changes) rest_bound narrow at2,
    )
