-- A written event is read as it was written: its header, and the payloads of all events without
-- rows.
use Rattle.std.proofs.Common.{◌≡◌, ℕ, zero, suc, ◌+◌, ◌^◌, ◌<◌, ◌≤◌, true, cond, List, [], ◌∷◌, ◌++◌, length, map, get_or, refl, ap, ◌∙◌, arith}
use Rattle.std.specs.Prelude.{◌==◌, codes}
use Rattle.std.proofs.lemmas.Bool.{le-leb}
use Rattle.std.proofs.lemmas.Bool.Decides.{nat_tests}
use Rattle.std.specs.List.{list_all, count_by, AllByRecursion}
use Rattle.std.proofs.Math.Nat.{zero-mod}
use Rattle.std.proofs.lemmas.List.{length-map, length-replicate}
use Rattle.std.proofs.lemmas.List.Elements.{recursion_from_All}
use Rattle.std.proofs.lemmas.List.Sums.{sum_by-cons}
use Rattle.byteorder.specs.Endian.{little_from}
use Rattle.byteorder.specs.Numbers.{little_number-reads_back}
use Rattle.rb_base.specs.Length.{length_bytes, length_read}
use Rattle.rb_base.specs.declared.faults.Field.TheVariants as fields
use Rattle.rb_base.specs.declared.schema.Column.{Column}
use Rattle.rb_base.specs.declared.schema.Column.TheVariants.{Num, Long, Text}
use Rattle.rb_base.specs.declared.schema.Mapped.{Mapped}
use Rattle.rb_log_defs.specs.Table.{type_of, all_metadata, bitmap_size, table_map_payload, status_table}
use Rattle.rb_log_defs.proofs.Sizes.{metadata_bound, rotate_payload_length}
use Rattle.rb_log_defs.specs.Event.{zeros, header_bytes, query_payload, rotate_payload, format_payload, xid_payload}
use Rattle.rb_read_defs.specs.Reading.{Reading, Read, Short, Wrong, some_bytes, number, length_number}
use Rattle.rb_read_defs.specs.Events.{header, event_type, may_be_type, is_known, query, xid, rotate, format, all_clear, is_type, are_types, metadata_size, columns_from, table_map}
use Rattle.rb_read_defs.specs.declared.answers.QueryText.TheVariants.{Begin}
use Rattle.rb_read_defs.specs.Readable.{IsColumn, IsReadableTable}
use Rattle.rb_read_defs.proofs.Fields.{Gives, Ends, then_gives, then_ends, give_gives, made_gives, made_ends, that_gives, bytes_give, number_gives, byte_gives, length_gives, ends_at_start, rest_ends, end_ends}

-- a known type is a byte
known_byte : (kind : ℕ) → is_known kind ≡ true → kind < 256
known_byte kind known = grind (arith, nat_tests)

-- a known type is accepted with any flags
may_be : (flags : Reading ℕ) (kind : ℕ) → is_known kind ≡ true → may_be_type flags kind ≡ true
may_be (Read flags after) kind known = rw known refl
may_be (Short place) kind known = refl
may_be (Wrong place field) kind known = refl

type_gives : (kind : ℕ) → is_known kind ≡ true → Gives event_type (kind ∷ []) kind
unfolding event_type
type_gives kind known = record {
  reads = λ before after.
      rw ((byte_gives kind (known_byte kind known)).reads before after, may_be (number 2 (before ++ (kind ∷ [] ++ after)) (length before + 13)) kind known) refl;
}

-- a header
pub header_gives : (kind server size start flags : ℕ) → is_known kind ≡ true → server < 2 ^ 32 → 19 ≤ size → size ≤ 2147483647 → start + size < 2 ^ 32 → flags < 2 ^ 16 →
    Gives (header start) (header_bytes kind server size (start + size) flags) (record { kind = kind; server = server; size = size; end = start + size; flags = flags })
unfolding header header_bytes
header_gives kind server size start flags known one whole small placed two =
    then_gives _ (number_gives 4 0 (omega arith))
    (then_gives _ (type_gives kind known)
    (then_gives _ (number_gives 4 server (omega arith))
    (then_gives _ (that_gives fields.EventSize _ (rw (le-leb 19 size whole, le-leb size 2147483647 small) refl) (number_gives 4 size (omega arith)))
    (then_gives _ (that_gives fields.EndPosition _ (grind (arith, nat_tests)) (number_gives 4 (start + size) (omega arith)))
    (then_gives _ (number_gives 2 flags (omega arith)) (give_gives _))))))

-- the payloads of an XID event and of a rotation
pub xid_ends : (n : ℕ) → n < 2 ^ 64 → Ends xid (xid_payload n) n
unfolding xid xid_payload
xid_ends n small = then_ends _ (number_gives 8 n (omega arith)) (made_ends (λ end. n) end_ends)

pub rotate_ends : (position : ℕ) (name : List ℕ) → position < 2 ^ 64 → Ends rotate (rotate_payload position name) (record { position = position; name = name })
unfolding rotate rotate_payload
rotate_ends position name small = then_ends _ (number_gives 8 position (omega arith)) (made_ends (λ name. record { position = position; name = name }) (rest_ends name))

-- zero bytes are the number 0, and a bitmap with no bit set
zeros_number : (i width count : ℕ) → little_from i width (zeros count) ≡ 0
zeros_number i zero count = refl
zeros_number i (suc width) count =
    let byte : get_or (zeros count) i 0 ≡ 0 = zero_there count i in
    let rest = zeros_number (suc i) width count in
    rw (byte, rest) refl
  where
    zero_there : (count i : ℕ) → get_or (zeros count) i 0 ≡ 0
    zero_there zero i = refl
    zero_there (suc count) zero = refl
    zero_there (suc count) (suc i) = zero_there count i

pub zeros_clear : (count size : ℕ) → all_clear count (zeros size) ≡ true
zeros_clear count size = rw (zeros_number 0 (length (zeros size)) size, zero-mod (2 ^ count)) refl

-- the types and the metadata of a table's columns are read as the columns
types_are_types : (columns : List Column) → list_all is_type (map type_of columns) ≡ true
types_are_types [] = refl
types_are_types (Num ∷ columns) = types_are_types columns
types_are_types (Long ∷ columns) = types_are_types columns
types_are_types (Text most ∷ columns) = types_are_types columns

metadata_length : (columns : List Column) → length (all_metadata columns) ≡ metadata_size (map type_of columns)
metadata_length [] = refl
metadata_length (Num ∷ columns) = omega (arith, metadata_length columns)
metadata_length (Long ∷ columns) = omega (arith, metadata_length columns)
metadata_length (Text most ∷ columns) =
    let more : count_by (λ kind. kind == 15) (map type_of (Text most ∷ columns)) ≡ 1 + count_by (λ kind. kind == 15) (map type_of columns) = sum_by-cons (λ (kind : ℕ). cond (kind == 15) 1 0) 15 (map type_of columns) in
    omega (arith, metadata_length columns)

columns_back : (columns : List Column) → AllByRecursion IsColumn columns → columns_from (map type_of columns) (all_metadata columns) ≡ columns
columns_back [] all = refl
columns_back (Num ∷ columns) all = ap (λ (rest : List Column). Num ∷ rest) (columns_back columns all.1)
columns_back (Long ∷ columns) all = ap (λ (rest : List Column). Long ∷ rest) (columns_back columns all.1)
columns_back (Text most ∷ columns) all =
    ap (λ (n : ℕ). Text n ∷ columns_from (map type_of columns) (all_metadata columns)) (little_number-reads_back 2 most (all_metadata columns) (let small = all.0 in omega arith))
    ∙ ap (λ (rest : List Column). Text most ∷ rest) (columns_back columns all.1)

-- the column types of a data table are accepted
data_types : (table : Mapped) → IsReadableTable table → are_types table.schema table.name (map type_of table.columns) ≡ true
data_types table readable = rw (readable.data_table, types_are_types table.columns) (first table.columns readable.key)
  where
    first : (columns : List Column) → get_or columns 0 Long ≡ Num → (get_or (map type_of columns) 0 0 == 8) ≡ true
    first [] key = absurd (let no : Long ≡ Num = key in cc)
    first (column ∷ columns) key = let same : column ≡ Num = key in rw same refl

-- the payload of a table map
pub table_map_gives : (table : Mapped) → IsReadableTable table → Gives table_map (table_map_payload table) table
unfolding table_map table_map_payload
table_map_gives table readable =
    let named = readable.mapped in
    let few = named.few in
    let some = named.some in
    let id = readable.id in
    let bound = metadata_bound table.columns in
    then_gives _ (that_gives fields.TableId _ (le-leb table.id 65535 (omega arith)) (number_gives 6 table.id (omega arith)))
    (then_gives _ (number_gives 2 0 (omega arith))
    (then_gives _ (byte_gives (length table.schema) named.schema)
    (then_gives _ (bytes_give (length table.schema) table.schema refl)
    (then_gives _ (byte_gives 0 (omega arith))
    (then_gives _ (byte_gives (length table.name) named.name)
    (then_gives _ (bytes_give (length table.name) table.name refl)
    (then_gives _ (byte_gives 0 (omega arith))
    (then_gives _ (that_gives fields.Columns _ (rw (le-leb 1 (length table.columns) (omega arith), le-leb (length table.columns) 64 (omega arith)) refl) (length_gives fields.Columns (length table.columns) (omega arith)))
    (then_gives _ (that_gives fields.ColumnType _ (data_types table readable) (bytes_give (length table.columns) (map type_of table.columns) (length-map table.columns type_of)))
    (then_gives _ (that_gives fields.Metadata _ (let same = metadata_length table.columns in grind (arith, nat_tests)) (length_gives fields.Metadata (length (all_metadata table.columns)) (omega arith)))
    (then_gives _ (bytes_give (length (all_metadata table.columns)) (all_metadata table.columns) refl)
    (made_gives _ (that_gives fields.Null _ (zeros_clear (length table.columns) (bitmap_size (length table.columns))) (bytes_give (bitmap_size (length table.columns)) (zeros (bitmap_size (length table.columns))) (length-replicate (bitmap_size (length table.columns)) 0)))
    (ap (λ (columns : List Column). record { id = table.id; schema = table.schema; name = table.name; columns = columns }) (columns_back table.columns (recursion_from_All IsColumn table.columns readable.columns)))))))))))))))

-- the payloads of BEGIN and of the format description, which are fixed
pub begin_read : query (query_payload (codes "BEGIN")) 0 ≡ Read Begin 19
unfolding query query_payload some_bytes number
begin_read = refl

pub format_read : format format_payload 0 ≡ Read tt 92
unfolding format format_payload some_bytes number
format_read = refl

pub status_map_read : table_map (table_map_payload status_table) 0 ≡ Read status_table (length (table_map_payload status_table))
unfolding table_map table_map_payload some_bytes number length_number length_read length_bytes
status_map_read = refl

pub rotate_read : (position : ℕ) (name : List ℕ) → position < 2 ^ 64 → rotate (rotate_payload position name) 0 ≡ Read (record { position = position; name = name }) (8 + length name)
rotate_read position name small = ends_at_start (rotate_ends position name small) ∙ ap (Read (record { position = position; name = name })) (rotate_payload_length position name)
