-- Events as they are read: the header, the format description, BEGIN and COMMIT, rotations, XID and
-- table maps. The event types are those of the binlog format. A field that readers ignore may have
-- any value.
use Rattle.std.specs.Prelude.{ℕ, ◌+◌, ◌*◌, ◌-◌, ◌/◌, ◌%◌, ◌^◌, ◌==◌, nat_le, true, ◌&&◌, ◌||◌, Bool, if◌then◌else◌, List, [], ◌∷◌, length, drop, count_by, get_or, codes}
use Rattle.std.specs.List.{list_all}
use Rattle.std.specs.Str.{bytes_eq}
use Rattle.byteorder.specs.Endian.{little_number}
use Rattle.rb_base.specs.declared.faults.Field.TheVariants as fields
use Rattle.rb_base.specs.declared.schema.Column.{Column}
use Rattle.rb_base.specs.declared.schema.Column.TheVariants.{Num, Long, Text}
use Rattle.rb_base.specs.declared.schema.Mapped.{Mapped}
use Rattle.rb_log_defs.specs.Types.{known_types, is_one_of}
use Rattle.rb_log_defs.specs.Event.{post_header_lengths}
use Rattle.rb_log_defs.specs.Table.{bitmap_size}
use Rattle.rb_read_defs.specs.Reading.{Reading, Reader, Read, Short, Wrong, ◌>>=◌, give, some_bytes, number, length_number, the_rest, the_end, that}
use Rattle.rb_read_defs.specs.declared.answers.Header.{Header}
use Rattle.rb_read_defs.specs.declared.answers.QueryText.{QueryText}
use Rattle.rb_read_defs.specs.declared.answers.QueryText.TheVariants.{Begin, Commit}
use Rattle.rb_read_defs.specs.declared.answers.RotateTo.{RotateTo}

-- a type that this program writes
abbrev pub is_known : (kind : ℕ) → Bool
is_known kind = is_one_of known_types kind

-- LOG_EVENT_IGNORABLE_F: a reader that does not know the event's type skips the event
abbrev pub is_ignorable : (flags : ℕ) → Bool
is_ignorable flags = flags / 128 % 2 == 1

-- an event may have this type: the type is known, or the flags allow the event to be skipped; flags
-- that are not complete yet are not judged
abbrev pub may_be_type : (flags : Reading ℕ) → (kind : ℕ) → Bool
may_be_type (Read flags after) kind = is_known kind || is_ignorable flags
may_be_type (Short place) kind = true
may_be_type (Wrong place field) kind = true

-- an event's type; its flags come 13 bytes after the type
unfoldable pub event_type : Reader ℕ
event_type = λ bytes at. that fields.EventType (may_be_type (number 2 bytes (at + 13))) (number 1) bytes at

-- the header of an event that starts at this position
unfoldable pub header : (start : ℕ) → Reader Header
header start = do
  timestamp ← number 4
  kind ← event_type
  server ← number 4
  size ← that fields.EventSize (λ size. nat_le 19 size && nat_le size 2147483647) (number 4)
  end ← that fields.EndPosition (λ end. (end == 0) || (end == start + size)) (number 4)
  flags ← number 2
  give (record { kind = kind; server = server; size = size; end = end; flags = flags })

-- the post-header lengths: at least 32 of them, with the right length for each type that is written
abbrev pub are_post_headers : List ℕ → Bool
are_post_headers lengths = nat_le 32 (length lengths) && list_all (λ kind. get_or lengths (kind - 1) 0 == get_or post_header_lengths (kind - 1) 0) known_types

-- FORMAT_DESCRIPTION_EVENT: version, server version, create time, header length, post-header
-- lengths
unfoldable pub format : Reader (Unit {0})
format = do
  version ← that fields.Version (λ version. version == 4) (number 2)
  server_version ← some_bytes 50
  created ← number 4
  header_length ← that fields.HeaderLength (λ size. size == 19) (number 1)
  lengths ← that fields.PostHeader are_post_headers the_rest
  give tt

-- a query text that is accepted: BEGIN or COMMIT
abbrev pub is_text : List ℕ → Bool
is_text text = bytes_eq text (codes "BEGIN") || bytes_eq text (codes "COMMIT")

-- the meaning of such a text
abbrev pub text_of : List ℕ → QueryText
text_of text = if bytes_eq text (codes "BEGIN") then Begin else Commit

-- QUERY_EVENT: thread id, time, length of the schema's name, error code, length of the status
-- variables, the status variables, the schema's name, a byte, the text
unfoldable pub query : Reader QueryText
query = do
  thread ← number 4
  time ← number 4
  schema_length ← number 1
  error ← number 2
  status_length ← number 2
  status ← some_bytes status_length
  schema ← some_bytes schema_length
  end ← number 1
  text ← that fields.QueryText is_text the_rest
  give (text_of text)

-- XID_EVENT: the transaction's number, and no further byte
unfoldable pub xid : Reader ℕ
xid = do
  xid ← number 8
  end ← the_end
  give xid

-- ROTATE_EVENT: the position in the next file, and that file's name
unfoldable pub rotate : Reader RotateTo
rotate = do
  position ← number 8
  name ← the_rest
  give (record { position = position; name = name })

-- the first `count` bits of a bitmap, as a number
abbrev pub used_bits : (count : ℕ) → List ℕ → ℕ
used_bits count bitmap = little_number (length bitmap) bitmap % 2 ^ count

-- each of the first `count` bits is 0, as required of a null bitmap
abbrev pub all_clear : (count : ℕ) → List ℕ → Bool
all_clear count bitmap = used_bits count bitmap == 0

-- each of the first `count` bits is 1, as required of a present bitmap
abbrev pub all_set : (count : ℕ) → List ℕ → Bool
all_set count bitmap = used_bits count bitmap == 2 ^ count - 1

-- a table is mysql.ndb_apply_status
abbrev pub is_status : (schema name : List ℕ) → Bool
is_status schema name = bytes_eq schema (codes "mysql") && bytes_eq name (codes "ndb_apply_status")

-- a column type that is accepted: LONG, LONGLONG or VARCHAR
abbrev pub is_type : ℕ → Bool
is_type kind = (kind == 3) || (kind == 8) || (kind == 15)

-- column types that a table may have: the apply-status table has exactly its own; any other table
-- has a LONGLONG first
abbrev pub are_types : (schema name : List ℕ) → List ℕ → Bool
are_types schema name types =
    if is_status schema name then bytes_eq types (3 ∷ 8 ∷ 15 ∷ 8 ∷ 8 ∷ [])
    else list_all is_type types && (get_or types 0 0 == 8)

-- the length of the metadata in bytes: two for each VARCHAR
abbrev pub metadata_size : (types : List ℕ) → ℕ
metadata_size types = 2 * count_by (λ kind. kind == 15) types

-- the columns with these types and this metadata
abbrev pub columns_from : (types metadata : List ℕ) → List Column
columns_from [] metadata = []
columns_from (kind ∷ types) metadata =
    if kind == 15 then Text (little_number 2 metadata) ∷ columns_from types (drop 2 metadata)
    else (if kind == 3 then Long else Num) ∷ columns_from types metadata

-- TABLE_MAP_EVENT: table id, flags, the schema's name, the table's name, the types of the columns,
-- their metadata, and a bitmap of the columns that may be NULL, which is all zero; bytes after that
-- are ignored
unfoldable pub table_map : Reader Mapped
table_map = do
  id ← that fields.TableId (λ id. nat_le id 65535) (number 6)
  flags ← number 2
  schema_length ← number 1
  schema ← some_bytes schema_length
  schema_end ← number 1
  name_length ← number 1
  name ← some_bytes name_length
  name_end ← number 1
  count ← that fields.Columns (λ count. nat_le 1 count && nat_le count 64) (length_number fields.Columns)
  types ← that fields.ColumnType (are_types schema name) (some_bytes count)
  size ← that fields.Metadata (λ size. size == metadata_size types) (length_number fields.Metadata)
  metadata ← some_bytes size
  nulls ← that fields.Null (all_clear count) (some_bytes (bitmap_size count))
  give (record { id = id; schema = schema; name = name; columns = columns_from types metadata })
