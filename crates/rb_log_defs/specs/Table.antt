-- TABLE_MAP_EVENT, which names the table of an id for the rows events after it, as in the binlog
-- format.
use Rattle.std.specs.Prelude.{ℕ, ◌+◌, ◌/◌, ◌==◌, List, [], ◌∷◌, ◌++◌, length, map, find, codes}
use Rattle.std.specs.List.{flat_map}
use Rattle.std.specs.Option.{option_map_or}
use Rattle.byteorder.specs.Endian.{little_bytes}
use Rattle.rb_base.specs.Length.{length_bytes}
use Rattle.rb_base.specs.declared.schema.Column.{Column}
use Rattle.rb_base.specs.declared.schema.Column.TheVariants.{Num, Long, Text}
use Rattle.rb_base.specs.declared.schema.Mapped.{Mapped}
use Rattle.rb_log_defs.specs.Types.{table_map_type}
use Rattle.rb_log_defs.specs.Event.{Placed, zeros, event_bytes}

-- the type byte of a column: LONGLONG, LONG or VARCHAR
abbrev pub type_of : Column → ℕ
type_of Num = 8
type_of Long = 3
type_of (Text most) = 15

-- the metadata of a column: the maximum length of a VARCHAR, and nothing for a number
abbrev pub metadata_of : Column → List ℕ
metadata_of Num = []
metadata_of Long = []
metadata_of (Text most) = little_bytes 2 most

-- the metadata of all columns
abbrev pub all_metadata : List Column → List ℕ
all_metadata columns = flat_map metadata_of columns

-- the length in bytes of a bitmap of `columns` bits, one for each column
abbrev pub bitmap_size : ℕ → ℕ
bitmap_size columns = (columns + 7) / 8

-- the payload of a table map event: table id, flags, each name between its length and a zero byte,
-- the number of columns, their types, the metadata after its length, and a bitmap: none may be NULL
unfoldable pub table_map_payload : Mapped → List ℕ
table_map_payload table =
    little_bytes 6 table.id ++ (zeros 2
    ++ (length table.schema ∷ (table.schema ++ (0 ∷ (length table.name ∷ (table.name ++ (0 ∷
    (length_bytes (length table.columns) ++ (map type_of table.columns
    ++ (length_bytes (length (all_metadata table.columns)) ++ (all_metadata table.columns
    ++ zeros (bitmap_size (length table.columns)))))))))))))

-- the table map event of a table
abbrev pub table_map_event : (server : ℕ) → Mapped → Placed
table_map_event server table = event_bytes table_map_type server (table_map_payload table)

-- the columns of the table with this id, or none if no table has it
abbrev pub columns_of : List Mapped → ℕ → List Column
columns_of tables id = option_map_or (λ table. table.columns) (find (λ table. table.id == id) tables) []

-- the columns of mysql.ndb_apply_status: server id, epoch, log name, start position, end position
abbrev pub status_columns : List Column
status_columns = Long ∷ Num ∷ Text 255 ∷ Num ∷ Num ∷ []

-- mysql.ndb_apply_status as the log maps it, with id 0
abbrev pub status_table : Mapped
status_table = record { id = 0; schema = codes "mysql"; name = codes "ndb_apply_status"; columns = status_columns }
