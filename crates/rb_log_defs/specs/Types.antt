-- The event types of the binlog format that this program writes, by their names in MySQL.
use Rattle.std.specs.Prelude.{ℕ, ◌==◌, Bool, List, [], ◌∷◌}
use Rattle.std.specs.List.{list_any}

-- QUERY_EVENT, which carries a text such as BEGIN
abbrev pub query_type : ℕ
query_type = 2

-- ROTATE_EVENT, which names the next file
abbrev pub rotate_type : ℕ
rotate_type = 4

-- FORMAT_DESCRIPTION_EVENT, the first event of a file
abbrev pub format_type : ℕ
format_type = 15

-- XID_EVENT, which ends a transaction
abbrev pub xid_type : ℕ
xid_type = 16

-- TABLE_MAP_EVENT, which names the table of an id
abbrev pub table_map_type : ℕ
table_map_type = 19

-- WRITE_ROWS_EVENT, version 2
abbrev pub write_rows_type : ℕ
write_rows_type = 30

-- UPDATE_ROWS_EVENT, version 2
abbrev pub update_rows_type : ℕ
update_rows_type = 31

-- DELETE_ROWS_EVENT, version 2
abbrev pub delete_rows_type : ℕ
delete_rows_type = 32

-- the types of rows events
abbrev pub rows_types : List ℕ
rows_types = write_rows_type ∷ update_rows_type ∷ delete_rows_type ∷ []

-- all types that this program writes
abbrev pub known_types : List ℕ
known_types = query_type ∷ rotate_type ∷ format_type ∷ xid_type ∷ table_map_type ∷ rows_types

-- a type is one of these
abbrev pub is_one_of : (types : List ℕ) → (kind : ℕ) → Bool
is_one_of types kind = list_any (λ known. known == kind) types
