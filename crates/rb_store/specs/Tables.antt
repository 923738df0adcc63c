-- What the tables of a site hold: rows by their tables and keys, and the room beside them.
use Rattle.std.specs.Prelude.{ℕ, ◌≤◌, ◌==◌, ◌&&◌, ◌-◌, ◌+◌, if◌then◌else◌, List, length, count_by, slice_get, Option, None}
use Rattle.std.specs.Option.{option_and_then}
use Rattle.rb_base.specs.declared.row.Row.{Row}
use Rattle.rb_store.specs.declared.table.Held.{Held}
use Rattle.rb_store.specs.declared.table.Slot.{Slot}
use Rattle.rb_store.specs.declared.table.Table.{Table}
use Rattle.rb_store.specs.declared.tables.Tables.{Tables}
use Rattle.rb_store.specs.Table.{held_of, room_of, row_of, slot_in}

-- the table with this number, counted from 1
abbrev pub table_at : List Table → (number : ℕ) → Option Table
table_at tables number = if number == 0 then None else slice_get tables (number - 1)

-- the slot of a key of a table
abbrev pub slot_at : List Table → (table key : ℕ) → Option Slot
slot_at tables table key = option_and_then (λ found. slot_in found key) (table_at tables table)

-- what a key holds; nothing in an undeclared table
unfoldable pub held_at : Tables → (table key : ℕ) → Option Held
held_at tables table key = held_of (slot_at tables.tables.items table key)

-- how many changes of a key have room
unfoldable pub room_at : Tables → (table key : ℕ) → ℕ
room_at tables table key = room_of (slot_at tables.tables.items table key)

-- the number of tables
unfoldable pub tables_in : Tables → ℕ
tables_in tables = length tables.tables.items

-- a table is declared; tables are numbered from 1
abbrev pub IsDeclared : Tables → (table : ℕ) → Type 0
IsDeclared tables table = (1 ≤ table) × (table ≤ tables_in tables)

-- the row of a key
abbrev pub rows_in : Tables → (table key : ℕ) → Option Row
rows_in tables table key = row_of (held_at tables table key)

-- these rows, with this one at a key
abbrev pub with_held : (table key : ℕ) → Option Held → (ℕ → ℕ → Option Held) → ℕ → ℕ → Option Held
with_held table key held rows t k = if (table == t) && (key == k) then held else rows t k

-- this room, with one place less at a key
abbrev pub room_less : (table key : ℕ) → (ℕ → ℕ → ℕ) → ℕ → ℕ → ℕ
room_less table key room t k = if (table == t) && (key == k) then room t k - 1 else room t k

-- this room, with one place more for each time that a key of a table is listed
abbrev pub room_more : (table : ℕ) → List ℕ → (ℕ → ℕ → ℕ) → ℕ → ℕ → ℕ
room_more table keys room t k = if table == t then room t k + count_by (λ key. key == k) keys else room t k
