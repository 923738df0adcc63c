-- The lengths in bytes of an epoch's table map events and rows events.
use Rattle.std.specs.Prelude.{ℕ, ◌+◌, List, length}
use Rattle.std.specs.List.{sum_by}
use Rattle.rb_base.specs.declared.change.Change.{Change}
use Rattle.rb_base.specs.declared.schema.Mapped.{Mapped}
use Rattle.rb_log_defs.specs.Event.{header_size}
use Rattle.rb_log_defs.specs.Table.{table_map_payload, columns_of}
use Rattle.rb_log_defs.specs.Rows.{change_payload}

-- the length of a table's table map event
abbrev pub map_size : Mapped → ℕ
map_size table = header_size + length (table_map_payload table)

-- the total length of the table map events of these tables
abbrev pub maps_size : List Mapped → ℕ
maps_size tables = sum_by map_size tables

-- the length of the rows event of a change; its flags, 0 here, do not affect it
abbrev pub change_size : List Mapped → Change → ℕ
change_size tables change = header_size + length (change_payload (columns_of tables change.table) change 0)

-- the total length of the rows events of these changes
abbrev pub changes_size : List Mapped → List Change → ℕ
changes_size tables changes = sum_by (change_size tables) changes
