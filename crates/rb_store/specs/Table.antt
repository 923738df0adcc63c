-- What one table holds: rows by their keys, and the room beside them.
use Rattle.std.specs.Prelude.{ℕ, ◌==◌, List, count_by, Option, Some, None}
use Rattle.std.specs.Ordering.{nat_cmp}
use Rattle.std.specs.Option.{option_map}
use Rattle.std.specs.BTreeMap.{get}
use Rattle.rb_base.specs.declared.row.Row.{Row}
use Rattle.rb_store.specs.declared.table.Held.{Held}
use Rattle.rb_store.specs.declared.table.Slot.{Slot}
use Rattle.rb_store.specs.declared.table.Table.{Table}

-- what a slot holds; nothing if there is no slot
abbrev pub held_of : Option Slot → Option Held
held_of None = None
held_of (Some slot) = slot.held

-- how many changes of a slot's key have room
abbrev pub room_of : Option Slot → ℕ
room_of None = 0
room_of (Some slot) = slot.room

-- the row of what is held
abbrev pub row_of : Option Held → Option Row
row_of held = option_map (λ there. there.row) held

-- the slot of a key
abbrev pub slot_in : Table → (key : ℕ) → Option Slot
slot_in table key = get nat_cmp table.slots key

-- what a key of the table holds
abbrev pub held_in : Table → (key : ℕ) → Option Held
held_in table key = held_of (slot_in table key)

-- how many changes of a key have room in the table
abbrev pub room_in : Table → (key : ℕ) → ℕ
room_in table key = room_of (slot_in table key)

-- how often a key is in a list
abbrev pub times : List ℕ → (key : ℕ) → ℕ
times keys key = count_by (λ other. other == key) keys
