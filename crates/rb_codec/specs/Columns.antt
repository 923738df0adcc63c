-- The columns of a table map, one at a time, and the values of a column.
use Rattle.std.specs.Prelude.{◌≡◌, ◌≤◌, ◌<◌, ◌^◌, ℕ, ◌==◌, true, if◌then◌else◌, List, length, get_or}
use Rattle.byteorder.specs.Endian.{little_number}
use Rattle.rb_base.specs.declared.schema.Column.{Column}
use Rattle.rb_base.specs.declared.schema.Column.TheVariants.{Num, Long, Text}
use Rattle.rb_base.specs.declared.schema.Mapped.{Mapped}
use Rattle.rb_base.specs.declared.row.Value.{Value}
use Rattle.rb_base.specs.declared.row.Value.TheVariants as values
use Rattle.rb_read_defs.specs.Events.{is_status}

-- a table whose columns are enough to read its rows events: it has 1 to 64 columns, and the first
-- column of the apply-status table is the server id
pub record HasColumns (table : Mapped) : Type 0 where
  pub some : 1 ≤ length table.columns
  pub few : length table.columns ≤ 64
  pub server : is_status table.schema table.name ≡ true → get_or table.columns 0 Num ≡ Long

-- the length in bytes of the metadata of a column with this type
abbrev pub width_of : (kind : ℕ) → ℕ
width_of kind = if kind == 15 then 2 else 0

-- the column with this type, given bytes that begin with its metadata
abbrev pub column_from : (kind : ℕ) → (metadata : List ℕ) → Column
column_from kind metadata = if kind == 15 then Text (little_number 2 metadata) else (if kind == 3 then Long else Num)

-- a value that is a number of 4 bytes, if it is a number
abbrev pub IsSmall : Value → Type 0
IsSmall (values.Num n) = n < 2 ^ 32
IsSmall (values.Text text) = Unit {0}

-- a value of a LONG column is a number of 4 bytes
abbrev pub IsLong : Column → Value → Type 0
IsLong column value = column ≡ Long → IsSmall value
