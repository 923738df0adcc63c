-- Rows events as they are read, as in the binlog format. The extra data, which carries the
-- transaction's number, is this project's own.
use Rattle.std.specs.Prelude.{ℕ, zero, suc, ◌-◌, ◌==◌, nat_le, ◌&&◌, Bool, true, false, if◌then◌else◌, List, [], ◌∷◌, length, drop, get_or, Option, Some, None}
use Rattle.std.specs.Option.{option_map_or}
use Rattle.byteorder.specs.Endian.{little_number}
use Rattle.rb_base.specs.declared.faults.Field.TheVariants as fields
use Rattle.rb_base.specs.declared.schema.Column.{Column}
use Rattle.rb_base.specs.declared.schema.Column.TheVariants as columns
use Rattle.rb_base.specs.declared.schema.Mapped.{Mapped}
use Rattle.rb_base.specs.declared.row.Value.{Value}
use Rattle.rb_base.specs.declared.row.Value.TheVariants as values
use Rattle.rb_base.specs.declared.row.Row.{Row}
use Rattle.rb_base.specs.declared.change.Kind.{Kind}
use Rattle.rb_base.specs.declared.change.Kind.TheVariants.{Insert, Update, Remove}
use Rattle.rb_base.specs.declared.change.Change.{Change}
use Rattle.rb_log_defs.specs.Table.{bitmap_size}
use Rattle.rb_read_defs.specs.Reading.{Reader, Read, ◌>>=◌, give, some_bytes, number, length_number, that}
use Rattle.rb_read_defs.specs.Events.{all_clear, all_set}
use Rattle.rb_read_defs.specs.declared.answers.StatusRow.{StatusRow}

-- a value of a column; a text comes after its length, which takes 1 byte if the column's maximum is
-- at most 255 and otherwise 2
abbrev pub value_in : Column → Reader Value
value_in columns.Num = do
  n ← number 8
  give (values.Num n)
value_in columns.Long = do
  n ← number 4
  give (values.Num n)
value_in (columns.Text most) = do
  size ← that fields.Length (λ size. nat_le size most) (number (if nat_le most 255 then 1 else 2))
  text ← some_bytes size
  give (values.Text text)

-- a value is this key, if a key is given
abbrev pub is_key : Option ℕ → Value → Bool
is_key None value = true
is_key (Some key) (values.Num n) = key == n
is_key (Some key) (values.Text text) = false

-- the values of a row, column by column; the first one is this key, if a key is given
abbrev pub values_in : List Column → (key : Option ℕ) → Reader (List Value)
values_in [] key = give []
values_in (column ∷ columns) key = do
  value ← that fields.Key (is_key key) (value_in column)
  values ← values_in columns None
  give (value ∷ values)

-- a row image: a bitmap of the NULL values, which is all zero, and then the values
unfoldable pub image : List Column → (key : Option ℕ) → Reader Row
image columns key = do
  nulls ← that fields.Null (all_clear (length columns)) (some_bytes (bitmap_size (length columns)))
  values ← values_in columns key
  give (record { values = values })

-- the number that a row has in this column, or 0 if the value is not a number
abbrev pub number_in : Row → (column : ℕ) → ℕ
number_in row column = as_number (get_or row.values column (values.Num 0))
  where
    as_number : Value → ℕ
    as_number (values.Num n) = n
    as_number (values.Text text) = 0

-- the row images of a change of this kind: the after image of an insert, the before image of a
-- remove, or both of an update, with the same key
abbrev pub images : Kind → List Column → Reader (Option Row × Option Row)
images Insert columns = do
  after ← image columns None
  give (None, Some after)
images Update columns = do
  before ← image columns None
  after ← image columns (Some (number_in before 0))
  give (Some before, Some after)
images Remove columns = do
  before ← image columns None
  give (Some before, None)

-- the key in the row images of a change
abbrev pub key_of : Option Row × Option Row → ℕ
key_of (before, after) = option_map_or (λ row. number_in row 0) before (option_map_or (λ row. number_in row 0) after 0)

-- as many items as there are up to the end of the bytes, and at most `most`
abbrev pub up_to_the_end : {X : Type 0} → (most : ℕ) → Reader X → Reader (List X)
up_to_the_end zero read = give []
up_to_the_end (suc most) read = λ bytes at.
    if at == length bytes then Read [] at
    else (read >>= (λ item. up_to_the_end most read >>= (λ items. give (item ∷ items)))) bytes at

-- all items up to the end of the bytes; each has at least one byte
abbrev pub many : {X : Type 0} → Reader X → Reader (List X)
many read = λ bytes at. up_to_the_end (length bytes) read bytes at

-- the transaction's number in the extra data, which is `52` and 8 bytes; extra data of any other
-- form gives 0
abbrev pub transid_in : List ℕ → ℕ
transid_in extra = if (length extra == 9) && (get_or extra 0 0 == 82) then little_number 8 (drop 1 extra) else 0

-- the present bitmap of a row image, in which all columns are present
abbrev pub present : (columns : ℕ) → Reader (List ℕ)
present columns = that fields.Present (all_set columns) (some_bytes (bitmap_size columns))

-- the present bitmaps of a rows event of this kind: one for each row image, so an update has two
abbrev pub presents : Kind → (columns : ℕ) → Reader (List ℕ)
presents Insert columns = present columns
presents Update columns = present columns >>= (λ before. present columns)
presents Remove columns = present columns

-- the part of a rows event before its rows: table id, flags, the extra data after its length,
-- number of columns, present bitmaps; the result is the transaction's number
unfoldable pub rows_head : Kind → Mapped → Reader ℕ
rows_head kind table = do
  id ← that fields.TableId (λ id. id == table.id) (number 6)
  flags ← number 2
  size ← that fields.Extra (λ size. nat_le 2 size) (number 2)
  extra ← some_bytes (size - 2)
  width ← that fields.Width (λ width. width == length table.columns) (length_number fields.Width)
  bitmap ← presents kind (length table.columns)
  give (transid_in extra)

-- the changes of a rows event of this table, by this server
unfoldable pub changes : Kind → (server : ℕ) → Mapped → Reader (List Change)
changes kind server table = do
  transid ← rows_head kind table
  many (change_in transid)
  where
    change_in : ℕ → Reader Change
    change_in transid = do
      both ← images kind table.columns
      give (record { table = table.id; key = key_of both; kind = kind; before = both.0; after = both.1; author = server; transid = transid })

-- the rows of a write to the apply-status table
unfoldable pub statuses : Mapped → Reader (List StatusRow)
statuses table = do
  transid ← rows_head Insert table
  many status
  where
    status : Reader StatusRow
    status = do
      row ← image table.columns None
      give (record { server = number_in row 0; epoch = record { 0 = number_in row 1 } })
