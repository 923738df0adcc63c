-- A single change, and a single row of the apply-status table, of which the readings of whole
-- events consist.
use Rattle.std.specs.Prelude.{ℕ, List, get_or, None}
use Rattle.rb_base.specs.declared.schema.Column.{Column}
use Rattle.rb_base.specs.declared.schema.Column.TheVariants.{Num}
use Rattle.rb_base.specs.declared.row.Value.{Value}
use Rattle.rb_base.specs.declared.row.Value.TheVariants as values
use Rattle.rb_base.specs.declared.change.Kind.{Kind}
use Rattle.rb_base.specs.declared.change.Change.{Change}
use Rattle.rb_base.specs.declared.schema.Mapped.{Mapped}
use Rattle.rb_read_defs.specs.Reading.{Reader, ◌>>=◌, give}
use Rattle.rb_read_defs.specs.Rows.{image, images, key_of, number_in}
use Rattle.rb_codec.specs.Columns.{IsLong}
use Rattle.rb_read_defs.specs.declared.answers.StatusRow.{StatusRow}

-- a change of a table, by this server in this transaction
unfoldable pub change_in : Kind → (server : ℕ) → Mapped → (transid : ℕ) → Reader Change
change_in kind server table transid = do
  both ← images kind table.columns
  give (record { table = table.id; key = key_of both; kind = kind; before = both.0; after = both.1; author = server; transid = transid })

-- a row of the apply-status table
unfoldable pub status : Mapped → Reader StatusRow
status table = do
  row ← image table.columns None
  give (record { server = number_in row 0; epoch = record { 0 = number_in row 1 } })

-- the first value of a row is a number of 4 bytes if the first column is LONG
abbrev pub IsFirstLong : List Column → List Value → Type 0
IsFirstLong columns items = IsLong (get_or columns 0 Num) (get_or items 0 (values.Num 0))
