-- Which tables and rows the log can hold: the names and columns of a table have room in their
-- fields, and rows fit their columns. The widths of the fields are those of the binlog format.
use Rattle.std.specs.Prelude.{◌<◌, ◌≤◌, ◌^◌, List, [], ◌∷◌, length, All, Option, Some, None, IsNone}
use Rattle.rb_base.specs.declared.schema.Column.{Column}
use Rattle.rb_base.specs.declared.schema.Column.TheVariants as columns
use Rattle.rb_base.specs.declared.schema.Mapped.{Mapped}
use Rattle.rb_base.specs.declared.row.Value.{Value}
use Rattle.rb_base.specs.declared.row.Value.TheVariants as values
use Rattle.rb_base.specs.declared.row.Row.{Row}
use Rattle.rb_base.specs.declared.change.Kind.{Kind}
use Rattle.rb_base.specs.declared.change.Kind.TheVariants.{Insert, Update, Remove}
use Rattle.rb_base.specs.declared.change.Change.{Change}
use Rattle.rb_base.specs.declared.body.EpochBody.{EpochBody}
use Rattle.rb_log_defs.specs.Table.{columns_of}

-- a table that a table map event can name: 1 to 64 columns, and names of at most 255 bytes
pub record CanBeMapped (table : Mapped) : Type 0 where
  pub schema : length table.schema < 256
  pub name : length table.name < 256
  pub some : 0 < length table.columns
  pub few : length table.columns ≤ 64

-- a value that a column can hold
abbrev pub FitsColumn : Column → Value → Type 0
FitsColumn columns.Num (values.Num n) = Unit {0}
FitsColumn columns.Long (values.Num n) = n < 2 ^ 32
FitsColumn (columns.Text most) (values.Text text) = length text ≤ most
FitsColumn columns.Num (values.Text text) = ⊥
FitsColumn columns.Long (values.Text text) = ⊥
FitsColumn (columns.Text most) (values.Num n) = ⊥

-- one value for each column, and each value fits its column
abbrev pub FitsColumns : List Column → List Value → Type 0
FitsColumns [] [] = Unit {0}
FitsColumns (column ∷ columns) (value ∷ values) = FitsColumn column value × FitsColumns columns values
FitsColumns [] (value ∷ values) = ⊥
FitsColumns (column ∷ columns) [] = ⊥

-- the row is present and fits the columns
abbrev pub IsImage : List Column → Option Row → Type 0
IsImage columns None = ⊥
IsImage columns (Some row) = FitsColumns columns row.values

-- a change has the row images of its kind, and they fit these columns
abbrev pub FitsKind : Kind → List Column → (before after : Option Row) → Type 0
FitsKind Insert columns before after = IsNone before × IsImage columns after
FitsKind Update columns before after = IsImage columns before × IsImage columns after
FitsKind Remove columns before after = IsImage columns before × IsNone after

-- a change fits these columns
abbrev pub Fits : List Column → Change → Type 0
Fits columns change = FitsKind change.kind columns change.before change.after

-- a body that can be written: its tables can be mapped, each change fits its table, and the table
-- of each change is among them with 1 to 64 columns
pub record CanBeWritten (body : EpochBody) : Type 0 where
  pub tables : All CanBeMapped body.tables
  pub fit : All (λ change. Fits (columns_of body.tables change.table) change) body.changes
  pub mapped : All (λ change. (0 < length (columns_of body.tables change.table)) × (length (columns_of body.tables change.table) ≤ 64)) body.changes
