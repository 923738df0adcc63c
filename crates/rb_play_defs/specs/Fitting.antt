-- Changes and operations that fit the tables of a site.
use Rattle.std.specs.Prelude.{◌≡◌, ℕ, ◌≤◌, List, length, Option, Some, None, IfSome}
use Rattle.std.specs.List.{AllByRecursion}
use Rattle.rb_base.specs.declared.schema.Mapped.{Mapped}
use Rattle.rb_base.specs.declared.schema.Column.{Column}
use Rattle.rb_base.specs.declared.row.Row.{Row}
use Rattle.rb_base.specs.declared.change.Change.{Change}
use Rattle.rb_base.specs.declared.script.Op.{Op}
use Rattle.rb_base.specs.declared.script.Op.TheVariants.{Ins, Upd, Put, Del}
use Rattle.rb_base.specs.declared.script.ClientOp.{ClientOp}
use Rattle.rb_log_defs.specs.Table.{columns_of}
use Rattle.rb_log_defs.specs.Fits.{FitsColumns, Fits}
use Rattle.rb_journal_defs.specs.Journal.{Journal, row_changes_of}
use Rattle.rb_journal_defs.specs.Body.{Shape}
use Rattle.rb_journal_defs.specs.Table.{key_in}

-- a table with this number is declared
abbrev pub IsDeclared : List Mapped → (number : ℕ) → Type 0
IsDeclared tables number = (1 ≤ number) × (number ≤ length tables)

-- a row has this key first, and fits these columns
pub record IsRowOf (columns : List Column) (key : ℕ) (row : Row) : Type 0 where
  pub keyed : key_in row.values ≡ Some key
  pub fits : FitsColumns columns row.values

-- a change of a declared table, whose row images fit the table's columns and have the change's key
pub record FitsTables (tables : List Mapped) (change : Change) : Type 0 where
  pub declared : IsDeclared tables change.table
  pub fits : Fits (columns_of tables change.table) change
  pub before : IfSome change.before (λ row. key_in row.values ≡ Some change.key)
  pub after : IfSome change.after (λ row. key_in row.values ≡ Some change.key)

-- all changes that a journal makes to rows fit the site's tables
abbrev pub JournalFits : Shape → Journal → Type 0
JournalFits shape journal = AllByRecursion (λ entry. AllByRecursion (FitsTables shape.tables) (row_changes_of entry)) journal

-- an operation of this kind has the row that it needs, and the row fits these columns
abbrev pub PutsRow : Op → List Column → (key : ℕ) → Option Row → Type 0
PutsRow Ins columns key None = ⊥
PutsRow Ins columns key (Some row) = IsRowOf columns key row
PutsRow Upd columns key None = ⊥
PutsRow Upd columns key (Some row) = IsRowOf columns key row
PutsRow Put columns key None = ⊥
PutsRow Put columns key (Some row) = IsRowOf columns key row
PutsRow Del columns key row = Unit {0}

-- an operation on a declared table, with a row that fits the table
pub record OperationFits (tables : List Mapped) (operation : ClientOp) : Type 0 where
  pub declared : IsDeclared tables operation.table
  pub row : PutsRow operation.op (columns_of tables operation.table) operation.key operation.row
