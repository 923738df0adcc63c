-- Changes that can be stored in tables.
use Rattle.std.specs.Prelude.{◌≡◌, ℕ, ◌≤◌, Some, IfSome}
use Rattle.rb_base.specs.declared.change.Change.{Change}
use Rattle.rb_journal_defs.specs.Table.{key_in}

-- a change of one of `tables` tables, whose after image has its key first
pub record CanBeStored (tables : ℕ) (change : Change) : Type 0 where
  pub some : 1 ≤ change.table
  pub declared : change.table ≤ tables
  pub keyed : IfSome change.after (λ row. key_in row.values ≡ Some change.key)
