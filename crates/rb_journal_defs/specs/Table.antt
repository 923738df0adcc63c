-- The rows of a table.
use Rattle.std.specs.Prelude.{◌≡◌, ℕ, ◌==◌, List, [], ◌∷◌, filter, filter_map, map, fold, Option, Some, None, IsSome, unwrap_or, Contains}
use Rattle.std.specs.List.{flat_map}
use Rattle.std.specs.List.Sorted.{IsStrictlyIncreasing}
use Rattle.std.specs.Ordering.{nat_cmp}
use Rattle.std.specs.BTreeSet.{insert_key}
use Rattle.rb_base.specs.declared.row.Value.{Value}
use Rattle.rb_base.specs.declared.row.Value.TheVariants.{Num, Text}
use Rattle.rb_base.specs.declared.row.Row.{Row}
use Rattle.rb_base.specs.declared.change.Change.{Change}
use Rattle.rb_journal_defs.specs.Journal.{Journal, row_changes_of, row_at}

-- the key in the values of a row: the first value, if it is a number
abbrev pub key_in : List Value → Option ℕ
key_in [] = None
key_in (Num key ∷ values) = Some key
key_in (Text text ∷ values) = None

-- the key of a row, or 0 if its first value is not a number
abbrev pub key_of : Row → ℕ
key_of row = unwrap_or (key_in row.values) 0

-- the keys of this table that these changes name, in the order of the changes
abbrev pub keys_named : (table : ℕ) → List Change → List ℕ
keys_named table changes = map (λ change. change.key) (filter (λ change. change.table == table) changes)

-- these keys in ascending order, each once
abbrev pub in_order : List ℕ → List ℕ
in_order keys = fold (insert_key nat_cmp) [] keys

-- the keys of a table that a journal names, in ascending order
abbrev pub keys_of_table : (table : ℕ) → Journal → List ℕ
keys_of_table table journal = in_order (keys_named table (flat_map row_changes_of journal))

-- the rows of a table, in ascending order of their keys
unfoldable pub rows_of_table : (table : ℕ) → Journal → List Row
rows_of_table table journal = filter_map (λ key. row_at table key journal) (keys_of_table table journal)

-- these rows are the table in which each key has the row that `row_of` gives: one row for each key
-- that has one, in ascending order of the keys
pub record IsTable (row_of : ℕ → Option Row) (rows : List Row) : Type 0 where
  pub keys : List ℕ
  pub rising : IsStrictlyIncreasing keys
  pub complete : (key : ℕ) → IsSome (row_of key) → Contains keys key
  pub listed : rows ≡ filter_map row_of keys
