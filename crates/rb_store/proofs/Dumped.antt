-- The rows of a table's slots.
use Rattle.std.proofs.Common.{◌≡◌, ℕ, List, [], ◌∷◌, Option, Some, refl, ap, ◌∙◌, filter_map, IsSome, All}
use Rattle.std.specs.List.{AllByRecursion, cons_option}
use Rattle.std.specs.Map.{keys_of}
use Rattle.std.specs.BTreeMap.{BTreeMap, IsOrdered, get}
use Rattle.std.specs.Ordering.{nat_cmp}
use Rattle.rb_base.specs.declared.row.Row.{Row}
use Rattle.rb_journal_defs.specs.Table.{IsTable}
use Rattle.rb_store.specs.declared.table.Slot.{Slot}
use Rattle.rb_store.specs.declared.table.Table.{Table}
use Rattle.rb_store.specs.Tables.{table_at, slot_at}
use Rattle.rb_store.specs.Table.{held_of, row_of, slot_in}
use Rattle.std.proofs.lemmas.Map.Keys.{IsStrictlyIncreasing-from_sorted}
use Rattle.std.proofs.lemmas.Cmp.{nat_cmp_total}
use Rattle.std.proofs.lemmas.Map.Lookups.{exact_unsigned}
use Rattle.std.proofs.lemmas.Map.Views.{btree_map_contains_key_iff}
use Rattle.std.proofs.Common.{rules, true, false, None, subst, sym, option_and_then}
use Rattle.std.proofs.lemmas.List.Elements.{recursion_from_All}

-- the row of a slot
abbrev pub row_in : Option Slot → Option Row
row_in slot = row_of (held_of slot)

-- the rows of these slots
abbrev pub rows_left : List (ℕ × Slot) → List Row
rows_left entries = filter_map (λ entry. row_in (Some entry.1)) entries

-- rows read by keys are those read off the entries
by_keys : (look : ℕ → Option Slot) (entries : List (ℕ × Slot)) → AllByRecursion (λ entry. look entry.0 ≡ Some entry.1) entries → rows_left entries ≡ filter_map (λ key. row_in (look key)) (keys_of entries)
by_keys look [] found = refl
by_keys look (entry ∷ entries) found = rw found.0 (ap (cons_option (row_in (Some entry.1))) (by_keys look entries found.1))

-- if there is a row there is a slot
is_there : (slot : Option Slot) → IsSome (row_in slot) → IsSome slot
is_there None there = there
is_there (Some slot) there = search rules

-- a table that is not declared has no rows
pub no_rows : (tables : List Table) (number : ℕ) → None ≡ table_at tables number → IsTable (λ key. row_in (slot_at tables number key)) []
no_rows tables number none = record {
  keys = [];
  rising = search rules;
  complete = λ key there.
      let some : false ≡ true = subst (λ (found : Option Table). IsSome (row_in (option_and_then (λ (table : Table). slot_in table key) found))) (sym none) there in
      absurd cc;
  listed = refl;
}

-- a table's rows are those of all its slots
pub is_table : (slots : BTreeMap ℕ Slot) (rows : List Row) → IsOrdered nat_cmp slots → All (λ entry. get nat_cmp slots entry.0 ≡ Some entry.1) slots.entries → rows ≡ rows_left slots.entries
    → IsTable (λ key. row_in (get nat_cmp slots key)) rows
is_table slots rows ordered found same = record {
  keys = keys_of slots.entries;
  rising = IsStrictlyIncreasing-from_sorted _ ordered;
  complete = λ key there. (btree_map_contains_key_iff nat_cmp_total exact_unsigned slots key).0 (is_there (get nat_cmp slots key) there);
  listed = same ∙ by_keys (get nat_cmp slots) slots.entries (recursion_from_All _ _ found);
}
