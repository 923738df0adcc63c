-- The rows that operations name, as a set of pairs of a table and a key.
use Rattle.std.specs.Prelude.{ℕ, Bool}
use Rattle.std.specs.Ordering.{ordering_then, nat_cmp}
use Rattle.std.specs.declared.cmp.Ordering.{Ordering}
use Rattle.std.specs.BTreeSet.{BTreeSet, contains}

-- the order of pairs: by the table, then by the key
abbrev pub pair_cmp : ℕ × ℕ → ℕ × ℕ → Ordering
pair_cmp one other = ordering_then (nat_cmp one.0 other.0) (nat_cmp one.1 other.1)

-- a row is among those named
abbrev pub is_named : BTreeSet (ℕ × ℕ) → (table key : ℕ) → Bool
is_named named table key = contains pair_cmp named (table, key)
