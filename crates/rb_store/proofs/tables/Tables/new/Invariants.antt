use Rattle.std.proofs.Common.{◌≡◌, ℕ, None, length}
use Rattle.rb_store.specs.Tables.{slot_at}
use Rattle.rb_store.proofs.tables.Tables.new.Given as goal

-- the tables so far are without slots
abbrev pub invariant-loop : goal.invariant-loop
invariant-loop l = record {
  count : length l.tables.items ≡ l.counter;
  empty : (t k : ℕ) → slot_at l.tables.items t k ≡ None;
}
