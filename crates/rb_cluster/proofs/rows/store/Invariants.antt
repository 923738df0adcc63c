use Rattle.std.proofs.Common.{◌≡◌, ℕ}
use Rattle.std.specs.Prelude.{take}
use Rattle.rb_journal_defs.specs.Journal.{of_key}
use Rattle.rb_store.specs.Tables.{held_at, tables_in}
use Rattle.rb_store.specs.Left.{held_left}
use Rattle.rb_cluster.proofs.rows.store.Given as goal

-- the changes so far are stored
abbrev pub invariant-loop-change : goal.invariant-loop-change
invariant-loop-change l = record {
  rows : (table key : ℕ) → held_at l.tables table key ≡ held_left l.epoch.0 (of_key table key (take l.change-index l.changes)) (held_at l.initial.tables table key);
  count : tables_in l.tables ≡ tables_in l.initial.tables;
}
