use Rattle.std.proofs.Common.{◌≡◌, ◌++◌, ℕ, take}
use Rattle.rb_journal_defs.specs.Journal.{Journal, row_at}
use Rattle.rb_store.specs.Tables.{rows_in}
use Rattle.rb_play_defs.specs.Play.{tables_left}
use Rattle.rb_top.proofs.TableLaws.{text_of_tables}
use Rattle.rb_top.proofs.run.put_tables.Given as goal

-- the tables so far are printed
abbrev pub invariant-loop-place : goal.invariant-loop-place
invariant-loop-place l = record {
  reported : (journal : Journal) → ((table key : ℕ) → rows_in l.tables table key ≡ row_at table key journal) →
      l.text.items ≡ l.initial.text.items ++ text_of_tables (tables_left (take l.place l.schemas) journal);
}
