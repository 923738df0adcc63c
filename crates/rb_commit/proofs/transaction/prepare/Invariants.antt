use Rattle.std.proofs.Common.{◌≡◌, ℕ, take}
use Rattle.std.specs.List.{list_any}
use Rattle.rb_journal_defs.specs.Transaction.{refusal_of, changes_made}
use Rattle.rb_store.specs.Tables.{rows_in}
use Rattle.rb_commit.specs.Named.{is_named}
use Rattle.rb_commit.proofs.Judged.{first_left}
use Rattle.rb_commit.proofs.NamedRows.{names_row}
use Rattle.rb_commit.proofs.transaction.prepare.Given as goal

-- the rows and the changes of the operations so far, of which none is refused: those that are left
-- decide
abbrev pub invariant-loop-number : goal.invariant-loop-number
invariant-loop-number l = record {
  named : (t k : ℕ) → is_named l.named t k ≡ list_any (names_row t k) (take l.number l.operations);
  judged : first_left (rows_in l.tables) l.operations l.number ≡ refusal_of (rows_in l.tables) l.operations;
  made : l.changes ≡ changes_made (rows_in l.tables) l.author l.transid (take l.number l.operations);
}
