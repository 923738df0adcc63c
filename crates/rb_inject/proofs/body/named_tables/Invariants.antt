use Rattle.std.proofs.Common.{◌≡◌}
use Rattle.std.specs.Prelude.{filter, take}
use Rattle.rb_journal_defs.specs.Body.{is_named_in}
use Rattle.rb_inject.proofs.body.named_tables.Given as goal

-- the tables so far that are named are there
abbrev pub invariant-loop-table : goal.invariant-loop-table
invariant-loop-table l = record {
  named : l.named ≡ filter (is_named_in l.changes) (take l.table-index l.tables);
}
