use Rattle.std.proofs.Common.{◌≡◌}
use Rattle.std.specs.Prelude.{take}
use Rattle.rb_journal_defs.specs.Body.{mapped_tables}
use Rattle.rb_cluster.proofs.mapping.map_tables.Given as goal

-- the tables so far, as the log maps them
abbrev pub invariant-loop-number : goal.invariant-loop-number
invariant-loop-number l = record {
  tables : l.tables ≡ mapped_tables (take l.number l.fn.schemas);
}
