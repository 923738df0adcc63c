use Rattle.std.proofs.Common.{◌≡◌, ◌++◌}
use Rattle.std.specs.Prelude.{filter}
use Rattle.rb_journal_defs.specs.Body.{is_logged}
use Rattle.rb_inject.proofs.body.append_logged.Given as goal

-- the changes so far are appended
abbrev pub invariant-loop-change : goal.invariant-loop-change
invariant-loop-change l = record {
  appended : l.changes.items ≡ l.initial.changes.items ++ filter (is_logged l.site) l.yielded;
}
