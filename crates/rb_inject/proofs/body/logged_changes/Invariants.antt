use Rattle.std.proofs.Common.{◌≡◌}
use Rattle.rb_inject.specs.Body.{logged_of}
use Rattle.rb_inject.proofs.body.logged_changes.Given as goal

-- the parts so far are appended
abbrev pub invariant-loop-part : goal.invariant-loop-part
invariant-loop-part l = record {
  appended : l.changes.items ≡ logged_of l.site l.yielded;
}
