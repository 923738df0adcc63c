use Rattle.std.proofs.Common.{◌≡◌, ◌++◌}
use Rattle.rb_nodes.proofs.nodes.append.Given as goal

-- the messages so far are appended
abbrev pub invariant-loop-message : goal.invariant-loop-message
invariant-loop-message l = record {
  appended : l.sent.items ≡ l.initial.sent.items ++ l.yielded;
}
