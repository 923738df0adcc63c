use Rattle.std.proofs.Common.{◌≡◌, ◌++◌}
use Rattle.rb_message_defs.specs.Nodes.{sent_from}
use Rattle.rb_group.proofs.sending.push_from.Given as goal

-- what went over so far is sent
abbrev pub invariant-loop-message : goal.invariant-loop-message
invariant-loop-message l = record {
  whole : l.fn.messages ≡ l.yielded ++ l.message-iterator.rest.items;
  sent : l.sent.items ≡ l.fn.sent.items ++ sent_from l.sender l.yielded;
}
