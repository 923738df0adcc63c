use Rattle.std.proofs.Common.{◌≡◌, ℕ, List, ◌++◌}
use Rattle.rb_base.specs.declared.message.Sent.{Sent}
use Rattle.rb_nodes.specs.Outbox.{HoldsSent, nodes_in}
use Rattle.rb_nodes.proofs.sending.send_all.Given as goal

-- the messages so far are sent
abbrev pub invariant-loop-message : goal.invariant-loop-message
invariant-loop-message l = record {
  sent : (sent : List Sent) (delivered : List ℕ) (failed_at : ℕ → ℕ) → HoldsSent l.initial.outbox sent delivered failed_at → HoldsSent l.outbox (sent ++ l.yielded) delivered failed_at;
  nodes : nodes_in l.outbox ≡ nodes_in l.initial.outbox;
}
