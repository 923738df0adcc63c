use Rattle.std.proofs.Common.{◌≡◌, ℕ, List, length}
use Rattle.rb_base.specs.declared.message.Sent.{Sent}
use Rattle.rb_nodes.specs.Outbox.{HoldsSent}
use Rattle.rb_nodes.proofs.outbox.Outbox.first_waiting.Given as goal

-- the outbox represents what it represented
abbrev pub invariant-loop-place : goal.invariant-loop-place
invariant-loop-place l = record {
  holds : (sent : List Sent) (delivered : List ℕ) (failed_at : ℕ → ℕ) → HoldsSent l.initial.self sent delivered failed_at → HoldsSent l.self sent delivered failed_at;
  sent : l.self.sent ≡ l.initial.self.sent;
  failed : l.self.failed ≡ l.initial.self.failed;
}

-- fewer and fewer keys are left
abbrev pub decreases-loop-place : goal.decreases-loop-place
decreases-loop-place l = length l.self.waiting.keys
