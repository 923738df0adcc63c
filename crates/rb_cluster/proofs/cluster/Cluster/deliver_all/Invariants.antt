use Rattle.std.proofs.Common.{ℕ, List}
use Rattle.rb_journal_defs.specs.Body.{Shape}
use Rattle.rb_play_defs.specs.Step.{Progress}
use Rattle.rb_nodes.proofs.OutboxLaws.{still_waiting}
use Rattle.rb_cluster.specs.Cluster.{IsCluster, SameSetup}
use Rattle.rb_cluster.proofs.DeliverAllLaws.{IsOnTheWay}
use Rattle.rb_cluster.proofs.cluster.Cluster.deliver_all.Given as goal

abbrev pub invariant-loop-place : goal.invariant-loop-place
invariant-loop-place l = record {
  way : (seen : ℕ → List ℕ) (shape : Shape) (run : Progress) → IsCluster l.fn.self seen shape run → IsOnTheWay l.cluster l.tally seen shape run;
  setup : SameSetup l.fn.self l.cluster;
}

-- fewer and fewer messages wait
abbrev pub decreases-loop-place : goal.decreases-loop-place
decreases-loop-place l = still_waiting l.cluster.rest.nodes.outbox
