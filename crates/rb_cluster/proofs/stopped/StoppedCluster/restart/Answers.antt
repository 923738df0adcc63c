use Rattle.std.proofs.Common.{refl, subst}
use Rattle.rb_play_defs.specs.Step.{restart_step}
use Rattle.rb_cluster.proofs.RestLaws.{at_branch}
use Rattle.rb_cluster.proofs.FailLaws.{can_restart, RestartRefused, cluster_restarted, was_up}
use Rattle.rb_cluster.proofs.stopped.StoppedCluster.restart.Goals.{in-Ok, in-Err-NodeUp}
use Rattle.rb_cluster.proofs.stopped.StoppedCluster.restart.Goals as goal

pub restart-requires : goal.restart-requires
restart-requires c =
    let (shape, run, ready) = c.requires.fits in
    record { ready = can_restart c.args.self c.args.node shape run ready }

pub unreachable-requires : goal.unreachable-requires
unreachable-requires c =
    let (shape, run, ready) = c.requires.fits in
    (subst (RestartRefused c.args.self.nodes c.restart.new.self c.args.node) c.in-Err-NodeDown.field-0-is (λ b n holds. c.in-Err-NodeDown.ensures.refused b n holds) _ _ ready.0.0.net).1

pub returns-clause-restarted : goal.returns-clause-restarted
returns-clause-restarted c = λ shape run ready.
    elim c.match-restart.branch [
      | in-Ok w ↦ at_branch shape (restart_step c.args.node run) _ _ _ c.match-restart.outcome refl w.outcome-is
          (cluster_restarted c.args.self c.restart.new.self c.args.node w.in-Ok.since shape run ready.0.0 (λ b n holds. w.in-Ok.ensures.restarted b n holds))
      | in-Err-NodeUp w ↦ at_branch shape (restart_step c.args.node run) _ _ _ c.match-restart.outcome refl w.outcome-is
          (was_up c.args.self c.restart.new.self c.args.node w.in-Err-NodeUp.node shape run ready.0.0
          (subst (RestartRefused c.args.self.nodes c.restart.new.self c.args.node) w.in-Err-NodeUp.field-0-is (λ b n holds. w.in-Err-NodeUp.ensures.refused b n holds)))
    ]
