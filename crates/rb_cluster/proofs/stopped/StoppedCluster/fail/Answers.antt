use Rattle.std.proofs.Common.{refl, subst, ap, ◌∙◌}
use Rattle.rb_base.specs.declared.outcome.Outcome.TheVariants as outcomes
use Rattle.rb_nodes.specs.declared.answers.NodeFailure.TheVariants as failures
use Rattle.rb_play_defs.specs.Step.{fail_step}
use Rattle.rb_cluster.proofs.RestLaws.{at_branch}
use Rattle.rb_cluster.proofs.FailLaws.{can_fail, Fails, FailureRefused, cluster_failed, was_down}
use Rattle.rb_cluster.proofs.stopped.StoppedCluster.fail.Goals.{in-Ok-Takeover, in-Ok-Lost, in-Err-NodeDown}
use Rattle.rb_cluster.proofs.stopped.StoppedCluster.fail.Goals as goal

pub fail-requires : goal.fail-requires
fail-requires c =
    let (shape, run, ready) = c.requires.fits in
    record { ready = can_fail c.args.self c.args.node shape run ready }

pub unreachable-requires : goal.unreachable-requires
unreachable-requires c =
    let (shape, run, ready) = c.requires.fits in
    subst (FailureRefused c.args.self.nodes c.fail.new.self c.args.node) c.in-Err-NodeUp.field-0-is (λ b n holds. c.in-Err-NodeUp.ensures.refused b n holds) _ _ ready.0.0.net

pub returns-clause-failed : goal.returns-clause-failed
returns-clause-failed c = λ shape run ready.
    elim c.match-fail.branch [
      | in-Ok-Takeover w ↦ at_branch shape (fail_step shape c.args.node run) _ _ _ c.match-fail.outcome refl (w.outcome-is ∙ ap (outcomes.Failed w.in-Ok-Takeover.takeover) w.sent_len-sent.ensures)
          (cluster_failed c.args.self c.fail.new.self c.args.node (failures.Takeover w.in-Ok-Takeover.takeover) shape run ready.0.0
          (subst (Fails c.args.self.nodes c.fail.new.self c.args.node) w.in-Ok-Takeover.field-0-is (λ b n holds. w.in-Ok-Takeover.ensures.failed b n holds)))
      | in-Ok-Lost w ↦ at_branch shape (fail_step shape c.args.node run) _ _ _ c.match-fail.outcome refl w.outcome-is
          (cluster_failed c.args.self c.fail.new.self c.args.node (failures.Lost w.in-Ok-Lost.group w.in-Ok-Lost.epoch) shape run ready.0.0
          (subst (Fails c.args.self.nodes c.fail.new.self c.args.node) w.in-Ok-Lost.field-0-is (λ b n holds. w.in-Ok-Lost.ensures.failed b n holds)))
      | in-Err-NodeDown w ↦ at_branch shape (fail_step shape c.args.node run) _ _ _ c.match-fail.outcome refl w.outcome-is
          (was_down c.args.self c.fail.new.self c.args.node w.in-Err-NodeDown.node shape run ready.0.0
          (subst (FailureRefused c.args.self.nodes c.fail.new.self c.args.node) w.in-Err-NodeDown.field-0-is (λ b n holds. w.in-Err-NodeDown.ensures.refused b n holds)))
    ]
