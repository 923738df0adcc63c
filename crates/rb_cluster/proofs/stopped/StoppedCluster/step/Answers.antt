use Rattle.std.proofs.Common.{sym, subst, ◌∙◌}
use Rattle.rb_base.proofs.Results.{weaker_ok}
use Rattle.rb_play_defs.specs.Point.{EventFits}
use Rattle.rb_cluster.specs.Cluster.{IsStoppedCluster}
use Rattle.rb_play_defs.proofs.Events.{step_is, is_tx, is_close, is_fail, is_restart, is_resend}
use Rattle.rb_cluster.proofs.RestLaws.{none_lost}
use Rattle.rb_cluster.proofs.StepLaws.{rest_lost}
use Rattle.rb_cluster.proofs.stopped.StoppedCluster.step.Goals as goal

pub returns-in-Some-clause-stepped : goal.returns-in-Some-clause-stepped
returns-in-Some-clause-stepped c = λ shape run ready.
    rest_lost c.args.self c.args.event (c.in-Some.group, c.in-Some.epoch) shape run ready.0 c.requires.needs (sym c.in-Some.is ∙ c.lost.ensures)

pub transact-requires : goal.transact-requires
transact-requires c =
    let (shape, run, ready) = c.requires.fits in
    record { fits = (shape, run, ((ready.0, none_lost c.args.self shape run ready.0 (sym c.in_default.is ∙ c.lost.ensures)), subst (EventFits shape run) c.in-Tx.is ready.1)) }

pub returns-in-Tx-clause-stepped : goal.returns-in-Tx-clause-stepped
returns-in-Tx-clause-stepped c = weaker_ok _ _ c.transact.result (λ pair meets shape run ready.
    let none = none_lost c.args.self shape run ready.0 (sym c.in_default.is ∙ c.lost.ensures) in
    step_is (IsStoppedCluster pair.0 shape) pair.1 _ _ (is_tx shape run c.args.event c.in-Tx.operations c.in-Tx.is none) (meets shape run ((ready.0, none), subst (EventFits shape run) c.in-Tx.is ready.1))) c.transact.ensures.stepped

pub close-requires : goal.close-requires
close-requires c =
    let (shape, run, ready) = c.requires.fits in
    record { fits = (shape, run, ((ready.0, none_lost c.args.self shape run ready.0 (sym c.in_default.is ∙ c.lost.ensures)), subst (EventFits shape run) c.in-Close.is ready.1)) }

pub returns-in-Close-clause-stepped : goal.returns-in-Close-clause-stepped
returns-in-Close-clause-stepped c = weaker_ok _ _ c.close.result (λ pair meets shape run ready.
    let none = none_lost c.args.self shape run ready.0 (sym c.in_default.is ∙ c.lost.ensures) in
    step_is (IsStoppedCluster pair.0 shape) pair.1 _ _ (is_close shape run c.args.event c.in-Close.gci c.in-Close.is none) (meets shape run ((ready.0, none), subst (EventFits shape run) c.in-Close.is ready.1))) c.close.ensures.closed

pub fail-requires : goal.fail-requires
fail-requires c =
    let (shape, run, ready) = c.requires.fits in
    record { fits = (shape, run, ((ready.0, none_lost c.args.self shape run ready.0 (sym c.in_default.is ∙ c.lost.ensures)), subst (EventFits shape run) c.in-Fail.is ready.1)) }

pub returns-in-Fail-clause-stepped : goal.returns-in-Fail-clause-stepped
returns-in-Fail-clause-stepped c = weaker_ok _ _ c.fail.result (λ pair meets shape run ready.
    let none = none_lost c.args.self shape run ready.0 (sym c.in_default.is ∙ c.lost.ensures) in
    step_is (IsStoppedCluster pair.0 shape) pair.1 _ _ (is_fail shape run c.args.event c.in-Fail.node c.in-Fail.is none) (meets shape run ((ready.0, none), subst (EventFits shape run) c.in-Fail.is ready.1))) c.fail.ensures.failed

pub restart-requires : goal.restart-requires
restart-requires c =
    let (shape, run, ready) = c.requires.fits in
    record { fits = (shape, run, ((ready.0, none_lost c.args.self shape run ready.0 (sym c.in_default.is ∙ c.lost.ensures)), subst (EventFits shape run) c.in-Restart.is ready.1)) }

pub returns-in-Restart-clause-stepped : goal.returns-in-Restart-clause-stepped
returns-in-Restart-clause-stepped c = weaker_ok _ _ c.restart.result (λ pair meets shape run ready.
    let none = none_lost c.args.self shape run ready.0 (sym c.in_default.is ∙ c.lost.ensures) in
    step_is (IsStoppedCluster pair.0 shape) pair.1 _ _ (is_restart shape run c.args.event c.in-Restart.node c.in-Restart.is none) (meets shape run ((ready.0, none), subst (EventFits shape run) c.in-Restart.is ready.1))) c.restart.ensures.restarted

pub resend-requires : goal.resend-requires
resend-requires c =
    let (shape, run, ready) = c.requires.fits in
    record { fits = (shape, run, (ready.0, none_lost c.args.self shape run ready.0 (sym c.in_default.is ∙ c.lost.ensures))) }

pub returns-in-Resend-clause-stepped : goal.returns-in-Resend-clause-stepped
returns-in-Resend-clause-stepped c = weaker_ok _ _ c.resend.result (λ pair meets shape run ready.
    let none = none_lost c.args.self shape run ready.0 (sym c.in_default.is ∙ c.lost.ensures) in
    step_is (IsStoppedCluster pair.0 shape) pair.1 _ _ (is_resend shape run c.args.event c.in-Resend.is none) (meets shape run (ready.0, none))) c.resend.ensures.resent
