use Rattle.std.proofs.Common.{◌≡◌, true, false, refl, sym, ap, subst, ◌∙◌, arith}
use Rattle.std.proofs.lemmas.Result.{on_err_weaker}
use Rattle.rb_base.proofs.Results.{weaker_ok}
use Rattle.rb_play_defs.specs.Step.{Progress, StepResult, written_bodies}
use Rattle.rb_play_defs.specs.UnfinishedLog.{HoldsUnfinishedLog}
use Rattle.rb_play_defs.specs.Point.{uses_device}
use Rattle.rb_cluster.specs.Cluster.{IsCluster, limit_of}
use Rattle.rb_play_defs.proofs.Events.{step_is, is_inject, is_injector, turn_is_step}
use Rattle.rb_cluster.proofs.StepLaws.{part_before, part_unmoved}
use Rattle.rb_cluster.proofs.cluster.Cluster.step.Goals as goal

pub inject-requires : goal.inject-requires
inject-requires g c =
    let (shape, run, ready) = c.requires.fits in
    record { fits = (shape, run, ready.0) }

pub begin_again-requires : goal.begin_again-requires
begin_again-requires g c =
    let (shape, run, ready) = c.requires.fits in
    record { fits = (shape, run, ready.0) }

pub returns-in-Inject-clause-stepped : goal.returns-in-Inject-clause-stepped
returns-in-Inject-clause-stepped g c = weaker_ok _ _ c.inject.result (λ pair meets shape run ready.
    step_is (IsCluster pair.0 (g.D.LogDisk.seen c.inject.new.disk) shape) pair.1 _ _ (is_inject shape run c.args.event c.in-Inject.is) (meets shape run ready.0)) c.inject.ensures.injected

pub returns-in-Inject-clause-part : goal.returns-in-Inject-clause-part
returns-in-Inject-clause-part g c = on_err_weaker c.inject.result (λ leaves shape run held.
    subst (λ (p : Progress). HoldsUnfinishedLog shape.site (limit_of c.args.self) run.written (written_bodies shape p) (g.D.LogDisk.seen c.inject.new.disk)) (sym (turn_is_step shape run) ∙ sym (ap (λ (s : StepResult). s.run) (is_inject shape run c.args.event c.in-Inject.is)))
    (leaves shape run held)) c.inject.ensures.part

pub returns-in-Inject-clause-untouched : goal.returns-in-Inject-clause-untouched
returns-in-Inject-clause-untouched g c = λ none. absurd (let no : true ≡ false = sym (ap uses_device c.in-Inject.is) ∙ none in cc)

pub returns-in-Injector-clause-stepped : goal.returns-in-Injector-clause-stepped
returns-in-Injector-clause-stepped g c = weaker_ok _ _ c.begin_again.result (λ pair meets shape run ready.
    step_is (IsCluster pair.0 (g.D.LogDisk.seen c.begin_again.new.disk) shape) pair.1 _ _ (is_injector shape run c.args.event c.in-Injector.is) (meets shape run ready.0)) c.begin_again.ensures.recovered

pub returns-in-Injector-clause-part : goal.returns-in-Injector-clause-part
returns-in-Injector-clause-part g c = on_err_weaker c.begin_again.result (λ leaves shape run held.
    part_before c.args.self c.args.event (g.D.LogDisk.seen c.args.disk.now) (g.D.LogDisk.seen c.begin_again.new.disk) shape run held (leaves shape run held)) c.begin_again.ensures.part

pub returns-in-Injector-clause-untouched : goal.returns-in-Injector-clause-untouched
returns-in-Injector-clause-untouched g c = λ none. absurd (let no : true ≡ false = sym (ap uses_device c.in-Injector.is) ∙ none in cc)

pub step_inside-requires-clause-fits : goal.step_inside-requires-clause-fits
step_inside-requires-clause-fits g c =
    let (shape, run, ready) = c.requires.fits in
    (g.D.LogDisk.seen c.args.disk.now, (shape, run, ready))

pub returns-in-Ok : goal.returns-in-Ok
returns-in-Ok g c = record {
  stepped = λ shape run ready. c.in-Ok.ensures.stepped (g.D.LogDisk.seen c.args.disk.now) shape run ready;
  setup = c.in-Ok.ensures.setup;
  rest = tt;
  part = tt;
  untouched = λ none. refl;
  cause = record { later = omega arith; failed = λ stopped. absurd stopped };
}

pub returns-in-Err : goal.returns-in-Err
returns-in-Err g c = record {
  stepped = tt;
  setup = tt;
  rest = tt;
  part = λ shape run held. part_unmoved c.args.self c.args.event (g.D.LogDisk.seen c.args.disk.now) shape run held;
  untouched = λ none. refl;
  cause = record { later = omega arith; failed = λ stopped. absurd stopped };
}
