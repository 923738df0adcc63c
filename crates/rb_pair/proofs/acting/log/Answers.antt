use Rattle.std.proofs.Common.{ℕ, ◌∙◌, ap₂, subst}
use Rattle.rb_play_defs.specs.Play.{joined}
use Rattle.rb_play_defs.specs.Step.{site_step, written_bodies}
use Rattle.rb_play_defs.specs.UnfinishedLog.{HoldsUnfinishedLog}
use Rattle.rb_play_defs.specs.declared.event.SiteEvent.TheVariants.{DeliverAll}
use Rattle.rb_pair.specs.Action.{after_log}
use Rattle.rb_base.proofs.Results.{at_an_error}
use Rattle.rb_pair.proofs.ActLaws.{stopped_first, stopped_second}
use Rattle.rb_pair.proofs.acting.log.Goals as goal

pub returns-in_err-site-clause-stopped : goal.returns-in_err-site-clause-stopped
returns-in_err-site-clause-stopped g c =
    at_an_error c.from_residual.result (λ shape run held. stopped_first shape _ run c.args.site _ _ held (c.in_err-site.ensures.stopped shape run held))

pub step-requires-2-clause-fits : goal.step-requires-2-clause-fits
step-requires-2-clause-fits g c = λ κs within.
    let (shape, run, held) = c.requires.stands in
    (shape, (site_step shape run DeliverAll).run, (c.in_ok-site.ensures.stepped shape run held tt).0, tt)

pub returns-in_err-site-2-clause-stopped : goal.returns-in_err-site-2-clause-stopped
returns-in_err-site-2-clause-stopped g c =
    at_an_error c.from_residual-in_err-site-2.result (λ shape run held.
    subst (λ (limit : ℕ). HoldsUnfinishedLog shape.site limit run.written (written_bodies shape (after_log shape run)) (g.D.LogDisk.seen c.step-2.new.disk)) c.in_ok-site.ensures.limit
    (stopped_second shape _ run _ (c.in_err-site-2.ensures.stopped shape (site_step shape run DeliverAll).run (c.in_ok-site.ensures.stepped shape run held tt).0)))

pub returns-clause-played : goal.returns-clause-played
returns-clause-played g c = λ shape run held.
    let first = c.in_ok-site.ensures.stepped shape run held tt in
    let second = c.in_ok-site-2.ensures.stepped shape (site_step shape run DeliverAll).run first.0 tt in
    (second.0, c.logged.ensures ∙ ap₂ joined first.1 second.1)
