use Rattle.std.proofs.Common.{refl, subst}
use Rattle.std.proofs.lemmas.Result.{on_err_weaker}
use Rattle.rb_base.proofs.Results.{weaker_ok}
use Rattle.rb_base.specs.declared.site.SiteId.TheVariants.{A}
use Rattle.rb_base.specs.declared.outcome.Outcome.TheVariants.{Nothing}
use Rattle.rb_play_defs.specs.Play.{shape_of}
use Rattle.rb_site.specs.Site.{limit_of}
use Rattle.rb_pair.specs.Action.{ActionFits}
use Rattle.rb_pair.proofs.ActLaws.{Acted, Cut, one_at, log_at, idle_at, idle_one, not_idle}
use Rattle.rb_pair.proofs.acting.act.Goals as goal

pub step-requires-clause-fits : goal.step-requires-clause-fits
step-requires-clause-fits g c = λ κs within.
    let (setup, sites, held, fits) = c.requires.room in
    (shape_of setup A, sites.a, held, (subst (ActionFits setup sites) c.in-One.is fits).1)

pub log-requires-clause-stands : goal.log-requires-clause-stands
log-requires-clause-stands g c = λ κs within.
    let (setup, sites, held, fits) = c.requires.room in
    (shape_of setup A, sites.a, held)

pub returns-in-One-clause-played : goal.returns-in-One-clause-played
returns-in-One-clause-played g c = weaker_ok _ _ c.step.result (λ pair meets setup sites held fits.
    one_at setup sites _ c.in-One.event c.args.action (λ steps. Acted setup sites steps pair.0 (g.D.LogDisk.seen c.step.new.disk) pair.1) c.in-One.is fits (λ own. meets (shape_of setup A) sites.a held own)) c.step.ensures.stepped

pub returns-in-One-clause-stopped : goal.returns-in-One-clause-stopped
returns-in-One-clause-stopped g c = on_err_weaker c.step.result (λ leaves setup sites held fits.
    one_at setup sites _ c.in-One.event c.args.action (λ steps. Cut setup sites steps (limit_of c.args.site) (g.D.LogDisk.seen c.step.new.disk)) c.in-One.is fits (λ own. leaves (shape_of setup A) sites.a held)) c.step.ensures.stopped

pub returns-in-One-clause-untouched : goal.returns-in-One-clause-untouched
returns-in-One-clause-untouched g c = λ none. c.step.ensures.untouched (idle_one _ c.in-One.event c.args.action c.in-One.is none)

pub returns-in-Log-clause-played : goal.returns-in-Log-clause-played
returns-in-Log-clause-played g c = weaker_ok _ _ c.log.result (λ pair meets setup sites held fits.
    log_at setup sites _ c.args.action (λ steps. Acted setup sites steps pair.0 (g.D.LogDisk.seen c.log.new.disk) pair.1) c.in-Log.is fits (meets (shape_of setup A) sites.a held)) c.log.ensures.played

pub returns-in-Log-clause-stopped : goal.returns-in-Log-clause-stopped
returns-in-Log-clause-stopped g c = on_err_weaker c.log.result (λ leaves setup sites held fits.
    log_at setup sites _ c.args.action (λ steps. Cut setup sites steps (limit_of c.args.site) (g.D.LogDisk.seen c.log.new.disk)) c.in-Log.is fits (leaves (shape_of setup A) sites.a held)) c.log.ensures.stopped

pub returns-in-Log-clause-untouched : goal.returns-in-Log-clause-untouched
returns-in-Log-clause-untouched g c = λ none. absurd (not_idle _ c.args.action c.in-Log.is none)

pub returns-in-Idle-clause-played : goal.returns-in-Idle-clause-played
returns-in-Idle-clause-played g c = λ setup sites held fits.
    idle_at c.args.action (λ steps. Acted setup sites steps c.args.site (g.D.LogDisk.seen c.args.disk.now) Nothing) c.in-Idle.is (held, refl)
