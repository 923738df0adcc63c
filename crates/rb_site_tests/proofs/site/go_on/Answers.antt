use Rattle.rb_play_defs.specs.Step.{site_step}
use Rattle.rb_site_tests.proofs.site.go_on.Goals as goal

pub one_event-requires-clause-fits : goal.one_event-requires-clause-fits
one_event-requires-clause-fits g c = λ κs within.
    let (shape, run, held) = c.requires.there in
    (shape, run, held, c.requires.needs shape run)

pub returns-clause-there : goal.returns-clause-there
returns-clause-there g c =
    let (shape, run, held) = c.requires.there in
    (shape, (site_step shape run c.args.event).run, (c.in_ok-after.ensures.stepped shape run held (c.requires.needs shape run)).0)
