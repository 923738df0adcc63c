use Rattle.std.proofs.Common.{◌∙◌, false, arith}
use Rattle.rb_play_defs.specs.Step.{beginning, site_step}
use Rattle.rb_play_defs.specs.declared.event.SiteEvent.TheVariants.{Close}
use Rattle.rb_site_tests.proofs.TrialLaws.{one_node, is_declared, begins, can_insert, close_fits, after_insert, inserted}
use Rattle.rb_site_tests.proofs.site.two_rows.Goals as goal

pub create-requires-clause-declared : goal.create-requires-clause-declared
create-requires-clause-declared g c = is_declared c.in_ok-setup.setup c.in_ok-setup.ensures

pub one_event-requires-clause-fits : goal.one_event-requires-clause-fits
one_event-requires-clause-fits g c = λ κs within.
    let begun = begins c.in_ok-site.site (g.D.LogDisk.seen c.create.new.disk) c.in_ok-setup.setup c.in_ok-setup.ensures c.in_ok-site.ensures.begun in
    can_insert c.in_ok-site.site (g.D.LogDisk.seen c.create.new.disk) (beginning 1 1) c.in_ok-insert.field-0 0 5 7 c.in_ok-insert.ensures (omega arith) begun

pub one_event-requires-2-clause-fits : goal.one_event-requires-2-clause-fits
one_event-requires-2-clause-fits g c = λ κs within.
    let begun = begins c.in_ok-site.site (g.D.LogDisk.seen c.create.new.disk) c.in_ok-setup.setup c.in_ok-setup.ensures c.in_ok-site.ensures.begun in
    let first = inserted c.in_ok-site.site c.in_ok-site-2.site (g.D.LogDisk.seen c.create.new.disk) (g.D.LogDisk.seen c.one_event.new.disk) (beginning 1 1) c.in_ok-insert.field-0 c.in_ok-site-2.first 0 5 7 c.in_ok-insert.ensures (omega arith) begun (λ s r held fits. c.in_ok-site-2.ensures.stepped s r held fits) in
    can_insert c.in_ok-site-2.site (g.D.LogDisk.seen c.one_event.new.disk) (after_insert 5 7 (beginning 1 1)) c.in_ok-insert-2.field-0 1 6 8 c.in_ok-insert-2.ensures (omega arith) first

pub one_event-requires-3-clause-fits : goal.one_event-requires-3-clause-fits
one_event-requires-3-clause-fits g c = λ κs within.
    let begun = begins c.in_ok-site.site (g.D.LogDisk.seen c.create.new.disk) c.in_ok-setup.setup c.in_ok-setup.ensures c.in_ok-site.ensures.begun in
    let first = inserted c.in_ok-site.site c.in_ok-site-2.site (g.D.LogDisk.seen c.create.new.disk) (g.D.LogDisk.seen c.one_event.new.disk) (beginning 1 1) c.in_ok-insert.field-0 c.in_ok-site-2.first 0 5 7 c.in_ok-insert.ensures (omega arith) begun (λ s r held fits. c.in_ok-site-2.ensures.stepped s r held fits) in
    let second = inserted c.in_ok-site-2.site c.in_ok-site-3.site (g.D.LogDisk.seen c.one_event.new.disk) (g.D.LogDisk.seen c.one_event-2.new.disk) (after_insert 5 7 (beginning 1 1)) c.in_ok-insert-2.field-0 c.in_ok-site-3.second 1 6 8 c.in_ok-insert-2.ensures (omega arith) first (λ s r held fits. c.in_ok-site-3.ensures.stepped s r held fits) in
    let run = after_insert 6 8 (after_insert 5 7 (beginning 1 1)) in
    (one_node, run, second.held, close_fits c.in_ok-site-3.site (g.D.LogDisk.seen c.one_event-2.new.disk) run 2 (omega arith) second)

pub returns-clause-there : goal.returns-clause-there
returns-clause-there g c =
    let begun = begins c.in_ok-site.site (g.D.LogDisk.seen c.create.new.disk) c.in_ok-setup.setup c.in_ok-setup.ensures c.in_ok-site.ensures.begun in
    let first = inserted c.in_ok-site.site c.in_ok-site-2.site (g.D.LogDisk.seen c.create.new.disk) (g.D.LogDisk.seen c.one_event.new.disk) (beginning 1 1) c.in_ok-insert.field-0 c.in_ok-site-2.first 0 5 7 c.in_ok-insert.ensures (omega arith) begun (λ s r held fits. c.in_ok-site-2.ensures.stepped s r held fits) in
    let second = inserted c.in_ok-site-2.site c.in_ok-site-3.site (g.D.LogDisk.seen c.one_event.new.disk) (g.D.LogDisk.seen c.one_event-2.new.disk) (after_insert 5 7 (beginning 1 1)) c.in_ok-insert-2.field-0 c.in_ok-site-3.second 1 6 8 c.in_ok-insert-2.ensures (omega arith) first (λ s r held fits. c.in_ok-site-3.ensures.stepped s r held fits) in
    let run = after_insert 6 8 (after_insert 5 7 (beginning 1 1)) in
    let fits = close_fits c.in_ok-site-3.site (g.D.LogDisk.seen c.one_event-2.new.disk) run 2 (omega arith) second in
    (one_node, (site_step one_node run (Close false)).run, (c.in_ok-site-4.ensures.stepped one_node run second.held fits).0)
