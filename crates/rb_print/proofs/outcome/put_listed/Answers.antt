use Rattle.rb_text_defs.specs.Report.{listed_text}
use Rattle.rb_print.proofs.TextLaws.{one_more_put}
use Rattle.rb_print.proofs.outcome.put_listed.Goals as goal

pub loop-event-preserved : goal.loop-event-preserved
loop-event-preserved c =
    one_more_put listed_text c.args.text.now.items c.loop-event.text.items c.put_event.new.text.items c.args.events.now c.loop-event.event-index _ c.loop-event-test.true
    c.loop-event.invariant c.in_ok-put_event.ensures
