use Rattle.rb_text_defs.specs.Report.{labelled}
use Rattle.rb_print.proofs.TextLaws.{one_more_put_of}
use Rattle.rb_print.proofs.put.put_numbers.Goals as goal

pub loop-number-preserved : goal.loop-number-preserved
loop-number-preserved c =
    one_more_put_of (λ number. labelled number.0.now number.1) c.args.text.now.items c.loop-number.text.items c.put_number.new.text.items c.args.numbers.now c.loop-number.number-index _ c.loop-number-test.true
    c.loop-number.invariant c.in_ok-put_number.ensures
