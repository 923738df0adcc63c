use Rattle.rb_text_defs.specs.Report.{outcome_text}
use Rattle.rb_print.proofs.outcome.put_stream.Goals as goal

pub returns-in_ok-put_place-in-NotNext : goal.returns-in_ok-put_place-in-NotNext
unfolding outcome_text
returns-in_ok-put_place-in-NotNext c = rw c.in-NotNext.is c.in_ok-put_place-in-NotNext.ensures

pub returns-in_ok-put_place-in-ApplierAt : goal.returns-in_ok-put_place-in-ApplierAt
unfolding outcome_text
returns-in_ok-put_place-in-ApplierAt c = rw c.in-ApplierAt.is c.in_ok-put_place-in-ApplierAt.ensures
