use Rattle.rb_script.proofs.LineLaws.{lines_of_more, lines_of_one}
use Rattle.rb_script.proofs.cut.first_line.Goals as goal

pub returns-in-Some-clause-lines : goal.returns-in-Some-clause-lines
returns-in-Some-clause-lines c =
    rw c.without_return.ensures
    (lines_of_more c.args.text.now c.cut.result.0.now c.in-Some.rest.now (rw c.in-Some.is at c.cut.ensures.split))

pub returns-in-None-clause-lines : goal.returns-in-None-clause-lines
returns-in-None-clause-lines c =
    let all = rw c.in-None.is at c.cut.ensures.all in
    let split = rw c.in-None.is at c.cut.ensures.split in
    rw (c.without_return-in-None.ensures, all) (lines_of_one c.args.text.now (rw all at split) c.requires)
