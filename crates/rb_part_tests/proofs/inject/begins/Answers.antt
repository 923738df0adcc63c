use Rattle.rb_part_tests.proofs.InjectLaws.{none_opens}
use Rattle.rb_part_tests.proofs.inject.begins.Goals as goal

pub returns-in-Err-clause-left : goal.returns-in-Err-clause-left
returns-in-Err-clause-left g c = λ none. none_opens _ (c.in-Err.ensures.stopped c.requires.empty)
