use Rattle.std.proofs.Common.{[], arith}
use Rattle.rb_part_tests.proofs.InjectLaws.{none_written, few_there}
use Rattle.rb_part_tests.proofs.inject.log_others.Goals as goal

pub take-requires-clause-later : goal.take-requires-clause-later
take-requires-clause-later g c = omega (arith, none_written c.in_ok-injector.injector _ _ c.in_ok-injector.ensures.begun, c.in_ok-of_others.ensures.epoch)

pub take-requires-clause-few_files : goal.take-requires-clause-few_files
take-requires-clause-few_files g c = few_there c.in_ok-injector.injector _ [] _ c.in_ok-injector.ensures.begun (omega arith)
