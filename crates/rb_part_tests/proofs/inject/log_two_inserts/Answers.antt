use Rattle.std.proofs.Common.{[], arith}
use Rattle.rb_part_tests.proofs.InjectLaws.{none_written, few_there, writable_as, two_fit}
use Rattle.rb_part_tests.proofs.inject.log_two_inserts.Goals as goal

pub take-requires-clause-later : goal.take-requires-clause-later
take-requires-clause-later g c = omega (arith, none_written c.in_ok-injector.injector _ _ c.in_ok-injector.ensures.begun, c.in_ok-two_inserts.ensures.epoch)

pub take-requires-clause-few_files : goal.take-requires-clause-few_files
take-requires-clause-few_files g c = few_there c.in_ok-injector.injector _ [] _ c.in_ok-injector.ensures.begun (omega arith)

pub take-requires-clause-writable : goal.take-requires-clause-writable
take-requires-clause-writable g c = writable_as c.in_ok-injector.injector _ [] _ c.in_ok-two_inserts.field-0 _ c.in_ok-injector.ensures.begun c.in_ok-two_inserts.ensures.body two_fit
