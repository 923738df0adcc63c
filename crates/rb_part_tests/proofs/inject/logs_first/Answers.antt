use Rattle.std.proofs.Common.{[], arith}
use Rattle.rb_part_tests.proofs.InjectLaws.{none_written, few_there, writable_as, one_fits, first_logged, left_by_first}
use Rattle.rb_part_tests.proofs.inject.logs_first.Goals as goal

pub take-requires-clause-later : goal.take-requires-clause-later
take-requires-clause-later g c = omega (arith, none_written c.args.injector _ _ c.requires.begun, c.requires.epoch)

pub take-requires-clause-writable : goal.take-requires-clause-writable
take-requires-clause-writable g c = writable_as c.args.injector _ [] _ c.args.assembled _ c.requires.begun c.requires.first (one_fits 4294967296 1 1 1)

pub take-requires-clause-few_files : goal.take-requires-clause-few_files
take-requires-clause-few_files g c = few_there c.args.injector _ [] _ c.requires.begun (omega arith)

pub returns-in-Ok-clause-logged : goal.returns-in-Ok-clause-logged
returns-in-Ok-clause-logged g c = first_logged c.args.injector _ c.args.assembled _ _ c.requires.begun c.requires.first c.in-Ok.ensures.taken

pub returns-in-Err-clause-left : goal.returns-in-Err-clause-left
returns-in-Err-clause-left g c = λ none. left_by_first c.args.injector c.args.assembled _ _ c.requires.begun c.requires.first c.in-Err.ensures.stopped
