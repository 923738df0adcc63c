use Rattle.std.proofs.Common.{[], ◌∷◌, arith}
use Rattle.rb_part_tests.proofs.InjectLaws.{one_written, few_there, writable_as, one_fits, first, left_by}
use Rattle.rb_part_tests.proofs.inject.logs_second.Goals as goal

pub take-requires-clause-later : goal.take-requires-clause-later
take-requires-clause-later g c = omega (arith, one_written c.args.injector _ first _ c.requires.first, c.requires.epoch)

pub take-requires-clause-writable : goal.take-requires-clause-writable
take-requires-clause-writable g c = writable_as c.args.injector _ (first ∷ []) _ c.args.assembled _ c.requires.first c.requires.second (one_fits 8589934593 2 2 2)

pub take-requires-clause-few_files : goal.take-requires-clause-few_files
take-requires-clause-few_files g c = few_there c.args.injector _ (first ∷ []) _ c.requires.first (omega arith)

pub returns : goal.returns
returns g c = record { left = left_by c.args.injector c.args.assembled c.take.result _ _ c.requires.first c.requires.second c.take.ensures.taken c.take.ensures.stopped }
