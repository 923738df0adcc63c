use Rattle.rb_part_tests.proofs.InjectLaws.{left_open}
use Rattle.rb_part_tests.proofs.inject.opens.Goals as goal

pub returns : goal.returns
returns g c = record { left = left_open c.args.tables c.recover.result _ _ c.requires.tables c.requires.left c.recover.ensures.recovered c.recover.ensures.kept }
