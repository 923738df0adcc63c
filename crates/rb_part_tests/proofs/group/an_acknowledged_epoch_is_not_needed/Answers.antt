use Rattle.std.proofs.Common.{arith}
use Rattle.rb_group.specs.Kept.{new_group, with_close}
use Rattle.rb_part_tests.proofs.group.an_acknowledged_epoch_is_not_needed.Goals as goal

pub acknowledge-requires : goal.acknowledge-requires
acknowledge-requires g c = record { ready = (with_close 4 8 (new_group 2 2 7), c.in_ok-group-2.ensures.kept (new_group 2 2 7) c.in_ok-group.ensures.keeps, omega arith) }
