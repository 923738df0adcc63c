use Rattle.std.proofs.Common.{arith}
use Rattle.rb_group.specs.Kept.{new_group, with_part}
use Rattle.rb_group.proofs.Beginning.{new_covers, new_fits, part_fits, part_covers}
use Rattle.rb_part_tests.proofs.group.owners_send_again.Goals as goal

pub resend-requires : goal.resend-requires
resend-requires g c = record {
  ready = (
    with_part 3 c.insert.result (new_group 2 2 7),
    c.in_ok-group-2.ensures.kept (new_group 2 2 7) c.in_ok-group.ensures.keeps,
    part_covers (new_group 2 2 7) 3 c.insert.result (new_covers 2 2 7),
    part_fits (new_group 2 2 7) 3 c.insert.result (new_fits 2 2 7) (omega arith),
  );
}
