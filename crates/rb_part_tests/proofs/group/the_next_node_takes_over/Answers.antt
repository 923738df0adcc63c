use Rattle.std.proofs.Common.{arith}
use Rattle.rb_group.specs.Kept.{new_group, with_part}
use Rattle.rb_group.proofs.Beginning.{new_fits, part_fits}
use Rattle.rb_part_tests.proofs.group.the_next_node_takes_over.Goals as goal

pub fail-requires : goal.fail-requires
fail-requires g c = record {
  ready = (
    with_part 2 c.insert.result (new_group 2 2 7),
    c.in_ok-group-2.ensures.kept (new_group 2 2 7) c.in_ok-group.ensures.keeps,
    (omega arith, omega arith),
    part_fits (new_group 2 2 7) 2 c.insert.result (new_fits 2 2 7) (omega arith),
  );
}
