use Rattle.std.proofs.Common.{arith, subst}
use Rattle.std.specs.Prelude.{None}
use Rattle.rb_group.specs.Kept.{new_group, with_since}
use Rattle.rb_group.specs.Group.{FailsTo}
use Rattle.rb_group.specs.declared.answers.FailOutcome.{FailOutcome}
use Rattle.rb_part_tests.proofs.group.the_last_node_is_a_loss.Goals as goal

pub restart-requires : goal.restart-requires
restart-requires g c =
    let lost = subst (λ (outcome : FailOutcome). FailsTo (new_group 2 1 7) 2 outcome c.fail.new.self) c.in-Ok-Lost.field-0-is (c.in-Ok-Lost.ensures.failed (new_group 2 1 7) c.in_ok-group.ensures.keeps) in
    record { ready = (with_since 2 None (new_group 2 1 7), lost.3, (omega arith, omega arith), omega arith) }
