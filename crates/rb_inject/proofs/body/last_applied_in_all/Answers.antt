use Rattle.std.proofs.Common.{List, ap, ◌∙◌}
use Rattle.std.specs.Prelude.{filter_map}
use Rattle.std.specs.List.{last_or}
use Rattle.rb_base.specs.declared.change.Change.{Change}
use Rattle.rb_inject.specs.Body.{applied_epoch_in}
use Rattle.rb_inject.proofs.BodyLaws.{told_more}
use Rattle.rb_inject.proofs.body.last_applied_in_all.Goals as goal

pub loop-part-preserved : goal.loop-part-preserved
loop-part-preserved c = record {
  applied = told_more applied_epoch_in c.args.parts.now _ c.part-item.result _ _ c.loop-part-test.true c.part-item.is c.loop-part.invariant.applied (c.last_applied-applied.ensures ∙ ap (λ (part : List Change). last_or c.loop-part.applied (filter_map applied_epoch_in part)) c.as_slice.ensures);
}
