use Rattle.rb_inject.specs.Body.{applied_epoch_in}
use Rattle.rb_inject.proofs.BodyLaws.{told_by_more}
use Rattle.rb_inject.proofs.body.last_applied.Goals as goal

pub loop-change-preserved : goal.loop-change-preserved
loop-change-preserved c = record {
  applied = told_by_more applied_epoch_in c.args.changes.now _ c.change-item.result _ _ _ c.loop-change-test.true c.change-item.is c.loop-change.invariant.applied c.applied_or-applied.ensures;
}
