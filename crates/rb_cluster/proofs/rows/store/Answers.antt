use Rattle.std.proofs.Common.{◌∙◌}
use Rattle.rb_store.proofs.LeftLaws.{stored_more}
use Rattle.rb_cluster.proofs.rows.store.Goals as goal

pub loop-change-preserved : goal.loop-change-preserved
loop-change-preserved c = record {
  rows = λ table key. stored_more c.args.epoch.0 c.args.changes.now _ c.change-item.result table key _ _ _ c.loop-change-test.true c.change-item.is (c.loop-change.invariant.rows table key) (c.in_ok-store_change.ensures.rows table key);
  count = c.store_change.ensures.count ∙ c.loop-change.invariant.count;
}
