use Rattle.std.proofs.Common.{refl, ◌∙◌}
use Rattle.rb_journal_defs.proofs.Mapped.{mapped_more}
use Rattle.rb_cluster.proofs.mapping.map_tables.Goals as goal

pub loop-number-preserved : goal.loop-number-preserved
loop-number-preserved c = record {
  tables = c.in_ok-push.ensures.ok ∙ mapped_more c.args.schemas.now c.loop-number.number _ c.index-schemas-number.result c.loop-number.tables c.in_ok-map_table.field-0 c.loop-number-test.true c.index-schemas-number.is c.loop-number.invariant.tables c.in_ok-map_table.ensures refl;
}
