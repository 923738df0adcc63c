use Rattle.rb_inject.proofs.BodyLaws.{named_more}
use Rattle.rb_journal_defs.specs.Body.{is_named_in}
use Rattle.rb_inject.proofs.body.named_tables.Goals as goal

pub loop-table-preserved : goal.loop-table-preserved
loop-table-preserved c = record {
  named = named_more (is_named_in c.args.changes.now) c.args.tables.now _ c.table-item.result _ _ _ c.loop-table-test.true c.table-item.is c.loop-table.invariant.named c.in_ok-append_named.ensures (c.in_ok-numbers.ensures c.table-item.result.id);
}
