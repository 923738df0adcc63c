use Rattle.std.proofs.Common.{◌∙◌, sym, arith}
use Rattle.rb_reference.specs.Standing.{binlog_in}
use Rattle.rb_reference.proofs.Growing.{none_yet, written_here, small_here, few_here, one_here}
use Rattle.rb_reference.proofs.layout.binlog_of.Goals as goal

pub loop-body-init : goal.loop-body-init
loop-body-init c = c.in_ok-log.ensures ∙ sym (none_yet c.args.site c.args.limit)

pub with_epoch-requires-clause-writable : goal.with_epoch-requires-clause-writable
with_epoch-requires-clause-writable c = written_here c.args.bodies.now c.loop-body.body-index c.body-item.result c.loop-body-test.true c.body-item.is c.requires.writable

pub with_epoch-requires-clause-small : goal.with_epoch-requires-clause-small
with_epoch-requires-clause-small c =
    small_here c.args.site c.args.limit c.args.bodies.now c.loop-body.body-index c.body-item.result (binlog_in c.loop-body.log) c.loop-body-test.true c.body-item.is c.loop-body.invariant c.requires.small

pub with_epoch-requires-clause-few : goal.with_epoch-requires-clause-few
with_epoch-requires-clause-few c =
    omega (arith, few_here c.args.site c.args.limit c.args.bodies.now c.loop-body.body-index (binlog_in c.loop-body.log) c.loop-body-test.true c.loop-body.invariant)

pub loop-body-preserved : goal.loop-body-preserved
loop-body-preserved c =
    one_here c.args.site c.args.limit c.args.bodies.now c.loop-body.body-index c.body-item.result (binlog_in c.loop-body.log) (binlog_in c.in_ok-log-2.log) c.loop-body-test.true c.body-item.is c.loop-body.invariant c.in_ok-log-2.ensures
