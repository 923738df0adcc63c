use Rattle.std.proofs.Common.{length, arith}
use Rattle.rb_reference.specs.Standing.{binlog_in}
use Rattle.rb_reference.proofs.Room.{changes_fit, epoch_fits}
use Rattle.rb_reference.proofs.layout.with_epoch.Goals as goal

pub index_row-requires : goal.index_row-requires
index_row-requires c =
    omega (arith, changes_fit c.args.body.now (length c.args.log.last.items), epoch_fits c.args.site c.args.limit (binlog_in c.args.log) c.args.body.now c.requires.small)
