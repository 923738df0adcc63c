use Rattle.std.proofs.Common.{refl}
use Rattle.rb_read_defs.specs.Stream.{open_epoch}
use Rattle.rb_stream.proofs.TakeLaws.{opened, changes_taken, changes_outside}
use Rattle.rb_stream.proofs.taking.take_changes.Goals as goal

pub returns-in-None : goal.returns-in-None
returns-in-None c known held = (refl, changes_outside c.args.current.now c.args.end c.args.server c.args.changes known c.in-None.is held, refl)

pub returns : goal.returns
returns c known held = (
  refl,
  changes_taken c.in-Some.epoch c.change.new.self c.args.end c.args.server c.args.changes known (opened c.args.current.now c.in-Some.epoch (open_epoch known) c.in-Some.is held)
      c.in_ok-change-in-Some.ensures.ok c.in_ok-change-in-Some.ensures.epoch_status c.in_ok-change-in-Some.ensures.tables,
  refl,
)
