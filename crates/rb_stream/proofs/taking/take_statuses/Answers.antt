use Rattle.std.proofs.Common.{refl}
use Rattle.rb_read_defs.specs.Stream.{open_epoch, statuses_so_far}
use Rattle.rb_stream.proofs.StatusLaws.{status_single}
use Rattle.rb_stream.proofs.TakeLaws.{opened, statuses_taken, statuses_outside}
use Rattle.rb_stream.proofs.taking.take_statuses.Goals as goal

pub returns-in-None : goal.returns-in-None
returns-in-None c known held = (
  status_single c.in-Some.epoch_status _ (c.in-Some.ensures (statuses_so_far known) (c.status_so_far.ensures known held)),
  statuses_outside c.args.current.now c.args.end c.args.server c.args.rows.now known c.in-None.is held,
  refl,
)

pub returns : goal.returns
returns c known held =
    let tells = c.in-Some.ensures (statuses_so_far known) (c.status_so_far.ensures known held) in (
      status_single c.in-Some.epoch_status _ tells,
      statuses_taken c.in-Some-current.epoch c.set_status.new.self c.args.end c.args.server c.args.rows.now c.in-Some.epoch_status known (opened c.args.current.now c.in-Some-current.epoch (open_epoch known) c.in-Some-current.is held)
          tells c.set_status.ensures.epoch_status c.set_status.ensures.tables c.set_status.ensures.changes,
      refl,
    )
