use Rattle.rb_cluster.proofs.RestLaws.{log_at}
use Rattle.rb_cluster.proofs.cluster.Cluster.inject.Goals as goal

pub take_epochs-requires : goal.take_epochs-requires
take_epochs-requires g c =
    let (shape, run, held) = c.requires.fits in
    record { fits = (shape, run, log_at c.args.self (g.D.LogDisk.seen c.args.disk.now) shape run held) }

pub following-requires : goal.following-requires
following-requires g c =
    let (shape, run, held) = c.requires.fits in
    record { fits = (g.D.LogDisk.seen c.take_epochs.new.disk, shape, run, held.rest, (c.in-Ok.ensures.taken shape run (log_at c.args.self (g.D.LogDisk.seen c.args.disk.now) shape run held)).0) }

pub returns-in-Ok-clause-injected : goal.returns-in-Ok-clause-injected
returns-in-Ok-clause-injected g c = λ shape run held.
    let taken = c.in-Ok.ensures.taken shape run (log_at c.args.self (g.D.LogDisk.seen c.args.disk.now) shape run held) in
    c.following.ensures.injected (g.D.LogDisk.seen c.take_epochs.new.disk) shape run held.rest taken.0 taken.1

pub returns-in-Err-DiskFault-clause-part : goal.returns-in-Err-DiskFault-clause-part
returns-in-Err-DiskFault-clause-part g c = λ shape run held. c.in-Err-DiskFault.ensures.part shape run (log_at c.args.self (g.D.LogDisk.seen c.args.disk.now) shape run held)

pub returns-in-Err-NoMemory-clause-part : goal.returns-in-Err-NoMemory-clause-part
returns-in-Err-NoMemory-clause-part g c = λ shape run held. c.in-Err-NoMemory.ensures.part shape run (log_at c.args.self (g.D.LogDisk.seen c.args.disk.now) shape run held)
