use Rattle.std.proofs.Common.{◌∙◌}
use Rattle.rb_device_defs.proofs.ImageLaws.{whole_is_image}
use Rattle.rb_play_defs.specs.Step.{written_bodies}
use Rattle.rb_cluster.proofs.RestLaws.{log_image}
use Rattle.rb_cluster.proofs.RecoverLaws.{log_can_be_recovered, log_recovered, image_left}
use Rattle.rb_cluster.proofs.cluster.Cluster.begin_again.Goals as goal

pub returns-in_default-clause-part : goal.returns-in_default-clause-part
returns-in_default-clause-part g c = λ shape run held. log_image c.args.self.log (g.D.LogDisk.seen c.args.disk.now) shape run held.log

pub recover-requires-clause-image : goal.recover-requires-clause-image
recover-requires-clause-image g c =
    let (shape, run, held) = c.requires.fits in
    (written_bodies shape run, log_can_be_recovered c.args.self c.limit-limit.result c.in-Ok.tables (g.D.LogDisk.seen c.args.disk.now) shape run c.limit-limit.ensures (c.in-Ok.ensures ∙ c.as_slice.ensures) held)

pub with_new-requires : goal.with_new-requires
with_new-requires g c =
    let (shape, run, held) = c.requires.fits in
    let seen = g.D.LogDisk.seen c.args.disk.now in
    let now = g.D.LogDisk.seen c.recover.new.disk in
    let named = c.in-Ok.ensures ∙ c.as_slice.ensures in
    let log = c.in-Ok-recover.ensures.recovered (written_bodies shape run) (log_can_be_recovered c.args.self c.limit-limit.result c.in-Ok.tables seen shape run c.limit-limit.ensures named held) in
    record { fits = (now, shape, run, held.rest, log_recovered c.args.self c.limit-limit.result c.in-Ok.tables c.in-Ok-recover.injector seen now shape run c.limit-limit.ensures named held log) }

pub returns-in-Ok-with_new-clause-recovered : goal.returns-in-Ok-with_new-clause-recovered
returns-in-Ok-with_new-clause-recovered g c = λ shape run held.
    let seen = g.D.LogDisk.seen c.args.disk.now in
    let now = g.D.LogDisk.seen c.recover.new.disk in
    let named = c.in-Ok.ensures ∙ c.as_slice.ensures in
    let log = c.in-Ok-recover.ensures.recovered (written_bodies shape run) (log_can_be_recovered c.args.self c.limit-limit.result c.in-Ok.tables seen shape run c.limit-limit.ensures named held) in
    c.in-Ok-with_new.ensures.recovered now shape run held.rest (log_recovered c.args.self c.limit-limit.result c.in-Ok.tables c.in-Ok-recover.injector seen now shape run c.limit-limit.ensures named held log)

pub returns-in-Ok-with_new-clause-setup : goal.returns-in-Ok-with_new-clause-setup
returns-in-Ok-with_new-clause-setup g c =
    let (shape, run, held) = c.requires.fits in
    let named = c.in-Ok.ensures ∙ c.as_slice.ensures in
    let log = c.in-Ok-recover.ensures.recovered (written_bodies shape run) (log_can_be_recovered c.args.self c.limit-limit.result c.in-Ok.tables (g.D.LogDisk.seen c.args.disk.now) shape run c.limit-limit.ensures named held) in
    (c.in-Ok-with_new.ensures.size.0, c.in-Ok-with_new.ensures.size.1, c.in-Ok-with_new.ensures.limit ∙ log.limit_is ∙ c.limit-limit.ensures)

pub returns-in-Ok-recover-clause-part : goal.returns-in-Ok-recover-clause-part
returns-in-Ok-recover-clause-part g c = λ shape run held.
    let seen = g.D.LogDisk.seen c.args.disk.now in
    let now = g.D.LogDisk.seen c.recover.new.disk in
    let named = c.in-Ok.ensures ∙ c.as_slice.ensures in
    let log = c.in-Ok-recover.ensures.recovered (written_bodies shape run) (log_can_be_recovered c.args.self c.limit-limit.result c.in-Ok.tables seen shape run c.limit-limit.ensures named held) in
    image_left c.args.self c.limit-limit.result c.in-Ok.tables seen now shape run c.limit-limit.ensures named held (whole_is_image c.args.self.rest.books.id c.limit-limit.result (written_bodies shape run) now log.held)

pub returns-in-Err-DiskFault-clause-part : goal.returns-in-Err-DiskFault-clause-part
returns-in-Err-DiskFault-clause-part g c = λ shape run held.
    let seen = g.D.LogDisk.seen c.args.disk.now in
    let named = c.in-Ok.ensures ∙ c.as_slice.ensures in
    image_left c.args.self c.limit-limit.result c.in-Ok.tables seen (g.D.LogDisk.seen c.recover.new.disk) shape run c.limit-limit.ensures named held
    (c.in-Err-DiskFault.ensures.kept (written_bodies shape run) (log_can_be_recovered c.args.self c.limit-limit.result c.in-Ok.tables seen shape run c.limit-limit.ensures named held))

pub returns-clause-part : goal.returns-clause-part
returns-clause-part g c = λ shape run held.
    let seen = g.D.LogDisk.seen c.args.disk.now in
    let named = c.in-Ok.ensures ∙ c.as_slice.ensures in
    image_left c.args.self c.limit-limit.result c.in-Ok.tables seen (g.D.LogDisk.seen c.recover.new.disk) shape run c.limit-limit.ensures named held
    (c.in-Err-NoMemory.ensures.kept (written_bodies shape run) (log_can_be_recovered c.args.self c.limit-limit.result c.in-Ok.tables seen shape run c.limit-limit.ensures named held))
