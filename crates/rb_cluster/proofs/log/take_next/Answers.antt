use Rattle.std.proofs.Common.{ap, ◌∙◌, arith}
use Rattle.std.specs.Prelude.{Err, None}
use Rattle.rb_message_defs.proofs.Assembly.{journal_assembly}
use Rattle.rb_play_defs.specs.Step.{takeable, written_bodies}
use Rattle.rb_cluster.specs.Cluster.{log_setup}
use Rattle.rb_cluster.proofs.InjectLaws.{next_is, none_taken, buffer_stays, buffer_taken, next_there}
use Rattle.rb_cluster.proofs.TakeLaws.{injector_same, next_later, next_writable, next_few, next_small, next_file, next_logged, next_failed}
use Rattle.rb_cluster.proofs.log.take_next.Goals as goal

pub returns-in_default-clause-taken : goal.returns-in_default-clause-taken
returns-in_default-clause-taken g c = λ shape run held.
    let seen = g.D.LogDisk.seen c.args.disk.now in (
      none_taken (journal_assembly shape run.last run.journal) (takeable shape run) (next_is shape c.args.events.now c.args.injector seen run None held (λ fed stands chained. c.in_default.ensures.answer fed stands chained)),
      injector_same shape c.args.events.now c.take_epoch.new.self c.args.injector seen run held
          (buffer_stays shape c.args.events.now c.args.injector seen run c.take_epoch.new.self held (λ fed stands chained. c.in_default.ensures.answer fed stands chained) (λ fed stands chained. c.in_default.ensures.taken fed stands chained)),
    )

pub take-requires-clause-later : goal.take-requires-clause-later
take-requires-clause-later g c =
    let (shape, run, held) = c.requires.fits in
    next_later shape c.args.events.now c.args.injector (g.D.LogDisk.seen c.args.disk.now) run c.in-Some.assembled held
    (next_there shape c.args.events.now c.args.injector (g.D.LogDisk.seen c.args.disk.now) run c.in-Some.assembled held (λ fed stands chained. c.in-Some.ensures.answer fed stands chained))

pub take-requires-clause-writable : goal.take-requires-clause-writable
take-requires-clause-writable g c =
    let (shape, run, held) = c.requires.fits in
    next_writable shape c.args.events.now c.args.injector (g.D.LogDisk.seen c.args.disk.now) run c.in-Some.assembled held
    (next_there shape c.args.events.now c.args.injector (g.D.LogDisk.seen c.args.disk.now) run c.in-Some.assembled held (λ fed stands chained. c.in-Some.ensures.answer fed stands chained))

pub take-requires-clause-few : goal.take-requires-clause-few
take-requires-clause-few g c =
    let (shape, run, held) = c.requires.fits in
    next_few shape c.args.events.now c.args.injector (g.D.LogDisk.seen c.args.disk.now) run c.in-Some.assembled held
    (next_there shape c.args.events.now c.args.injector (g.D.LogDisk.seen c.args.disk.now) run c.in-Some.assembled held (λ fed stands chained. c.in-Some.ensures.answer fed stands chained))

pub take-requires-clause-few_files : goal.take-requires-clause-few_files
take-requires-clause-few_files g c =
    let (shape, run, held) = c.requires.fits in
    next_file shape c.args.events.now c.args.injector (g.D.LogDisk.seen c.args.disk.now) run held

pub unreachable-requires : goal.unreachable-requires
unreachable-requires g c =
    let (shape, run, held) = c.requires.fits in
    let small = next_small shape c.args.events.now c.args.injector (g.D.LogDisk.seen c.args.disk.now) run c.in-Some.assembled held
    (next_there shape c.args.events.now c.args.injector (g.D.LogDisk.seen c.args.disk.now) run c.in-Some.assembled held (λ fed stands chained. c.in-Some.ensures.answer fed stands chained)) in
    let large = c.take.ensures.too_large c.in-Err-TooLarge.field-0-0 (c.in-Err-TooLarge.is ∙ ap Err c.in-Err-TooLarge.field-0-is) in
    absurd (omega (arith, small, large.0, large.1))

pub returns-in-Ok-clause-taken : goal.returns-in-Ok-clause-taken
returns-in-Ok-clause-taken g c = λ shape run held.
    let seen = g.D.LogDisk.seen c.args.disk.now in
    let next = next_there shape c.args.events.now c.args.injector seen run c.in-Some.assembled held (λ fed stands chained. c.in-Some.ensures.answer fed stands chained) in
    next_logged shape c.args.events.now c.take_epoch.new.self c.args.injector c.in-Ok.injector seen (g.D.LogDisk.seen c.take.new.disk) run c.in-Some.assembled c.in-Ok.logged held next
    (buffer_taken shape c.args.events.now c.args.injector seen run c.take_epoch.new.self c.in-Some.assembled next.epoch held next.number (λ fed stands chained. c.in-Some.ensures.answer fed stands chained) (λ fed stands chained. c.in-Some.ensures.taken fed stands chained))
    (c.in-Ok.ensures.taken (log_setup shape c.args.injector) (written_bodies shape run) held.log.injector)
    c.in-Ok.ensures.logged

pub returns-in-Ok-clause-limit : goal.returns-in-Ok-clause-limit
returns-in-Ok-clause-limit g c =
    let (shape, run, held) = c.requires.fits in
    (c.in-Ok.ensures.taken (log_setup shape c.args.injector) (written_bodies shape run) held.log.injector).limit_is

pub returns-in-Err-DiskFault-clause-part : goal.returns-in-Err-DiskFault-clause-part
returns-in-Err-DiskFault-clause-part g c = λ shape run held.
    let seen = g.D.LogDisk.seen c.args.disk.now in
    next_failed shape c.args.events.now c.args.injector seen (g.D.LogDisk.seen c.take.new.disk) run c.in-Some.assembled held
    (next_there shape c.args.events.now c.args.injector seen run c.in-Some.assembled held (λ fed stands chained. c.in-Some.ensures.answer fed stands chained))
    (λ none file. ap (λ disk. g.D.LogDisk.seen disk file) (c.take.ensures.nothing none)) (c.in-Err-DiskFault.ensures.stopped (log_setup shape c.args.injector) (written_bodies shape run) held.log.injector)

pub returns-in-Err-NoMemory-clause-part : goal.returns-in-Err-NoMemory-clause-part
returns-in-Err-NoMemory-clause-part g c = λ shape run held.
    let seen = g.D.LogDisk.seen c.args.disk.now in
    next_failed shape c.args.events.now c.args.injector seen (g.D.LogDisk.seen c.take.new.disk) run c.in-Some.assembled held
    (next_there shape c.args.events.now c.args.injector seen run c.in-Some.assembled held (λ fed stands chained. c.in-Some.ensures.answer fed stands chained))
    (λ none file. ap (λ disk. g.D.LogDisk.seen disk file) (c.take.ensures.nothing none)) (c.in-Err-NoMemory.ensures.stopped (log_setup shape c.args.injector) (written_bodies shape run) held.log.injector)
