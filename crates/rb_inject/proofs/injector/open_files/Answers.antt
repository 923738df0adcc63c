use Rattle.std.proofs.Common.{◌∙◌, arith}
use Rattle.rb_base.proofs.Results.{at_an_error, weaker_ok}
use Rattle.rb_device_defs.proofs.RowLaws.{unrotated}
use Rattle.rb_log_defs.specs.File.{binlog_of}
use Rattle.rb_inject.proofs.OpenLaws.{opens, opened, still_there, anew}
use Rattle.rb_binlog.proofs.RotateLaws.{rotation_small}
use Rattle.rb_inject.proofs.injector.open_files.Goals as goal

pub returns-in_default-clause-opened : goal.returns-in_default-clause-opened
returns-in_default-clause-opened g c = weaker_ok _ _ c.begin_anew.result (λ files stands bodies held. anew c.args.site c.args.limit c.args.last bodies files _ _ c.in_default.is held stands) c.begin_anew.ensures.begun

pub cut_to-requires-clause-number : goal.cut_to-requires-clause-number
cut_to-requires-clause-number g c =
    let log = opens c.args.site c.args.limit c.args.last c.in-Some.row c.requires.there.0 _ c.requires.limit c.in-Some.is c.requires.there.1 in
    (omega (arith, log.number), omega (arith, log.few))

pub cut_to-requires-clause-within : goal.cut_to-requires-clause-within
cut_to-requires-clause-within g c = (opens c.args.site c.args.limit c.args.last c.in-Some.row c.requires.there.0 _ c.requires.limit c.in-Some.is c.requires.there.1).within

pub cut_to-requires-clause-fits : goal.cut_to-requires-clause-fits
cut_to-requires-clause-fits g c = omega (arith, (opens c.args.site c.args.limit c.args.last c.in-Some.row c.requires.there.0 _ c.requires.limit c.in-Some.is c.requires.there.1).fits)

pub returns-in_err-files-clause-index : goal.returns-in_err-files-clause-index
returns-in_err-files-clause-index g c =
    let log = opens c.args.site c.args.limit c.args.last c.in-Some.row c.requires.there.0 _ c.requires.limit c.in-Some.is c.requires.there.1 in
    c.in_err-files.ensures.before 0 (omega (arith, log.number))

pub rotate_if-requires-clause-stands : goal.rotate_if-requires-clause-stands
rotate_if-requires-clause-stands g c =
    let log = opens c.args.site c.args.limit c.args.last c.in-Some.row c.requires.there.0 _ c.requires.limit c.in-Some.is c.requires.there.1 in
    (c.args.site, unrotated c.args.site (binlog_of c.args.site c.args.limit log.earlier) log.body, c.in_ok-files.ensures.cut _ log.number log.position log.front)

pub rotate_if-requires-clause-few : goal.rotate_if-requires-clause-few
rotate_if-requires-clause-few g c =
    let log = opens c.args.site c.args.limit c.args.last c.in-Some.row c.requires.there.0 _ c.requires.limit c.in-Some.is c.requires.there.1 in
    omega (arith, log.few, log.number, (c.in_ok-files.ensures.cut (unrotated c.args.site (binlog_of c.args.site c.args.limit log.earlier) log.body) log.number log.position log.front).number_is)

pub rotate_if-requires-clause-fits : goal.rotate_if-requires-clause-fits
rotate_if-requires-clause-fits g c =
    let log = opens c.args.site c.args.limit c.args.last c.in-Some.row c.requires.there.0 _ c.requires.limit c.in-Some.is c.requires.there.1 in
    let files = c.in_ok-files.ensures.cut (unrotated c.args.site (binlog_of c.args.site c.args.limit log.earlier) log.body) log.number log.position log.front in
    λ reached. omega (arith, log.fits, log.position, files.length_is, rotation_small c.in_ok-files.files (omega (arith, log.few, log.number, files.number_is)))

pub returns-in_err-rotate_if-clause-kept : goal.returns-in_err-rotate_if-clause-kept
returns-in_err-rotate_if-clause-kept g c = at_an_error c.from_residual-in_err-rotate_if.result (λ bodies held.
    let log = opens c.args.site c.args.limit c.args.last c.in-Some.row bodies _ c.requires.limit c.in-Some.is held in
    let files = c.in_ok-files.ensures.cut (unrotated c.args.site (binlog_of c.args.site c.args.limit log.earlier) log.body) log.number log.position log.front in
    still_there c.args.site c.args.limit c.args.last c.in-Some.row bodies c.in_ok-files.files _ _ _ log held files (c.in_err-rotate_if.ensures.kept c.args.site (unrotated c.args.site (binlog_of c.args.site c.args.limit log.earlier) log.body) files))

pub returns-in_err-rotate_if-clause-index : goal.returns-in_err-rotate_if-clause-index
returns-in_err-rotate_if-clause-index g c =
    let log = opens c.args.site c.args.limit c.args.last c.in-Some.row c.requires.there.0 _ c.requires.limit c.in-Some.is c.requires.there.1 in
    let files = c.in_ok-files.ensures.cut (unrotated c.args.site (binlog_of c.args.site c.args.limit log.earlier) log.body) log.number log.position log.front in
    c.in_err-rotate_if.ensures.before 0 (omega (arith, files.number_is)) ∙ c.in_ok-files.ensures.before 0 (omega (arith, log.number))

pub returns-clause-opened : goal.returns-clause-opened
returns-clause-opened g c = λ bodies held.
    let log = opens c.args.site c.args.limit c.args.last c.in-Some.row bodies _ c.requires.limit c.in-Some.is held in
    let files = c.in_ok-files.ensures.cut (unrotated c.args.site (binlog_of c.args.site c.args.limit log.earlier) log.body) log.number log.position log.front in
    opened c.args.site c.args.limit c.in-Some.row bodies c.rotate_if.new.self _ _ log (c.in_ok-rotate_if.ensures.rotated c.args.site (unrotated c.args.site (binlog_of c.args.site c.args.limit log.earlier) log.body) files).0

pub returns-clause-index : goal.returns-clause-index
returns-clause-index g c =
    let log = opens c.args.site c.args.limit c.args.last c.in-Some.row c.requires.there.0 _ c.requires.limit c.in-Some.is c.requires.there.1 in
    let files = c.in_ok-files.ensures.cut (unrotated c.args.site (binlog_of c.args.site c.args.limit log.earlier) log.body) log.number log.position log.front in
    c.in_ok-rotate_if.ensures.before 0 (omega (arith, files.number_is)) ∙ c.in_ok-files.ensures.before 0 (omega (arith, log.number))
