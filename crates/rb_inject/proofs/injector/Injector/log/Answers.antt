use Rattle.std.proofs.Common.{◌≡◌, ℕ, List, [], ◌∷◌, ◌++◌, refl, ap, subst, ◌∙◌, arith, inl, length, length-append, ◌+◌}
use Rattle.std.specs.Prelude.{Err}
use Rattle.std.proofs.lemmas.Result.{err_from_is_err_and}
use Rattle.rb_base.proofs.Results.{at_an_error}
use Rattle.rb_base.specs.declared.body.EpochBody.{EpochBody}
use Rattle.rb_base.specs.declared.body.IndexRow.{IndexRow}
use Rattle.rb_log_defs.specs.Epoch.{epoch_bytes}
use Rattle.rb_log_defs.specs.File.{Binlog, rotated_at, index_rows}
use Rattle.rb_log_defs.specs.Index.{index_file}
use Rattle.rb_log_defs.proofs.Sizes.{epoch_same_length}
use Rattle.rb_device_defs.proofs.RowLaws.{unrotated}
use Rattle.rb_device_defs.proofs.ImageLaws.{row_of, whole_is_image}
use Rattle.rb_binlog.specs.Binlog as binlog
use Rattle.rb_inject.specs.Fault.{too_large_of}
use Rattle.rb_inject.specs.declared.fault.InjectFault.TheVariants as faults
use Rattle.rb_inject.specs.Injector.{LogSetup, StandsFor}
use Rattle.rb_inject.proofs.LogLaws.{end_small, append_failed, row_failed, rotation_failed, logged, grown, row_is, same_files, size_there, too_large_is, error_is, log_of}
use Rattle.rb_binlog.proofs.RotateLaws.{rotation_small}
use Rattle.rb_inject.proofs.injector.Injector.log.Goals as goal

pub encode_epoch-requires-clause-start : goal.encode_epoch-requires-clause-start
encode_epoch-requires-clause-start g c = omega (arith, c.end-file.ensures.1, end_small c.args.self.now c.requires.stands.0 c.requires.stands.1 _ c.requires.stands.2)

pub returns-in_err-bytes-clause-too_large : goal.returns-in_err-bytes-clause-too_large
returns-in_err-bytes-clause-too_large g c = λ size is.
    let handed = err_from_is_err_and c.from_residual.result c.from_residual.ensures.1 in
    let same : too_large_of c.in_err-bytes.field-0.0 ≡ faults.TooLarge size = error_is _ _ c.from_residual.result (handed.1 ∙ ap Err handed.2) is in
    let found = c.in_err-bytes.ensures.too_large size (ap Err (too_large_is c.in_err-bytes.field-0.0 size same)) in
    (size_there c.args.body.now c.end-file.result.1 size found.0, found.1)

pub returns-in_err-bytes-clause-stopped : goal.returns-in_err-bytes-clause-stopped
returns-in_err-bytes-clause-stopped g c = at_an_error c.from_residual.result (λ setup bodies stands. inl (whole_is_image setup.site setup.limit bodies _ stands.held))

pub overflow_add-next_position : goal.overflow_add-next_position
overflow_add-next_position g c =
    omega (arith, c.end-file.ensures.1, end_small c.args.self.now c.requires.stands.0 c.requires.stands.1 _ c.requires.stands.2, ap length (c.as_slice.ensures.value ∙ c.in_ok-bytes.ensures.ok), c.in_ok-bytes.ensures.small)

pub append-requires-clause-fits : goal.append-requires-clause-fits
append-requires-clause-fits g c =
    omega (arith, end_small c.args.self.now c.requires.stands.0 c.requires.stands.1 _ c.requires.stands.2, ap length (c.deref.ensures.value ∙ c.in_ok-bytes.ensures.ok), c.in_ok-bytes.ensures.small)

pub returns-in_err-append-clause-stopped : goal.returns-in_err-append-clause-stopped
returns-in_err-append-clause-stopped g c = at_an_error c.from_residual-in_err-append.result (λ setup bodies stands.
    inl (append_failed c.args.self.now setup bodies _ _ stands (c.in_err-append.ensures.others 0 (λ zero. omega (arith, zero, stands.files.number_is))) (c.in_err-append.ensures.kept setup.site (log_of setup bodies) stands.files)))

pub returns-in_err-append_row-clause-stopped : goal.returns-in_err-append_row-clause-stopped
returns-in_err-append_row-clause-stopped g c = at_an_error c.from_residual-in_err-append_row.result (λ setup bodies stands.
    let log : Binlog = log_of setup bodies in
    let body : EpochBody = c.args.body.now in
    let bytes : c.deref.result.now ≡ epoch_bytes body (length log.last) = c.deref.ensures.value ∙ c.in_ok-bytes.ensures.ok ∙ ap (epoch_bytes body) (c.end-file.ensures.1 ∙ stands.files.length_is) in
    let row : c.row_at-row.result ≡ row_of setup.site log body = c.row_at-row.ensures ∙ row_is setup.site c.args.self.now.site log body _ _ _ stands.site_is (c.end-file.ensures.0 ∙ stands.files.number_is) (c.end-file.ensures.1 ∙ stands.files.length_is) (ap (λ (n : ℕ). c.end-file.result.1 + n) (ap length (c.as_slice.ensures.value ∙ c.in_ok-bytes.ensures.ok))) in
    row_failed c.args.self.now c.append.new.self setup bodies body c.row_at-row.result _ _ _ stands
    (grown c.append.new.self setup.site log body c.deref.result.now _ bytes (c.in_ok-append.ensures.appended setup.site log stands.files))
    c.in_err-append_row.ensures.others row (omega (arith, epoch_same_length body c.end-file.result.1 0, c.in_ok-bytes.ensures.small)) c.in_err-append_row.ensures.kept)

pub rotate_if-requires-clause-stands : goal.rotate_if-requires-clause-stands
rotate_if-requires-clause-stands g c =
    let setup : LogSetup = c.requires.stands.0 in
    let log : Binlog = log_of setup c.requires.stands.1 in
    (setup.site, _, same_files c.append.new.self setup.site _ _ _ c.in_ok-append_row.ensures.others (c.in_ok-append.ensures.appended setup.site log c.requires.stands.2.files))

pub rotate_if-requires-clause-fits : goal.rotate_if-requires-clause-fits
rotate_if-requires-clause-fits g c =
    let setup : LogSetup = c.requires.stands.0 in
    let log : Binlog = log_of setup c.requires.stands.1 in
    let stands : StandsFor c.args.self.now setup c.requires.stands.1 _ = c.requires.stands.2 in
    let grown = c.in_ok-append.ensures.appended setup.site log stands.files in
    λ reached. omega (arith, grown.length_is, length-append log.last c.deref.result.now, stands.files.length_is, end_small c.args.self.now setup c.requires.stands.1 _ stands, ap length (c.deref.ensures.value ∙ c.in_ok-bytes.ensures.ok), c.in_ok-bytes.ensures.small, rotation_small c.append.new.self (omega (arith, grown.number_is, stands.files.number_is, c.requires.few_files)))

pub returns-in_err-rotate_if-clause-stopped : goal.returns-in_err-rotate_if-clause-stopped
returns-in_err-rotate_if-clause-stopped g c = at_an_error c.from_residual-in_err-rotate_if.result (λ setup bodies stands.
    let log : Binlog = log_of setup bodies in
    let body : EpochBody = c.args.body.now in
    let bytes : c.deref.result.now ≡ epoch_bytes body (length log.last) = c.deref.ensures.value ∙ c.in_ok-bytes.ensures.ok ∙ ap (epoch_bytes body) (c.end-file.ensures.1 ∙ stands.files.length_is) in
    let row : c.row_at-row.result ≡ row_of setup.site log body = c.row_at-row.ensures ∙ row_is setup.site c.args.self.now.site log body _ _ _ stands.site_is (c.end-file.ensures.0 ∙ stands.files.number_is) (c.end-file.ensures.1 ∙ stands.files.length_is) (ap (λ (n : ℕ). c.end-file.result.1 + n) (ap length (c.as_slice.ensures.value ∙ c.in_ok-bytes.ensures.ok))) in
    let files : binlog.StandsFor c.append.new.self setup.site (unrotated setup.site log body) _ = same_files c.append.new.self setup.site _ _ _ c.in_ok-append_row.ensures.others (grown c.append.new.self setup.site log body c.deref.result.now _ bytes (c.in_ok-append.ensures.appended setup.site log stands.files)) in
    rotation_failed c.append.new.self setup bodies body _ _ files (c.in_ok-append_row.ensures.appended.1 ∙ ap index_file (c.in_ok-append_row.ensures.appended.0 ∙ ap (λ (rows : List IndexRow). rows ++ c.row_at-row.result ∷ []) stands.rows ∙ ap (λ (r : IndexRow). index_rows setup.site setup.limit bodies ++ r ∷ []) row)) (c.in_err-rotate_if.ensures.before 0 (omega (arith, files.number_is))) (c.in_err-rotate_if.ensures.kept setup.site (unrotated setup.site log body) files)
    (omega (arith, epoch_same_length body c.end-file.result.1 0, c.in_ok-bytes.ensures.small)))

pub returns-clause-logged : goal.returns-clause-logged
returns-clause-logged g c = λ setup bodies stands.
    let log : Binlog = log_of setup bodies in
    let body : EpochBody = c.args.body.now in
    let bytes : c.deref.result.now ≡ epoch_bytes body (length log.last) = c.deref.ensures.value ∙ c.in_ok-bytes.ensures.ok ∙ ap (epoch_bytes body) (c.end-file.ensures.1 ∙ stands.files.length_is) in
    let row : c.row_at-row.result ≡ row_of setup.site log body = c.row_at-row.ensures ∙ row_is setup.site c.args.self.now.site log body _ _ _ stands.site_is (c.end-file.ensures.0 ∙ stands.files.number_is) (c.end-file.ensures.1 ∙ stands.files.length_is) (ap (λ (n : ℕ). c.end-file.result.1 + n) (ap length (c.as_slice.ensures.value ∙ c.in_ok-bytes.ensures.ok))) in
    let files : binlog.StandsFor c.append.new.self setup.site (unrotated setup.site log body) _ = same_files c.append.new.self setup.site _ _ _ c.in_ok-append_row.ensures.others (grown c.append.new.self setup.site log body c.deref.result.now _ bytes (c.in_ok-append.ensures.appended setup.site log stands.files)) in
    logged c.args.self.now _ setup bodies body c.row_at-row.result _ _ stands refl refl refl c.in_ok-append_row.ensures.appended.0 row
    (c.in_ok-rotate_if.ensures.before 0 (omega (arith, files.number_is)) ∙ c.in_ok-append_row.ensures.appended.1)
    (subst (λ (limit : ℕ). binlog.StandsFor c.rotate_if.new.self setup.site (rotated_at setup.site limit (unrotated setup.site log body)) (g.D.LogDisk.seen c.rotate_if.new.disk)) stands.limit_is (c.in_ok-rotate_if.ensures.rotated setup.site (unrotated setup.site log body) files).0)

pub returns-clause-size : goal.returns-clause-size
returns-clause-size g c = omega (arith, epoch_same_length c.args.body.now c.end-file.result.1 0, c.in_ok-bytes.ensures.small)
