use Rattle.std.proofs.Common.{◌≡◌, ◌∙◌, length, ap, ap₂, arith}
use Rattle.std.specs.Prelude.{◌==◌}
use Rattle.rb_log_defs.specs.Rows.{status_payload}
use Rattle.rb_etx.specs.Size.{maps_size, changes_size}
use Rattle.rb_etx.proofs.Payloads.{status_payload_written}
use Rattle.rb_etx.proofs.Sizes.{epoch_length}
use Rattle.rb_etx.proofs.size.size_of_epoch.Goals as goal

pub returns : goal.returns
returns c start =
    let body = c.args.body.now in
    let maps : c.maps_size-maps.result ≡ maps_size body.tables = c.maps_size-maps.ensures.size ∙ ap maps_size c.as_slice-tables.ensures in
    let status : c.size_of_status.result ≡ length (status_payload body) = c.size_of_status.ensures.size (length body.changes == 0) ∙ ap length (status_payload_written body) in
    let changes : c.changes_size-changes.result ≡ changes_size body.tables body.changes = c.changes_size-changes.ensures.size ∙ ap₂ changes_size c.as_slice-tables.ensures c.as_slice.ensures in
    omega (arith, maps, status, changes, epoch_length body start)
