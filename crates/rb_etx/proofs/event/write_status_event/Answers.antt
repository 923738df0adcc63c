use Rattle.std.proofs.Common.{◌≡◌, ◌∙◌, length, ap, arith}
use Rattle.std.specs.Prelude.{◌==◌}
use Rattle.rb_log_defs.specs.Rows.{status_payload}
use Rattle.rb_log_defs.proofs.Sizes.{event_length}
use Rattle.rb_etx.proofs.Payloads.{status_payload_written, event_written}
use Rattle.rb_etx.proofs.event.write_status_event.Goals as goal

pub write_head-requires : goal.write_head-requires
write_head-requires c =
    let body = c.args.body.now in
    let size : c.size_of_status.result ≡ length (status_payload body) = c.size_of_status.ensures.size (length body.changes == 0) ∙ ap length (status_payload_written body) in
    omega (arith, size, event_length 30 body.server (status_payload body) c.args.start, c.requires)

pub returns : goal.returns
returns c =
    let body = c.args.body.now in
    event_written 30 body.server (status_payload body) c.args.start c.size_of_status.result c.args.out.now.items c.write_head.new.out.items c.write_status.new.out.items
    (c.size_of_status.ensures.size (length body.changes == 0) ∙ ap length (status_payload_written body)) (rw c.rows_type-kind.ensures at c.in_ok-write_head.ensures)
    (rw (c.is_empty.ensures, c.as_slice.ensures, status_payload_written body) at c.in_ok-write_status.ensures.ok)
