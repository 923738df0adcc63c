use Rattle.std.proofs.Common.{◌≡◌, ◌∙◌, length, ap, arith}
use Rattle.rb_log_defs.specs.Rows.{rows_type, end_flag, change_payload}
use Rattle.rb_log_defs.proofs.Sizes.{event_length}
use Rattle.rb_etx.proofs.Payloads.{written_is, event_written}
use Rattle.rb_etx.proofs.event.write_change.Goals as goal

pub write_head-requires : goal.write_head-requires
write_head-requires c =
    let table = c.args.table.now in let change = c.args.change.now in
    let payload = change_payload table.columns change (end_flag c.args.last) in
    let size : c.size_of_rows-size.result ≡ length payload = c.size_of_rows-size.ensures.size c.args.last ∙ ap length (written_is table c.from_ref-changes.result.now change c.args.last c.from_ref-changes.ensures.value c.requires.named) in
    omega (arith, size, event_length (rows_type change.kind) c.args.server payload c.args.start, c.requires.fits)

pub returns : goal.returns
returns c =
    let table = c.args.table.now in let change = c.args.change.now in
    let payload = change_payload table.columns change (end_flag c.args.last) in
    let written = written_is table c.from_ref-changes.result.now change c.args.last c.from_ref-changes.ensures.value c.requires.named in
    event_written (rows_type change.kind) c.args.server payload c.args.start c.size_of_rows-size.result c.args.out.now.items c.write_head.new.out.items c.write_rows.new.out.items
    (c.size_of_rows-size.ensures.size c.args.last ∙ ap length written) (rw c.rows_type.ensures at c.in_ok-write_head.ensures) (rw written at c.in_ok-write_rows.ensures.ok)
