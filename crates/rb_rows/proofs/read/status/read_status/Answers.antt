use Rattle.std.proofs.Common.{◌∙◌, sym, ap, Err}
use Rattle.std.proofs.lemmas.Result.{err_from_is_err_and}
use Rattle.rb_base.specs.declared.change.Kind.TheVariants.{Insert}
use Rattle.rb_read_defs.specs.Reading.{answer_of}
use Rattle.rb_read_defs.specs.Rows.{rows_head, many}
use Rattle.rb_rows.specs.Rows.{status}
use Rattle.rb_rows.proofs.RowLaws.{head_fails, items_given, statuses_parts}
use Rattle.rb_rows.proofs.read.status.read_status.Goals as goal

pub returns-in_err-read_head : goal.returns-in_err-read_head
returns-in_err-read_head c memory =
    let handed = err_from_is_err_and c.from_residual.result c.from_residual.ensures.1 in
    head_fails (rows_head Insert c.args.table.now) (λ transid. many (status c.args.table.now)) c.args.payload.now c.new-fields.result.bytes.now 0 c.new-fields.result.at c.in_err-read_head.field-0.0 c.from_residual.result
    c.new-fields.ensures.bytes c.new-fields.ensures.at (handed.1 ∙ ap Err handed.2) c.in_err-read_head.ensures.gives
    ∙ ap answer_of (sym (statuses_parts c.args.table.now c.args.payload.now))

pub returns : goal.returns
returns c memory =
    items_given (rows_head Insert c.args.table.now) (λ transid. many (status c.args.table.now)) c.args.payload.now c.new-fields.result.bytes.now c.read_head.new.fields.bytes.now 0 c.new-fields.result.at c.read_head.new.fields.at c.read_status_rows.new.fields.at c.in_ok-read_head.field-0 c.read_status_rows.result
    c.new-fields.ensures.bytes (ap (λ bytes. bytes.now) c.read_head.ensures.bytes) c.new-fields.ensures.at c.in_ok-read_head.ensures.gives (c.read_status_rows.ensures.gives memory)
    ∙ ap answer_of (sym (statuses_parts c.args.table.now c.args.payload.now))
