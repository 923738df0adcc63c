use Rattle.std.proofs.Common.{◌∙◌, sym, ap, Err}
use Rattle.std.proofs.lemmas.Result.{err_from_is_err_and}
use Rattle.rb_read_defs.specs.Reading.{answer_of}
use Rattle.rb_read_defs.specs.Rows.{rows_head, many}
use Rattle.rb_rows.specs.Rows.{change_in}
use Rattle.rb_rows.proofs.RowLaws.{head_fails, items_given, changes_parts}
use Rattle.rb_rows.proofs.read.rows.read_rows.Goals as goal

pub returns-in_err-transid : goal.returns-in_err-transid
returns-in_err-transid c memory =
    let handed = err_from_is_err_and c.from_residual.result c.from_residual.ensures.1 in
    head_fails (rows_head c.args.kind c.args.table.now) (λ transid. many (change_in c.args.kind c.args.server c.args.table.now transid)) c.args.payload.now c.new-fields.result.bytes.now 0 c.new-fields.result.at c.in_err-transid.field-0.0 c.from_residual.result
    c.new-fields.ensures.bytes c.new-fields.ensures.at (handed.1 ∙ ap Err handed.2) c.in_err-transid.ensures.gives
    ∙ ap answer_of (sym (changes_parts c.args.kind c.args.server c.args.table.now c.args.payload.now))

pub returns : goal.returns
returns c memory =
    items_given (rows_head c.args.kind c.args.table.now) (λ transid. many (change_in c.args.kind c.args.server c.args.table.now transid)) c.args.payload.now c.new-fields.result.bytes.now c.read_head.new.fields.bytes.now 0 c.new-fields.result.at c.read_head.new.fields.at c.read_changes.new.fields.at c.in_ok-transid.transid c.read_changes.result
    c.new-fields.ensures.bytes (ap (λ bytes. bytes.now) c.read_head.ensures.bytes) c.new-fields.ensures.at c.in_ok-transid.ensures.gives (c.read_changes.ensures.gives memory)
    ∙ ap answer_of (sym (changes_parts c.args.kind c.args.server c.args.table.now c.args.payload.now))
