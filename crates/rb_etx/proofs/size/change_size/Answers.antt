use Rattle.std.proofs.Common.{◌≡◌, ◌∙◌, length, sym, ap, arith}
use Rattle.std.specs.Prelude.{false}
use Rattle.rb_log_defs.specs.Rows.{change_payload}
use Rattle.rb_etx.proofs.Payloads.{written_is}
use Rattle.rb_etx.proofs.size.change_size.Goals as goal

pub returns-clause-size : goal.returns-clause-size
returns-clause-size c =
    let table = c.table_of-table.result.now in let change = c.args.change.now in
    let size : c.size_of_rows.result ≡ length (change_payload table.columns change 0)
    = c.size_of_rows.ensures.size false ∙ ap length (written_is table c.from_ref.result.now change false c.from_ref.ensures.value (sym c.table_of-table.ensures.id)) in
    omega (arith, rw c.table_of-table.ensures.columns at size)
