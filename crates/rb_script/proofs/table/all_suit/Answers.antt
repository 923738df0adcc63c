use Rattle.std.proofs.Common.{◌∙◌, sym, ap}
use Rattle.std.proofs.lemmas.List.{take_all}
use Rattle.std.proofs.lemmas.List.Folds.{list_all-map, list_all_at}
use Rattle.rb_text_defs.specs.Script.{suits_tables}
use Rattle.rb_script.specs.declared.operation.Operation.{Operation}
use Rattle.rb_script.specs.Seen.{operation_seen}
use Rattle.rb_script.proofs.table.all_suit.Goals as goal

pub returns-then-not-suits_tables : goal.returns-then-not-suits_tables
returns-then-not-suits_tables c =
    let test = λ (operation : Operation). suits_tables c.args.tables.now (operation_seen operation) in
    sym (list_all-map (suits_tables c.args.tables.now) operation_seen c.args.operations.now
    ∙ list_all_at test c.args.operations.now c.loop-operation.operation-index c.operation-item.result c.loop-operation-test.true
    (ap test (sym c.operation-item.is) ∙ sym c.suits_tables.ensures ∙ c.if-not-suits_tables.true))

pub returns : goal.returns
returns c =
    sym (list_all-map (suits_tables c.args.tables.now) operation_seen c.args.operations.now ∙ (rw (take_all _ _ c.loop-operation-test.false) at c.loop-operation.invariant))
