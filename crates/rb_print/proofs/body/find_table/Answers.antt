use Rattle.std.proofs.Common.{rules, sym, ap, ◌∙◌, Some}
use Rattle.std.proofs.lemmas.List.Sorted.{answers_always}
use Rattle.rb_print.proofs.TableLaws.{searched_there, searched_none}
use Rattle.rb_print.proofs.body.find_table.Goals as goal

pub returns-in-Ok : goal.returns-in-Ok
returns-in-Ok c =
    let by_id = c.in-Ok.ensures.position (λ table. table.id) (answers_always _ _ _ (λ f a r g called. search rules)) in
    ap Some c.index-tables-place.is ∙ sym (searched_there c.args.tables.now c.args.id c.in-Ok.place c.index-tables-place.result c.requires.ascending c.in-Ok.ensures.bound by_id)

pub returns-in-Err : goal.returns-in-Err
returns-in-Err c =
    let by_id = c.in-Err.ensures.position (λ table. table.id) (answers_always _ _ _ (λ f a r g called. search rules)) in
    sym (searched_none c.args.tables.now c.args.id c.in-Err.field-0 c.requires.ascending c.in-Err.ensures.bound by_id)
