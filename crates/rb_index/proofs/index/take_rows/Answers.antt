use Rattle.std.proofs.Common.{◌≡◌, ◌∙◌, ◌+◌, true, List, drop, ap, sym, subst}
use Rattle.std.proofs.lemmas.List.{take_rest}
use Rattle.rb_base.specs.declared.body.IndexRow.{IndexRow}
use Rattle.rb_device_defs.specs.Index.{begins_with_record}
use Rattle.rb_index.proofs.ReadLaws.{IsTaken, one_taken, all_taken, same_taken}
use Rattle.rb_index.proofs.index.take_rows.Goals as goal

pub records-preserved : goal.records-preserved
records-preserved c =
    let bytes = c.args.bytes.now in
    let place = c.records.place in
    let begins : begins_with_record (drop place bytes) ≡ true = ap begins_with_record (sym (take_rest bytes place)) ∙ sym c.records-test.ensures in
    subst (λ (rows : List IndexRow). IsTaken bytes rows (place + 65)) (sym c.in_ok-push.ensures.items)
    (one_taken bytes c.records.rows.items place c.read_record.result c.records.invariant begins
    (λ row rest room is. c.read_record.ensures row rest room (take_rest bytes (place + 1) ∙ is)))

pub returns-clause-count : goal.returns-clause-count
returns-clause-count c =
    let bytes = c.args.bytes.now in
    let place = c.records.place in
    all_taken bytes c.records.rows.items place c.records.invariant (ap begins_with_record (sym (take_rest bytes place)) ∙ sym c.records-test.ensures)

pub returns-clause-taken : goal.returns-clause-taken
returns-clause-taken c =
    let bytes = c.args.bytes.now in
    let place = c.records.place in
    same_taken bytes c.records.rows.items place c.records.invariant (ap begins_with_record (sym (take_rest bytes place)) ∙ sym c.records-test.ensures)
