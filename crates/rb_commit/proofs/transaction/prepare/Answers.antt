use Rattle.std.proofs.Common.{◌≡◌, ◌<◌, ◌∙◌, ◌++◌, ◌∷◌, [], length, take, true, false, List, Option, option_map, sym, ap, arith}
use Rattle.std.specs.List.{list_any}
use Rattle.rb_base.specs.declared.row.Row.{Row}
use Rattle.rb_base.specs.declared.change.Change.{Change}
use Rattle.rb_journal_defs.specs.Transaction.{is_same_row, refused_over, change_over, changes_made}
use Rattle.rb_store.specs.Tables.{rows_in}
use Rattle.rb_commit.specs.Fault.{fault_of}
use Rattle.rb_commit.proofs.Judged.{all_left, row_twice, new_row, decides, passes, one_made, none_made}
use Rattle.rb_commit.proofs.NamedRows.{none_named, named_more, was_named, was_new}
use Rattle.rb_commit.proofs.transaction.prepare.Goals as goal

pub loop-number-init : goal.loop-number-init
loop-number-init c = record {
  named = λ t k. none_named _ t k c.new-named.ensures.empty;
  judged = all_left _ _;
  made = c.new-changes.ensures ∙ sym (none_made _ _ _);
}

pub returns-then-not-branch-clause-refused : goal.returns-then-not-branch-clause-refused
returns-then-not-branch-clause-refused c =
    let operation = c.index-operations-number.result in
    let within : c.loop-number.number < length c.args.operations.now = omega arith in
    let named : list_any (is_same_row operation) (take c.loop-number.number c.args.operations.now) ≡ true =
    sym (c.loop-number.invariant.named operation.table operation.key) ∙ was_named _ _ c.in_ok-name_row.ensures.new c.if-not-branch.true in
    λ _. ap (option_map fault_of) (row_twice _ _ _ _ within c.index-operations-number.is c.loop-number.invariant.judged named)

pub returns-in-Some-clause-refused : goal.returns-in-Some-clause-refused
returns-in-Some-clause-refused c =
    let operation = c.index-operations-number.result in
    let within : c.loop-number.number < length c.args.operations.now = omega arith in
    let new : list_any (is_same_row operation) (take c.loop-number.number c.args.operations.now) ≡ false =
    sym (c.loop-number.invariant.named operation.table operation.key) ∙ was_new _ _ c.in_ok-name_row.ensures.new c.if-not-branch.false in
    λ _. decides fault_of _ _ _ _ (new_row _ _ _ _ within c.index-operations-number.is c.loop-number.invariant.judged new)
    (c.in-Some.ensures ∙ ap (λ (there : Option Row). option_map fault_of (refused_over c.loop-number.number operation.op there)) c.row_of-row.ensures)

pub loop-number-preserved : goal.loop-number-preserved
loop-number-preserved c =
    let rows = rows_in c.args.tables.now in
    let operation = c.index-operations-number.result in
    let within : c.loop-number.number < length c.args.operations.now = omega arith in
    let new : list_any (is_same_row operation) (take c.loop-number.number c.args.operations.now) ≡ false =
    sym (c.loop-number.invariant.named operation.table operation.key) ∙ was_new _ _ c.in_ok-name_row.ensures.new c.if-not-branch.false in
    record {
      named = λ t k. named_more _ _ operation t k _ _ within c.index-operations-number.is (c.loop-number.invariant.named t k) (c.in_ok-name_row.ensures.named t k);
      judged = passes fault_of _ _ _ (new_row _ _ _ _ within c.index-operations-number.is c.loop-number.invariant.judged new)
          (c.in_default.ensures ∙ ap (λ (there : Option Row). option_map fault_of (refused_over c.loop-number.number operation.op there)) c.row_of-row.ensures);
      made = c.in_ok-push.ensures.ok
          ∙ ap (λ (changes : List Change). changes ++ c.in_ok-change_of.field-0 ∷ []) c.loop-number.invariant.made
          ∙ ap (λ (change : Change). changes_made rows c.args.author c.args.transid (take c.loop-number.number c.args.operations.now) ++ change ∷ [])
          (c.in_ok-change_of.ensures ∙ ap (λ (there : Option Row). change_over c.args.author c.args.transid there operation) c.row_of-row.ensures)
          ∙ sym (one_made rows c.args.author c.args.transid _ _ operation within c.index-operations-number.is);
    }
