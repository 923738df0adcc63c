use Rattle.std.proofs.Common.{ℕ, ◌∙◌, sym, ap, ap₂, subst, arith, Err}
use Rattle.std.specs.Prelude.{Option, Some}
use Rattle.rb_base.specs.declared.faults.Field.{Field}
use Rattle.rb_top.specs.ReadLoop.{HasTakenAll}
use Rattle.rb_top.proofs.TakeLaws.{taken_more, taken_all, taken_to_bad, taken_few, printable}
use Rattle.rb_top.proofs.read.take_steps.Goals as goal

pub returns-in-Err-BadEvent : goal.returns-in-Err-BadEvent
returns-in-Err-BadEvent c = λ bytes passed stands fed.
    subst (λ (bad : Option (ℕ × Field)). HasTakenAll c.next.new.self bytes passed c.args.text.now.items c.loop.text.items bad)
    (sym (ap₂ (λ (at : ℕ) (field : Field). Some (at, field)) c.in-Err-BadEvent.position-is c.in-Err-BadEvent.field-is))
    (taken_to_bad _ _ _ _ _ _ _ _ _ _ (c.in-Err-BadEvent.is ∙ ap Err c.in-Err-BadEvent.field-0-is) c.next.ensures (c.loop.invariant.taken bytes passed stands))

pub put_step-requires : goal.put_step-requires
put_step-requires c =
    let (bytes, passed, stands, fed) = c.requires.fed in
    let had = c.loop.invariant.taken bytes passed stands in
    record { printable = printable _ _ _ _ _ _ c.in-Ok.is c.next.ensures had.stands }

pub returns-then-not-branch : goal.returns-then-not-branch
returns-then-not-branch c = λ bytes passed stands fed.
    taken_all _ _ _ _ _ _ _ _ _ _ c.in-Ok.is (sym c.in_ok-put_step.ensures.taken ∙ c.if-not-branch.true) c.next.ensures (c.loop.invariant.taken bytes passed stands) c.in_ok-put_step.ensures.text

pub loop-preserved : goal.loop-preserved
loop-preserved c = record {
  taken = λ bytes passed stands.
      taken_more _ _ _ _ _ _ _ _ _ _ c.in-Ok.is (sym c.in_ok-put_step.ensures.taken ∙ c.if-not-branch.false) c.next.ensures (c.loop.invariant.taken bytes passed stands) c.in_ok-put_step.ensures.text;
}

pub returns-else-not-branch : goal.returns-else-not-branch
returns-else-not-branch c = λ bytes passed stands fed.
    let had = taken_more _ _ _ _ _ _ _ _ _ _ c.in-Ok.is (sym c.in_ok-put_step.ensures.taken ∙ c.if-not-branch.false) c.next.ensures (c.loop.invariant.taken bytes passed stands) c.in_ok-put_step.ensures.text in
    let few = taken_few _ _ _ _ _ _ had in
    absurd (omega arith)
