use Rattle.std.proofs.Common.{◌∙◌, ◌++◌, subst, Option, None, Ok}
use Rattle.std.proofs.lemmas.Result.{err_from_is_err_and}
use Rattle.rb_read_defs.specs.declared.answers.Content.{Content}
use Rattle.rb_read_defs.specs.declared.answers.Header.{Header}
use Rattle.rb_read_defs.specs.declared.answers.Step.{Step}
use Rattle.rb_stream.specs.Next.{Meets, GoesPast}
use Rattle.rb_stream.proofs.NextLaws.{meets_fault, refuses, gives, passes_quiet, ends_quiet, none_of}
use Rattle.rb_stream.proofs.decoder.Decoder.pass_events.Goals as goal

pub returns-in_err-header-clause-goes : goal.returns-in_err-header-clause-goes
returns-in_err-header-clause-goes c position bytes passed start =
    let p = err_from_is_err_and c.from_residual.result c.from_residual.ensures.1 in
    let ahead = c.loop-header.invariant.ahead position bytes passed start in
    rw (p.1, p.2) (meets_fault c.loop-header.self position bytes passed c.in_err-header.field-0.0 ahead c.loop-header.invariant.due (c.in_err-header.ensures.meets (ahead.quiet ++ passed) ahead.stands.knows))

pub returns-in_err-step-clause-goes : goal.returns-in_err-step-clause-goes
returns-in_err-step-clause-goes c position bytes passed start =
    let p = err_from_is_err_and c.from_residual-in_err-step.result c.from_residual-in_err-step.ensures.1 in
    let ahead = c.loop-header.invariant.ahead position bytes passed start in
    let reads = subst (λ (next : Option (Header × Content)). Meets c.loop-header.self.at c.loop-header.self.unread (ahead.quiet ++ passed) (Ok next)) c.in-Some.is (c.in_ok-header.ensures.meets (ahead.quiet ++ passed) ahead.stands.knows) in
    rw (p.1, p.2) (refuses c.loop-header.self c.take.new.self position bytes passed c.in-Some.header c.in-Some.content c.in_err-step.field-0.0 ahead c.loop-header.invariant.due reads
    (c.in_err-step.ensures.goes (ahead.quiet ++ passed) ahead.stands.knows))

pub returns-in-Some-2-clause-goes : goal.returns-in-Some-2-clause-goes
returns-in-Some-2-clause-goes c position bytes passed start =
    let ahead = c.loop-header.invariant.ahead position bytes passed start in
    let reads = subst (λ (next : Option (Header × Content)). Meets c.loop-header.self.at c.loop-header.self.unread (ahead.quiet ++ passed) (Ok next)) c.in-Some.is (c.in_ok-header.ensures.meets (ahead.quiet ++ passed) ahead.stands.knows) in
    gives c.loop-header.self c.take.new.self position bytes passed c.in-Some.header c.in-Some.content c.in-Some-2.step ahead c.loop-header.invariant.due reads
    (subst (λ (given : Option Step). GoesPast (ahead.quiet ++ passed) c.in-Some.header c.in-Some.content (Ok given) c.loop-header.self c.take.new.self) c.in-Some-2.is (c.in_ok-step.ensures.goes (ahead.quiet ++ passed) ahead.stands.knows))

pub loop-header-preserved : goal.loop-header-preserved
loop-header-preserved c = record {
  ahead = λ position bytes passed start.
      let ahead = c.loop-header.invariant.ahead position bytes passed start in
      let reads = subst (λ (next : Option (Header × Content)). Meets c.loop-header.self.at c.loop-header.self.unread (ahead.quiet ++ passed) (Ok next)) c.in-Some.is (c.in_ok-header.ensures.meets (ahead.quiet ++ passed) ahead.stands.knows) in
      passes_quiet c.loop-header.self c.take.new.self position bytes passed c.in-Some.header c.in-Some.content ahead c.loop-header.invariant.due reads
      (subst (λ (given : Option Step). GoesPast (ahead.quiet ++ passed) c.in-Some.header c.in-Some.content (Ok given) c.loop-header.self c.take.new.self) c.in-None.is (c.in_ok-step.ensures.goes (ahead.quiet ++ passed) ahead.stands.knows));
  due = c.in_ok-step.ensures.due ∙ c.loop-header.invariant.due;
  settled = c.in_ok-step.ensures.settled ∙ c.loop-header.invariant.settled;
}

pub returns-clause-goes : goal.returns-clause-goes
returns-clause-goes c position bytes passed start =
    let ahead = c.loop-header.invariant.ahead position bytes passed start in
    ends_quiet c.loop-header.self position bytes passed None ahead c.loop-header.invariant.due
    (subst (λ (next : Option (Header × Content)). Meets c.loop-header.self.at c.loop-header.self.unread (ahead.quiet ++ passed) (Ok next)) (none_of c.in_ok-header.field-0 c.in_default.not-Some) (c.in_ok-header.ensures.meets (ahead.quiet ++ passed) ahead.stands.knows))
