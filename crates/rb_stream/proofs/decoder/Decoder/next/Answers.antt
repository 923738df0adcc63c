use Rattle.std.proofs.Common.{◌≡◌, subst, Ok, Err, Result, refl}
use Rattle.rb_read_defs.specs.declared.answers.Step.{Step}
use Rattle.rb_stream.specs.declared.fault.StreamFault.{StreamFault}
use Rattle.rb_stream.specs.declared.fault.StreamFault.TheVariants as faults
use Rattle.rb_stream.specs.Next.{AnswersAhead}
use Rattle.rb_stream.proofs.NextLaws.{answers, wants, is_ahead}
use Rattle.rb_stream.proofs.decoder.Decoder.next.Goals as goal

pub returns-in-Ok : goal.returns-in-Ok
returns-in-Ok c position bytes passed stands =
    answers (Ok c.in-Ok.step) c.go_on.new.self _ position bytes passed (λ same. let no : ◌≡◌ {A = Result Step StreamFault} (Ok c.in-Ok.step) (Err faults.NoMemory) = same in cc) refl refl refl refl refl refl refl
    (c.in-Ok.ensures.goes position bytes passed (is_ahead c.args.self.now position bytes passed stands.ready))

pub returns-in-Err-BadEvent : goal.returns-in-Err-BadEvent
returns-in-Err-BadEvent c position bytes passed stands =
    answers (Err (faults.BadEvent c.in-Err-BadEvent.at c.in-Err-BadEvent.field)) c.go_on.new.self _ position bytes passed
    (λ same. let no : ◌≡◌ {A = Result Step StreamFault} (Err (faults.BadEvent c.in-Err-BadEvent.at c.in-Err-BadEvent.field)) (Err faults.NoMemory) = same in cc) refl refl refl refl refl refl refl
    (subst (λ (fault : StreamFault). AnswersAhead position bytes passed (Err fault) c.go_on.new.self) c.in-Err-BadEvent.field-0-is (c.in-Err-BadEvent.ensures.goes position bytes passed (is_ahead c.args.self.now position bytes passed stands.ready)))

pub returns-in-Err-NoMemory : goal.returns-in-Err-NoMemory
returns-in-Err-NoMemory c position bytes passed stands =
    wants c.args.self.now c.go_on.new.self position bytes passed c.in-Err-NoMemory.ensures.settled stands
    (subst (λ (fault : StreamFault). AnswersAhead position bytes passed (Err fault) c.go_on.new.self) c.in-Err-NoMemory.field-0-is (c.in-Err-NoMemory.ensures.goes position bytes passed (is_ahead c.args.self.now position bytes passed stands.ready)))
