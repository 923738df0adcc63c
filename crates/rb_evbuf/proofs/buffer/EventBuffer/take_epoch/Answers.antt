use Rattle.std.proofs.Common.{refl, sym, ◌∙◌, ap}
use Rattle.std.specs.Prelude.{Option}
use Rattle.std.specs.Option.{option_map, option_and_then}
use Rattle.std.specs.Ordering.{nat_cmp}
use Rattle.std.specs.BTreeMap as tree
use Rattle.rb_base.specs.declared.epoch.Epoch.{Epoch}
use Rattle.rb_evbuf.proofs.Taking.{not_assembled, stands_untaken, is_there, next_taken, assembled_with, stands_taken}
use Rattle.rb_evbuf.proofs.buffer.EventBuffer.take_epoch.Goals as goal

pub returns-then-is_some-clause-answer : goal.returns-then-is_some-clause-answer
returns-then-is_some-clause-answer c = λ fed stands chained. sym (not_assembled fed c.missing.result (c.missing.ensures fed stands chained) (sym c.is_some.ensures ∙ c.if-is_some.true))

pub returns-then-is_some-clause-taken : goal.returns-then-is_some-clause-taken
returns-then-is_some-clause-taken c = λ fed stands chained. stands_untaken c.args.self.now fed stands (not_assembled fed c.missing.result (c.missing.ensures fed stands chained) (sym c.is_some.ensures ∙ c.if-is_some.true))

-- if nothing is missing, neither look-up fails
pub returns-in_err-epoch-clause-answer : goal.returns-in_err-epoch-clause-answer
returns-in_err-epoch-clause-answer c = λ fed stands chained. absurd (is_there c.args.self.now fed c.missing.result stands chained (c.missing.ensures fed stands chained) (sym c.is_some.ensures ∙ c.if-is_some.false)
    (ap (λ (o : Option Epoch). option_and_then (tree.get nat_cmp c.args.self.now.epochs) (option_map (λ (e : Epoch). e.0) o)) (sym c.in_err-epoch.ensures.value)))

pub returns-in_err-epoch-clause-taken : goal.returns-in_err-epoch-clause-taken
returns-in_err-epoch-clause-taken c = λ fed stands chained. absurd (is_there c.args.self.now fed c.missing.result stands chained (c.missing.ensures fed stands chained) (sym c.is_some.ensures ∙ c.if-is_some.false)
    (ap (λ (o : Option Epoch). option_and_then (tree.get nat_cmp c.args.self.now.epochs) (option_map (λ (e : Epoch). e.0) o)) (sym c.in_err-epoch.ensures.value)))

pub returns-in_err-gathered-clause-answer : goal.returns-in_err-gathered-clause-answer
returns-in_err-gathered-clause-answer c = λ fed stands chained. absurd (is_there c.args.self.now fed c.missing.result stands chained (c.missing.ensures fed stands chained) (sym c.is_some.ensures ∙ c.if-is_some.false)
    (ap (λ (o : Option Epoch). option_and_then (tree.get nat_cmp c.args.self.now.epochs) (option_map (λ (e : Epoch). e.0) o)) (sym c.in_ok-epoch.ensures.value) ∙ sym c.in_err-gathered.ensures.value))

pub returns-in_err-gathered-clause-taken : goal.returns-in_err-gathered-clause-taken
returns-in_err-gathered-clause-taken c = λ fed stands chained. absurd (is_there c.args.self.now fed c.missing.result stands chained (c.missing.ensures fed stands chained) (sym c.is_some.ensures ∙ c.if-is_some.false)
    (ap (λ (o : Option Epoch). option_and_then (tree.get nat_cmp c.args.self.now.epochs) (option_map (λ (e : Epoch). e.0) o)) (sym c.in_ok-epoch.ensures.value) ∙ sym c.in_err-gathered.ensures.value))

pub returns-clause-answer : goal.returns-clause-answer
returns-clause-answer c = λ fed stands chained.
    assembled_with c.args.self.now fed c.in_ok-epoch.epoch c.in_ok-gathered.gathered c.missing.result c.into_parts.result stands chained c.in_ok-epoch.ensures.value c.in_ok-gathered.ensures.value
    (c.missing.ensures fed stands chained) (sym c.is_some.ensures ∙ c.if-is_some.false) c.into_parts.ensures

pub returns-clause-taken : goal.returns-clause-taken
returns-clause-taken c = λ fed stands chained.
    stands_taken c.args.self.now _ fed _ stands chained (next_taken c.args.self.now fed c.in_ok-epoch.epoch stands chained c.in_ok-epoch.ensures.value)
    (assembled_with c.args.self.now fed c.in_ok-epoch.epoch c.in_ok-gathered.gathered c.missing.result c.into_parts.result stands chained c.in_ok-epoch.ensures.value c.in_ok-gathered.ensures.value
    (c.missing.ensures fed stands chained) (sym c.is_some.ensures ∙ c.if-is_some.false) c.into_parts.ensures)
    refl refl c.in_ok-epoch.ensures.updates c.in_ok-gathered.ensures.updates
