use Rattle.std.proofs.Common.{◌∙◌, sym, ap, Some}
use Rattle.std.proofs.lemmas.List.{take_all}
use Rattle.rb_text_defs.specs.Form.{value_of}
use Rattle.rb_script.specs.Seen.{word_of}
use Rattle.rb_script.proofs.AllOf.{all_more, all_mapped, none_in}
use Rattle.rb_script.proofs.operation.values_of.Goals as goal

pub returns-in_default : goal.returns-in_default
returns-in_default c = sym
    (all_mapped value_of word_of c.args.words.now
    ∙ none_in (λ word. value_of (word_of word)) c.args.words.now c.loop-word.word-index _ c.loop-word-test.true (sym c.in_ok-value.ensures ∙ c.in_default.is))

pub loop-word-preserved : goal.loop-word-preserved
loop-word-preserved c =
    all_more (λ word. value_of (word_of word)) c.args.words.now c.loop-word.word-index _ c.loop-word.values.items c.in-Some.value c.loop-word-test.true c.loop-word.invariant (sym c.in_ok-value.ensures ∙ c.in-Some.is)
    ∙ ap Some (sym c.in_ok-push.ensures.items)

pub returns : goal.returns
returns c =
    let all = rw (take_all _ _ c.loop-word-test.false) at c.loop-word.invariant in
    ap Some c.from_vec.ensures ∙ sym (all_mapped value_of word_of c.args.words.now ∙ all)
