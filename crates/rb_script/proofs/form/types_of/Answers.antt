use Rattle.std.proofs.Common.{◌∙◌, ◌∷◌, [], map, sym, ap, Some}
use Rattle.std.specs.Option.{option_map}
use Rattle.std.proofs.lemmas.List.{map-append, take_all}
use Rattle.rb_text_defs.specs.Form.{type_of}
use Rattle.rb_script.specs.Seen.{column_seen, word_of}
use Rattle.rb_script.proofs.AllOf.{all_more, all_mapped, none_in}
use Rattle.rb_script.proofs.form.types_of.Goals as goal

pub returns-in_default : goal.returns-in_default
returns-in_default c = sym
    (all_mapped type_of word_of c.args.words.now
    ∙ none_in (λ word. type_of (word_of word)) c.args.words.now c.loop-word.word-index _ c.loop-word-test.true
    (sym c.type_of.ensures ∙ ap (option_map column_seen) c.in_default.is))

pub loop-word-preserved : goal.loop-word-preserved
loop-word-preserved c =
    all_more (λ word. type_of (word_of word)) c.args.words.now c.loop-word.word-index _ (map column_seen c.loop-word.types.items) (column_seen c.in-Some.column_type) c.loop-word-test.true c.loop-word.invariant
    (sym c.type_of.ensures ∙ ap (option_map column_seen) c.in-Some.is)
    ∙ ap Some (sym (ap (map column_seen) c.in_ok-push.ensures.items ∙ map-append column_seen c.loop-word.types.items (c.in-Some.column_type ∷ [])))

pub returns : goal.returns
returns c =
    let all = rw (take_all _ _ c.loop-word-test.false) at c.loop-word.invariant in
    sym (all_mapped type_of word_of c.args.words.now ∙ all)
