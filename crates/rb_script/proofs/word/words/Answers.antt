use Rattle.std.proofs.Common.{◌≡◌, ◌++◌, ◌∷◌, [], ◌∙◌, ap, sym, map, Some, rules}
use Rattle.std.specs.Option.{option_map}
use Rattle.std.proofs.lemmas.List.{map-append}
use Rattle.rb_text_defs.specs.Words.{Quoted, plain_words, words_of}
use Rattle.rb_script.specs.Seen.{word_of}
use Rattle.rb_script.proofs.WordLaws.{pieces_of, words_of_last, in_prefix}
use Rattle.rb_script.proofs.word.words.Goals as goal

pub returns-in_default-text : goal.returns-in_default-text
returns-in_default-text c =
    let none = rw c.in_default-text.is at c.text.ensures.none in
    sym (c.loop-outside.invariant ∙ ap (λ words. option_map (λ later. map word_of c.loop-outside.words.items ++ later) words) (none c.loop-outside.rest.now c.in-Some.ensures.some))

pub loop-outside-preserved : goal.loop-outside-preserved
loop-outside-preserved c =
    let read = c.in-Some-text.ensures.some c.loop-outside.rest.now c.in-Some.ensures.some in
    let pushed : map word_of c.push.new.self.items ≡ (map word_of c.loop-outside.words.items ++ plain_words c.in-Some.outside.now) ++ Quoted c.in-Some-text.text.now ∷ [] =
    ap (map word_of) c.in_ok-push.ensures.items ∙ map-append word_of c.push_plain_words.new.words.items _
    ∙ ap (λ words. words ++ Quoted c.in-Some-text.text.now ∷ []) c.in_ok-push_plain_words.ensures in
    c.loop-outside.invariant ∙ ap (λ words. option_map (λ later. map word_of c.loop-outside.words.items ++ later) words) read
    ∙ in_prefix (map word_of c.loop-outside.words.items) (plain_words c.in-Some.outside.now) (Quoted c.in-Some-text.text.now) (words_of c.in-Some-text.after.now)
    ∙ ap (λ words. option_map (λ later. words ++ later) (words_of c.in-Some-text.after.now)) (sym pushed)

pub returns : goal.returns
returns c =
    let last : pieces_of c.loop-outside.rest.now ≡ c.loop-outside.rest.now ∷ [] = search rules in
    sym (c.loop-outside.invariant ∙ ap (λ words. option_map (λ later. map word_of c.loop-outside.words.items ++ later) words) (words_of_last c.loop-outside.rest.now last)
    ∙ ap Some (sym c.in_ok-push_plain_words-2.ensures))
