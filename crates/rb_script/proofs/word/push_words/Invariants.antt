use Rattle.std.proofs.Common.{◌≡◌, ◌++◌, map, filter, take}
use Rattle.std.specs.Prelude.{not}
use Rattle.rb_text_defs.specs.Words.{Plain, is_empty}
use Rattle.rb_script.specs.Seen.{word_of}
use Rattle.rb_script.proofs.word.push_words.Given as goal

abbrev pub invariant-loop-part : goal.invariant-loop-part
invariant-loop-part l =
    map word_of l.words.items
    ≡ map word_of l.fn.words.items ++ map (λ bytes. Plain bytes) (filter (λ bytes. not (is_empty bytes)) (map (λ part. part.now) (take l.part-index l.parts)))
