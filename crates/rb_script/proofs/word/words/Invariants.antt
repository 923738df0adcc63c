use Rattle.std.proofs.Common.{◌≡◌, ◌++◌, map, length}
use Rattle.std.specs.Option.{option_map}
use Rattle.rb_text_defs.specs.Words.{words_of}
use Rattle.rb_script.specs.Seen.{word_of}
use Rattle.rb_script.proofs.word.words.Given as goal

abbrev pub invariant-loop-outside : goal.invariant-loop-outside
invariant-loop-outside l = words_of l.line ≡ option_map (λ later. map word_of l.words.items ++ later) (words_of l.rest)

abbrev pub decreases-loop-outside : goal.decreases-loop-outside
decreases-loop-outside l = length l.rest
