use Rattle.std.proofs.Common.{◌≡◌, map, take, Some}
use Rattle.rb_text_defs.specs.Words.{all_of}
use Rattle.rb_text_defs.specs.Form.{value_of}
use Rattle.rb_script.specs.Seen.{word_of}
use Rattle.rb_script.proofs.operation.values_of.Given as goal

abbrev pub invariant-loop-word : goal.invariant-loop-word
invariant-loop-word l = all_of (map (λ word. value_of (word_of word)) (take l.word-index l.words)) ≡ Some l.values.items
