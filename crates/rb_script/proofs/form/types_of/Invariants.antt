use Rattle.std.proofs.Common.{◌≡◌, map, take, Some}
use Rattle.rb_text_defs.specs.Words.{all_of}
use Rattle.rb_text_defs.specs.Form.{type_of}
use Rattle.rb_script.specs.Seen.{column_seen, word_of}
use Rattle.rb_script.proofs.form.types_of.Given as goal

abbrev pub invariant-loop-word : goal.invariant-loop-word
invariant-loop-word l = all_of (map (λ word. type_of (word_of word)) (take l.word-index l.words)) ≡ Some (map column_seen l.types.items)
