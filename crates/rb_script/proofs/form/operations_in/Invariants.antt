use Rattle.std.proofs.Common.{◌≡◌, map, take, Some}
use Rattle.rb_text_defs.specs.Words.{all_of}
use Rattle.rb_text_defs.specs.Form.{operation_of}
use Rattle.rb_script.specs.Seen.{operation_seen, word_of}
use Rattle.rb_script.proofs.form.operations_in.Given as goal

abbrev pub invariant-loop-piece : goal.invariant-loop-piece
invariant-loop-piece l = all_of (map (λ piece. operation_of (map word_of piece.now)) (take l.piece-index l.pieces)) ≡ Some (map operation_seen l.operations.items)
