use Rattle.std.proofs.Common.{◌≡◌, drop}
use Rattle.rb_text_defs.specs.Words.{is_skipped}
use Rattle.rb_script.proofs.byte.is_skipped.Given as goal

abbrev pub invariant-loop-byte : goal.invariant-loop-byte
invariant-loop-byte l = is_skipped l.line ≡ is_skipped (drop l.byte-index l.line)
