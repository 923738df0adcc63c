use Rattle.std.proofs.Common.{sym, arith, ◌∙◌}
use Rattle.rb_text_defs.specs.Words.{is_blank}
use Rattle.rb_script.proofs.LineLaws.{ends_with_last}
use Rattle.rb_script.proofs.byte.ends_with_blank.Goals as goal

pub returns-then-not-is_empty : goal.returns-then-not-is_empty
returns-then-not-is_empty c = c.is_blank.ensures ∙ sym (ends_with_last is_blank c.args.bytes.now (grind arith))
