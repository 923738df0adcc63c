use Rattle.std.proofs.Common.{sym, arith}
use Rattle.std.specs.Prelude.{◌==◌}
use Rattle.rb_script.proofs.LineLaws.{ends_with_last}
use Rattle.rb_script.proofs.cut.ends_with_return.Goals as goal

pub returns-then-not-is_empty-clause-last : goal.returns-then-not-is_empty-clause-last
returns-then-not-is_empty-clause-last c = sym (ends_with_last (λ byte. byte == 13) c.args.line.now (grind arith))
