use Rattle.std.proofs.Common.{length}
use Rattle.rb_script.proofs.RunLaws.{HasRead}
use Rattle.rb_script.proofs.lines.parse.Given as goal

abbrev pub invariant-loop-rest : goal.invariant-loop-rest
invariant-loop-rest l = HasRead l.bytes l.before l.rest

abbrev pub decreases-loop-rest : goal.decreases-loop-rest
decreases-loop-rest l = length l.rest
