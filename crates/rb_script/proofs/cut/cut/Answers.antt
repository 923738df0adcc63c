use Rattle.std.proofs.Common.{eq-eqb, arith}
use Rattle.std.proofs.lemmas.List.{take_rest}
use Rattle.rb_script.proofs.SplitLaws.{split_found, split_missed}
use Rattle.rb_script.proofs.cut.cut.Goals as goal

pub returns-then-byte-at-clause-split : goal.returns-then-byte-at-clause-split
returns-then-byte-at-clause-split c =
    rw take_rest
    (split_found c.args.at c.args.text.now c.loop-index.index c.loop-index-test.true c.loop-index.invariant (eq-eqb _ c.args.at c.if-byte-at.true))

pub returns-clause-split : goal.returns-clause-split
returns-clause-split c = split_missed c.args.at c.args.text.now (λ k lt. c.loop-index.invariant k (omega arith))
