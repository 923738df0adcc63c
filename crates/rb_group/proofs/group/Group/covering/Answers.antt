use Rattle.std.proofs.Common.{◌≡◌, ◌+◌, ◌-◌, ℕ, sym, ap, ◌∙◌, arith}
use Rattle.std.specs.List.{find}
use Rattle.rb_group.specs.Nodes.{covers_of, numbers_from}
use Rattle.rb_group.proofs.Lists.{numbers_found, numbers_step}
use Rattle.rb_group.proofs.group.Group.covering.Goals as goal

pub loop-index-preserved : goal.loop-index-preserved
loop-index-preserved c =
    let before = c.loop-index.invariant in
    let a : c.args.self.now.first + c.loop-index.index + 1 ≡ c.args.self.now.first + (c.loop-index.index + 1) = omega arith in
    let b : c.args.until - c.loop-index.index - 1 ≡ c.args.until - (c.loop-index.index + 1) = omega arith in
    record {
      low = omega (arith, before.low);
      high = omega (arith, c.loop-index-test.true);
      rest = before.rest ∙ numbers_step (covers_of c.args.self.now) (c.args.self.now.first + c.loop-index.index) (c.args.until - c.loop-index.index) (omega (arith, c.loop-index-test.true)) (sym c.if-is_covering.ensures)
          ∙ ap (λ (k : ℕ). find (covers_of c.args.self.now) (numbers_from k (c.args.until - c.loop-index.index - 1))) a ∙ ap (λ (k : ℕ). find (covers_of c.args.self.now) (numbers_from (c.args.self.now.first + (c.loop-index.index + 1)) k)) b;
    }

pub returns-then-is_covering : goal.returns-then-is_covering
returns-then-is_covering c =
    sym (c.loop-index.invariant.rest ∙ numbers_found (covers_of c.args.self.now) (c.args.self.now.first + c.loop-index.index) (c.args.until - c.loop-index.index) (omega (arith, c.loop-index-test.true)) (sym c.if-is_covering.ensures))
