use Rattle.rb_bucket.proofs.Forgetting.{all_stay}
use Rattle.rb_bucket.proofs.forget.forget_first_close.Goals as goal

pub returns-in_default-clause-none : goal.returns-in_default-clause-none
returns-in_default-clause-none c = λ _.
    all_stay c.requires.rising.0 c.args.through c.in-Some.close.now c.args.closes.now.items c.in-Some.ensures.lookup c.requires.rising.1 c.if-close-through.false
