use Rattle.rb_group.proofs.Lists.{all_stay}
use Rattle.rb_group.proofs.closed.forget_first.Goals as goal

pub returns-in_default-clause-none : goal.returns-in_default-clause-none
returns-in_default-clause-none c = λ _.
    all_stay c.requires.rising.0 c.args.through c.in-Some.epoch.now c.args.closed.now.items c.in-Some.ensures.lookup c.requires.rising.1 c.if-epoch-through.false
