use Rattle.std.proofs.Common.{refl, sym, ◌∙◌}
use Rattle.rb_group.proofs.Standing.{also_is, down_is, is_up_same}
use Rattle.rb_group.proofs.Steps.{successor_same}
use Rattle.rb_group.proofs.group.Group.fail.Goals as goal

pub returns-then-not-is_up-clause-refused : goal.returns-then-not-is_up-clause-refused
returns-then-not-is_up-clause-refused c = λ kept keeps.
    (keeps, (refl, down_is c.args.self.now kept c.args.node keeps (also_is c.args.self.now c.requires.ready.0 kept c.args.node c.requires.ready.1 c.requires.ready.2 keeps) (sym c.if-not-is_up.ensures)))

pub take_over-requires : goal.take_over-requires
take_over-requires c =
    let ready = c.requires.ready in
    record { ready = (ready.0, ready.1, ready.2, successor_same c.args.self.now ready.0 c.args.node ready.1 ∙ sym c.successor.ensures ∙ c.in-Some.is, ready.3) }

pub returns-in_ok-outcome-in-Some-clause-up : goal.returns-in_ok-outcome-in-Some-clause-up
returns-in_ok-outcome-in-Some-clause-up c = λ kept keeps.
    is_up_same c.args.self.now kept c.args.node keeps (also_is c.args.self.now c.requires.ready.0 kept c.args.node c.requires.ready.1 c.requires.ready.2 keeps) ∙ sym c.if-not-is_up.ensures

pub returns-in-None-clause-failed : goal.returns-in-None-clause-failed
returns-in-None-clause-failed c = λ kept keeps.
    c.lose.ensures kept keeps (successor_same c.args.self.now kept c.args.node keeps ∙ sym c.successor.ensures ∙ c.in-None.is)

pub returns-in-None-clause-up : goal.returns-in-None-clause-up
returns-in-None-clause-up c = λ kept keeps.
    is_up_same c.args.self.now kept c.args.node keeps (also_is c.args.self.now c.requires.ready.0 kept c.args.node c.requires.ready.1 c.requires.ready.2 keeps) ∙ sym c.if-not-is_up.ensures
