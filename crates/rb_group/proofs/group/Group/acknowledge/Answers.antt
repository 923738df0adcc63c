use Rattle.std.proofs.Common.{◌≡◌, ◌<◌, ℕ, true, map, refl, subst, sym, ap, ◌∙◌, arith}
use Rattle.std.specs.Prelude.{Option}
use Rattle.rb_bucket.specs.Bucket.{Rising}
use Rattle.rb_group.specs.Kept.{is_after}
use Rattle.rb_group.proofs.After.{not_turned}
use Rattle.rb_group.proofs.Lists.{rising_some}
use Rattle.rb_group.proofs.Standing.{keeps_acknowledged, known_already}
use Rattle.rb_group.proofs.group.Group.acknowledge.Goals as goal

pub release_in_all-requires : goal.release_in_all-requires
release_in_all-requires c =
    let ready = c.requires.ready in
    record { ready = (ready.0, ready.1.nodes, ready.1.count, ready.1.order) }

pub forget_closed-requires : goal.forget_closed-requires
forget_closed-requires c =
    let ready = c.requires.ready in
    record { rising = (ready.0.opened, subst (Rising ready.0.opened) (sym ready.1.closed) (rising_some (is_after ready.0.acknowledged) ready.0.opened (map (λ close. close.0) ready.0.closes) ready.1.order.closes)) }

pub returns-then-is_acknowledged : goal.returns-then-is_acknowledged
returns-then-is_acknowledged c = λ kept keeps.
    known_already c.args.self.now kept c.args.through.0 (ap (λ (last : Option ℕ). is_after last c.args.through.0) (sym keeps.acknowledged) ∙ not_turned c.if-is_acknowledged.ensures) keeps

pub returns : goal.returns
returns c = λ kept keeps.
    let d = c.requires.ready.1.opened in
    let e = keeps.opened in
    let later : is_after kept.acknowledged c.args.through.0 ≡ true = ap (λ (last : Option ℕ). is_after last c.args.through.0) (sym keeps.acknowledged) ∙ not_turned c.if-is_acknowledged.ensures in
    let below : c.args.through.0 < kept.opened = omega (arith, c.requires.ready.2) in
    keeps_acknowledged c.args.self.now _ kept c.args.through.0 keeps later below refl refl refl refl c.release_in_all.ensures.count c.forget_closed.ensures.later
    (c.release_in_all.ensures.kept kept keeps.nodes)
