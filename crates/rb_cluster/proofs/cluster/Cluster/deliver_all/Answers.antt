use Rattle.std.proofs.Common.{refl, sym, subst, ◌∙◌, arith}
use Rattle.rb_cluster.specs.declared.tally.Tally.{Tally}
use Rattle.rb_cluster.proofs.DeliverAllLaws.{with_nodes, IsOnTheWay, way_begins, way_looked, first_waits, place_within, sum_below, way_more, way_smaller, waits_same, way_ends}
use Rattle.rb_cluster.proofs.cluster.Cluster.deliver_all.Goals as goal

pub loop-place-init : goal.loop-place-init
loop-place-init c = record {
  way = λ seen shape run held. subst (λ (tally : Tally). IsOnTheWay c.args.self tally seen shape run) (sym c.new-tally.ensures) (way_begins shape seen run c.args.self held);
  setup = (refl, refl, refl);
}

pub receive-requires-clause-fits : goal.receive-requires-clause-fits
receive-requires-clause-fits c =
    let (seen, (shape, run, held)) = c.requires.fits in
    let way = way_looked shape seen run c.loop-place.cluster c.first_waiting.new.self c.loop-place.tally (c.loop-place.invariant.way seen shape run held) (λ b n holds. c.in-Some.ensures.holds b n holds) in
    (seen, (shape, way.now, way.held))

pub receive-requires-clause-place : goal.receive-requires-clause-place
receive-requires-clause-place c =
    let (seen, (shape, run, held)) = c.requires.fits in
    let way = c.loop-place.invariant.way seen shape run held in
    let first = first_waits shape seen run c.loop-place.cluster c.loop-place.tally _ way (λ b n holds. c.in-Some.ensures.first b n holds) in
    let looked = way_looked shape seen run c.loop-place.cluster c.first_waiting.new.self c.loop-place.tally way (λ b n holds. c.in-Some.ensures.holds b n holds) in
    place_within shape seen run (with_nodes c.loop-place.cluster c.first_waiting.new.self) c.loop-place.tally c.in-Some.place looked first

pub add-requires : goal.add-requires
add-requires c =
    let (seen, (shape, run, held)) = c.requires.fits in
    let way = c.loop-place.invariant.way seen shape run held in
    let below = sum_below shape seen run c.loop-place.cluster c.loop-place.tally c.in-Some.place way (first_waits shape seen run c.loop-place.cluster c.loop-place.tally _ way (λ b n holds. c.in-Some.ensures.first b n holds)) in
    let ok = c.loop-place.cluster.rest.nodes.outbox.sent.ok in
    let small = c.loop-place.cluster.rest.nodes.outbox.sent.small in
    record { room = omega arith }

pub loop-place-smaller : goal.loop-place-smaller
loop-place-smaller c =
    let (seen, (shape, run, held)) = c.requires.fits in
    let way = c.loop-place.invariant.way seen shape run held in
    let looked = way_looked shape seen run c.loop-place.cluster c.first_waiting.new.self c.loop-place.tally way (λ b n holds. c.in-Some.ensures.holds b n holds) in
    let first = first_waits shape seen run c.loop-place.cluster c.loop-place.tally _ way (λ b n holds. c.in-Some.ensures.first b n holds) in
    let one = way_smaller shape seen run (with_nodes c.loop-place.cluster c.first_waiting.new.self) c.receive.new.self c.loop-place.tally c.in-Some.place c.in_ok-answer.answer looked first (λ f s r held. c.in_ok-answer.ensures.received f s r held) in
    let same = waits_same shape seen run c.loop-place.cluster (with_nodes c.loop-place.cluster c.first_waiting.new.self) c.loop-place.tally way looked refl in
    omega arith

pub loop-place-preserved : goal.loop-place-preserved
loop-place-preserved c = record {
  way = λ seen shape run held.
      let way = c.loop-place.invariant.way seen shape run held in
      let looked = way_looked shape seen run c.loop-place.cluster c.first_waiting.new.self c.loop-place.tally way (λ b n holds. c.in-Some.ensures.holds b n holds) in
      subst (λ (tally : Tally). IsOnTheWay c.receive.new.self tally seen shape run) (sym c.add.ensures)
      (way_more shape seen run (with_nodes c.loop-place.cluster c.first_waiting.new.self) c.receive.new.self c.loop-place.tally c.in-Some.place c.in_ok-answer.answer looked (first_waits shape seen run c.loop-place.cluster c.loop-place.tally _ way (λ b n holds. c.in-Some.ensures.first b n holds)) (λ f s r held. c.in_ok-answer.ensures.received f s r held));
  setup = (c.receive.ensures.setup.0 ∙ c.in-Some.ensures.size.0 ∙ c.loop-place.invariant.setup.0, c.receive.ensures.setup.1 ∙ c.in-Some.ensures.size.1 ∙ c.loop-place.invariant.setup.1, c.receive.ensures.setup.2 ∙ c.loop-place.invariant.setup.2);
}

pub returns-clause-delivered : goal.returns-clause-delivered
returns-clause-delivered c = λ seen shape run held.
    let way = c.loop-place.invariant.way seen shape run held in
    let looked = way_looked shape seen run c.loop-place.cluster c.first_waiting.new.self c.loop-place.tally way (λ b n holds. c.in_default.ensures.holds b n holds) in
    let (after, answer) = way_ends shape seen run (with_nodes c.loop-place.cluster c.first_waiting.new.self) c.loop-place.tally looked (first_waits shape seen run c.loop-place.cluster c.loop-place.tally _ way (λ b n holds. c.in_default.ensures.first b n holds)) in
    (after, c.outcome.ensures ∙ answer)
