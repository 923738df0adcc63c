use Rattle.std.proofs.Common.{arith, ap, ◌∷◌, [], length, length-append, refl}
use Rattle.rb_message_defs.proofs.Places.{whole_more}
use Rattle.rb_nodes.proofs.SweepLaws.{can_close_group, closed_more, close_here, nodes_closed}
use Rattle.rb_nodes.proofs.nodes.Nodes.close.Goals as goal

pub close-requires : goal.close-requires
close-requires c = record { ready = can_close_group c.args.self c.args.next.0 _ _ _ c.in-Some.group c.requires.room c.loop-group.invariant.whole c.in-Some.ensures.steps.0 }

pub loop-group-preserved : goal.loop-group-preserved
loop-group-preserved c =
    let before = c.loop-group.invariant in
    record {
      whole = whole_more _ _ _ _ c.in-Some.group before.whole c.in-Some.ensures.steps.0;
      count = omega (arith, c.in_ok-push.ensures.len, before.count, c.push.new.self.ok.0, c.loop-group.groups.ok.0, length-append c.loop-group.yielded (c.in-Some.group ∷ []));
      closed = λ buckets site held. closed_more c.args.self buckets site c.args.prev.0 c.args.next.0 _ _ _ _ _ c.in-Some.group c.in_ok-group.group held before.whole c.in-Some.ensures.steps.0 before.count (before.closed buckets site held) c.in_ok-group.ensures.kept c.in_ok-push.ensures.items;
      told = λ buckets site held. close_here c.args.self buckets site c.args.prev.0 c.args.next.0 _ _ _ c.in-Some.group _ _ _ held before.whole c.in-Some.ensures.steps.0 c.in_ok-group.ensures.sent (before.told buckets site held) c.in_ok-append.ensures;
    }

pub returns-clause-holds : goal.returns-clause-holds
returns-clause-holds c = λ buckets site held.
    let after = c.loop-group.invariant in
    nodes_closed c.args.self _ buckets site c.args.prev.0 c.args.next.0 held refl refl (omega (arith, ap length after.whole, length-append c.loop-group.yielded c.loop-group.group-iterator.rest.items, c.in-None.ensures.steps.0, c.loop-group.group-iterator.rest.ok.0, after.count)) (after.closed buckets site held)
