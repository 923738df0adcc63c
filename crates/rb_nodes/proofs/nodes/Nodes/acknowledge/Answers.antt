use Rattle.std.proofs.Common.{◌<◌, ◌∙◌, arith, length}
use Rattle.std.specs.Prelude.{max}
use Rattle.std.proofs.lemmas.List.{length-set}
use Rattle.rb_message_defs.proofs.Places.{todo_items}
use Rattle.rb_nodes.specs.Nodes.{with_acknowledged, share_of}
use Rattle.rb_nodes.proofs.SweepLaws.{done_groups, group_waits, can_acknowledge, nodes_acknowledged}
use Rattle.rb_nodes.proofs.nodes.Nodes.acknowledge.Goals as goal

pub acknowledge-requires : goal.acknowledge-requires
acknowledge-requires c =
    let before = c.loop-index.invariant in
    let within : c.loop-index.index < length c.args.self.now.groups.items = omega (arith, c.loop-index-test.true, c.len-index-end.ensures, c.args.self.now.groups.ok.0) in
    record { ready = can_acknowledge c.args.self.now c.args.through.0 c.loop-index.self.groups.items c.loop-index.index c.index_mut.result.now c.requires.ready within before.todo c.index_mut.ensures.value }

pub loop-index-preserved : goal.loop-index-preserved
loop-index-preserved c =
    let before = c.loop-index.invariant in
    let within : c.loop-index.index < length c.args.self.now.groups.items = omega (arith, c.loop-index-test.true, c.len-index-end.ensures, c.args.self.now.groups.ok.0) in
    record {
      replicas = before.replicas;
      buckets = before.buckets;
      count = length-set _ _ _ ∙ before.count;
      todo = todo_items c.args.self.now.groups.items c.loop-index.self.groups.items c.loop-index.index c.acknowledge.new.self before.todo;
      done = λ buckets site held.
          done_groups buckets (with_acknowledged (max site.acknowledged c.args.through.0) site) c.loop-index.self.groups.items c.loop-index.index c.acknowledge.new.self (omega (arith, within, before.count)) (before.done buckets site held)
          (c.acknowledge.ensures (share_of buckets site c.loop-index.index) (group_waits c.args.self.now buckets site c.loop-index.self.groups.items c.loop-index.index c.index_mut.result.now held within before.todo c.index_mut.ensures.value));
    }

pub returns-clause-holds : goal.returns-clause-holds
returns-clause-holds c = λ buckets site held.
    let after = c.loop-index.invariant in
    nodes_acknowledged c.args.self.now c.loop-index.self buckets site (max site.acknowledged c.args.through.0) held after.buckets after.replicas after.count
    (λ k d below. after.done buckets site held k d (omega (arith, below, c.loop-index-test.false, c.len-index-end.ensures, after.count, c.args.self.now.groups.ok.0)))
