use Rattle.std.proofs.Common.{◌*◌, ℕ, refl, sym, subst, arith, List}
use Rattle.rb_group.specs.Kept.{new_group}
use Rattle.rb_group.specs.declared.group.Group.{Group}
use Rattle.rb_message_defs.specs.Nodes.{nodes_at_first}
use Rattle.rb_nodes.specs.Nodes.{nothing_done, GroupHolds, GroupsHold}
use Rattle.rb_nodes.proofs.NodeLaws.{group_more}
use Rattle.rb_nodes.proofs.NewLaws.{new_holds, nodes_begin}
use Rattle.rb_nodes.proofs.nodes.Nodes.new.Goals as goal

pub loop-number-preserved : goal.loop-number-preserved
loop-number-preserved c =
    let before = c.loop-number.invariant in
    let all = c.args.groups * c.args.replicas in
    let site = nothing_done c.args.opened.0 (nodes_at_first c.args.groups c.args.replicas) in
    record {
      count = omega (arith, c.in_ok-push.ensures.len, before.count, c.push.new.self.ok.0, c.loop-number.all.ok.0);
      groups = subst (λ (groups : List Group). GroupsHold all site groups) (sym {A = List Group} c.in_ok-push.ensures.items)
          (group_more all site c.loop-number.all.items c.acknowledge.new.self before.groups
          (subst (λ (n : ℕ). GroupHolds all site n c.acknowledge.new.self) (sym before.count)
          (new_holds c.args.groups c.args.replicas c.loop-number.number c.args.opened.0 c.acknowledge.new.self (omega arith) c.requires.opened (c.acknowledge.ensures (new_group (c.loop-number.number * c.args.replicas) c.args.replicas c.args.opened.0) c.in_ok-group.ensures.keeps))));
    }

pub returns-clause-holds : goal.returns-clause-holds
returns-clause-holds c = nodes_begin _ c.args.groups c.args.replicas c.args.opened.0 refl refl c.requires.some (omega (arith, c.loop-number.invariant.count, c.loop-number-test.false)) c.loop-number.invariant.groups
