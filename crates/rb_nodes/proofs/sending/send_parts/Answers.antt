use Rattle.std.proofs.Common.{List, map, ◌++◌, subst, refl, ◌∙◌}
use Rattle.std.proofs.lemmas.List.{take_all}
use Rattle.rb_base.specs.declared.change.Change.{Change}
use Rattle.rb_message_defs.specs.Message.{parts_sent, sent_by}
use Rattle.rb_message_defs.specs.Nodes.{owner_in}
use Rattle.rb_nodes.specs.Nodes.{with_changes, HoldsNodes}
use Rattle.rb_nodes.specs.Outbox.{HoldsSent}
use Rattle.rb_nodes.proofs.SendLaws.{sent_nodes, sent_outbox, can_commit_here, none_sent_nodes, none_sent_outbox, sender_here}
use Rattle.rb_nodes.proofs.sending.send_parts.Goals as goal

pub loop-change-init : goal.loop-change-init
loop-change-init c = record {
  nodes = λ buckets site held. none_sent_nodes c.args.nodes buckets site held;
  sent = λ buckets site sent delivered failed_at held box. none_sent_outbox c.args.outbox.now buckets site sent delivered failed_at box;
  senders = refl;
  groups = (refl, refl);
}

pub commit-requires : goal.commit-requires
commit-requires c = record {
  room = can_commit_here c.args.nodes c.loop-change.nodes c.args.changes.now _ c.loop-change-test.true c.requires.room c.loop-change.invariant.nodes;
}

pub send-requires : goal.send-requires
send-requires c = record {
  sender = sender_here c.args.nodes c.loop-change.nodes c.args.outbox.now c.loop-change.outbox c.args.changes.now _ c.change-item.result _ c.requires.room c.requires.owners c.loop-change.invariant.senders c.loop-change.invariant.nodes c.in_ok-after.ensures.sent;
}

pub loop-change-preserved : goal.loop-change-preserved
loop-change-preserved c =
    let before = c.loop-change.invariant in
    record {
      nodes = λ buckets site held. sent_nodes _ _ buckets site c.args.changes.now _ c.change-item.result c.loop-change-test.true c.change-item.is (before.nodes buckets site held) c.in_ok-after.ensures.holds;
      sent = λ buckets site sent delivered failed_at held box. sent_outbox c.loop-change.nodes _ _ buckets site sent delivered failed_at c.args.changes.now _ c.change-item.result _ c.loop-change-test.true c.change-item.is (before.nodes buckets site held) (before.sent buckets site sent delivered failed_at held box) c.in_ok-after.ensures.sent c.in_ok-send.ensures.sent;
      senders = c.in_ok-send.ensures.nodes ∙ before.senders;
      groups = (c.in_ok-after.ensures.nodes.0 ∙ before.groups.0, c.in_ok-after.ensures.nodes.1 ∙ before.groups.1);
    }

pub returns-clause-holds : goal.returns-clause-holds
returns-clause-holds c = λ buckets site held. subst (λ (cs : List Change). HoldsNodes c.loop-change.nodes buckets (with_changes cs site)) (take_all c.loop-change.change-index c.args.changes.now c.loop-change-test.false) (c.loop-change.invariant.nodes buckets site held)

pub returns-clause-sent : goal.returns-clause-sent
returns-clause-sent c = λ buckets site sent delivered failed_at held box.
    subst (λ (cs : List Change). HoldsSent c.loop-change.outbox (sent ++ map (sent_by (owner_in site.members)) (parts_sent buckets site.opened (site.changes site.opened) cs)) delivered failed_at)
    (take_all c.loop-change.change-index c.args.changes.now c.loop-change-test.false) (c.loop-change.invariant.sent buckets site sent delivered failed_at held box)
