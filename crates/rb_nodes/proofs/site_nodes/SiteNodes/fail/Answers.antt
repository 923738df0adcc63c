use Rattle.std.proofs.Common.{List, ◌<◌, ◌++◌, refl, sym, subst, ◌∙◌}
use Rattle.std.specs.Prelude.{◌==◌, if◌then◌else◌, length}
use Rattle.std.specs.List.{AllByRecursion}
use Rattle.rb_base.specs.declared.message.Sent.{Sent}
use Rattle.rb_nodes.specs.Outbox.{HoldsSent, nodes_in}
use Rattle.rb_nodes.proofs.NetLaws.{Fails, takeover_in, net_taken_over, net_lost}
use Rattle.rb_nodes.proofs.site_nodes.SiteNodes.fail.Goals as goal

pub send_all-requires : goal.send_all-requires
send_all-requires c = record {
  senders = subst (AllByRecursion (λ (message : Sent). message.sender < nodes_in c.node_failed.new.self)) (sym c.into_vec.ensures)
      (takeover_in c.args.self.now c.fail.new.self c.node_failed.new.self c.args.node c.in-Ok-Takeover.count c.in-Ok-Takeover.messages c.requires.ready c.node_failed.ensures.nodes
      (subst (Fails c.args.self.now.nodes c.fail.new.self c.args.node) c.in-Ok-Takeover.field-0-is (λ b s n holds. c.in-Ok-Takeover.ensures.failed b s n holds)));
}

pub returns-in_ok-send_all-in-Ok-Takeover-clause-failed : goal.returns-in_ok-send_all-in-Ok-Takeover-clause-failed
returns-in_ok-send_all-in-Ok-Takeover-clause-failed c = λ buckets net held.
    net_taken_over c.args.self.now _ buckets net c.args.node c.in-Ok-Takeover.count c.in-Ok-Takeover.messages c.requires.ready held
    (subst (Fails c.args.self.now.nodes c.fail.new.self c.args.node) c.in-Ok-Takeover.field-0-is (λ b s n holds. c.in-Ok-Takeover.ensures.failed b s n holds))
    (λ ss ds fa box. subst (λ (ms : List Sent). HoldsSent c.send_all.new.outbox (ss ++ ms) ds (λ other. if other == c.args.node then length ss else fa other)) c.into_vec.ensures
    (c.in_ok-send_all-in-Ok-Takeover.ensures.sent ss ds _ (c.node_failed.ensures.failed ss ds fa box)))
    (c.in_ok-send_all-in-Ok-Takeover.ensures.nodes ∙ c.node_failed.ensures.nodes) refl

pub returns-in-Ok-Lost-clause-failed : goal.returns-in-Ok-Lost-clause-failed
returns-in-Ok-Lost-clause-failed c = λ buckets net held.
    net_lost c.args.self.now _ buckets net c.args.node c.in-Ok-Lost.group c.in-Ok-Lost.epoch c.requires.ready held
    (subst (Fails c.args.self.now.nodes c.fail.new.self c.args.node) c.in-Ok-Lost.field-0-is (λ b s n holds. c.in-Ok-Lost.ensures.failed b s n holds))
    (λ ss ds fa box. c.node_failed-in-Ok-Lost.ensures.failed ss ds fa box) c.node_failed-in-Ok-Lost.ensures.nodes refl
