use Rattle.std.proofs.Common.{◌≡◌, true, refl}
use Rattle.rb_base.proofs.Results.{weaker_ok}
use Rattle.rb_play_defs.specs.Point.{needs_all_groups}
use Rattle.rb_cluster.specs.Cluster.{IsCluster}
use Rattle.rb_play_defs.proofs.Events.{step_is, leaves_log, is_at_nodes, is_deliver, is_deliver_all}
use Rattle.rb_cluster.proofs.RestLaws.{log_alike}
use Rattle.rb_cluster.proofs.cluster.Cluster.step_inside.Goals as goal

pub returns-in-Deliver-clause-stepped : goal.returns-in-Deliver-clause-stepped
returns-in-Deliver-clause-stepped c = weaker_ok _ _ c.deliver.result (λ pair meets seen shape run ready.
    step_is (IsCluster pair.0 seen shape) pair.1 _ _ (is_deliver shape run c.args.event c.in-Deliver.place c.in-Deliver.is) (meets seen shape run ready.0)) c.deliver.ensures.delivered

pub returns-in-DeliverAll-clause-stepped : goal.returns-in-DeliverAll-clause-stepped
returns-in-DeliverAll-clause-stepped c = weaker_ok _ _ c.deliver_all.result (λ pair meets seen shape run ready.
    step_is (IsCluster pair.0 seen shape) pair.1 _ _ (is_deliver_all shape run c.args.event c.in-DeliverAll.is) (meets seen shape run ready.0)) c.deliver_all.ensures.delivered

pub returns-in_ok-rest-in_default : goal.returns-in_ok-rest-in_default
returns-in_ok-rest-in_default c = record {
  stepped = λ seen shape run ready.
      let (after, answer) = c.in_ok-rest-in_default.ensures.stepped shape run (ready.0.rest, ready.1) in
      let needs : needs_all_groups c.args.event ≡ true = is_at_nodes c.args.event c.requires.inside c.in_default.not-Deliver c.in_default.not-DeliverAll in
      (record { rest = after; log = log_alike c.args.self.log seen shape run _ ready.0.log (leaves_log c.args.event shape run needs ready.0.rest.point.sound) }, answer);
  setup = (c.in_ok-rest-in_default.ensures.size.0, c.in_ok-rest-in_default.ensures.size.1, refl);
}
