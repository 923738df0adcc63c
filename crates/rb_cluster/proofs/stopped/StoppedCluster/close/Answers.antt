use Rattle.std.proofs.Common.{refl, ap, ◌∙◌}
use Rattle.rb_commit.specs.Hand.{Hand}
use Rattle.rb_cluster.proofs.CloseLaws.{can_close, cluster_closed}
use Rattle.rb_cluster.proofs.stopped.StoppedCluster.close.Goals as goal

pub close-requires-2 : goal.close-requires-2
close-requires-2 c =
    let (shape, run, ready) = c.requires.fits in
    record { room = can_close c.args.self c.args.gci shape run _ ready (c.open.ensures ∙ ap (λ (h : Hand). h.opened) c.in-Some.ensures.closed) }

pub returns-clause-closed : goal.returns-clause-closed
returns-clause-closed c = λ shape run ready.
    cluster_closed c.args.gci c.args.self _ shape run c.prev-prev.result c.open.result c.in-Some.epoch c.sent_len-sent.result ready c.prev-prev.ensures
    (c.open.ensures ∙ ap (λ (h : Hand). h.opened) c.in-Some.ensures.closed) c.in-Some.ensures.some c.sent_len-sent.ensures refl c.in-Some.ensures.closed
    (λ b n holds. c.in_ok-nodes.ensures.holds b n holds)
