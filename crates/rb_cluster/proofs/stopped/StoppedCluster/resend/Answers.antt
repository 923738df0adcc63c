use Rattle.rb_cluster.proofs.FailLaws.{can_resend, cluster_resent}
use Rattle.rb_cluster.proofs.stopped.StoppedCluster.resend.Goals as goal

pub resend-requires : goal.resend-requires
resend-requires c =
    let (shape, run, ready) = c.requires.fits in
    record { ready = can_resend c.args.self shape run ready.0 ready.1 }

pub returns-clause-resent : goal.returns-clause-resent
returns-clause-resent c = λ shape run ready. cluster_resent c.args.self c.resend.new.self c.sent_len-sent.result shape run ready.0 (λ b n holds. c.in_ok-resend.ensures.holds b n holds) c.sent_len-sent.ensures
