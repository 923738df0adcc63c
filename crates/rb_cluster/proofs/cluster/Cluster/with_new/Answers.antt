use Rattle.rb_cluster.proofs.RecoverLaws.{cluster_recovered}
use Rattle.rb_cluster.proofs.cluster.Cluster.with_new.Goals as goal

pub returns-clause-recovered : goal.returns-clause-recovered
returns-clause-recovered c = λ seen shape run held log.
    cluster_recovered c.args.rest c.send_again.new.self c.in_ok-events.events c.args.injector c.buckets.result c.sent_len-sent.result c.written-written.result seen shape run held
    (c.in_ok-send_again.ensures.sent shape run held) log c.written-written.ensures c.buckets.ensures c.in_ok-events.ensures.stands c.sent_len-sent.ensures
