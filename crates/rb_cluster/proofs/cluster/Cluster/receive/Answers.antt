use Rattle.rb_cluster.proofs.Results.{if_ok_both}
use Rattle.rb_cluster.proofs.DeliverLaws.{bucket_fits, cluster_delivered}
use Rattle.rb_cluster.proofs.cluster.Cluster.receive.Goals as goal

pub receive-requires : goal.receive-requires
receive-requires c =
    let (seen, (shape, run, held)) = c.requires.fits in
    record { bucket = bucket_fits c.args.self.now c.args.place c.in_ok-message.message seen shape run held c.in_ok-message.ensures.message }

pub returns-clause-received : goal.returns-clause-received
returns-clause-received c = if_ok_both c.receive.result _ _ _ c.receive.ensures.answer c.receive.ensures.kept (λ answer answers kept seen shape run held.
    cluster_delivered c.args.self.now _ _ c.args.place c.in_ok-message.message answer seen shape run held c.in_ok-message.ensures.message (λ b n holds. c.in_ok-message.ensures.delivered b n holds) answers kept)
