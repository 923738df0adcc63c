use Rattle.std.proofs.Common.{◌∙◌}
use Rattle.rb_cluster.proofs.DeliverLaws.{not_delivered}
use Rattle.rb_cluster.proofs.cluster.Cluster.deliver.Goals as goal

pub returns-then-place-sent-clause-delivered : goal.returns-then-place-sent-clause-delivered
returns-then-place-sent-clause-delivered c = λ seen shape run held. not_delivered c.args.self c.args.place c.sent_len-sent.result seen shape run held c.sent_len-sent.ensures c.if-place-sent.true

pub returns-clause-delivered : goal.returns-clause-delivered
returns-clause-delivered c = λ seen shape run held. let (after, answer) = c.in_ok-answer.ensures.received seen shape run held in (after, c.answer_outcome.ensures ∙ answer)
