use Rattle.std.proofs.Common.{refl}
use Rattle.rb_nodes.proofs.OutboxLaws.{delivered_more, on_ok}
use Rattle.rb_nodes.proofs.outbox.Outbox.deliver.Goals as goal

pub returns-clause-delivered : goal.returns-clause-delivered
returns-clause-delivered c = on_ok c.copy.result _ (λ sent delivered failed_at held. delivered_more c.args.self.now _ sent delivered failed_at c.args.place held c.requires.place refl c.remove.ensures.keys refl)
