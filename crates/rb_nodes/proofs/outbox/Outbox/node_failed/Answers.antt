use Rattle.std.proofs.Common.{refl, arith}
use Rattle.rb_nodes.proofs.OutboxLaws.{failed_now}
use Rattle.rb_nodes.proofs.outbox.Outbox.node_failed.Goals as goal

pub returns-clause-failed : goal.returns-clause-failed
returns-clause-failed c = λ sent delivered failed_at held. failed_now c.args.self.now _ sent delivered failed_at c.args.node c.len.result held c.requires.node (omega (arith, c.len.ensures, c.args.self.now.sent.ok.0)) refl refl refl
