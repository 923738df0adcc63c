use Rattle.std.proofs.Common.{refl, arith}
use Rattle.rb_nodes.proofs.OutboxLaws.{sent_more}
use Rattle.rb_nodes.proofs.outbox.Outbox.send.Goals as goal

pub returns-clause-sent : goal.returns-clause-sent
returns-clause-sent c = λ sent delivered failed_at held. sent_more c.args.self.now _ sent delivered failed_at c.args.message c.len.result held (omega (arith, c.len.ensures, c.args.self.now.sent.ok.0)) c.requires.sender c.in_ok-push.ensures.items c.in_ok-insert.ensures.keys refl
