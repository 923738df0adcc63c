use Rattle.std.proofs.Common.{refl}
use Rattle.rb_nodes.proofs.NetLaws.{resending_in, net_resent}
use Rattle.rb_nodes.proofs.site_nodes.SiteNodes.resend.Goals as goal

pub send_all-requires : goal.send_all-requires
send_all-requires c = record { senders = resending_in c.args.self.now c.in_ok-messages.messages.items c.requires.ready (λ b s holds. c.in_ok-messages.ensures b s holds) }

pub returns-clause-holds : goal.returns-clause-holds
returns-clause-holds c = λ buckets net held.
    net_resent c.args.self.now _ buckets net c.in_ok-messages.messages.items held refl (λ b s holds. c.in_ok-messages.ensures b s holds) (λ ss ds fa box. c.in_ok-send_all.ensures.sent ss ds fa box) c.in_ok-send_all.ensures.nodes refl
