use Rattle.std.proofs.Common.{refl}
use Rattle.rb_nodes.proofs.NetLaws.{closing_in, net_closed}
use Rattle.rb_nodes.proofs.site_nodes.SiteNodes.close.Goals as goal

pub send_all-requires : goal.send_all-requires
send_all-requires c = record { senders = closing_in c.args.self c.args.prev.0 c.args.next.0 c.in_ok-nodes.messages.items c.requires.room (λ b s holds. c.in_ok-nodes.ensures.sent b s holds) }

pub returns-clause-holds : goal.returns-clause-holds
returns-clause-holds c = λ buckets net held.
    net_closed c.args.self _ buckets net c.args.prev.0 c.args.next.0 c.in_ok-nodes.messages.items held (λ b s holds. c.in_ok-nodes.ensures.holds b s holds) (λ b s holds. c.in_ok-nodes.ensures.sent b s holds)
    (λ ss ds fa box. c.in_ok-send_all.ensures.sent ss ds fa box) c.in_ok-send_all.ensures.nodes refl
