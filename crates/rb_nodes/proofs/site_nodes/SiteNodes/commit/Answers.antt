use Rattle.std.proofs.Common.{◌∙◌}
use Rattle.rb_nodes.specs.Net.{committed_net, failed_in}
use Rattle.rb_nodes.proofs.NetLaws.{owners_in, net_held}
use Rattle.rb_nodes.proofs.site_nodes.SiteNodes.commit.Goals as goal

pub send_parts-requires-clause-owners : goal.send_parts-requires-clause-owners
send_parts-requires-clause-owners c = owners_in c.args.self c.args.changes.now c.requires.room

pub returns-clause-holds : goal.returns-clause-holds
returns-clause-holds c = λ buckets net held.
    net_held _ buckets (committed_net buckets c.args.changes.now net) (c.in_ok-nodes.ensures.holds buckets net.buffered held.groups) (c.in_ok-nodes.ensures.sent buckets net.buffered net.sent net.delivered (failed_in net) held.groups held.outbox)
    (c.in_ok-nodes.ensures.senders ∙ held.senders) held.lost
