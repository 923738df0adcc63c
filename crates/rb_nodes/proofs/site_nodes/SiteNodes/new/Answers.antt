use Rattle.std.proofs.Common.{refl}
use Rattle.rb_nodes.proofs.NetLaws.{net_begins}
use Rattle.rb_nodes.proofs.site_nodes.SiteNodes.new.Goals as goal

pub returns-clause-holds : goal.returns-clause-holds
returns-clause-holds c = net_begins _ c.args.groups c.args.replicas c.args.opened.0 c.requires.opened c.in_ok-nodes.ensures.holds c.in_ok-outbox.ensures.0 c.in_ok-outbox.ensures.1 refl
