use Rattle.std.proofs.Common.{refl}
use Rattle.rb_nodes.proofs.NetLaws.{net_restarted}
use Rattle.rb_nodes.proofs.site_nodes.SiteNodes.restart.Goals as goal

pub returns-clause-restarted : goal.returns-clause-restarted
returns-clause-restarted c = net_restarted c.args.self.now _ c.restart.result c.args.node c.requires.ready c.restart.ensures.restarted refl refl
