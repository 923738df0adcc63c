use Rattle.std.proofs.Common.{refl}
use Rattle.std.specs.Prelude.{max}
use Rattle.rb_nodes.specs.Nodes.{with_acknowledged}
use Rattle.rb_nodes.proofs.NetLaws.{net_moved}
use Rattle.rb_nodes.proofs.site_nodes.SiteNodes.acknowledge.Goals as goal

pub returns-clause-holds : goal.returns-clause-holds
returns-clause-holds c = λ buckets net held. net_moved c.args.self.now _ buckets net (with_acknowledged (max net.buffered.acknowledged c.args.through.0) net.buffered) held (c.acknowledge.ensures.holds buckets net.buffered held.groups) refl refl refl
