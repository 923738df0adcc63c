use Rattle.rb_nodes.proofs.site_nodes.SiteNodes.group.Goals as goal

pub returns : goal.returns
returns c = λ buckets net held. c.group.ensures buckets net.buffered held.groups
