use Rattle.rb_cluster.specs.Net.{net_of}
use Rattle.rb_cluster.proofs.cluster.Cluster.group.Goals as goal

pub returns : goal.returns
returns c = λ seen shape run held. c.group.ensures shape.buckets (net_of shape run) held.rest.net
