use Rattle.rb_play_defs.specs.Step.{written_bodies}
use Rattle.rb_cluster.specs.Cluster.{log_setup}
use Rattle.rb_cluster.proofs.cluster.Cluster.index.Goals as goal

pub returns : goal.returns
returns c = λ seen shape run held. c.index.ensures (log_setup shape c.args.self.now.log.injector) (written_bodies shape run) seen held.log.injector
