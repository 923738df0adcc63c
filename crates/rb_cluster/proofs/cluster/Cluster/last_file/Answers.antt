use Rattle.std.proofs.Common.{◌∙◌}
use Rattle.rb_play_defs.specs.Step.{written_bodies}
use Rattle.rb_cluster.specs.Cluster.{log_setup}
use Rattle.rb_cluster.proofs.LogLaws.{last_file_is}
use Rattle.rb_cluster.proofs.cluster.Cluster.last_file.Goals as goal

pub returns : goal.returns
returns c = λ seen shape run held. c.last_file.ensures ∙ last_file_is c.args.self.now.log.injector (log_setup shape c.args.self.now.log.injector) (written_bodies shape run) seen held.log.injector
