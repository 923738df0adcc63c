use Rattle.std.proofs.Common.{refl}
use Rattle.std.specs.Prelude.{Err}
use Rattle.rb_inject.specs.declared.fault.InjectFault.TheVariants.{NotEmpty}
use Rattle.rb_cluster.specs.declared.cluster.Cluster.{Cluster}
use Rattle.rb_cluster.proofs.Results.{err_same}
use Rattle.rb_site.proofs.site.Site.create.Goals as goal

pub returns-in-Err-clause-not_empty : goal.returns-in-Err-clause-not_empty
returns-in-Err-clause-not_empty g c = λ file size is. c.create.ensures.not_empty file size (err_same Cluster (Err c.in-Err.fault) c.in-Err.fault (NotEmpty file size) refl is c.create.result c.in-Err.is)
