use Rattle.rb_cluster.proofs.HoldingLaws.{owner_holds}
use Rattle.rb_cluster.proofs.law.owners_hold_what_is_not_acknowledged.Goals as goal

pub returns : goal.returns
returns c = owner_holds
