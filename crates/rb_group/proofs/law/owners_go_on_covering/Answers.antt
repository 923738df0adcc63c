use Rattle.rb_group.proofs.Beginning.{new_covers}
use Rattle.rb_group.proofs.Owners.{close_covers, takeover_covers, restart_covers, acknowledgement_covers}
use Rattle.rb_group.proofs.law.owners_go_on_covering.Goals as goal

pub returns-clause-beginning : goal.returns-clause-beginning
returns-clause-beginning c = new_covers

pub returns-clause-close : goal.returns-clause-close
returns-clause-close c = close_covers

pub returns-clause-takeover : goal.returns-clause-takeover
returns-clause-takeover c = takeover_covers

pub returns-clause-restart : goal.returns-clause-restart
returns-clause-restart c = restart_covers

pub returns-clause-acknowledgement : goal.returns-clause-acknowledgement
returns-clause-acknowledgement c = acknowledgement_covers
