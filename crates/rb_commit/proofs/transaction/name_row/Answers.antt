use Rattle.rb_commit.proofs.NamedRows.{row_added}
use Rattle.rb_commit.proofs.transaction.name_row.Goals as goal

pub returns-clause-named : goal.returns-clause-named
returns-clause-named c = λ t k. row_added _ _ _ _ t k c.in_ok-insert.ensures.updates
