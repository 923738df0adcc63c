use Rattle.rb_read_defs.proofs.Fields.{ends_at_start}
use Rattle.rb_read_defs.proofs.RowsRead.{change_ends, statuses_end}
use Rattle.rb_read_defs.proofs.law.rows_are_read_back.Goals as goal

pub returns-clause-changes : goal.returns-clause-changes
returns-clause-changes c = λ server table change flags readable fits same two. ends_at_start (change_ends table server flags change readable fits same two)

pub returns-clause-statuses : goal.returns-clause-statuses
returns-clause-statuses c = λ body server epoch reflected. ends_at_start (statuses_end body server epoch reflected)
