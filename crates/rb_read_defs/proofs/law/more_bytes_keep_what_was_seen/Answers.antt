use Rattle.rb_read_defs.proofs.Growing.{seen_more, steps_more}
use Rattle.rb_read_defs.proofs.law.more_bytes_keep_what_was_seen.Goals as goal

pub returns-clause-events : goal.returns-clause-events
returns-clause-events c = λ position bytes more. (seen_more position bytes more).0

pub returns-clause-steps : goal.returns-clause-steps
returns-clause-steps c = steps_more

pub returns-clause-fault : goal.returns-clause-fault
returns-clause-fault c = λ position bytes more. (seen_more position bytes more).1
