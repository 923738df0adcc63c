-- The counts of deliveries.
use Rattle.std.specs.Prelude.{ℕ, ◌+◌}
use Rattle.rb_message_defs.specs.declared.answers.Received.{Received}
use Rattle.rb_message_defs.specs.declared.answers.Received.TheVariants as answers
use Rattle.rb_cluster.specs.declared.tally.Tally.{Tally}

-- how many were counted
abbrev pub sum_of : Tally → ℕ
sum_of tally = tally.kept + tally.known + tally.outdated

-- one more delivery
abbrev pub with_answer : Received → Tally → Tally
with_answer answers.Kept tally = record tally { kept = tally.kept + 1 }
with_answer answers.Known tally = record tally { known = tally.known + 1 }
with_answer answers.Old tally = record tally { outdated = tally.outdated + 1 }
