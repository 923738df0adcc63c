-- The epochs that the injector takes.
use Rattle.std.specs.Prelude.{ℕ, nat_lt, List, filter}
use Rattle.std.specs.List.{take_while}
use Rattle.rb_journal_defs.specs.Journal.{Journal, closed_epochs}
use Rattle.rb_message_defs.specs.Received.{Fed, is_whole}

-- the closed epochs above the last taken one, in order, up to the first one that is not whole
unfoldable pub taken_epochs : Fed → Journal → List ℕ
taken_epochs fed journal = take_while (is_whole fed) (filter (λ epoch. nat_lt fed.last epoch) (closed_epochs journal))
