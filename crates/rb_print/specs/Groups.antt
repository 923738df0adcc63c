-- Outcomes by what their events concern.
use Rattle.std.specs.Prelude.{Bool, true, false}
use Rattle.rb_base.specs.declared.outcome.Outcome.{Outcome}
use Rattle.rb_base.specs.declared.outcome.Outcome.TheVariants as outcomes

-- an outcome of a client, the open epoch, the messages, or what the injector writes
abbrev pub is_of_site : Outcome → Bool
is_of_site (outcomes.Committed transid epoch sent) = true
is_of_site (outcomes.RowTwice number) = true
is_of_site (outcomes.KeyThere number) = true
is_of_site (outcomes.NoKey number) = true
is_of_site (outcomes.Closed epoch sent) = true
is_of_site outcomes.Kept = true
is_of_site outcomes.Known = true
is_of_site outcomes.Old = true
is_of_site (outcomes.NoMessage place sent) = true
is_of_site (outcomes.Delivered kept known old) = true
is_of_site (outcomes.Wrote count written bucket place) = true
is_of_site (outcomes.Logged kept known old count written bucket place) = true
is_of_site outcome = false

-- an outcome of data nodes that fail and restart, and of what is lost or resent with them
abbrev pub is_of_nodes : Outcome → Bool
is_of_nodes (outcomes.Failed takeover sent) = true
is_of_nodes (outcomes.Lost group epoch) = true
is_of_nodes (outcomes.NodeDown node) = true
is_of_nodes (outcomes.Restarted since) = true
is_of_nodes (outcomes.NodeUp node) = true
is_of_nodes (outcomes.Resent sent) = true
is_of_nodes (outcomes.Recovered written sent) = true
is_of_nodes (outcomes.DrainLost site group epoch) = true
is_of_nodes (outcomes.SiteLost group epoch) = true
is_of_nodes outcome = false
