use Rattle.std.proofs.Common.{◌+◌, ◌++◌, length, drop}
use Rattle.rb_log_defs.specs.Epoch.{joined_from, change_events}
use Rattle.rb_log_defs.proofs.Joined.{IsLeft}
use Rattle.rb_etx.proofs.epoch.write_changes.Given as goal

-- the events of the changes from here on remain
abbrev pub invariant-loop-index : goal.invariant-loop-index
invariant-loop-index l = IsLeft l.start l.out.items (change_events l.server l.tables (drop l.index l.changes))
    (l.fn.out.items ++ joined_from (l.start + length l.fn.out.items) (change_events l.server l.tables l.changes))
