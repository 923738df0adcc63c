use Rattle.std.proofs.Common.{◌≡◌, take}
use Rattle.rb_log_defs.specs.Index.{position_after}
use Rattle.rb_reference.proofs.index.position_after.Given as goal

-- the place after the rows so far
abbrev pub invariant-loop-row : goal.invariant-loop-row
invariant-loop-row l = l.place ≡ position_after (take l.row-index l.rows) l.epoch.0
