use Rattle.std.proofs.Common.{◌≡◌}
use Rattle.std.specs.Prelude.{filter_map, take}
use Rattle.std.specs.List.{last_or}
use Rattle.rb_inject.specs.Body.{applied_epoch_in}
use Rattle.rb_inject.proofs.body.last_applied.Given as goal

-- the last epoch that the changes so far record
abbrev pub invariant-loop-change : goal.invariant-loop-change
invariant-loop-change l = record {
  applied : l.applied ≡ last_or l.fn.before (filter_map applied_epoch_in (take l.change-index l.changes));
}
