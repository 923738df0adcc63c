use Rattle.std.proofs.Common.{◌≡◌}
use Rattle.std.specs.Prelude.{None, filter_map, take}
use Rattle.std.specs.List.{last_or, flat_map}
use Rattle.rb_inject.specs.Body.{applied_epoch_in}
use Rattle.rb_inject.proofs.body.last_applied_in_all.Given as goal

-- the last epoch that the parts so far record
abbrev pub invariant-loop-part : goal.invariant-loop-part
invariant-loop-part l = record {
  applied : l.applied ≡ last_or None (filter_map applied_epoch_in (flat_map (λ part. part) (take l.part-index l.parts)));
}
