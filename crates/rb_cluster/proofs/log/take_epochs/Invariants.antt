use Rattle.std.proofs.Common.{◌≡◌, ◌≤◌, ◌-◌}
use Rattle.rb_journal_defs.specs.Body.{Shape}
use Rattle.rb_evbuf.specs.Buffer.{last_of}
use Rattle.rb_inject.specs.Injector.{limit_of}
use Rattle.rb_play_defs.specs.Step.{Progress}
use Rattle.rb_cluster.specs.Taken.{IsLogAt}
use Rattle.rb_cluster.proofs.EpochLaws.{IsTurning}
use Rattle.rb_cluster.proofs.log.take_epochs.Given as goal

abbrev pub invariant-loop-events : goal.invariant-loop-events
invariant-loop-events g l = record {
  turning : (shape : Shape) (run : Progress) → IsLogAt l.fn.log (g.D.LogDisk.seen l.initial.disk) shape run → IsTurning shape run l.events l.injector (g.D.LogDisk.seen l.disk) l.count;
  limit : limit_of l.injector ≡ limit_of l.fn.log.injector;
  later : g.D.LogDisk.fault_count l.initial.disk ≤ g.D.LogDisk.fault_count l.disk;
}

-- the last taken epoch rises
abbrev pub decreases-loop-events : goal.decreases-loop-events
decreases-loop-events g l = 18446744073709551616 - last_of l.events
