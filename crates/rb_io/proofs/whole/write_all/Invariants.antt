use Rattle.std.proofs.Common.{length, take, ◌-◌, ◌≤◌}
use Rattle.std.specs.Io.KnownBytes.{Appends}
use Rattle.rb_io.proofs.whole.write_all.Given as goal

-- the bytes before this place are written
abbrev pub invariant-loop-at : goal.invariant-loop-at
invariant-loop-at g l = record {
  within : l.at ≤ length l.bytes;
  written : Appends (g.O.Sink.held l.initial.out) (g.O.Sink.held l.out) (take l.at l.bytes);
  later : g.O.Sink.fault_count l.initial.out ≤ g.O.Sink.fault_count l.out;
}

abbrev pub decreases-loop-at : goal.decreases-loop-at
decreases-loop-at g l = length l.bytes - l.at
