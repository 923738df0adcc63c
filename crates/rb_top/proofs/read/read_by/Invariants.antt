use Rattle.std.proofs.Common.{length, List, ℕ, ◌<◌, ◌≤◌}
use Rattle.std.specs.Prelude.{Option, ◌^◌}
use Rattle.std.specs.Io.KnownBytes.{Appends}
use Rattle.rb_top.specs.ReadLog.{title_line}
use Rattle.rb_top.specs.ReadLoop.{HasPrintedSoFar}
use Rattle.rb_top.proofs.read.read_by.Given as goal

-- the bytes so far are read and printed, at least one in each round, and they are not too many
abbrev pub invariant-loop : goal.invariant-loop
invariant-loop g l = record {
  reported : (held_old : Option (List ℕ)) → Appends held_old (g.O.Sink.held l.initial.out) title_line →
      HasPrintedSoFar l.most l.read l.decoder (g.I.Source.left l.initial.source) (g.I.Source.left l.source) held_old (g.O.Sink.held l.out);
  later_in : g.I.Source.fault_count l.initial.source ≤ g.I.Source.fault_count l.source;
  later_out : g.O.Sink.fault_count l.initial.out ≤ g.O.Sink.fault_count l.out;
  turns : l.counter ≤ l.read;
  within : l.read ≤ l.most;
  room : 0 < length l.piece;
  few : l.most < 2 ^ 63;
}
