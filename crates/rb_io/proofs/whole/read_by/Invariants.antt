use Rattle.std.proofs.Common.{length, ◌<◌, ◌≤◌}
use Rattle.std.specs.Io.KnownBytes.{Consumes}
use Rattle.rb_io.proofs.whole.read_by.Given as goal

-- the bytes so far are read and within the limit, and each round read at least one
abbrev pub invariant-loop : goal.invariant-loop
invariant-loop g l = record {
  consumed : Consumes (g.I.Source.left l.initial.source) (g.I.Source.left l.source) l.bytes.items;
  later : g.I.Source.fault_count l.initial.source ≤ g.I.Source.fault_count l.source;
  turns : l.counter ≤ length l.bytes.items;
  within : length l.bytes.items ≤ l.most;
  room : 0 < length l.piece;
}
