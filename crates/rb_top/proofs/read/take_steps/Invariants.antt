use Rattle.std.proofs.Common.{List, ℕ}
use Rattle.rb_read_defs.specs.Stream.{Known}
use Rattle.rb_stream.specs.Decoder.{StandsFor}
use Rattle.rb_top.specs.ReadLoop.{HasTaken}
use Rattle.rb_top.proofs.read.take_steps.Given as goal

-- this many steps are taken
abbrev pub invariant-loop : goal.invariant-loop
invariant-loop l = record {
  taken : (bytes : List ℕ) (passed : List Known) → StandsFor l.initial.decoder 0 bytes passed → HasTaken l.decoder bytes passed l.initial.text.items l.text.items l.counter;
}
