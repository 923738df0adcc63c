use Rattle.std.proofs.Common.{length}
use Rattle.rb_stream.proofs.NextLaws.{HasPassed}
use Rattle.rb_stream.proofs.decoder.Decoder.pass_events.Given as goal

abbrev pub invariant-loop-header : goal.invariant-loop-header
invariant-loop-header l = HasPassed l.fn.self l.self

abbrev pub decreases-loop-header : goal.decreases-loop-header
decreases-loop-header l = length l.self.unread
