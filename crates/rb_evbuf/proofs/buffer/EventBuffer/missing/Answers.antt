use Rattle.std.proofs.Common.{sym}
use Rattle.rb_evbuf.proofs.Taking.{missing_present, missing_absent}
use Rattle.rb_evbuf.proofs.buffer.EventBuffer.missing.Goals as goal

pub returns-in-Some : goal.returns-in-Some
returns-in-Some c = λ fed stands chained. missing_present c.args.self.now fed c.in-Some.gathered.now c.missing.result stands chained c.in-Some.ensures c.missing.ensures

pub returns-in-None : goal.returns-in-None
returns-in-None c = λ fed stands chained. missing_absent c.args.self.now fed stands chained (sym c.in-None.ensures)
