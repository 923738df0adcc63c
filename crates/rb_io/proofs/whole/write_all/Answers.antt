use Rattle.std.proofs.Common.{rules}
use Rattle.rb_io.proofs.Known.{written_more}
use Rattle.rb_io.proofs.whole.write_all.Goals as goal

pub loop-at-preserved : goal.loop-at-preserved
loop-at-preserved g c = record {
  within = search rules;
  written = written_more _ _ _ c.loop-at.at c.in_ok-at.field-0 c.args.bytes.now c.loop-at.invariant.written c.in_ok-at.ensures.bytes;
  later = search rules;
}
