use Rattle.std.proofs.Common.{sym, ◌∙◌, arith}
use Rattle.rb_codec.proofs.BitmapLaws.{another_byte, same_byte}
use Rattle.rb_codec.proofs.bitmap.are_all.Goals as goal

pub returns-then-first-whole : goal.returns-then-first-whole
returns-then-first-whole c =
    sym (c.loop-first.invariant.same
    ∙ another_byte c.args.bit c.loop-first.left c.in-Some.first.now c.whole_byte-whole.result c.in-Some.rest.now c.loop-first.bytes.now c.in-Some.ensures.cases.0 (omega arith) (omega arith) c.whole_byte-whole.ensures c.if-first-whole.true)

pub loop-first-preserved : goal.loop-first-preserved
loop-first-preserved c = record {
  size = omega (arith, c.loop-first.invariant.size, c.in-Some.ensures.cases.1);
  same = c.loop-first.invariant.same
      ∙ same_byte c.args.bit c.loop-first.left c.in-Some.first.now c.whole_byte-whole.result c.in-Some.rest.now c.loop-first.bytes.now c.in-Some.ensures.cases.0 (omega arith) (omega arith) c.whole_byte-whole.ensures c.if-first-whole.false;
}
