use Rattle.std.proofs.Common.{◌≡◌, length}
use Rattle.rb_log_defs.specs.Table.{bitmap_size}
use Rattle.rb_codec.specs.Bitmap.{are_all}
use Rattle.rb_codec.proofs.bitmap.are_all.Given as goal

abbrev pub invariant-loop-first : goal.invariant-loop-first
invariant-loop-first l = record {
  size : length l.bytes ≡ bitmap_size l.left;
  same : are_all l.fn.bit l.fn.count l.fn.bitmap ≡ are_all l.fn.bit l.left l.bytes;
}

abbrev pub decreases-loop-first : goal.decreases-loop-first
decreases-loop-first l = length l.bytes
