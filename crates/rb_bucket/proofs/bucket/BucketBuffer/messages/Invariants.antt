use Rattle.std.proofs.Common.{◌≡◌}
use Rattle.rb_bucket.proofs.Resending.{first_kept}
use Rattle.rb_bucket.proofs.bucket.BucketBuffer.messages.Given as goal

-- the messages of the closed epochs so far
abbrev pub invariant-loop-index : goal.invariant-loop-index
invariant-loop-index l = l.messages ≡ first_kept l.self l.bucket l.index
