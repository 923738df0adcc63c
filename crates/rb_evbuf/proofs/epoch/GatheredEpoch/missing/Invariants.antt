use Rattle.std.proofs.Common.{◌≡◌}
use Rattle.std.specs.Prelude.{None}
use Rattle.rb_evbuf.specs.Epoch.{IsSound, missing_in}
use Rattle.rb_evbuf.proofs.epoch.GatheredEpoch.missing.Given as goal

-- nothing is missing of the buckets so far
abbrev pub invariant-loop-bucket : goal.invariant-loop-bucket
invariant-loop-bucket l = IsSound l.self l.buckets → missing_in l.self l.bucket ≡ None
