use Rattle.std.proofs.Common.{◌≡◌, ◌++◌, drop}
use Rattle.rb_bucket.specs.Bucket.{parts_of, parts_from}
use Rattle.rb_bucket.proofs.resend.push_parts.Given as goal

-- what is appended, and the Parts of the changes ahead, are all
abbrev pub invariant-loop-place : goal.invariant-loop-place
invariant-loop-place l = l.messages ++ parts_from l.bucket l.epoch l.place (drop l.place l.changes) ≡ l.fn.messages ++ parts_of l.bucket l.epoch l.changes
