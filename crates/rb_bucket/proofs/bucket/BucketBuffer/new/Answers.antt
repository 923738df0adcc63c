use Rattle.rb_bucket.proofs.Keeping.{held_in_none}
use Rattle.rb_bucket.proofs.bucket.BucketBuffer.new.Goals as goal

pub returns-clause-empty : goal.returns-clause-empty
returns-clause-empty c = held_in_none c.args.first c.loop.kept.items c.loop.invariant.empty
