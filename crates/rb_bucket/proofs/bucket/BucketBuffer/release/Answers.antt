use Rattle.rb_bucket.proofs.Keeping.{held_after}
use Rattle.rb_bucket.proofs.bucket.BucketBuffer.release.Goals as goal

pub returns-clause-kept : goal.returns-clause-kept
returns-clause-kept c = held_after c.args.self.now.first c.args.through.0 c.args.self.now.buckets.items c.forget_in_all.new.buckets.items c.forget_in_all.ensures.kept
