use Rattle.std.proofs.Common.{sym, ◌∙◌}
use Rattle.rb_evbuf.proofs.Places.{first_missing, none_more, not_some}
use Rattle.rb_evbuf.proofs.epoch.GatheredEpoch.missing.Goals as goal

pub returns-then-is_some : goal.returns-then-is_some
returns-then-is_some c = λ sound. first_missing c.args.self.now c.loop-bucket.bucket c.args.buckets c.missing_of-missing.result (c.loop-bucket.invariant sound) c.loop-bucket-test.true (sym c.is_some.ensures ∙ c.if-is_some.true)
    (c.missing_of-missing.ensures c.args.buckets sound c.loop-bucket-test.true)

pub loop-bucket-preserved : goal.loop-bucket-preserved
loop-bucket-preserved c = λ sound. none_more c.args.self.now c.loop-bucket.bucket (c.loop-bucket.invariant sound)
    (sym (c.missing_of-missing.ensures c.args.buckets sound c.loop-bucket-test.true) ∙ not_some c.missing_of-missing.result (sym c.is_some.ensures ∙ c.if-is_some.false))
