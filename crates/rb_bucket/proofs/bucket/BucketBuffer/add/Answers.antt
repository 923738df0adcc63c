use Rattle.std.proofs.Common.{◌∙◌, ap, arith, List, ◌∷◌, [], ◌++◌}
use Rattle.std.specs.Prelude.{◌==◌, if◌then◌else◌}
use Rattle.rb_base.specs.declared.change.Change.{Change}
use Rattle.rb_bucket.proofs.Keeping.{kept_one}
use Rattle.rb_bucket.proofs.bucket.BucketBuffer.add.Goals as goal

pub returns-clause-kept : goal.returns-clause-kept
returns-clause-kept c = kept_one c.args.self.now.first c.args.self.now.buckets.items c.index_mut-kept.result.now c.append.new.epochs c.args.bucket c.args.epoch.0 c.args.change
    c.requires.bucket.0 (omega (arith, c.requires.bucket)) c.index_mut-kept.ensures.value
    (λ e. c.in_ok-place.ensures.kept e ∙ ap (λ (changes : List Change). if c.args.epoch.0 == e then changes ++ c.args.change ∷ [] else changes) (c.in_ok-enter.ensures.same e))
