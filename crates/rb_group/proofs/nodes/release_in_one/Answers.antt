use Rattle.std.proofs.Common.{subst}
use Rattle.std.specs.Prelude.{Option}
use Rattle.rb_bucket.specs.declared.bucket.BucketBuffer.{BucketBuffer}
use Rattle.rb_group.specs.Kept.{HoldsNode}
use Rattle.rb_group.proofs.Holding.{closes_rise, node_released}
use Rattle.rb_group.proofs.nodes.release_in_one.Goals as goal

pub release-requires : goal.release-requires
release-requires c =
    let ready = c.requires.ready in
    record { rising = (ready.0.opened, closes_rise c.in-Some.held ready.1 ready.0 (subst (λ (o : Option BucketBuffer). HoldsNode o ready.1 ready.0) c.in-Some.is ready.2) ready.3) }

pub returns-in-Some : goal.returns-in-Some
returns-in-Some c = λ kept since holds.
    node_released c.in-Some.held c.release.new.self since c.args.through.0 kept (subst (λ (o : Option BucketBuffer). HoldsNode o since kept) c.in-Some.is holds)
    c.release.ensures.kept c.release.ensures.closes c.release.ensures.opened c.release.ensures.since c.release.ensures.buckets
