use Rattle.std.proofs.Common.{ℕ, ◌∷◌, [], ◌++◌, subst, sym, ap, ◌∙◌, arith}
use Rattle.std.specs.Prelude.{Option}
use Rattle.rb_bucket.specs.Bucket as node
use Rattle.rb_bucket.specs.declared.bucket.BucketBuffer.{BucketBuffer}
use Rattle.rb_group.specs.Kept.{HoldsNode}
use Rattle.rb_group.proofs.Holding.{node_closed}
use Rattle.rb_group.proofs.nodes.close_in_one.Goals as goal

pub returns-in_ok-close : goal.returns-in_ok-close
returns-in_ok-close c = λ kept since next holds is_open order above.
    node_closed c.in-Some.held c.close.new.self since c.args.prev.0 next kept (subst (λ (o : Option BucketBuffer). HoldsNode o since kept) c.in-Some.is holds)
    (omega (arith, c.if-since-epoch.true, c.since.ensures, is_open)) order above c.in_ok-close.ensures.kept
    (c.in_ok-close.ensures.ok ∙ ap (λ (n : ℕ). node.closes_kept c.in-Some.held ++ (n, c.args.prev.0) ∷ []) (sym is_open))
    c.in_ok-close.ensures.opened c.in_ok-close.ensures.since c.in_ok-close.ensures.buckets
