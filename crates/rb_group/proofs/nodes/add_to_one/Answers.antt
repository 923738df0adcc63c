use Rattle.std.proofs.Common.{ℕ, subst, sym, ap, ◌∙◌, arith}
use Rattle.std.specs.Prelude.{Option, Some}
use Rattle.rb_base.specs.declared.change.Change.{Change}
use Rattle.rb_bucket.specs.Bucket as node
use Rattle.rb_bucket.specs.declared.bucket.BucketBuffer.{BucketBuffer}
use Rattle.rb_group.specs.Kept.{HoldsNode}
use Rattle.rb_group.proofs.Holding.{node_with_part}
use Rattle.rb_group.proofs.nodes.add_to_one.Goals as goal

pub returns-in_ok-add : goal.returns-in_ok-add
returns-in_ok-add c = λ kept since holds is_open order.
    node_with_part c.in-Some.held c.add.new.self since c.args.bucket c.args.change.now kept (subst (λ (o : Option BucketBuffer). HoldsNode o since kept) c.in-Some.is holds)
    (omega (arith, c.if-since-epoch.true, c.since.ensures, is_open)) order.acknowledged
    (λ e b. c.in_ok-add.ensures.kept e b ∙ ap (λ (n : ℕ). node.with_change n c.args.bucket c.in_ok-copy.copy (node.changes_kept c.in-Some.held) e b) (sym is_open)
    ∙ ap (λ (change : Change). node.with_change kept.opened c.args.bucket change (node.changes_kept c.in-Some.held) e b) c.in_ok-copy.ensures)
    c.in_ok-add.ensures.closes (c.in_ok-add.ensures.opened ∙ ap (λ (n : ℕ). Some n) (sym is_open)) c.in_ok-add.ensures.since c.in_ok-add.ensures.buckets
