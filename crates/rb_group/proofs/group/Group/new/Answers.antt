use Rattle.std.proofs.Common.{◌≡◌, ◌+◌, ◌<◌, ℕ, List, ◌∷◌, [], ◌++◌, refl, subst, sym, ap, ◌∙◌, arith, length}
use Rattle.std.specs.Prelude.{Option, Some, replicate}
use Rattle.std.specs.List.{All}
use Rattle.std.proofs.lemmas.List.Elements.{All-push}
use Rattle.std.proofs.lemmas.Option.{slice_get_within, get_or_from_slice_get}
use Rattle.std.specs.Prelude.{map}
use Rattle.rb_base.specs.declared.epoch.Epoch.{Epoch}
use Rattle.rb_bucket.specs.declared.bucket.BucketBuffer.{BucketBuffer}
use Rattle.rb_group.specs.Kept.{HoldsNode, new_group}
use Rattle.rb_group.specs.Group.{IsNumberOf}
use Rattle.rb_group.specs.Nodes.{numbers_from}
use Rattle.rb_group.proofs.Lists.{numbers_more, numbers_count, numbers_all, same_item, replicate_count}
use Rattle.rb_group.proofs.Holding.{fresh}
use Rattle.rb_group.proofs.group.Group.new.Goals as goal

pub loop-index-preserved : goal.loop-index-preserved
loop-index-preserved c =
    let before = c.loop-index.invariant in
    let P : Option BucketBuffer → Type 0 = λ (buffer : Option BucketBuffer). HoldsNode buffer (Some c.args.opened.0) (new_group c.args.first c.args.nodes c.args.opened.0) in
    record {
      count = omega (arith, c.in_ok-push-2.ensures.len, before.count, c.push-in-loop-index.new.self.ok.0, c.loop-index.buffers.ok.0);
      owners = c.in_ok-push.ensures.items ∙ ap (λ (xs : List ℕ). xs ++ (c.args.first + c.loop-index.index) ∷ []) before.owners ∙ sym (numbers_more c.args.first c.loop-index.index);
      empty = subst (λ (buffers : List (Option BucketBuffer)). All (λ (buffer : Option BucketBuffer). HoldsNode buffer (Some c.args.opened.0) (new_group c.args.first c.args.nodes c.args.opened.0)) buffers) (sym c.in_ok-push-2.ensures.items)
          (All-push (λ (buffer : Option BucketBuffer). HoldsNode buffer (Some c.args.opened.0) (new_group c.args.first c.args.nodes c.args.opened.0)) c.loop-index.buffers.items (Some c.in_ok-new.field-0) before.empty
          (fresh c.args.opened.0 c.in_ok-new.field-0 (new_group c.args.first c.args.nodes c.args.opened.0) tt (omega arith) (λ e b late. refl) c.in_ok-new.ensures.empty c.in_ok-new.ensures.closes c.in_ok-new.ensures.opened c.in_ok-new.ensures.since
          (λ b low high. c.in_ok-new.ensures.buckets b low (subst (λ (n : ℕ). b < c.args.first + n) (replicate_count c.args.nodes (Some c.args.opened.0)) high))));
    }

pub returns : goal.returns
returns c =
    let before = c.loop-index.invariant in
    let all : c.loop-index.index ≡ c.args.nodes = omega (arith, c.loop-index-test.false) in
    let owners : c.loop-index.owners.items ≡ numbers_from c.args.first c.args.nodes = before.owners ∙ ap (λ (n : ℕ). numbers_from c.args.first n) all in
    let nodes : length (replicate c.args.nodes (Some c.args.opened.0)) ≡ c.args.nodes = replicate_count c.args.nodes (Some c.args.opened.0) in
    record {
      keeps = record {
        first = refl;
        opened = refl;
        acknowledged = refl;
        count = before.count ∙ all ∙ sym nodes;
        nodes = λ k buffer since at_buffer at_since.
            subst (λ (s : Option ℕ). HoldsNode buffer s (new_group c.args.first c.args.nodes c.args.opened.0)) (same_item c.args.nodes (Some c.args.opened.0) k since at_since)
            (subst (λ (b : Option BucketBuffer). HoldsNode b (Some c.args.opened.0) (new_group c.args.first c.args.nodes c.args.opened.0)) (get_or_from_slice_get c.loop-index.buffers.items k buffer buffer at_buffer)
            (before.empty k buffer (slice_get_within c.loop-index.buffers.items k buffer at_buffer)));
        owners = owners;
        owner_count = numbers_count c.args.first c.args.nodes ∙ sym nodes;
        owners_in = numbers_all (IsNumberOf (new_group c.args.first c.args.nodes c.args.opened.0)) c.args.first c.args.nodes (λ k below. (omega arith, omega (arith, nodes)));
        some = omega (arith, nodes, c.requires.some);
        fits = omega (arith, nodes, c.requires.fits);
        order = record { closes = tt; acknowledged = refl; later = λ e b late. refl };
        closed = ap (map (λ (e : Epoch). e.0)) c.new-2.ensures.items;
        countable = omega (arith, ap length owners ∙ numbers_count c.args.first c.args.nodes);
      };
    }
