use Rattle.std.proofs.Common.{◌≡◌, ℕ, ◌<◌, ◌∙◌, refl, sym, arith, length}
use Rattle.std.specs.Prelude.{Option, Some}
use Rattle.std.specs.List.{slice_get}
use Rattle.std.proofs.lemmas.List.{length-set}
use Rattle.std.proofs.lemmas.Option.{slice_get_read, slice_get_within}
use Rattle.rb_bucket.specs.declared.bucket.BucketBuffer.{BucketBuffer}
use Rattle.rb_group.specs.Kept.{HoldsNode, only_closed}
use Rattle.rb_group.proofs.Lists.{todo_next, done_next}
use Rattle.rb_group.proofs.nodes.close_in_all.Goals as goal

pub loop-index-preserved : goal.loop-index-preserved
loop-index-preserved c =
    let before = c.loop-index.invariant in
    let within : c.loop-index.index < length c.loop-index.buffers.items = omega (arith, c.loop-index-test.true, c.len-index-end.ensures, before.count, c.args.buffers.now.ok.0) in
    record {
      count = length-set _ _ _ ∙ before.count;
      todo = todo_next c.args.buffers.now.items c.loop-index.buffers.items c.loop-index.index c.close_in_one.new.buffer within before.todo;
      done = λ kept next hold is_open order above. done_next (λ (k : ℕ) (buffer : Option BucketBuffer). (since : Option ℕ) → slice_get kept.nodes k ≡ Some since → HoldsNode buffer since (only_closed c.args.prev.0 next kept))
          c.loop-index.buffers.items c.loop-index.index c.close_in_one.new.buffer within
          (λ since is.
          let old_holds : HoldsNode c.index_mut.result.now since kept = hold c.loop-index.index c.index_mut.result.now since
          (sym (before.todo c.loop-index.index (omega arith)) ∙ slice_get_read c.loop-index.buffers.items (length c.loop-index.buffers.items) c.loop-index.index c.index_mut.result.now refl within c.index_mut.ensures.value) is in
          c.in_ok-close_in_one.ensures kept since next old_holds is_open order above)
          (before.done kept next hold is_open order above);
    }

pub returns-clause-kept : goal.returns-clause-kept
returns-clause-kept c = λ kept next hold is_open order above k buffer since at_buffer at_since.
    c.loop-index.invariant.done kept next hold is_open order above k buffer (let inside = slice_get_within c.loop-index.buffers.items k buffer at_buffer in omega (arith, c.loop-index-test.false, c.len-index-end.ensures, c.loop-index.invariant.count, c.args.buffers.now.ok.0)) at_buffer since at_since
