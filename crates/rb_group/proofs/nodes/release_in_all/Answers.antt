use Rattle.std.proofs.Common.{◌≡◌, ℕ, ◌<◌, ◌∙◌, refl, sym, arith, length}
use Rattle.std.specs.Prelude.{Option, Some, None, unwrap_or}
use Rattle.std.specs.List.{slice_get}
use Rattle.std.proofs.lemmas.List.{length-set}
use Rattle.std.proofs.lemmas.Option.{slice_get_read, slice_get_within}
use Rattle.rb_bucket.specs.declared.bucket.BucketBuffer.{BucketBuffer}
use Rattle.rb_group.specs.Kept.{HoldsNode, with_acknowledged}
use Rattle.rb_group.proofs.Lists.{todo_next, done_next, there}
use Rattle.rb_group.proofs.nodes.release_in_all.Goals as goal

pub release_in_one-requires : goal.release_in_one-requires
release_in_one-requires c =
    let ready = c.requires.ready in
    let before = c.loop-index.invariant in
    let within : c.loop-index.index < length c.loop-index.buffers.items = omega (arith, c.loop-index-test.true, c.len-index-end.ensures, before.count, c.args.buffers.now.ok.0) in
    record {
      ready = (
        ready.0,
        unwrap_or (slice_get ready.0.nodes c.loop-index.index) None,
        ready.1 c.loop-index.index c.index_mut.result.now (unwrap_or (slice_get ready.0.nodes c.loop-index.index) None)
            (sym (before.todo c.loop-index.index (omega arith)) ∙ slice_get_read c.loop-index.buffers.items (length c.loop-index.buffers.items) c.loop-index.index c.index_mut.result.now refl within c.index_mut.ensures.value)
            (there ready.0.nodes c.loop-index.index None (omega (arith, ready.2, before.count))),
        ready.3,
      );
    }

pub loop-index-preserved : goal.loop-index-preserved
loop-index-preserved c =
    let before = c.loop-index.invariant in
    let within : c.loop-index.index < length c.loop-index.buffers.items = omega (arith, c.loop-index-test.true, c.len-index-end.ensures, before.count, c.args.buffers.now.ok.0) in
    record {
      count = length-set _ _ _ ∙ before.count;
      todo = todo_next c.args.buffers.now.items c.loop-index.buffers.items c.loop-index.index c.release_in_one.new.buffer within before.todo;
      done = λ kept hold. done_next (λ (k : ℕ) (buffer : Option BucketBuffer). (since : Option ℕ) → slice_get kept.nodes k ≡ Some since → HoldsNode buffer since (with_acknowledged c.args.through.0 kept))
          c.loop-index.buffers.items c.loop-index.index c.release_in_one.new.buffer within
          (λ since is.
          let old_holds : HoldsNode c.index_mut.result.now since kept = hold c.loop-index.index c.index_mut.result.now since
          (sym (before.todo c.loop-index.index (omega arith)) ∙ slice_get_read c.loop-index.buffers.items (length c.loop-index.buffers.items) c.loop-index.index c.index_mut.result.now refl within c.index_mut.ensures.value) is in
          c.release_in_one.ensures kept since old_holds)
          (before.done kept hold);
    }

pub returns-clause-kept : goal.returns-clause-kept
returns-clause-kept c = λ kept hold k buffer since at_buffer at_since.
    c.loop-index.invariant.done kept hold k buffer (let inside = slice_get_within c.loop-index.buffers.items k buffer at_buffer in omega (arith, c.loop-index-test.false, c.len-index-end.ensures, c.loop-index.invariant.count, c.args.buffers.now.ok.0)) at_buffer since at_since
