use Rattle.std.proofs.Common.{◌≡◌, ◌<◌, ◌≤◌, ℕ, length}
use Rattle.std.specs.Prelude.{Option, Some}
use Rattle.std.specs.List.{slice_get}
use Rattle.rb_bucket.specs.declared.bucket.BucketBuffer.{BucketBuffer}
use Rattle.rb_group.specs.Kept.{Kept, HoldsNode, with_acknowledged}
use Rattle.rb_group.specs.Nodes.{AllHold}
use Rattle.rb_group.proofs.nodes.release_in_all.Given as goal

-- the buffers below the index are as they are to be, and the others unchanged
abbrev pub invariant-loop-index : goal.invariant-loop-index
invariant-loop-index l = record {
  count : length l.buffers.items ≡ length l.initial.buffers.items;
  todo : (k : ℕ) → l.index ≤ k → slice_get l.buffers.items k ≡ slice_get l.initial.buffers.items k;
  done : (kept : Kept) → AllHold l.initial.buffers.items kept → (k : ℕ) (buffer : Option BucketBuffer) → k < l.index → slice_get l.buffers.items k ≡ Some buffer → (since : Option ℕ) → slice_get kept.nodes k ≡ Some since → HoldsNode buffer since (with_acknowledged l.through.0 kept);
}
