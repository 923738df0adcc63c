use Rattle.std.proofs.Common.{◌≡◌, ℕ, ◌-◌, ◌^◌, ◌<◌, [], length, slice_index_or}
use Rattle.rb_disk.proofs.memory.make_files.Given as goal

-- the new files are empty
abbrev pub invariant-loop-alloc : goal.invariant-loop-alloc
invariant-loop-alloc l = record {
  few : length l.files.items < 2 ^ 32;
  same : (other : ℕ) → slice_index_or l.files.items other [] ≡ slice_index_or l.initial.files.items other [];
}

abbrev pub decreases-loop-alloc : goal.decreases-loop-alloc
decreases-loop-alloc l = l.count - length l.files.items
