use Rattle.std.proofs.Common.{◌≡◌, ◌<◌, ◌≤◌, ℕ, length, take, get_or, List}
use Rattle.std.specs.Prelude.{None}
use Rattle.rb_base.specs.declared.change.Change.{Change}
use Rattle.rb_evbuf.specs.Gathered.{missing_under, part_under}
use Rattle.rb_evbuf.specs.Epoch.{IsSound, place_at, count_at}
use Rattle.rb_evbuf.proofs.epoch.GatheredEpoch.into_parts.Given as goal

-- the buckets from the last down to here have their parts
abbrev pub invariant-loop-last : goal.invariant-loop-last
invariant-loop-last l = record {
  left : l.gathered.items ≡ take (length l.gathered.items) l.fn.self.buckets.items;
  fewer : length l.gathered.items ≤ length l.fn.self.buckets.items;
  room : length l.parts.items ≡ length l.fn.self.parts.items;
  done : (buckets : ℕ) → IsSound l.fn.self buckets → (k : ℕ) (d : List Change) → length l.gathered.items ≤ k → k < buckets →
      missing_under k (place_at l.fn.self k) (count_at l.fn.self k) ≡ None → get_or l.parts.items k d ≡ part_under (place_at l.fn.self k) (count_at l.fn.self k);
}

abbrev pub decreases-loop-last : goal.decreases-loop-last
decreases-loop-last l = goal.left-loop-last l
