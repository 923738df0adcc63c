use Rattle.std.proofs.Common.{◌≡◌, ◌+◌, ◌≤◌, ℕ}
use Rattle.std.specs.Vec.{vec_len, vec_capacity}
use Rattle.std.specs.BTreeMap.{btree_map_len}
use Rattle.rb_evbuf.specs.Gathered.{place_in}
use Rattle.rb_evbuf.proofs.gathered.Gathered.close_gap.Given as goal

-- there is room for what is still ahead, and each place has what it had
abbrev pub invariant-loop-change : goal.invariant-loop-change
invariant-loop-change l = record {
  room : vec_len l.self.front + btree_map_len l.self.ahead ≤ vec_capacity l.self.front;
  same : (other : ℕ) → place_in l.self other ≡ place_in l.initial.self other;
  count : l.self.count ≡ l.initial.self.count;
}

abbrev pub decreases-loop-change : goal.decreases-loop-change
decreases-loop-change l = btree_map_len l.self.ahead
