use Rattle.std.proofs.Common.{◌≡◌, ℕ, ◌<◌, ◌≤◌, length, []}
use Rattle.std.specs.Prelude.{if◌then◌else◌, nat_le}
use Rattle.rb_bucket.specs.Bucket.{changes_at}
use Rattle.rb_bucket.proofs.forget.forget_in_all.Given as goal

-- the buckets so far have forgotten, and those ahead are unchanged
abbrev pub invariant-loop-index : goal.invariant-loop-index
invariant-loop-index l = record {
  count : length l.buckets.items ≡ length l.fn.buckets.items;
  done : (place e : ℕ) → place < l.index → changes_at l.buckets.items place e ≡ (if nat_le e l.through then [] else changes_at l.fn.buckets.items place e);
  ahead : (place e : ℕ) → l.index ≤ place → changes_at l.buckets.items place e ≡ changes_at l.fn.buckets.items place e;
}
