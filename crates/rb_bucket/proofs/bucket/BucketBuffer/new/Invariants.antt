use Rattle.std.proofs.Common.{◌≡◌, ℕ, length, List, []}
use Rattle.std.specs.List.{All}
use Rattle.std.specs.BTreeMap.{BTreeMap}
use Rattle.rb_base.specs.declared.change.Change.{Change}
use Rattle.rb_bucket.proofs.bucket.BucketBuffer.new.Given as goal

-- this many buckets, each with nothing
abbrev pub invariant-loop : goal.invariant-loop
invariant-loop l = record {
  count : length l.kept.items ≡ l.counter;
  empty : All (λ (epochs : BTreeMap ℕ (List Change)). epochs.entries ≡ []) l.kept.items;
}
