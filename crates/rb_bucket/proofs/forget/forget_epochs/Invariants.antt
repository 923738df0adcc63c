use Rattle.std.proofs.Common.{◌≡◌, ℕ, nat_le, false}
use Rattle.std.specs.BTreeMap.{btree_map_len}
use Rattle.rb_bucket.specs.Bucket.{changes_in}
use Rattle.rb_bucket.proofs.forget.forget_epochs.Given as goal

-- later epochs keep theirs
abbrev pub invariant-loop : goal.invariant-loop
invariant-loop l = (e : ℕ) → nat_le e l.through ≡ false → changes_in l.epochs e ≡ changes_in l.fn.epochs e

abbrev pub decreases-loop : goal.decreases-loop
decreases-loop l = btree_map_len l.epochs
