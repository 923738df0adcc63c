use Rattle.std.proofs.Common.{◌≡◌, length}
use Rattle.std.specs.Prelude.{Option, Some}
use Rattle.std.specs.List.{All}
use Rattle.rb_bucket.specs.declared.bucket.BucketBuffer.{BucketBuffer}
use Rattle.rb_group.specs.Kept.{HoldsNode, new_group}
use Rattle.rb_group.specs.Nodes.{numbers_from}
use Rattle.rb_group.proofs.group.Group.new.Given as goal

-- this many nodes, each with an empty buffer of all buckets, and their numbers as owners
abbrev pub invariant-loop-index : goal.invariant-loop-index
invariant-loop-index l = record {
  count : length l.buffers.items ≡ l.index;
  owners : l.owners.items ≡ numbers_from l.first l.index;
  empty : All (λ (buffer : Option BucketBuffer). HoldsNode buffer (Some l.opened.0) (new_group l.first l.nodes l.opened.0)) l.buffers.items;
}
