use Rattle.std.proofs.Common.{◌≡◌, length}
use Rattle.std.specs.List.{All}
use Rattle.rb_evbuf.specs.Gathered.{IsBlank}
use Rattle.rb_evbuf.proofs.epoch.GatheredEpoch.new.Given as goal

-- this many blank buckets, and as many parts
abbrev pub invariant-loop-bucket : goal.invariant-loop-bucket
invariant-loop-bucket l = record {
  width : length l.gathered.items ≡ l.bucket;
  room : length l.parts.items ≡ l.bucket;
  blank : All IsBlank l.gathered.items;
}
