use Rattle.std.proofs.Common.{◌≡◌, ◌≤◌, ◌+◌, ◌*◌, drop}
use Rattle.rb_read_defs.specs.Events.{metadata_size}
use Rattle.rb_codec.proofs.mapped.metadata_size.Given as goal

-- the length so far and that of the metadata of the types from here on are the whole length
abbrev pub invariant-loop-kind : goal.invariant-loop-kind
invariant-loop-kind l = record {
  whole : l.size + metadata_size (drop l.kind-index l.types) ≡ metadata_size l.types;
  most : l.size ≤ 2 * l.kind-index;
}
