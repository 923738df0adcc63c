use Rattle.std.proofs.Common.{◌≡◌, ◌≤◌, ◌*◌, take}
use Rattle.rb_etx.specs.Size.{maps_size}
use Rattle.rb_etx.proofs.size.maps_size.Given as goal

-- the length of the maps so far
abbrev pub invariant-loop-table : goal.invariant-loop-table
invariant-loop-table l = record {
  size : l.size ≡ maps_size (take l.table-index l.tables);
  most : l.size ≤ 1000 * l.table-index;
}
