use Rattle.std.proofs.Common.{◌≡◌, ◌≤◌, ◌+◌, ◌*◌, ◌^◌, map, take}
use Rattle.std.specs.Prelude.{sum_by}
use Rattle.rb_text_defs.specs.Script.{column_bytes}
use Rattle.rb_script.specs.Seen.{column_seen}
use Rattle.rb_script.proofs.limit.row_bytes.Given as goal

abbrev pub invariant-loop-column_type : goal.invariant-loop-column_type
invariant-loop-column_type l = record {
  sum : l.bytes ≡ 8 + sum_by column_bytes (map column_seen (take l.column_type-index l.types));
  few : l.bytes ≤ 8 + (2 ^ 32 + 1) * l.column_type-index;
}
