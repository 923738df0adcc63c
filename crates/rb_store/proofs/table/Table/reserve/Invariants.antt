use Rattle.std.proofs.Common.{◌≡◌, ℕ, ◌+◌, take}
use Rattle.rb_store.specs.Table.{held_in, room_in, times}
use Rattle.rb_store.proofs.table.Table.reserve.Given as goal

abbrev pub invariant-loop-key : goal.invariant-loop-key
invariant-loop-key l = record {
  held : (k : ℕ) → held_in l.self k ≡ held_in l.initial.self k;
  room : (k : ℕ) → room_in l.self k ≡ room_in l.initial.self k + times (take l.key-index l.keys) k;
}
