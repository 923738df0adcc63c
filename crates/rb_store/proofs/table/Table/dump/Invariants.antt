use Rattle.std.proofs.Common.{◌≡◌, ◌++◌}
use Rattle.rb_store.proofs.Dumped.{rows_left}
use Rattle.rb_store.proofs.table.Table.dump.Given as goal

-- the rows so far, and those of the slots that are left
abbrev pub invariant-loop-slot : goal.invariant-loop-slot
invariant-loop-slot l = l.rows ++ rows_left l.slot-iterator ≡ rows_left l.self.slots.entries
