use Rattle.std.proofs.Common.{◌-◌, length}
use Rattle.rb_index.proofs.ReadLaws.{IsTaken}
use Rattle.rb_index.proofs.index.take_rows.Given as goal

abbrev pub invariant-records : goal.invariant-records
invariant-records l = IsTaken l.bytes l.rows.items l.place

abbrev pub decreases-records : goal.decreases-records
decreases-records l = length l.bytes - l.place
