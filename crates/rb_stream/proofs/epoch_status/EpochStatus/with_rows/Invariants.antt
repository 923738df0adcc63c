use Rattle.std.proofs.Common.{ℕ, List, ◌++◌, take, map}
use Rattle.rb_read_defs.specs.declared.answers.StatusRow.{StatusRow}
use Rattle.rb_stream.specs.EpochStatus.{HoldsStatus}
use Rattle.rb_stream.proofs.epoch_status.EpochStatus.with_rows.Given as goal

abbrev pub invariant-loop-row : goal.invariant-loop-row
invariant-loop-row l = (before : List (ℕ × StatusRow)) → HoldsStatus l.fn.self before → HoldsStatus l.epoch_status (map (λ row. (l.fn.server, row)) (take l.row-index l.rows) ++ before)
