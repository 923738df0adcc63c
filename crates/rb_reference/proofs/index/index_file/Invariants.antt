use Rattle.std.proofs.Common.{◌≡◌, ◌∷◌, take}
use Rattle.std.specs.List.{flat_map}
use Rattle.rb_log_defs.specs.Index.{index_record}
use Rattle.rb_reference.proofs.index.index_file.Given as goal

-- the records of the rows so far
abbrev pub invariant-loop-row : goal.invariant-loop-row
invariant-loop-row l = l.file.items ≡ flat_map (λ row. 1 ∷ index_record row) (take l.row-index l.rows)
