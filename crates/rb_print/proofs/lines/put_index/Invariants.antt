use Rattle.std.proofs.Common.{◌≡◌, ◌++◌, ◌∷◌, [], take}
use Rattle.std.specs.List.{flat_map}
use Rattle.rb_text_defs.specs.Report.{index_line}
use Rattle.rb_print.proofs.lines.put_index.Given as goal

abbrev pub invariant-loop-row : goal.invariant-loop-row
invariant-loop-row l = l.text.items ≡ l.fn.text.items ++ flat_map (λ row. index_line row ++ 10 ∷ []) (take l.row-index l.rows)
