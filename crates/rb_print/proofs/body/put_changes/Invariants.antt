use Rattle.std.proofs.Common.{◌≡◌, ◌++◌, ◌∷◌, [], take}
use Rattle.std.specs.List.{flat_map}
use Rattle.rb_text_defs.specs.LogText.{change_line}
use Rattle.rb_print.proofs.body.put_changes.Given as goal

abbrev pub invariant-loop-change : goal.invariant-loop-change
invariant-loop-change l = l.text.items ≡ l.fn.text.items ++ flat_map (λ change. change_line l.tables change ++ 10 ∷ []) (take l.change-index l.changes)
