use Rattle.std.proofs.Common.{◌≡◌, ◌∷◌, take}
use Rattle.rb_base.specs.declared.row.Value.TheVariants.{Num}
use Rattle.rb_script.proofs.table.row.Given as goal

abbrev pub invariant-loop-value : goal.invariant-loop-value
invariant-loop-value l = l.values.items ≡ Num l.key ∷ take l.value-index l.others
