use Rattle.std.proofs.Common.{◌≡◌, ◌∷◌}
use Rattle.std.specs.Prelude.{take}
use Rattle.rb_base.specs.declared.schema.Column.TheVariants.{Num}
use Rattle.rb_cluster.proofs.mapping.map_table.Given as goal

-- the key, and then the columns so far
abbrev pub invariant-loop-column : goal.invariant-loop-column
invariant-loop-column l = record {
  columns : l.columns ≡ Num ∷ take l.column-index l.fn.schema.columns;
}
