use Rattle.std.proofs.Common.{◌≡◌, drop}
use Rattle.rb_text_defs.specs.Script.{suits_columns}
use Rattle.rb_script.proofs.table.suits_columns.Given as goal

abbrev pub invariant-loop-index : goal.invariant-loop-index
invariant-loop-index l = suits_columns l.columns l.values ≡ suits_columns (drop l.index l.columns) (drop l.index l.values)
