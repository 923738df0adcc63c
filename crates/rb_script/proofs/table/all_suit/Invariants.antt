use Rattle.std.proofs.Common.{◌≡◌, take, true}
use Rattle.std.specs.List.{list_all}
use Rattle.rb_text_defs.specs.Script.{suits_tables}
use Rattle.rb_script.specs.Seen.{operation_seen}
use Rattle.rb_script.proofs.table.all_suit.Given as goal

abbrev pub invariant-loop-operation : goal.invariant-loop-operation
invariant-loop-operation l = list_all (λ operation. suits_tables l.tables (operation_seen operation)) (take l.operation-index l.operations) ≡ true
