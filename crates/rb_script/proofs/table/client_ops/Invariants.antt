use Rattle.std.proofs.Common.{◌≡◌, take, map}
use Rattle.rb_text_defs.specs.Script.{client_op}
use Rattle.rb_script.specs.Seen.{operation_seen}
use Rattle.rb_script.proofs.table.client_ops.Given as goal

abbrev pub invariant-loop-operation : goal.invariant-loop-operation
invariant-loop-operation l = l.ops.items ≡ map (λ operation. client_op l.tables (operation_seen operation)) (take l.operation-index l.operations)
