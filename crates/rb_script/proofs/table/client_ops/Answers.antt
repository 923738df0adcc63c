use Rattle.std.proofs.Common.{◌∙◌, sym}
use Rattle.std.proofs.lemmas.List.{take_all}
use Rattle.rb_text_defs.specs.Script.{client_op}
use Rattle.rb_script.specs.Seen.{operation_seen}
use Rattle.rb_script.proofs.AllOf.{map_mapped}
use Rattle.rb_script.proofs.table.client_ops.Goals as goal

pub returns : goal.returns
returns c =
    c.from_vec.ensures ∙ (rw (take_all _ _ c.loop-operation-test.false) at c.loop-operation.invariant) ∙ sym (map_mapped (client_op c.args.tables.now) operation_seen c.args.operations.now)
