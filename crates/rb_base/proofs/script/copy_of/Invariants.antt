use Rattle.std.proofs.Common.{◌≡◌, take}
use Rattle.rb_base.proofs.script.copy_of.Given as goal

-- the operations so far are copied
abbrev pub invariant-loop-operation : goal.invariant-loop-operation
invariant-loop-operation l = l.copy.items ≡ take l.operation-index l.operation-items
