use Rattle.std.proofs.Common.{◌≡◌, take}
use Rattle.rb_read_defs.specs.Stream.{tables_named}
use Rattle.rb_stream.proofs.epoch.named_ids.Given as goal

abbrev pub invariant-loop-change : goal.invariant-loop-change
invariant-loop-change l = l.ids.items ≡ tables_named (take l.change-index l.changes)
