use Rattle.std.proofs.Common.{drop}
use Rattle.rb_codec.proofs.ColumnLaws.{IsPart}
use Rattle.rb_codec.proofs.mapped.columns_from.Given as goal

abbrev pub invariant-loop-kind : goal.invariant-loop-kind
invariant-loop-kind l = IsPart l.types l.metadata l.columns (drop l.kind-index l.types) l.rest
