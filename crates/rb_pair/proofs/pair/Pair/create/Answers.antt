use Rattle.std.proofs.Common.{◌∙◌, refl, ap}
use Rattle.std.specs.Prelude.{Err}
use Rattle.rb_pair.proofs.HeldLaws.{none_lowest, none_first}
use Rattle.rb_pair.proofs.LegalLaws.{declared}
use Rattle.rb_pair.proofs.pair.Pair.create.Goals as goal

pub create-requires-clause-declared : goal.create-requires-clause-declared
create-requires-clause-declared g c = declared c.args.setup.now c.requires.legal

pub unreachable-requires : goal.unreachable-requires
unreachable-requires g c =
    none_lowest _ _ (g.D.LogDisk.seen c.args.disk_a.now) (c.in_default.ensures.empty refl).0 (c.create.ensures.not_empty _ _ (c.in-Err-NotEmpty.is ∙ ap Err c.in-Err-NotEmpty.field-0-is))

pub returns-in-Ok-clause-refused : goal.returns-in-Ok-clause-refused
returns-in-Ok-clause-refused g c = λ site file size held.
    none_first site file size (g.D.LogDisk.seen c.args.disk_a.now) (g.D.LogDisk.seen c.args.disk_b.now) (c.in_default.ensures.empty refl) held
