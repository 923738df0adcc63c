use Rattle.std.proofs.Common.{ap, ◌∙◌}
use Rattle.std.specs.Prelude.{Option}
use Rattle.std.specs.Option.{option_map_or}
use Rattle.rb_base.proofs.Lists.{last_got}
use Rattle.rb_base.specs.declared.body.IndexRow.{IndexRow}
use Rattle.rb_print.proofs.lines.last_epoch.Goals as goal

pub returns-in-Some : goal.returns-in-Some
returns-in-Some c = ap (λ (row : Option IndexRow). option_map_or (λ r. r.epoch.0) row 0) (c.in-Some.ensures.value ∙ last_got c.args.rows.now)

pub returns-in-None : goal.returns-in-None
returns-in-None c = ap (λ (row : Option IndexRow). option_map_or (λ r. r.epoch.0) row 0) (c.in-None.ensures.value ∙ last_got c.args.rows.now)
