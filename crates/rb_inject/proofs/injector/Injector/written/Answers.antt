use Rattle.std.proofs.Common.{ap, ◌∙◌}
use Rattle.std.specs.Prelude.{Option, None}
use Rattle.std.specs.List.{last_or}
use Rattle.std.specs.Option.{option_map_or}
use Rattle.rb_base.proofs.Lists.{last_got}
use Rattle.rb_base.specs.declared.body.IndexRow.{IndexRow}
use Rattle.rb_inject.proofs.injector.Injector.written.Goals as goal

pub returns-in-Some : goal.returns-in-Some
returns-in-Some c = ap (λ (row : Option IndexRow). option_map_or (λ r. r.epoch.0) row 0) (c.in-Some.ensures.value ∙ last_got c.rows.result.now ∙ ap (last_or None) c.rows.ensures)

pub returns-in-None : goal.returns-in-None
returns-in-None c = ap (λ (row : Option IndexRow). option_map_or (λ r. r.epoch.0) row 0) (c.in-None.ensures.value ∙ last_got c.rows.result.now ∙ ap (last_or None) c.rows.ensures)
