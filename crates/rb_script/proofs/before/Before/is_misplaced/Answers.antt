use Rattle.std.proofs.Common.{◌≡◌, ◌∙◌, ap, Option, map, Some, None, refl}
use Rattle.std.specs.Prelude.{is_some}
use Rattle.std.specs.List.{find}
use Rattle.std.specs.Option.{option_map}
use Rattle.rb_text_defs.specs.Script.{is_named}
use Rattle.rb_script.specs.Seen.{column_seen}
use Rattle.rb_script.proofs.SummaryLaws.{site_misplaced, table_misplaced}
use Rattle.rb_script.proofs.before.Before.is_misplaced.Goals as goal

some_mapped : {X Y : Type 0} (f : X → Y) (value : Option X) → is_some value ≡ is_some (option_map f value)
some_mapped f None = refl
some_mapped f (Some x) = refl

pub returns-else-self : goal.returns-else-self
returns-else-self c = λ forms summary.
    rw c.in-Site.is (site_misplaced forms c.args.self.now c.in-Site.field-0 c.in-Site.field-1.groups c.in-Site.field-1.replicas c.in-Site.field-1.limit c.is_some.result summary c.if-self.false c.is_some.ensures)

pub returns-else-self-2 : goal.returns-else-self-2
returns-else-self-2 c = λ forms summary.
    let is : c.is_some-else-self-2.result ≡ is_some (find (is_named c.in-Table.name.now) c.args.self.now.tables) =
    c.is_some-else-self-2.ensures ∙ some_mapped (λ table. table.now) c.table_named.result ∙ ap is_some c.table_named.ensures
    ∙ ap (λ tables. is_some (find (is_named c.in-Table.name.now) tables)) c.as_slice.ensures in
    rw c.in-Table.is (table_misplaced forms c.args.self.now c.in-Table.name.now (map column_seen c.in-Table.field-1.items) c.is_some-else-self-2.result summary c.if-self-2.false is)
