use Rattle.std.proofs.Common.{ℕ, List, sym, ap, ◌∙◌, ◌++◌}
use Rattle.std.proofs.lemmas.List.{append-nil}
use Rattle.rb_store.specs.declared.table.Slot.{Slot}
use Rattle.rb_store.proofs.Dumped.{is_table, rows_left}
use Rattle.rb_store.proofs.table.Table.dump.Goals as goal

pub returns : goal.returns
returns c =
    let all = c.into_iter-slot-iterator.ensures.into_iter_gives in
    is_table c.args.self.now.slots _ all.5 all.6
    (sym (append-nil _) ∙ ap (λ (entries : List (ℕ × Slot)). c.loop-slot.rows ++ rows_left entries) (sym c.in-None.ensures.steps.0) ∙ c.loop-slot.invariant)
