use Rattle.std.proofs.Common.{ℕ, ◌+◌, List, ◌∙◌, ap, refl}
use Rattle.rb_base.specs.declared.row.Row.{Row}
use Rattle.rb_base.specs.declared.site.SiteId.TheVariants.{A}
use Rattle.rb_text_defs.specs.Report.{table_lines, text_of_lines}
use Rattle.rb_store.specs.Tables.{rows_in}
use Rattle.rb_top.proofs.TableLaws.{text_more}
use Rattle.rb_top.proofs.run.put_tables.Goals as goal

pub loop-place-preserved : goal.loop-place-preserved
loop-place-preserved c = record {
  reported = λ journal same.
      let printed =
      c.as_slice-in-loop-place-2.ensures ∙ c.in_ok-lines.ensures
      ∙ ap (λ (name : List ℕ). text_of_lines (table_lines A (record { name = name; rows = c.as_slice-in-loop-place.result.now }))) c.as_slice.ensures
      ∙ ap (λ (rows : List Row). text_of_lines (table_lines A (record { name = c.index-schemas-place.result.name; rows = rows }))) c.as_slice-in-loop-place.ensures in
      c.in_ok-extend_from_slice.ensures.items
      ∙ text_more c.args.schemas.now c.loop-place.place (c.loop-place.place + 1) c.index-schemas-place.result _ journal (rows_in c.args.tables.now (c.loop-place.place + 1)) c.in_ok-rows.rows c.args.text.now.items c.loop-place.text.items _
      c.loop-place-test.true c.index-schemas-place.is refl (λ key. same (c.loop-place.place + 1) key) c.in_ok-rows.ensures printed (c.loop-place.invariant.reported journal same);
}
