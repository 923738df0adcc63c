use Rattle.std.proofs.Common.{ℕ, List, refl, sym, ap, subst, ◌∙◌}
use Rattle.std.specs.Prelude.{Option, None}
use Rattle.std.specs.List.{last_or}
use Rattle.rb_base.proofs.Lists.{last_got}
use Rattle.rb_base.proofs.Results.{at_an_error}
use Rattle.rb_base.specs.declared.body.IndexRow.{IndexRow}
use Rattle.rb_log_defs.specs.File.{binlog_files, index_rows}
use Rattle.rb_device_defs.specs.Index.{IsIndexImage}
use Rattle.rb_device_defs.specs.Image.{HoldsUpTo}
use Rattle.rb_device_defs.proofs.RowLaws.{rows_never_fall}
use Rattle.rb_device_defs.proofs.ImageLaws.{index_is_image}
use Rattle.rb_inject.proofs.OpenLaws.{rows_fit, same_up_to, holds_to}
use Rattle.rb_inject.proofs.injector.Injector.recover.Goals as goal

pub recover-requires : goal.recover-requires
recover-requires g c =
    let bodies = c.requires.image.0 in
    let can = c.requires.image.1 in
    record { image = (index_rows c.args.site c.args.limit bodies, can.image.index, rows_fit c.args.site c.args.limit bodies c.requires.setup.limit can.logged can.few, rows_never_fall c.args.site c.args.limit bodies can.logged.in_order) }

pub returns-in_err-index-clause-kept : goal.returns-in_err-index-clause-kept
returns-in_err-index-clause-kept g c = at_an_error c.from_residual.result (λ bodies can. record {
  index = c.in_err-index.ensures.kept (index_rows c.args.site c.args.limit bodies) can.image.index;
  files = same_up_to c.args.site c.args.limit bodies _ _ c.in_err-index.ensures.others can.image.files;
})

pub open_files-requires-clause-there : goal.open_files-requires-clause-there
open_files-requires-clause-there g c =
    let bodies = c.requires.image.0 in
    let can = c.requires.image.1 in
    let rows = (c.in_ok-index.ensures.recovered (index_rows c.args.site c.args.limit bodies) can.image.index (rows_fit c.args.site c.args.limit bodies c.requires.setup.limit can.logged can.few)).0 in
    (bodies, holds_to c.args.site c.args.limit c.copied.result bodies _ _ (c.copied.ensures ∙ c.last.ensures.value ∙ last_got c.rows.result.now ∙ ap (last_or None) (c.rows.ensures ∙ rows)) c.in_ok-index.ensures.others can.image can.logged can.few)

pub returns-in_err-files-clause-kept : goal.returns-in_err-files-clause-kept
returns-in_err-files-clause-kept g c = at_an_error c.from_residual-in_err-files.result (λ bodies can.
    let opened = c.in_ok-index.ensures.recovered (index_rows c.args.site c.args.limit bodies) can.image.index (rows_fit c.args.site c.args.limit bodies c.requires.setup.limit can.logged can.few) in
    let held = holds_to c.args.site c.args.limit c.copied.result bodies _ _ (c.copied.ensures ∙ c.last.ensures.value ∙ last_got c.rows.result.now ∙ ap (last_or None) (c.rows.ensures ∙ opened.0)) c.in_ok-index.ensures.others can.image can.logged can.few in
    record {
      index = subst (λ (file : List ℕ). IsIndexImage (index_rows c.args.site c.args.limit bodies) file) (sym (c.in_err-files.ensures.index ∙ opened.1)) (index_is_image (index_rows c.args.site c.args.limit bodies));
      files = subst (λ (row : Option IndexRow). HoldsUpTo row (binlog_files c.args.site c.args.limit bodies) (g.D.LogDisk.seen c.open_files.new.disk)) held.last_is (c.in_err-files.ensures.kept bodies held);
    })

pub returns-clause-recovered : goal.returns-clause-recovered
returns-clause-recovered g c = λ bodies can.
    let opened = c.in_ok-index.ensures.recovered (index_rows c.args.site c.args.limit bodies) can.image.index (rows_fit c.args.site c.args.limit bodies c.requires.setup.limit can.logged can.few) in
    let held = holds_to c.args.site c.args.limit c.copied.result bodies _ _ (c.copied.ensures ∙ c.last.ensures.value ∙ last_got c.rows.result.now ∙ ap (last_or None) (c.rows.ensures ∙ opened.0)) c.in_ok-index.ensures.others can.image can.logged can.few in
    let files = c.in_ok-files.ensures.opened bodies held in
    record {
      site_is = refl;
      limit_is = refl;
      tables_are = refl;
      legal = c.requires.setup;
      files = files;
      rows = opened.0;
      held = record { index = c.in_ok-files.ensures.index ∙ opened.1; files = files.held };
    }
