use Rattle.std.proofs.Common.{◌∙◌, ◌++◌, ℕ, List, ap}
use Rattle.rb_base.specs.declared.site.SiteId.TheVariants.{A}
use Rattle.rb_base.specs.declared.schema.Schema.{Schema}
use Rattle.rb_text_defs.specs.Report.{log_lines, text_of_lines}
use Rattle.rb_play_defs.specs.Play.{shape_of, play, log_of, log_rows, tables_left}
use Rattle.rb_base.proofs.Results.{at_an_error}
use Rattle.rb_cluster.proofs.BeginLaws.{empty_is_image}
use Rattle.rb_cluster.proofs.Results.{err_anyway}
use Rattle.rb_top.proofs.Running.{one_log, part_of_any, report_is, whole_after}
use Rattle.rb_top.proofs.TableLaws.{text_of_tables, rows_left}
use Rattle.rb_top.proofs.run.run.Goals as goal

pub returns-in_err-text-clause-err : goal.returns-in_err-text-clause-err
returns-in_err-text-clause-err g c = at_an_error c.from_residual.result (part_of_any _ _ _ (empty_is_image A c.args.script.setup.a.limit _ c.requires.empty.0))

pub returns-in_err-put_log-clause-err : goal.returns-in_err-put_log-clause-err
returns-in_err-put_log-clause-err g c = err_anyway c.from_residual-in_err-put_log.result _ (λ fault. whole_after c.args.script c.in_ok-pair.pair _ c.in_ok-pair.ensures.played)

pub returns-in_err-put_tables-clause-err : goal.returns-in_err-put_tables-clause-err
returns-in_err-put_tables-clause-err g c = err_anyway c.from_residual-in_err-put_tables.result _ (λ fault. whole_after c.args.script c.in_ok-pair.pair _ c.in_ok-pair.ensures.played)

pub returns-in_err-extend_from_slice-clause-err : goal.returns-in_err-extend_from_slice-clause-err
returns-in_err-extend_from_slice-clause-err g c = err_anyway c.from_residual-in_err-extend_from_slice.result _ (λ fault. whole_after c.args.script c.in_ok-pair.pair _ c.in_ok-pair.ensures.played)

pub returns-clause-ok : goal.returns-clause-ok
returns-clause-ok g c =
    let setup = c.args.script.setup in
    let stands = c.in_ok-pair.ensures.played in
    let one = one_log c.args.script c.in_ok-pair.pair _ stands in
    let (site, limit) = c.site_a-site.ensures setup _ _ stands in
    let rows = c.tables.ensures (shape_of setup A) _ _ site in
    let journal = (play c.args.script).sites.a.journal in
    let tables = c.in_ok-put_tables.ensures journal (rows_left c.tables.result.now journal rows) ∙ ap (λ (schemas : List Schema). c.put_log.new.text.items ++ text_of_tables (tables_left schemas journal)) c.as_slice.ensures in
    (c.from_vec.ensures ∙ report_is c.args.script _ _ _ _ _ c.in_ok-text.ensures.items c.in_ok-pair.ensures.reported (c.in_ok-put_log.ensures (shape_of setup A) _ _ site ∙ ap (λ (limit : ℕ). c.play.new.text.items ++ text_of_lines (log_lines A (log_rows limit (log_of c.args.script)))) limit) tables c.in_ok-extend_from_slice.ensures.items, one)
