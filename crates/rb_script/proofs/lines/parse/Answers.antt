use Rattle.std.proofs.Common.{◌∙◌, sym, ap, arith, take, map, eqb-true, Err}
use Rattle.std.proofs.lemmas.Result.{err_from_is_err_and}
use Rattle.rb_text_defs.specs.Words.{lines_of}
use Rattle.rb_text_defs.specs.Form.{reading_of}
use Rattle.rb_script.proofs.RunLaws.{bad_handed_on, one_more_read, refused_here, script_of_bad, script_of_many, script_of_read}
use Rattle.rb_script.proofs.lines.parse.Goals as goal

pub returns-then-bytes-gt-MOST_SCRIPT_BYTES-clause-bad : goal.returns-then-bytes-gt-MOST_SCRIPT_BYTES-clause-bad
returns-then-bytes-gt-MOST_SCRIPT_BYTES-clause-bad c = script_of_many c.args.bytes.now (omega arith)

pub returns-in_err-add_line-clause-bad : goal.returns-in_err-add_line-clause-bad
returns-in_err-add_line-clause-bad c =
    let readings = take c.loop-rest.before.lines (map reading_of (lines_of c.args.bytes.now)) in
    let handed = err_from_is_err_and c.from_residual.result c.from_residual.ensures.1 in
    bad_handed_on (Unit {0}) c.from_residual.result c.in_err-add_line.field-0.0 _ _ (handed.1 ∙ ap Err handed.2) c.in_err-add_line.ensures.bad
    (λ line kind is. script_of_bad c.args.bytes.now (record { line = line; kind = kind }) (omega arith)
    (refused_here c.args.bytes.now c.loop-rest.before c.loop-rest.rest.now c.first_line.result.0.now c.first_line.result.1.now (record { line = line; kind = kind }) c.loop-rest.invariant c.first_line.ensures.lines (is readings c.loop-rest.invariant.summary)))

pub loop-rest-preserved : goal.loop-rest-preserved
loop-rest-preserved c =
    let readings = take c.loop-rest.before.lines (map reading_of (lines_of c.args.bytes.now)) in
    one_more_read c.args.bytes.now c.loop-rest.before c.loop-rest.rest.now c.first_line.result.0.now c.first_line.result.1.now c.add_line.new.before c.loop-rest.invariant c.first_line.ensures.lines
    c.in_ok-add_line.ensures.lines (c.in_ok-add_line.ensures.fine readings c.loop-rest.invariant.summary) (c.in_ok-add_line.ensures.summary readings c.loop-rest.invariant.summary)

pub returns-clause-ok : goal.returns-clause-ok
returns-clause-ok c =
    script_of_read c.args.bytes.now c.loop-rest.before c.loop-rest.rest.now c.into_script.result (omega arith) c.loop-rest.invariant (eqb-true _ 0 (sym c.loop-rest-test.ensures)) c.into_script.ensures
