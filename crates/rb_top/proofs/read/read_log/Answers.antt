use Rattle.std.proofs.Common.{ap, Err}
use Rattle.rb_top.proofs.PrintLaws.{err_leaves, sink_leaves, title_part, no_part, at_ok, at_err, not_read, was_write, rose_later}
use Rattle.rb_top.proofs.read.read_log.Goals as goal

pub returns-in_err-piece-clause-err : goal.returns-in_err-piece-clause-err
returns-in_err-piece-clause-err g c = err_leaves c.from_residual.result _ _ c.from_residual.ensures.1 (no_part _ _ _)

pub returns-in_err-write_all-clause-err : goal.returns-in_err-write_all-clause-err
returns-in_err-write_all-clause-err g c =
    err_leaves c.from_residual-in_err-write_all.result _ _ c.from_residual-in_err-write_all.ensures.1 (sink_leaves _ _ _ _ _ c.in_err-write_all.field-0.0 (title_part _ _ _ _ c.in_err-write_all.ensures.prefix))

pub returns-in_err-write_all-clause-read_fault : goal.returns-in_err-write_all-clause-read_fault
returns-in_err-write_all-clause-read_fault g c = λ of. absurd (not_read c.from_residual-in_err-write_all.result c.in_err-write_all.field-0.0 c.from_residual-in_err-write_all.ensures.1 of)

pub returns-in_err-write_all-clause-write_fault : goal.returns-in_err-write_all-clause-write_fault
returns-in_err-write_all-clause-write_fault g c = λ of. c.in_err-write_all.ensures.failed (ap Err (was_write c.from_residual-in_err-write_all.result c.in_err-write_all.field-0.0 c.from_residual-in_err-write_all.ensures.1 of))

pub returns-clause-ok : goal.returns-clause-ok
returns-clause-ok g c = at_ok c.read_by.result c.read_by.ensures.ok (λ reported. reported _ c.in_ok-write_all.ensures.ok)

pub returns-clause-err : goal.returns-clause-err
returns-clause-err g c = at_err c.read_by.result _ _ c.read_by.ensures.err (λ fault left. left _ c.in_ok-write_all.ensures.ok)

pub returns-clause-write_fault : goal.returns-clause-write_fault
returns-clause-write_fault g c = λ of. rose_later _ _ _ c.in_ok-write_all.ensures.later (c.read_by.ensures.write_fault of)
