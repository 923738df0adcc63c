use Rattle.std.proofs.Common.{◌∙◌, subst, sym}
use Rattle.rb_base.proofs.Results.{at_an_error}
use Rattle.rb_device_defs.specs.Index.{IsIndexImage}
use Rattle.rb_index.proofs.ImageLaws.{by_fault, close_torn, gate_closed}
use Rattle.rb_index.proofs.index.close_gate.Goals as goal

pub returns-in_err-write_at-clause-kept : goal.returns-in_err-write_at-clause-kept
returns-in_err-write_at-clause-kept g c = at_an_error c.from_residual.result (λ rows is image.
    by_fault c.in_err-write_at.field-0.0 c.in_err-write_at.ensures.torn c.in_err-write_at.ensures.memory
    (λ torn. close_torn rows c.args.gate _ _ is c.requires.short image torn)
    (λ same. subst (IsIndexImage rows) (sym same) image))

pub returns-clause-closed : goal.returns-clause-closed
returns-clause-closed g c = λ rows is image. c.in_ok-sync.ensures.same 0 ∙ gate_closed rows c.args.gate _ _ is c.requires.short image c.in_ok-write_at.ensures.written
