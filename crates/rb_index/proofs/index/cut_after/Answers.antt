use Rattle.std.proofs.Common.{◌∙◌, subst, sym, arith}
use Rattle.rb_device_defs.specs.Index.{IsIndexImage}
use Rattle.rb_index.proofs.ImageLaws.{by_fault, cut_short, cut_off}
use Rattle.rb_index.proofs.index.cut_after.Goals as goal

pub returns-in_err-cut-clause-kept : goal.returns-in_err-cut-clause-kept
returns-in_err-cut-clause-kept g c = λ rows is image.
    by_fault c.in_err-cut.field-0.0 c.in_err-cut.ensures.short c.in_err-cut.ensures.memory
    (λ short. cut_short rows c.args.gate _ _ is image short)
    (λ same. subst (IsIndexImage rows) (sym same) image)

pub returns-in_err-sync-clause-kept : goal.returns-in_err-sync-clause-kept
returns-in_err-sync-clause-kept g c = λ rows is image.
    cut_off rows c.args.gate _ _ is image (omega (arith, c.len.ensures)) (c.in_err-sync.ensures.same 0 ∙ c.in_ok-cut.ensures.cut)

pub returns-clause-kept : goal.returns-clause-kept
returns-clause-kept g c = λ rows is image.
    cut_off rows c.args.gate _ _ is image (omega (arith, c.len.ensures)) (c.in_ok-sync.ensures.same 0 ∙ c.in_ok-cut.ensures.cut)
