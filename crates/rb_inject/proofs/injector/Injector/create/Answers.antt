use Rattle.std.proofs.Common.{ℕ, List, [], refl, sym, subst, ◌∙◌, arith}
use Rattle.rb_base.proofs.Results.{at_an_error}
use Rattle.rb_device_defs.specs.Index.{IsIndexImage}
use Rattle.rb_device_defs.proofs.ImageLaws.{index_is_image, image_of_none}
use Rattle.rb_inject.proofs.LogLaws.{begun}
use Rattle.rb_inject.proofs.injector.Injector.create.Goals as goal

pub returns-in_err-index-clause-stopped : goal.returns-in_err-index-clause-stopped
returns-in_err-index-clause-stopped g c = at_an_error c.from_residual.result (λ empty. image_of_none c.args.site c.args.limit _ c.in_err-index.ensures.kept)

pub returns-in_err-files-clause-stopped : goal.returns-in_err-files-clause-stopped
returns-in_err-files-clause-stopped g c = at_an_error c.from_residual-in_err-files.result (λ empty. image_of_none c.args.site c.args.limit _
    (subst (λ (file : List ℕ). IsIndexImage [] file) (sym (c.in_err-files.ensures.others 0 (λ zero. omega (arith, zero)) ∙ c.in_ok-index.ensures.begun.1)) (index_is_image [])))

pub returns-clause-created : goal.returns-clause-created
returns-clause-created g c = begun _ _ _ refl refl refl c.requires.setup c.in_ok-index.ensures.begun.0 (c.in_ok-files.ensures.others 0 (λ zero. omega (arith, zero)) ∙ c.in_ok-index.ensures.begun.1) c.in_ok-files.ensures.begun
