use Rattle.std.proofs.Common.{ℕ, List, ◌∙◌, subst}
use Rattle.std.specs.Io.KnownBytes.{Appends}
use Rattle.rb_io.specs.Prefix.{GrowsByPrefix}
use Rattle.rb_top.proofs.PrintLaws.{printed_whole, part_whole, err_leaves, sink_leaves, prefix_unprinted}
use Rattle.rb_top.proofs.read.print_end.Goals as goal

pub returns-in_err-line-clause-err : goal.returns-in_err-line-clause-err
returns-in_err-line-clause-err g c =
    err_leaves c.from_residual.result _ _ c.from_residual.ensures.1 (λ most read lo l ln ho reported consumed end. prefix_unprinted _ _ _ _ _ _ _ _ _ reported consumed)

pub returns-in_err-write_all-clause-err : goal.returns-in_err-write_all-clause-err
returns-in_err-write_all-clause-err g c =
    err_leaves c.from_residual-in_err-write_all.result _ _ c.from_residual-in_err-write_all.ensures.1 (λ most read lo l ln ho reported consumed end.
    sink_leaves _ _ _ _ _ c.in_err-write_all.field-0.0 (part_whole _ _ _ _ _ _ _ _ _ _ reported consumed end c.rest.ensures
    (subst (λ (t : List ℕ). GrowsByPrefix (g.O.Sink.held c.args.out.now) (g.O.Sink.held c.write_all.new.out) t) (c.as_slice.ensures ∙ c.in_ok-line.ensures) c.in_err-write_all.ensures.prefix)))

pub returns-clause-ok : goal.returns-clause-ok
returns-clause-ok g c = λ most read lo l ln ho reported consumed end.
    printed_whole _ _ _ _ _ _ _ _ _ _ reported consumed end c.rest.ensures
    (subst (λ (t : List ℕ). Appends (g.O.Sink.held c.args.out.now) (g.O.Sink.held c.write_all.new.out) t) (c.as_slice.ensures ∙ c.in_ok-line.ensures) c.in_ok-write_all.ensures.ok)
