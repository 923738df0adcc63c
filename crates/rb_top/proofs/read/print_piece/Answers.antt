use Rattle.std.proofs.Common.{ℕ, List, ◌++◌, refl, subst, arith, length-append}
use Rattle.std.specs.Io.KnownBytes.{Appends}
use Rattle.rb_io.specs.Prefix.{GrowsByPrefix}
use Rattle.rb_top.proofs.PrintLaws.{err_leaves, sink_leaves, prefix_unprinted, part_written, fed_piece, printed_on, met_bad}
use Rattle.rb_top.proofs.read.print_piece.Goals as goal

pub returns-in_err-feed-clause-err : goal.returns-in_err-feed-clause-err
returns-in_err-feed-clause-err g c =
    err_leaves c.from_residual.result _ _ c.from_residual.ensures.1 (λ most lo l ln ho reported read within. prefix_unprinted _ _ _ _ _ _ _ _ _ reported read)

pub take_steps-requires : goal.take_steps-requires
take_steps-requires g c =
    let (bytes, passed, stands, is) = c.requires.fed in
    let l = length-append bytes c.args.piece.now in
    record { fed = (bytes ++ c.args.piece.now, passed, c.in_ok-feed.ensures.ok 0 bytes passed stands, omega arith) }

pub returns-in_err-bad-clause-err : goal.returns-in_err-bad-clause-err
returns-in_err-bad-clause-err g c =
    err_leaves c.from_residual-in_err-bad.result _ _ c.from_residual-in_err-bad.ensures.1 (λ most lo l ln ho reported read within. prefix_unprinted _ _ _ _ _ _ _ _ _ reported read)

pub returns-in_err-write_all-clause-err : goal.returns-in_err-write_all-clause-err
returns-in_err-write_all-clause-err g c =
    err_leaves c.from_residual-in_err-write_all.result _ _ c.from_residual-in_err-write_all.ensures.1 (λ most lo l ln ho reported read within.
    sink_leaves _ _ _ _ _ c.in_err-write_all.field-0.0 (part_written _ _ _ _ _ _ _ _ _ _ _ _ _
    (fed_piece _ _ _ _ _ _ _ _ _ _ _ _ _ _ _ reported read within c.clear.ensures.items c.in_ok-feed.ensures.ok c.in_ok-bad.ensures refl)
    (subst (λ (t : List ℕ). GrowsByPrefix (g.O.Sink.held c.args.out.now) (g.O.Sink.held c.write_all.new.out) t) c.deref.ensures.value c.in_err-write_all.ensures.prefix)))

pub returns-in-Some-clause-err : goal.returns-in-Some-clause-err
returns-in-Some-clause-err g c = λ most lo l ln ho reported read within.
    met_bad _ _ _ _ _ _ _ _ _ _ _ _ _ _ (fed_piece _ _ _ _ _ _ _ _ _ _ _ _ _ _ _ reported read within c.clear.ensures.items c.in_ok-feed.ensures.ok c.in_ok-bad.ensures c.in-Some.is)
    (subst (λ (t : List ℕ). Appends (g.O.Sink.held c.args.out.now) (g.O.Sink.held c.write_all.new.out) t) c.deref.ensures.value c.in_ok-write_all.ensures.ok)

pub returns-in-None-clause-ok : goal.returns-in-None-clause-ok
returns-in-None-clause-ok g c = λ most lo l ln ho reported read within.
    printed_on _ _ _ _ _ _ _ _ _ _ _ _ (fed_piece _ _ _ _ _ _ _ _ _ _ _ _ _ _ _ reported read within c.clear.ensures.items c.in_ok-feed.ensures.ok c.in_ok-bad.ensures c.in-None.is)
    (subst (λ (t : List ℕ). Appends (g.O.Sink.held c.args.out.now) (g.O.Sink.held c.write_all.new.out) t) c.deref.ensures.value c.in_ok-write_all.ensures.ok)
