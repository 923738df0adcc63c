use Rattle.std.proofs.Common.{◌≡◌, ℕ, ◌+◌, ◌-◌, ◌<◌, ◌≤◌, length, take, sym, ap, subst, arith}
use Rattle.std.specs.Prelude.{None}
use Rattle.std.specs.Io.KnownBytes.{Consumes}
use Rattle.std.proofs.lemmas.List.{length-take}
use Rattle.rb_top.proofs.PrintLaws.{err_leaves, printed_nothing, fed_so_far, part_unread, met_limit, recounted, at_ok, at_err}
use Rattle.rb_top.specs.ReadLoop.{LeavesReadingFault}
use Rattle.rb_top.specs.declared.fault.ReadLogFault.{ReadLogFault}
use Rattle.rb_top.proofs.read.read_by.Goals as goal
use Rattle.rb_top.proofs.read.read_by.Goals.{else-loop-test, then-loop-test+in_ok-count+else-count-eq0+else-read-most+in_ok-print_piece+else-counter-most}

pub loop-init : goal.loop-init
loop-init g c = record {
  reported = λ ho title. printed_nothing _ _ _ _ _ c.new-decoder.ensures title;
  later_in = omega arith;
  later_out = omega arith;
  turns = omega arith;
  within = omega arith;
  room = c.requires.room;
  few = c.requires.few;
}

pub returns-in_err-count-clause-err : goal.returns-in_err-count-clause-err
returns-in_err-count-clause-err g c =
    err_leaves c.from_residual.result _ _ c.from_residual.ensures.1 (λ ho title. part_unread _ _ _ _ _ _ _ _ (c.loop.invariant.reported ho title) c.in_err-count.ensures.kept)

pub returns-then-count-eq0-clause-ok : goal.returns-then-count-eq0-clause-ok
returns-then-count-eq0-clause-ok g c =
    let read = subst (λ (n : ℕ). Consumes (g.I.Source.left c.loop.source) (g.I.Source.left c.read_some.new.source) (take n c.read_some.new.piece)) c.if-count-eq0.true c.in_ok-count.ensures.bytes in
    at_ok c.print_end.result c.print_end.ensures.ok (λ reported ho title. reported _ _ _ _ _ ho (c.loop.invariant.reported ho title) read (c.in_ok-count.ensures.end c.if-count-eq0.true))

pub returns-then-count-eq0-clause-err : goal.returns-then-count-eq0-clause-err
returns-then-count-eq0-clause-err g c =
    let read = subst (λ (n : ℕ). Consumes (g.I.Source.left c.loop.source) (g.I.Source.left c.read_some.new.source) (take n c.read_some.new.piece)) c.if-count-eq0.true c.in_ok-count.ensures.bytes in
    at_err c.print_end.result _ _ c.print_end.ensures.err (λ fault left ho title. left _ _ _ _ _ ho (c.loop.invariant.reported ho title) read (c.in_ok-count.ensures.end c.if-count-eq0.true))

pub print_piece-requires-clause-fed : goal.print_piece-requires-clause-fed
print_piece-requires-clause-fed g c = fed_so_far _ _ _ _ _ _ _ (c.loop.invariant.reported None tt)

pub returns-then-read-most-clause-err : goal.returns-then-read-most-clause-err
returns-then-read-most-clause-err g c = λ ho title.
    let bound = c.in_ok-count.ensures.bound in
    let same = c.in_ok-count.ensures.length in
    let fits = c.asked-asked.ensures.fits in
    let some : 0 < length (take c.in_ok-count.count c.read_some.new.piece) = omega (arith, length-take c.in_ok-count.count c.read_some.new.piece) in
    subst (λ (fault : ReadLogFault). LeavesReadingFault c.args.most (g.I.Source.left c.args.source.now) (g.I.Source.left c.read_some.new.source) ho (g.O.Sink.held c.loop.out) fault) (sym c.goes_on.ensures)
    (met_limit _ _ _ _ _ _ _ _ _ (c.loop.invariant.reported ho title) c.if-read-most.true c.in_ok-count.ensures.bytes some)

pub returns-in_err-print_piece-clause-err : goal.returns-in_err-print_piece-clause-err
returns-in_err-print_piece-clause-err g c =
    let left : c.loop.read < c.args.most = omega arith in
    let asked : c.asked-asked.result ≤ c.args.most - c.loop.read = c.asked-asked.ensures.within (omega arith) in
    let bound = c.in_ok-count.ensures.bound in
    let within : c.loop.read + length (take c.in_ok-count.count c.read_some.new.piece) ≤ c.args.most = omega (arith, length-take c.in_ok-count.count c.read_some.new.piece) in
    err_leaves c.from_residual-in_err-print_piece.result _ _ c.from_residual-in_err-print_piece.ensures.1
    (λ ho title. c.in_err-print_piece.ensures.err c.args.most _ _ _ ho (c.loop.invariant.reported ho title) c.in_ok-count.ensures.bytes within)

pub loop-preserved : goal.loop-preserved
loop-preserved g c =
    let left : c.loop.read < c.args.most = omega arith in
    let asked : c.asked-asked.result ≤ c.args.most - c.loop.read = c.asked-asked.ensures.within (omega arith) in
    let bound = c.in_ok-count.ensures.bound in
    let same = c.in_ok-count.ensures.length in
    let fits = c.asked-asked.ensures.fits in
    let size : length (take c.in_ok-count.count c.read_some.new.piece) ≡ c.in_ok-count.count = omega (arith, length-take c.in_ok-count.count c.read_some.new.piece) in
    let within : c.loop.read + length (take c.in_ok-count.count c.read_some.new.piece) ≤ c.args.most = omega arith in
    record {
      reported = λ ho title.
          recounted _ _ _ _ _ _ _ _ (c.in_ok-print_piece.ensures.ok c.args.most _ _ _ ho (c.loop.invariant.reported ho title) c.in_ok-count.ensures.bytes within) (ap (λ (n : ℕ). c.loop.read + n) size);
      later_in = omega arith;
      later_out = omega arith;
      turns = omega arith;
      within = omega arith;
      room = omega arith;
      few = omega arith;
    }

pub returns-clause-err : goal.returns-clause-err
returns-clause-err g c = elim c.loop-test.branch [
  | else-loop-test w ↦ absurd (omega arith)
  | then-loop-test+in_ok-count+else-count-eq0+else-read-most+in_ok-print_piece+else-counter-most w ↦
      let left : c.loop.read < c.args.most = omega arith in
      let bound = w.in_ok-count.ensures.bound in
      let asked : w.asked-asked.result ≤ c.args.most - c.loop.read = w.asked-asked.ensures.within (omega arith) in
      absurd (omega arith)
]
