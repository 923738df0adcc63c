use Rattle.std.proofs.Common.{◌≡◌, ◌*◌, length, arith, subst, sym}
use Rattle.rb_base.proofs.Results.{at_an_error}
use Rattle.rb_device_defs.specs.Index.{IsIndexImage, open_records}
use Rattle.rb_index.proofs.ImageLaws.{length_open}
use Rattle.rb_index.proofs.index.EpochIndex.recover.Goals as goal

pub returns-in_err-cut_after-clause-kept : goal.returns-in_err-cut_after-clause-kept
returns-in_err-cut_after-clause-kept g c = at_an_error c.from_residual-in_err-cut_after.result (λ rows image.
    let count = c.in_ok-rows.ensures.count rows image in
    let gate : length (open_records rows) ≡ c.len.result * 65 = omega (arith, length_open rows, count, c.len.ensures) in
    c.in_err-cut_after.ensures.kept rows gate (subst (IsIndexImage rows) (sym (c.in_ok-rows.ensures.same 0)) image))

pub returns-in_err-close_gate-clause-kept : goal.returns-in_err-close_gate-clause-kept
returns-in_err-close_gate-clause-kept g c = at_an_error c.from_residual-in_err-close_gate.result (λ rows image.
    let count = c.in_ok-rows.ensures.count rows image in
    let gate : length (open_records rows) ≡ c.len.result * 65 = omega (arith, length_open rows, count, c.len.ensures) in
    c.in_err-close_gate.ensures.kept rows gate (c.in_ok-cut_after.ensures.kept rows gate (subst (IsIndexImage rows) (sym (c.in_ok-rows.ensures.same 0)) image)))

pub returns-clause-recovered : goal.returns-clause-recovered
returns-clause-recovered g c = λ rows image room.
    let count = c.in_ok-rows.ensures.count rows image in
    let gate : length (open_records rows) ≡ c.len.result * 65 = omega (arith, length_open rows, count, c.len.ensures) in
    (c.in_ok-rows.ensures.taken rows image room, c.in_ok-close_gate.ensures.closed rows gate (c.in_ok-cut_after.ensures.kept rows gate (subst (IsIndexImage rows) (sym (c.in_ok-rows.ensures.same 0)) image)))
