use Rattle.std.proofs.Common.{◌≡◌, ◌<◌, ◌≤◌, ◌+◌, ℕ, Bool, true, false, cond, refl, ap, subst, ◌∙◌, arith}
use mir.Val.{bool_byte}
use Rattle.rb_base.proofs.Results.{at_an_error}
use Rattle.rb_inject.specs.Injector.{limit_of}
use Rattle.rb_play_defs.specs.Step.{written_bodies, with_all_taken}
use Rattle.rb_play_defs.specs.UnfinishedLog.{HoldsUnfinishedLog}
use Rattle.rb_cluster.specs.Taken.{log_of, HasTaken}
use Rattle.rb_cluster.proofs.EpochLaws.{turn_more, turn_rises, turn_few, turn_left, turn_ends}
use Rattle.rb_cluster.proofs.log.take_epochs.Goals as goal

pub take_next-requires : goal.take_next-requires
take_next-requires g c =
    let (shape, run, held) = c.requires.fits in
    let turning = c.loop-events.invariant.turning shape run held in
    record { fits = (shape, turning.now, turning.held) }

pub returns-in_err-next-clause-part : goal.returns-in_err-next-clause-part
returns-in_err-next-clause-part g c = at_an_error c.from_residual.result (λ shape run held.
    let turning = c.loop-events.invariant.turning shape run held in
    turn_left shape run c.loop-events.events c.loop-events.injector (g.D.LogDisk.seen c.loop-events.disk) (g.D.LogDisk.seen c.take_next.new.disk) c.loop-events.count (limit_of c.args.log.injector) turning
    (subst (λ (limit : ℕ). HoldsUnfinishedLog shape.site limit turning.now.written (written_bodies shape (with_all_taken shape turning.now)) (g.D.LogDisk.seen c.take_next.new.disk)) c.loop-events.invariant.limit
    (c.in_err-next.ensures.part shape turning.now turning.held)))

by_flag : (b : Bool) → bool_byte b ≡ cond b 1 0
by_flag true = refl
by_flag false = refl

pub overflow_add-count : goal.overflow_add-count
overflow_add-count g c =
    let (shape, run, held) = c.requires.fits in
    let few = turn_few shape run c.loop-events.events c.loop-events.injector (g.D.LogDisk.seen c.loop-events.disk) c.loop-events.count (c.loop-events.invariant.turning shape run held) in
    let flag = c.from-count.ensures in
    let one : bool_byte c.in-Some.logged ≤ 1 = at_most c.in-Some.logged in
    omega arith
  where
    at_most : (b : Bool) → bool_byte b ≤ 1
    at_most true = omega arith
    at_most false = omega arith

pub loop-events-smaller : goal.loop-events-smaller
loop-events-smaller g c =
    let (shape, run, held) = c.requires.fits in
    let turning = c.loop-events.invariant.turning shape run held in
    let rises = turn_rises shape run c.loop-events.events c.take_next.new.events c.loop-events.injector c.in_ok-next.next (g.D.LogDisk.seen c.loop-events.disk) (g.D.LogDisk.seen c.take_next.new.disk) c.loop-events.count c.in-Some.logged turning
    (subst (HasTaken shape turning.now (log_of c.take_next.new.events c.in_ok-next.next) (g.D.LogDisk.seen c.take_next.new.disk)) c.in-Some.is (c.in_ok-next.ensures.taken shape turning.now turning.held)) in
    let is = c.last-last.ensures in
    let fits : c.last-last.result.0 < 18446744073709551616 = c.last-last.type_inv.1.1.0.1 in
    omega arith

pub loop-events-preserved : goal.loop-events-preserved
loop-events-preserved g c = record {
  turning = λ shape run held.
      let turning = c.loop-events.invariant.turning shape run held in
      turn_more shape run c.loop-events.events c.take_next.new.events c.loop-events.injector c.in_ok-next.next (g.D.LogDisk.seen c.loop-events.disk) (g.D.LogDisk.seen c.take_next.new.disk) c.loop-events.count (c.loop-events.count + c.from-count.result) c.in-Some.logged turning
      (subst (HasTaken shape turning.now (log_of c.take_next.new.events c.in_ok-next.next) (g.D.LogDisk.seen c.take_next.new.disk)) c.in-Some.is (c.in_ok-next.ensures.taken shape turning.now turning.held))
      (ap (λ (n : ℕ). c.loop-events.count + n) (c.from-count.ensures ∙ by_flag c.in-Some.logged));
  limit = c.in_ok-next.ensures.limit ∙ c.loop-events.invariant.limit;
  later = (let a = c.loop-events.invariant.later in let b = c.in_ok-next.ensures.cause.later in omega arith);
}

pub returns-clause-taken : goal.returns-clause-taken
returns-clause-taken g c = λ shape run held.
    let turning = c.loop-events.invariant.turning shape run held in
    turn_ends shape run c.loop-events.events c.take_next.new.events c.loop-events.injector c.in_ok-next.next (g.D.LogDisk.seen c.loop-events.disk) (g.D.LogDisk.seen c.take_next.new.disk) c.loop-events.count turning
    (subst (HasTaken shape turning.now (log_of c.take_next.new.events c.in_ok-next.next) (g.D.LogDisk.seen c.take_next.new.disk)) c.in_default.is (c.in_ok-next.ensures.taken shape turning.now turning.held))
