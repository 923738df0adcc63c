use Rattle.std.proofs.Common.{◌∙◌, ◌++◌, ◌∷◌, ◌≤◌, [], List, ℕ, sym, ap, subst, refl, arith}
use Rattle.std.specs.Prelude.{Err}
use Rattle.std.proofs.lemmas.List.{nil_from_length}
use Rattle.std.proofs.lemmas.Result.{err_from_is_err_and}
use Rattle.rb_text_defs.specs.declared.script.Script.{Script}
use Rattle.rb_text_defs.specs.declared.script.LinedEvent.{LinedEvent}
use Rattle.rb_base.proofs.Results.{at_an_error}
use Rattle.rb_cluster.proofs.Results.{err_anyway}
use Rattle.rb_play_defs.specs.Play.{play_of}
use Rattle.rb_top.proofs.Running.{part_of_any, played_whole, room_for, starts, stopped_in, stopped_after, played_more, text_more, printed_nothing, whole_more, begins_when_empty, cause_later}
use Rattle.rb_top.proofs.play.play.Goals as goal

pub create-requires : goal.create-requires
create-requires g c = record { legal = c.requires.legal.setup }

pub returns-in_err-pair-clause-stopped : goal.returns-in_err-pair-clause-stopped
returns-in_err-pair-clause-stopped g c =
    at_an_error c.from_residual.result (part_of_any _ _ _ (c.in_err-pair.ensures.stopped c.requires.empty))

pub returns-in_err-pair-clause-never_not_empty : goal.returns-in_err-pair-clause-never_not_empty
returns-in_err-pair-clause-never_not_empty g c =
    let p = err_from_is_err_and c.from_residual.result c.from_residual.ensures.1 in
    begins_when_empty c.create.result c.from_residual.result _ _ _ c.in_err-pair.was (p.1 ∙ ap Err p.2) c.requires.empty c.create.ensures.not_empty

pub returns-in_err-after-clause-cause : goal.returns-in_err-after-clause-cause
returns-in_err-after-clause-cause g c =
    let p = err_from_is_err_and c.from_residual-in_err-after.result c.from_residual-in_err-after.ensures.1 in
    let before : g.D.LogDisk.fault_count c.args.disk_a.now ≤ g.D.LogDisk.fault_count c.loop-lined.disk_a = omega (arith, c.create.ensures.cause.later, c.loop-lined.invariant.later) in
    cause_later _ _ _ c.step.result c.from_residual-in_err-after.result _ c.in_err-after.was (p.1 ∙ ap Err p.2) before c.step.ensures.cause

pub loop-lined-init : goal.loop-lined-init
loop-lined-init g c =
    record {
      whole = sym (c.into_iter-lined-iterator.ensures.into_iter_gives.0 ∙ c.into_vec-lined-items.ensures);
      stands = starts c.args.setup.now _ _ c.in_ok-pair.ensures.begun c.in_ok-pair.ensures.counts;
      reported = printed_nothing c.args.setup.now c.args.text.now.items;
      other = refl;
      later = omega arith;
    }

pub step-requires-clause-room : goal.step-requires-clause-room
step-requires-clause-room g c = λ κs within.
    let setup = c.args.setup.now in
    let script : Script = record { setup = setup; events = c.args.events } in
    let before = c.loop-lined.invariant in
    let whole = before.whole ∙ ap (λ (events : List LinedEvent). c.loop-lined.yielded ++ events) c.in-Some.ensures.steps.0 in
    (setup, (play_of setup c.loop-lined.yielded).sites, before.stands.stands, room_for script c.loop-lined.pair _ c.loop-lined.yielded c.in-Some.lined c.next.new.self.rest.items c.requires.legal whole before.stands)

pub returns-in_err-after-clause-stopped : goal.returns-in_err-after-clause-stopped
returns-in_err-after-clause-stopped g c =
    let setup = c.args.setup.now in
    let script : Script = record { setup = setup; events = c.args.events } in
    let before = c.loop-lined.invariant in
    let room = room_for script c.loop-lined.pair _ c.loop-lined.yielded c.in-Some.lined c.next.new.self.rest.items c.requires.legal (before.whole ∙ ap (λ (events : List LinedEvent). c.loop-lined.yielded ++ events) c.in-Some.ensures.steps.0) before.stands in
    at_an_error c.from_residual-in_err-after.result (stopped_in script c.loop-lined.pair _ _ c.loop-lined.yielded c.in-Some.lined c.next.new.self.rest.items
    (whole_more c.args.events c.loop-lined.yielded _ _ c.in-Some.lined before.whole c.in-Some.ensures.steps.0) before.stands
    (c.in_err-after.ensures.stopped setup (play_of setup c.loop-lined.yielded).sites before.stands.stands room))

pub returns-in_err-put_answer-clause-stopped : goal.returns-in_err-put_answer-clause-stopped
returns-in_err-put_answer-clause-stopped g c =
    let setup = c.args.setup.now in
    let script : Script = record { setup = setup; events = c.args.events } in
    let before = c.loop-lined.invariant in
    let whole = whole_more c.args.events c.loop-lined.yielded _ _ c.in-Some.lined before.whole c.in-Some.ensures.steps.0 in
    let room = room_for script c.loop-lined.pair _ c.loop-lined.yielded c.in-Some.lined c.next.new.self.rest.items c.requires.legal (before.whole ∙ ap (λ (events : List LinedEvent). c.loop-lined.yielded ++ events) c.in-Some.ensures.steps.0) before.stands in
    let played = c.in_ok-after.ensures.played setup (play_of setup c.loop-lined.yielded).sites before.stands.stands room in
    err_anyway c.from_residual-in_err-put_answer.result _ (λ fault. stopped_after script c.in_ok-after.after _ (c.loop-lined.yielded ++ c.in-Some.lined ∷ []) c.next.new.self.rest.items whole
    (played_more setup c.loop-lined.yielded c.in-Some.lined c.loop-lined.pair c.in_ok-after.after _ _ before.stands played.0 c.in_ok-after.ensures.counts).stands)

pub loop-lined-preserved : goal.loop-lined-preserved
loop-lined-preserved g c =
    let setup = c.args.setup.now in
    let script : Script = record { setup = setup; events = c.args.events } in
    let before = c.loop-lined.invariant in
    let room = room_for script c.loop-lined.pair _ c.loop-lined.yielded c.in-Some.lined c.next.new.self.rest.items c.requires.legal (before.whole ∙ ap (λ (events : List LinedEvent). c.loop-lined.yielded ++ events) c.in-Some.ensures.steps.0) before.stands in
    let played = c.in_ok-after.ensures.played setup (play_of setup c.loop-lined.yielded).sites before.stands.stands room in
    record {
      whole = whole_more c.args.events c.loop-lined.yielded _ _ c.in-Some.lined before.whole c.in-Some.ensures.steps.0;
      stands = played_more setup c.loop-lined.yielded c.in-Some.lined c.loop-lined.pair c.in_ok-after.after _ _ before.stands played.0 c.in_ok-after.ensures.counts;
      reported = c.in_ok-put_answer.ensures ∙ text_more setup c.loop-lined.yielded c.in-Some.lined c.in_ok-after.outcome c.args.text.now.items _ played.1 before.reported;
      other = c.step.ensures.other_device ∙ before.other;
      later = omega (arith, before.later, c.step.ensures.cause.later);
    }

pub returns-clause-played : goal.returns-clause-played
returns-clause-played g c = played_whole c.args.setup.now c.args.events c.loop-lined.yielded _ c.loop-lined.pair _ c.loop-lined.invariant.whole (nil_from_length _ (sym c.loop-lined.lined-iterator.rest.ok.0 ∙ c.in-None.ensures.steps.0)) c.loop-lined.invariant.stands
