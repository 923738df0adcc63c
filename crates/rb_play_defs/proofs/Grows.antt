-- The growth of a run: the site stays sound, and its log only gets longer.
use Rattle.std.proofs.Common.{◌≡◌, ℕ, zero, suc, ◌+◌, ◌≤◌, Bool, true, false, List, [], ◌∷◌, ◌++◌, length, take, drop, fold, refl, sym, ap, subst, ◌∙◌, arith, append_assoc}
use Rattle.std.specs.Prelude.{if◌then◌else◌, Option, Some, None}
use Rattle.std.specs.List.{slice_get}
use Rattle.std.specs.Option.{option_map_or}
use Rattle.std.proofs.lemmas.List.{append-nil, take-append-le, take-append-drop, length-map}
use Rattle.std.proofs.lemmas.List.Sums.{fold-append}
use Rattle.rb_base.specs.declared.message.Sent.{Sent}
use Rattle.rb_base.specs.declared.outcome.Outcome.TheVariants as outcomes
use Rattle.rb_base.specs.declared.body.EpochBody.{EpochBody}
use Rattle.rb_base.specs.declared.script.ClientOp.{ClientOp}
use Rattle.rb_text_defs.specs.declared.script.LinedEvent.{LinedEvent}
use Rattle.rb_journal_defs.specs.Body.{Shape, body_of, completed_bodies}
use Rattle.rb_journal_defs.specs.Transaction.{Refusal, refusal_of}
use Rattle.rb_journal_defs.proofs.Bodies.{if_logged, completed_entered, completed_closed}
use Rattle.rb_message_defs.specs.Received.{answer_to}
use Rattle.rb_play_defs.specs.Step.{Progress, unchanged, refused, rows_of, entered, tx_entry, committed, commit_outcome, tx_step, closed, close_step, fed_by, delivered_message, answer_outcome, deliver_step, undelivered, after_delivery, all_delivered, delivery_of_all, deliver_all_step, StepResult, needed_of, takeover_step, loss_step, fail_step, restart_step, resend_step, injector_step, unless_lost, takeable, with_all_taken, injected, injection_of, inject_step, site_step, written_bodies, with_taken}
use Rattle.rb_play_defs.specs.Sound.{IsSound}
use Rattle.rb_play_defs.specs.declared.event.SiteEvent.{SiteEvent}
use Rattle.rb_play_defs.specs.declared.event.SiteEvent.TheVariants as happenings
use Rattle.rb_base.specs.declared.site.SiteId.{SiteId}
use Rattle.rb_base.specs.declared.site.SiteId.TheVariants.{A, B}
use Rattle.rb_base.specs.declared.script.Setup.{Setup}
use Rattle.rb_journal_defs.specs.Journal.{Entry}
use Rattle.rb_journal_defs.specs.Order.{AddsTo, HasAuthors}
use Rattle.rb_message_defs.specs.Nodes.{node_at, successor_of, with_restart}
use Rattle.rb_play_defs.specs.Play.{HasBuckets, setup_at, shape_of, Sites, progress_at, after_steps, beginnings, Played, played_on, not_played, play_of}
use Rattle.rb_play_defs.proofs.Along.{along_site, steps_at_site}
use Rattle.rb_play_defs.proofs.Sounds.{closed_all_below, sound_beginning, sound_entered, tx_authors, sound_commit, sound_close, sound_fail, sound_restart, sound_resend}
use Rattle.rb_play_defs.proofs.Restarts.{sound_injector}
use Rattle.rb_play_defs.proofs.Takes.{sound_delivered, sound_taken, sound_injected, takeable_rest, taken_more, taken_end, written_is, written_more}

-- the list `whole` begins with the list `first`
pub record Begins (first whole : List EpochBody) : Type 0 where
  pub rest : List EpochBody
  pub whole_is : whole ≡ first ++ rest

pub begins_self : (bodies : List EpochBody) → Begins bodies bodies
begins_self bodies = record { rest = []; whole_is = sym (append-nil bodies) }

pub begins_then : (a b c : List EpochBody) → Begins a b → Begins b c → Begins a c
begins_then a b c first second = record {
  rest = first.rest ++ second.rest;
  whole_is = second.whole_is ∙ ap (λ (bs : List EpochBody). bs ++ second.rest) first.whole_is ∙ append_assoc a first.rest second.rest;
}

begins_same : (a b : List EpochBody) → b ≡ a → Begins a b
begins_same a b same = subst (Begins a) (sym same) (begins_self a)

-- the effect of an event: the site stays sound, and its log begins with the log before
pub record Goes (shape : Shape) (run next : Progress) : Type 0 where
  pub sound : IsSound shape next
  pub grows : Begins (written_bodies shape run) (written_bodies shape next)

goes_self : (shape : Shape) (run : Progress) → IsSound shape run → Goes shape run run
goes_self shape run sound = record { sound = sound; grows = begins_self (written_bodies shape run) }

goes_then : (shape : Shape) (a b c : Progress) → Goes shape a b → Goes shape b c → Goes shape a c
goes_then shape a b c first second = record { sound = second.sound; grows = begins_then (written_bodies shape a) (written_bodies shape b) (written_bodies shape c) first.grows second.grows }

-- at most all completed bodies are logged
pub written_within : (shape : Shape) (run : Progress) → IsSound shape run → run.written ≤ length (completed_bodies shape run.journal)
written_within shape run sound = length_of_take run.written (completed_bodies shape run.journal) (ap length (written_is shape run sound) ∙ length-map _ _ ∙ sym sound.written)
  where
    length_of_take : (n : ℕ) (xs : List EpochBody) → length (take n xs) ≡ n → n ≤ length xs
    length_of_take zero xs same = omega arith
    length_of_take (suc n) [] same = absurd (omega arith)
    length_of_take (suc n) (x ∷ xs) same = let h : n ≤ length xs = length_of_take n xs (let s = same in omega arith) in omega arith

-- a new entry of the open epoch
goes_entered : (shape : Shape) (entry : Entry) (run : Progress) → AddsTo run.opened entry → HasAuthors shape.site entry → IsSound shape run → Goes shape run (entered shape entry run)
goes_entered shape entry run adds authors sound = record {
  sound = sound_entered shape entry run adds authors sound;
  grows = begins_same (written_bodies shape run) (written_bodies shape (entered shape entry run)) (ap (take run.written) (completed_entered shape run.opened entry run.journal adds (closed_all_below run.opened run.journal sound.order)));
}

goes_commit : (shape : Shape) (operations : List ClientOp) (run : Progress) → IsSound shape run → Goes shape run (committed shape operations run)
goes_commit shape operations run sound = record {
  sound = sound_commit shape operations run sound;
  grows = (goes_entered shape (tx_entry shape operations run) run refl (tx_authors shape operations run) sound).grows;
}

goes_tx : (shape : Shape) (operations : List ClientOp) (run : Progress) → IsSound shape run → Goes shape run (tx_step shape operations run).run
unfolding tx_step
goes_tx shape operations run sound = go (refusal_of (rows_of run) operations)
  where
    go : (x : Option Refusal) → Goes shape run (option_map_or (λ refusal. unchanged run (refused refusal)) x (record { run = committed shape operations run; outcome = commit_outcome (committed shape operations run) })).run
    go None = goes_commit shape operations run sound
    go (Some refusal) = goes_self shape run sound

goes_close : (shape : Shape) (gci : Bool) (run : Progress) → IsSound shape run → Goes shape run (closed shape gci run)
goes_close shape gci run sound =
    let more = completed_closed shape run.opened run.journal in record {
      sound = sound_close shape gci run sound;
      grows = begins_same (written_bodies shape run) (written_bodies shape (closed shape gci run))
          (ap (take run.written) more ∙ take-append-le run.written (completed_bodies shape run.journal) (if_logged (body_of shape run.opened run.journal)) (written_within shape run sound));
    }

goes_deliver : (shape : Shape) (place : ℕ) (run : Progress) → IsSound shape run → Goes shape run (deliver_step shape place run).run
unfolding deliver_step
goes_deliver shape place run sound = go (slice_get run.sent place) refl
  where
    go : (x : Option Sent) → slice_get run.sent place ≡ x → Goes shape run (option_map_or (λ sent. record { run = delivered_message place sent.message run; outcome = answer_outcome (answer_to (fed_by shape run) sent.message) }) x (unchanged run (outcomes.NoMessage place (length run.sent)))).run
    go None q = goes_self shape run sound
    go (Some sent) q = record { sound = sound_delivered shape place run sent sound q; grows = begins_self (written_bodies shape run) }

goes_all : (shape : Shape) (places : List ℕ) (run : Progress) → IsSound shape run → Goes shape run (all_delivered shape places run)
goes_all shape [] run sound = goes_self shape run sound
goes_all shape (place ∷ places) run sound =
    let one = goes_deliver shape place run sound in
    goes_then shape run (after_delivery shape run place) (all_delivered shape (place ∷ places) run) one (goes_all shape places (after_delivery shape run place) one.sound)

pub goes_delivery : (shape : Shape) (run : Progress) → IsSound shape run → Goes shape run (delivery_of_all shape run).run
unfolding delivery_of_all
goes_delivery shape run sound = goes_all shape (undelivered run) run sound

pub goes_taken : (shape : Shape) (run : Progress) (es : List ℕ) → IsSound shape run → takeable shape run ≡ es → Goes shape run (with_all_taken shape run)
goes_taken shape run [] sound same = subst (Goes shape run) (sym (taken_end shape run same)) (goes_self shape run sound)
goes_taken shape run (e ∷ rest) sound same =
    let next = sound_taken shape run e rest sound same in
    let one : Goes shape run (with_taken shape run e) = record { sound = next; grows = record { rest = if_logged (body_of shape e run.journal); whole_is = written_more shape run e rest sound same } } in
    subst (Goes shape run) (sym (taken_more shape run e rest sound same))
    (goes_then shape run (with_taken shape run e) (with_all_taken shape (with_taken shape run e)) one (goes_taken shape (with_taken shape run e) rest next (takeable_rest shape run e rest sound same)))

pub goes_injected : (shape : Shape) (run : Progress) → IsSound shape run → Goes shape run (injected shape run)
goes_injected shape run sound =
    let taken = goes_taken shape run (takeable shape run) sound refl in
    record { sound = sound_injected shape run sound; grows = taken.grows }

pub goes_injection : (shape : Shape) (run : Progress) → IsSound shape run → Goes shape run (injection_of shape run).run
unfolding injection_of
goes_injection shape run sound = goes_injected shape run sound

-- the failure or the restart of a node, and a resend
goes_fail : (shape : Shape) (node : ℕ) (run : Progress) → IsSound shape run → Goes shape run (fail_step shape node run).run
unfolding fail_step
goes_fail shape node run sound = record { sound = sound_fail shape node run sound; grows = go (node_at run.nodes node).up (successor_of run.nodes (needed_of run) node) }
  where
    go : (up : Bool) (successor : Option ℕ) → Begins (written_bodies shape run) (written_bodies shape (if up then option_map_or (λ other. takeover_step shape node other run) successor (loss_step shape node run) else unchanged run (outcomes.NodeDown node)).run)
    go true None = begins_self (written_bodies shape run)
    go true (Some other) = begins_self (written_bodies shape run)
    go false successor = begins_self (written_bodies shape run)

goes_restart : (shape : Shape) (node : ℕ) (run : Progress) → IsSound shape run → Goes shape run (restart_step node run).run
unfolding restart_step
goes_restart shape node run sound = record { sound = sound_restart shape node run sound; grows = go (node_at run.nodes node).up }
  where
    go : (up : Bool) → Begins (written_bodies shape run) (written_bodies shape (if up then unchanged run (outcomes.NodeUp node) else record { run = record run { nodes = with_restart node run.opened run.nodes }; outcome = outcomes.Restarted (record { 0 = run.opened + 1 }) }).run)
    go true = begins_self (written_bodies shape run)
    go false = begins_self (written_bodies shape run)

goes_resend : (shape : Shape) (run : Progress) → IsSound shape run → Goes shape run (resend_step shape run).run
unfolding resend_step
goes_resend shape run sound = record { sound = sound_resend shape run sound; grows = begins_self (written_bodies shape run) }

-- the restart of the injector
goes_injector : (shape : Shape) (run : Progress) → IsSound shape run → Goes shape run (injector_step shape run).run
unfolding injector_step
goes_injector shape run sound = record { sound = sound_injector shape run sound; grows = begins_self (written_bodies shape run) }

-- an event that a site with a lost group refuses
goes_unless : (shape : Shape) (run : Progress) (step : StepResult) → IsSound shape run → Goes shape run step.run → Goes shape run (unless_lost run step).run
goes_unless shape run step sound next = go run.lost
  where
    go : (lost : Option (ℕ × ℕ)) → Goes shape run (option_map_or (λ loss. unchanged run (outcomes.SiteLost loss.0 (record { 0 = loss.1 }))) lost step).run
    go None = next
    go (Some loss) = goes_self shape run sound

-- an event at a site
pub goes_site : (shape : Shape) (run : Progress) (event : SiteEvent) → IsSound shape run → Goes shape run (site_step shape run event).run
unfolding site_step close_step deliver_all_step inject_step
goes_site shape run (happenings.Tx operations) sound = goes_unless shape run (tx_step shape operations run) sound (goes_tx shape operations run sound)
goes_site shape run (happenings.Close gci) sound = goes_unless shape run (close_step shape gci run) sound (goes_close shape gci run sound)
goes_site shape run (happenings.Deliver place) sound = goes_deliver shape place run sound
goes_site shape run happenings.DeliverAll sound = goes_delivery shape run sound
goes_site shape run happenings.Inject sound = goes_injection shape run sound
goes_site shape run (happenings.Fail node) sound = goes_unless shape run (fail_step shape node run) sound (goes_fail shape node run sound)
goes_site shape run (happenings.Restart node) sound = goes_unless shape run (restart_step node run) sound (goes_restart shape node run sound)
goes_site shape run happenings.Resend sound = goes_unless shape run (resend_step shape run) sound (goes_resend shape run sound)
goes_site shape run happenings.Injector sound = goes_injector shape run sound

-- the events of a script, at each of its sites
pub goes_on : (setup : Setup) (site : SiteId) (lined : List LinedEvent) (played : Played) → IsSound (shape_of setup site) (progress_at site played.sites) → Goes (shape_of setup site) (progress_at site played.sites) (progress_at site (fold (played_on setup) played lined).sites)
goes_on setup site lined played sound =
    along_site setup site (Goes (shape_of setup site) (progress_at site played.sites))
    (λ event run before. goes_then (shape_of setup site) (progress_at site played.sites) run (site_step (shape_of setup site) run event).run before (goes_site (shape_of setup site) run event before.sound))
    lined played (goes_self (shape_of setup site) (progress_at site played.sites) sound)

-- the steps of one event
pub goes_steps : (setup : Setup) (site : SiteId) (steps : List (SiteId × SiteEvent)) (sites : Sites) → IsSound (shape_of setup site) (progress_at site sites) → Goes (shape_of setup site) (progress_at site sites) (progress_at site (after_steps setup sites steps))
goes_steps setup site steps sites sound =
    steps_at_site setup site (Goes (shape_of setup site) (progress_at site sites))
    (λ event run before. goes_then (shape_of setup site) (progress_at site sites) run (site_step (shape_of setup site) run event).run before (goes_site (shape_of setup site) run event before.sound))
    steps sites (goes_self (shape_of setup site) (progress_at site sites) sound)

-- the run of the first `i` events, continued with the other events, is the whole run
pub played_rest : (setup : Setup) (lined : List LinedEvent) (i : ℕ) → fold (played_on setup) (play_of setup (take i lined)) (drop i lined) ≡ play_of setup lined
unfolding play_of
played_rest setup lined i = sym (fold-append (played_on setup) (not_played setup) (take i lined) (drop i lined)) ∙ ap (fold (played_on setup) (not_played setup)) (take-append-drop i lined)

-- each site is sound before the first event
pub sound_at_first : (setup : Setup) (site : SiteId) → HasBuckets (setup_at site setup) → IsSound (shape_of setup site) (progress_at site (beginnings setup))
sound_at_first setup A has = sound_beginning (shape_of setup A) setup.a.groups setup.a.replicas refl has.some has.each
sound_at_first setup B has = sound_beginning (shape_of setup B) setup.b.groups setup.b.replicas refl has.some has.each

-- each site is sound after the first events of a run
pub sound_prefix : (setup : Setup) (site : SiteId) (lined : List LinedEvent) (i : ℕ) → HasBuckets (setup_at site setup) → IsSound (shape_of setup site) (progress_at site (play_of setup (take i lined)).sites)
unfolding play_of
sound_prefix setup site lined i has = (goes_on setup site (take i lined) (not_played setup) (sound_at_first setup site has)).sound
