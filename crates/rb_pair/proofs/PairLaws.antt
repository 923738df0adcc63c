-- A pair before and after an event.
use Rattle.std.proofs.Common.{◌≡◌, ℕ, ◌+◌, ◌*◌, ◌≤◌, List, [], ◌∷◌, length, refl, sym, ap, subst, ◌∙◌, arith}
use Rattle.std.specs.List.{AllByRecursion}
use Rattle.std.proofs.lemmas.List.Sums.{sum_by-cons}
use Rattle.rb_base.specs.declared.site.SiteId.{SiteId}
use Rattle.rb_base.specs.declared.site.SiteId.TheVariants.{A, B}
use Rattle.rb_base.specs.declared.script.Setup.{Setup}
use Rattle.rb_base.specs.declared.script.Event.{Event}
use Rattle.rb_base.specs.declared.outcome.Outcome.{Outcome}
use Rattle.rb_text_defs.specs.Legal.{IsLegalEvent, IsLegalSetup, changes_in_event}
use Rattle.rb_play_defs.specs.Step.{Progress, written_bodies}
use Rattle.rb_play_defs.specs.Play.{shape_of, steps_of_event, joined_outcome, Sites, after_step, after_steps, outcomes_of, beginnings}
use Rattle.rb_play_defs.specs.UnfinishedLog.{HoldsUnfinishedLog}
use Rattle.rb_play_defs.specs.declared.event.SiteEvent.{SiteEvent}
use Rattle.rb_play_defs.specs.declared.event.SiteEvent.TheVariants as at_site
use Rattle.rb_play_defs.proofs.Counts.{Counted, closes_in, changes_in_step}
use Rattle.rb_play_defs.proofs.Steps.{IsLegalAt, IsLegalStep, legal_steps, all_closes, all_changes_in, add_little, counted_steps}
use Rattle.rb_run_laws.proofs.LegalFits.{operations_fit}
use Rattle.rb_play_defs.specs.Point.{EventFits, most_own, most_closed}
use Rattle.rb_device_defs.specs.Image.{HoldsLog}
use Rattle.rb_play_defs.specs.Sound.{IsSound}
use Rattle.rb_site.proofs.SiteLaws as site
use Rattle.rb_site.specs.Site.{IsSite, limit_of}
use Rattle.rb_journal_defs.specs.Journal.{closed_epochs}
use Rattle.rb_journal_defs.specs.Counts.{own_changes}
use Rattle.rb_pair.specs.declared.action.Action.{Action}
use Rattle.rb_pair.specs.declared.action.Action.TheVariants as actions
use Rattle.rb_pair.specs.declared.pair.Pair.{Pair}
use Rattle.rb_pair.specs.Action.{steps_of_action, ActionFits, CanAct}
use Rattle.rb_pair.specs.Pair.{IsPair, HasRoom, CanPlay, events_of, changes_of}

-- site B stays, since the steps of a legal event are all at site A
b_stays : (setup : Setup) (nodes : ℕ) (steps : List (SiteId × SiteEvent)) (sites : Sites) → AllByRecursion (IsLegalStep setup.tables nodes) steps → (after_steps setup sites steps).b ≡ sites.b
b_stays setup nodes [] sites legal = refl
b_stays setup nodes ((A, event) ∷ steps) sites legal = b_stays setup nodes steps (after_step setup sites (A, event)) legal.1
b_stays setup nodes ((B, event) ∷ steps) sites legal = let no : B ≡ A = legal.0.0 in absurd cc

-- an event fits site A if it is legal, and there is room for its changes and its close
event_fits : (setup : Setup) (run : Progress) (event : SiteEvent) → IsLegalAt setup.tables (setup.a.groups * setup.a.replicas) event → own_changes run.journal + changes_in_step event ≤ most_own → length (closed_epochs run.journal) + closes_in event ≤ most_closed →
    EventFits (shape_of setup A) run event
event_fits setup run (at_site.Tx operations) legal changes closes = record { fit = operations_fit setup.tables operations legal.1; some = legal.0; room = changes }
event_fits setup run (at_site.Close gci) legal changes closes = closes
event_fits setup run (at_site.Deliver place) legal changes closes = tt
event_fits setup run at_site.DeliverAll legal changes closes = tt
event_fits setup run at_site.Inject legal changes closes = tt
event_fits setup run (at_site.Fail node) legal changes closes = legal
event_fits setup run (at_site.Restart node) legal changes closes = legal
event_fits setup run at_site.Resend legal changes closes = tt
event_fits setup run at_site.Injector legal changes closes = tt

-- the steps of a legal event are legal at site A, and add little
record IsLittle (setup : Setup) (steps : List (SiteId × SiteEvent)) (changes : ℕ) : Type 0 where
  pub legal : AllByRecursion (IsLegalStep setup.tables (setup.a.groups * setup.a.replicas)) steps
  pub closes : all_closes steps ≤ 1
  pub changes_are : all_changes_in steps ≡ changes

little_of : (setup : Setup) (event : Event) (steps : List (SiteId × SiteEvent)) → IsLegalEvent setup.tables (setup.a.groups * setup.a.replicas) event → steps ≡ steps_of_event event → IsLittle setup steps (changes_in_event event)
little_of setup event steps legal is =
    let little = add_little event in
    subst (λ (steps : List (SiteId × SiteEvent)). IsLittle setup steps (changes_in_event event)) (sym is)
    (record { legal = legal_steps setup.tables (setup.a.groups * setup.a.replicas) event legal; closes = little.closes; changes_are = little.changes })

-- an event that has room at a pair fits site A
pub action_fits : (setup : Setup) (pair : Pair) (seen : ℕ → List ℕ) (sites : Sites) (event : Event) (action : Action) → IsPair setup pair seen sites → HasRoom setup pair event → steps_of_action action ≡ steps_of_event event → ActionFits setup sites action
action_fits setup pair seen sites event action held room is = go action (little_of setup event (steps_of_action action) room.legal is)
  where
    go : (action : Action) → IsLittle setup (steps_of_action action) (changes_in_event event) → ActionFits setup sites action
    go (actions.One own step) little = (
      little.legal.0.0,
      event_fits setup sites.a step little.legal.0.1
          (omega (arith, held.changes, room.changes, little.changes_are, sum_by-cons (λ (one : SiteId × SiteEvent). changes_in_step one.1) (own, step) []))
          (omega (arith, held.closes, room.events, little.closes, sum_by-cons (λ (one : SiteId × SiteEvent). closes_in one.1) (own, step) [])),
    )
    go (actions.Log own) little = little.legal.0.0
    go actions.Idle little = tt

pub can_act : (pair : Pair) (seen : ℕ → List ℕ) (event : Event) (action : Action) → CanPlay pair seen event → steps_of_action action ≡ steps_of_event event → CanAct pair.a seen action
can_act pair seen event action (setup, sites, held, room) is = (setup, sites, held.a, action_fits setup pair seen sites event action held room is)

-- a pair at its start
pub pair_begins : (setup : Setup) (pair : Pair) (seen : ℕ → List ℕ) → IsLegalSetup setup → IsSite (shape_of setup A) pair.a seen (beginnings setup).a → limit_of pair.a ≡ setup.a.limit → events_of pair ≡ 0 → changes_of pair ≡ 0 → IsPair setup pair seen (beginnings setup)
pair_begins setup pair seen legal held limit none nothing = record {
  legal = legal;
  a = held;
  limit = limit;
  b = refl;
  closes = omega arith;
  changes = omega arith;
  few_events = omega (arith, none);
  few_changes = omega (arith, nothing);
}

-- a pair after an event
pub pair_after : (setup : Setup) (old new : Pair) (seen now : ℕ → List ℕ) (sites : Sites) (event : Event) (steps : List (SiteId × SiteEvent)) → IsPair setup old seen sites → HasRoom setup old event → steps ≡ steps_of_event event →
    IsSite (shape_of setup A) new.a now (after_steps setup sites steps).a → limit_of new.a ≡ limit_of old.a → events_of new ≡ events_of old + 1 → changes_of new ≡ changes_of old + changes_in_event event →
    IsPair setup new now (after_steps setup sites (steps_of_event event))
pair_after setup old new seen now sites event steps held room is acted limit events changes =
    let counted : Counted A sites.a (after_steps setup sites (steps_of_event event)).a _ _ _ = counted_steps setup A (steps_of_event event) sites in
    let little = add_little event in record {
      legal = held.legal;
      a = subst (λ (all : List (SiteId × SiteEvent)). IsSite (shape_of setup A) new.a now (after_steps setup sites all).a) is acted;
      limit = limit ∙ held.limit;
      b = b_stays setup (setup.a.groups * setup.a.replicas) (steps_of_event event) sites (legal_steps setup.tables (setup.a.groups * setup.a.replicas) event room.legal) ∙ held.b;
      closes = omega (arith, counted.closed, little.closes, held.closes, events);
      changes = omega (arith, counted.own, little.changes, held.changes, changes);
      few_events = omega (arith, events, room.events);
      few_changes = omega (arith, changes, room.changes);
    }

-- the outcome of the event
pub outcome_is : (setup : Setup) (sites : Sites) (event : Event) (steps : List (SiteId × SiteEvent)) (outcome : Outcome) → steps ≡ steps_of_event event → outcome ≡ joined_outcome (outcomes_of setup sites steps) →
    outcome ≡ joined_outcome (outcomes_of setup sites (steps_of_event event))
outcome_is setup sites event steps outcome is acted = acted ∙ ap (λ (all : List (SiteId × SiteEvent)). joined_outcome (outcomes_of setup sites all)) is

-- what a fault in it leaves
pub stopped_in : (setup : Setup) (pair : Pair) (seen now : ℕ → List ℕ) (sites : Sites) (event : Event) (steps : List (SiteId × SiteEvent)) → IsPair setup pair seen sites → steps ≡ steps_of_event event →
    HoldsUnfinishedLog A (limit_of pair.a) sites.a.written (written_bodies (shape_of setup A) (after_steps setup sites steps).a) now →
    HoldsUnfinishedLog A setup.a.limit sites.a.written (written_bodies (shape_of setup A) (after_steps setup sites (steps_of_event event)).a) now
stopped_in setup pair seen now sites event steps held is left =
    subst (λ (limit : ℕ). HoldsUnfinishedLog A limit sites.a.written (written_bodies (shape_of setup A) (after_steps setup sites (steps_of_event event)).a) now) held.limit
    (subst (λ (all : List (SiteId × SiteEvent)). HoldsUnfinishedLog A (limit_of pair.a) sites.a.written (written_bodies (shape_of setup A) (after_steps setup sites all).a) now) is left)

-- the run of a pair is sound, and its device holds the log of site A
pub is_sound : (setup : Setup) (pair : Pair) (seen : ℕ → List ℕ) (sites : Sites) → IsPair setup pair seen sites → IsSound (shape_of setup A) sites.a
is_sound setup pair seen sites held = site.is_sound (shape_of setup A) pair.a seen sites.a held.a

pub holds_log : (setup : Setup) (pair : Pair) (seen : ℕ → List ℕ) (sites : Sites) → IsPair setup pair seen sites → HoldsLog A setup.a.limit (written_bodies (shape_of setup A) sites.a) seen
holds_log setup pair seen sites held =
    subst (λ (limit : ℕ). HoldsLog A limit (written_bodies (shape_of setup A) sites.a) seen) held.limit (site.holds_log (shape_of setup A) pair.a seen sites.a held.a)
