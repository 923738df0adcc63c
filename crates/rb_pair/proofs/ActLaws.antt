-- What the steps of an event leave of a site and of its log.
use Rattle.std.proofs.Common.{◌≡◌, ℕ, Bool, true, false, List, [], ◌∷◌, length, Option, Some, None, refl, sym, ap, subst, ◌∙◌, arith}
use Rattle.std.specs.Prelude.{◌||◌}
use Rattle.std.specs.List.{slice_get}
use Rattle.std.specs.Option.{option_map_or}
use Rattle.std.proofs.lemmas.List.{take-append-le, length-append}
use Rattle.rb_base.specs.declared.body.EpochBody.{EpochBody}
use Rattle.rb_base.specs.declared.message.Sent.{Sent}
use Rattle.rb_base.specs.declared.outcome.Outcome.{Outcome}
use Rattle.rb_base.specs.declared.outcome.Outcome.TheVariants as outcomes
use Rattle.rb_base.specs.declared.site.SiteId.{SiteId}
use Rattle.rb_base.specs.declared.site.SiteId.TheVariants.{A}
use Rattle.rb_base.specs.declared.script.Setup.{Setup}
use Rattle.rb_device_defs.specs.Image.{IsLogImage}
use Rattle.rb_journal_defs.specs.Body.{Shape}
use Rattle.rb_message_defs.specs.Received.{answer_to}
use Rattle.rb_play_defs.specs.Step.{Progress, StepResult, unchanged, fed_by, delivered_message, answer_outcome, deliver_step, undelivered, after_delivery, all_delivered, delivery_of_all, deliver_all_step, site_step, written_bodies}
use Rattle.rb_play_defs.specs.Play.{shape_of, Sites, after_steps, outcomes_of, joined_outcome}
use Rattle.rb_play_defs.specs.UnfinishedLog.{HoldsUnfinishedLog}
use Rattle.rb_play_defs.specs.declared.event.SiteEvent.{SiteEvent}
use Rattle.rb_play_defs.specs.declared.event.SiteEvent.TheVariants as at_site
use Rattle.rb_play_defs.proofs.Grows.{Begins, goes_site}
use Rattle.rb_site.specs.declared.site.Site.{Site}
use Rattle.rb_play_defs.specs.Point.{EventFits, uses_device}
use Rattle.rb_site.specs.Site.{IsSite}
use Rattle.rb_site.proofs.SiteLaws.{is_sound}
use Rattle.rb_pair.specs.declared.action.Action.{Action}
use Rattle.rb_pair.specs.declared.action.Action.TheVariants as actions
use Rattle.rb_pair.specs.Action.{steps_of_action, after_log, use_device, ActionFits}

-- an unfinished log of some bodies is one of those that begin with them
pub more_of : (site : SiteId) (limit least : ℕ) (first whole : List EpochBody) (seen : ℕ → List ℕ) → Begins first whole → HoldsUnfinishedLog site limit least first seen → HoldsUnfinishedLog site limit least whole seen
more_of site limit least first whole seen more left =
    subst (λ (bodies : List EpochBody). HoldsUnfinishedLog site limit least bodies seen) (sym more.whole_is) (record {
      count = left.count;
      least_are_there = left.least_are_there;
      within = omega (arith, left.within, length-append first more.rest);
      image = subst (λ (bodies : List EpochBody). IsLogImage site limit bodies seen) (sym (take-append-le left.count first more.rest left.within)) left.image;
    })

-- site A and an outcome after some steps
abbrev pub Acted : Setup → Sites → List (SiteId × SiteEvent) → Site → (seen : ℕ → List ℕ) → Outcome → Type 0
Acted setup sites steps new seen outcome = IsSite (shape_of setup A) new seen (after_steps setup sites steps).a × (outcome ≡ joined_outcome (outcomes_of setup sites steps))

-- what a fault in some steps leaves
abbrev pub Cut : Setup → Sites → List (SiteId × SiteEvent) → (limit : ℕ) → (seen : ℕ → List ℕ) → Type 0
Cut setup sites steps limit seen = HoldsUnfinishedLog A limit sites.a.written (written_bodies (shape_of setup A) (after_steps setup sites steps).a) seen

-- an action is at site A if it fits there
pub one_at : (setup : Setup) (sites : Sites) (own : SiteId) (event : SiteEvent) (action : Action) (fact : List (SiteId × SiteEvent) → Type 0) → action ≡ actions.One own event → ActionFits setup sites action →
    (EventFits (shape_of setup A) sites.a event → fact ((A, event) ∷ [])) → fact (steps_of_action action)
one_at setup sites own event action fact is fits then' =
    let (at, own_fits) = subst (ActionFits setup sites) is fits in
    subst (λ (a : Action). fact (steps_of_action a)) (sym is) (subst (λ (s : SiteId). fact ((s, event) ∷ [])) (sym at) (then' own_fits))

pub log_at : (setup : Setup) (sites : Sites) (own : SiteId) (action : Action) (fact : List (SiteId × SiteEvent) → Type 0) → action ≡ actions.Log own → ActionFits setup sites action →
    fact ((A, at_site.DeliverAll) ∷ (A, at_site.Inject) ∷ []) → fact (steps_of_action action)
log_at setup sites own action fact is fits there =
    let at : own ≡ A = subst (ActionFits setup sites) is fits in
    subst (λ (a : Action). fact (steps_of_action a)) (sym is) (subst (λ (s : SiteId). fact ((s, at_site.DeliverAll) ∷ (s, at_site.Inject) ∷ [])) (sym at) there)

pub idle_at : (action : Action) (fact : List (SiteId × SiteEvent) → Type 0) → action ≡ actions.Idle → fact [] → fact (steps_of_action action)
idle_at action fact is there = subst (λ (a : Action). fact (steps_of_action a)) (sym is) there

-- a `log` that stopped in its delivery
pub stopped_first : (shape : Shape) (limit : ℕ) (run : Progress) (site : Site) (before seen : ℕ → List ℕ) → IsSite shape site before run → HoldsUnfinishedLog shape.site limit run.written (written_bodies shape (site_step shape run at_site.DeliverAll).run) seen →
    HoldsUnfinishedLog shape.site limit run.written (written_bodies shape (after_log shape run)) seen
stopped_first shape limit run site before seen held left =
    let next : Progress = (site_step shape run at_site.DeliverAll).run in
    more_of shape.site limit run.written (written_bodies shape next) (written_bodies shape (site_step shape next at_site.Inject).run) seen
    (goes_site shape next at_site.Inject (goes_site shape run at_site.DeliverAll (is_sound shape site before run held)).sound).grows left

-- a delivery logs nothing
one_delivered : (shape : Shape) (run : Progress) (place : ℕ) → (deliver_step shape place run).run.written ≡ run.written
unfolding deliver_step
one_delivered shape run place = go (slice_get run.sent place)
  where
    delivers : Sent → StepResult
    delivers sent = record { run = delivered_message place sent.message run; outcome = answer_outcome (answer_to (fed_by shape run) sent.message) }

    go : (found : Option Sent) → (option_map_or delivers found (unchanged run (outcomes.NoMessage place (length run.sent)))).run.written ≡ run.written
    go None = refl
    go (Some sent) = refl

written_delivered : (shape : Shape) (places : List ℕ) (run : Progress) → (all_delivered shape places run).written ≡ run.written
written_delivered shape [] run = refl
written_delivered shape (place ∷ places) run = written_delivered shape places (after_delivery shape run place) ∙ one_delivered shape run place

written_same : (shape : Shape) (run : Progress) → (site_step shape run at_site.DeliverAll).run.written ≡ run.written
unfolding site_step deliver_all_step delivery_of_all
written_same shape run = written_delivered shape (undelivered run) run

-- and in its `inject`
pub stopped_second : (shape : Shape) (limit : ℕ) (run : Progress) (seen : ℕ → List ℕ) → HoldsUnfinishedLog shape.site limit (site_step shape run at_site.DeliverAll).run.written (written_bodies shape (after_log shape run)) seen →
    HoldsUnfinishedLog shape.site limit run.written (written_bodies shape (after_log shape run)) seen
stopped_second shape limit run seen left = subst (λ (least : ℕ). HoldsUnfinishedLog shape.site limit least (written_bodies shape (after_log shape run)) seen) (written_same shape run) left

-- an action whose steps use no device
pub idle_one : (own : SiteId) (event : SiteEvent) (action : Action) → action ≡ actions.One own event → use_device (steps_of_action action) ≡ false → uses_device event ≡ false
idle_one own event action is none = go (uses_device event) (sym (ap (λ (a : Action). use_device (steps_of_action a)) is) ∙ none)
  where
    go : (uses : Bool) → uses || false ≡ false → uses ≡ false
    go false none = refl
    go true none = absurd cc

pub not_idle : (own : SiteId) (action : Action) → action ≡ actions.Log own → use_device (steps_of_action action) ≡ false → ⊥
not_idle own action is none = let yes : true ≡ false = sym (ap (λ (a : Action). use_device (steps_of_action a)) is) ∙ none in cc
