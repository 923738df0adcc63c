-- The one induction over a run: an invariant that each step carries on holds after all of them.
use Rattle.std.proofs.Common.{List, [], ◌∷◌, ◌++◌, fold, subst, append_assoc}
use Rattle.std.specs.List.{flat_map}
use Rattle.rb_base.specs.declared.site.SiteId.{SiteId}
use Rattle.rb_base.specs.declared.site.SiteId.TheVariants.{A, B}
use Rattle.rb_base.specs.declared.script.Setup.{Setup}
use Rattle.rb_text_defs.specs.declared.script.LinedEvent.{LinedEvent}
use Rattle.rb_play_defs.specs.Step.{Progress, site_step}
use Rattle.rb_play_defs.specs.Play.{shape_of, steps_of_event, Sites, progress_at, after_step, after_steps, Played, played_on}
use Rattle.rb_play_defs.specs.declared.event.SiteEvent.{SiteEvent}

-- the steps of these events, in order
abbrev pub steps_of : List LinedEvent → List (SiteId × SiteEvent)
steps_of lined = flat_map (λ one. steps_of_event one.event) lined

-- an invariant `holds`, which knows the steps that are still to come
pub along : (setup : Setup) (holds : List (SiteId × SiteEvent) → Sites → Type 0) → ((step : SiteId × SiteEvent) (later : List (SiteId × SiteEvent)) (sites : Sites) → holds (step ∷ later) sites → holds later (after_step setup sites step)) →
    (steps later : List (SiteId × SiteEvent)) (sites : Sites) → holds (steps ++ later) sites → holds later (after_steps setup sites steps)
along setup holds carry [] later sites now = now
along setup holds carry (step ∷ steps) later sites now = along setup holds carry steps later (after_step setup sites step) (carry step (steps ++ later) sites now)

pub along_events : (setup : Setup) (holds : List (SiteId × SiteEvent) → Sites → Type 0) → ((step : SiteId × SiteEvent) (later : List (SiteId × SiteEvent)) (sites : Sites) → holds (step ∷ later) sites → holds later (after_step setup sites step)) →
    (lined : List LinedEvent) (later : List (SiteId × SiteEvent)) (played : Played) → holds (steps_of lined ++ later) played.sites → holds later (fold (played_on setup) played lined).sites
along_events setup holds carry [] later played now = now
along_events setup holds carry (one ∷ more) later played now =
    along_events setup holds carry more later (played_on setup played one)
    (along setup holds carry (steps_of_event one.event) (steps_of more ++ later) played.sites
    (subst (λ (steps : List (SiteId × SiteEvent)). holds steps played.sites) (append_assoc (steps_of_event one.event) (steps_of more) later) now))

-- a fact of one site that each of its events carries on
at_one_site : (setup : Setup) (site other : SiteId) (event : SiteEvent) (fact : Progress → Type 0) → ((event : SiteEvent) (run : Progress) → fact run → fact (site_step (shape_of setup site) run event).run) →
    (sites : Sites) → fact (progress_at site sites) → fact (progress_at site (after_step setup sites (other, event)))
at_one_site setup A A event fact carry sites now = carry event sites.a now
at_one_site setup A B event fact carry sites now = now
at_one_site setup B A event fact carry sites now = now
at_one_site setup B B event fact carry sites now = carry event sites.b now

pub along_site : (setup : Setup) (site : SiteId) (fact : Progress → Type 0) → ((event : SiteEvent) (run : Progress) → fact run → fact (site_step (shape_of setup site) run event).run) →
    (lined : List LinedEvent) (played : Played) → fact (progress_at site played.sites) → fact (progress_at site (fold (played_on setup) played lined).sites)
along_site setup site fact carry lined played now =
    along_events setup (λ later sites. fact (progress_at site sites)) (λ step later sites before. at_one_site setup site step.0 step.1 fact carry sites before) lined [] played now

-- the same for the steps of one event
pub steps_at_site : (setup : Setup) (site : SiteId) (fact : Progress → Type 0) → ((event : SiteEvent) (run : Progress) → fact run → fact (site_step (shape_of setup site) run event).run) →
    (steps : List (SiteId × SiteEvent)) (sites : Sites) → fact (progress_at site sites) → fact (progress_at site (after_steps setup sites steps))
steps_at_site setup site fact carry steps sites now =
    along setup (λ later sites. fact (progress_at site sites)) (λ step later sites before. at_one_site setup site step.0 step.1 fact carry sites before) steps [] sites now
