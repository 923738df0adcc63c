-- The steps of an event of a script, as the pair plays them.
use Rattle.std.specs.Prelude.{◌≡◌, ℕ, Bool, List, [], ◌∷◌}
use Rattle.std.specs.List.{list_any}
use Rattle.rb_base.specs.declared.site.SiteId.{SiteId}
use Rattle.rb_base.specs.declared.site.SiteId.TheVariants.{A}
use Rattle.rb_base.specs.declared.script.Setup.{Setup}
use Rattle.rb_journal_defs.specs.Body.{Shape}
use Rattle.rb_play_defs.specs.Step.{Progress, site_step}
use Rattle.rb_play_defs.specs.Play.{shape_of, Sites}
use Rattle.rb_play_defs.specs.declared.event.SiteEvent.{SiteEvent}
use Rattle.rb_play_defs.specs.declared.event.SiteEvent.TheVariants as at_site
use Rattle.rb_site.specs.declared.site.Site.{Site}
use Rattle.rb_play_defs.specs.Point.{EventFits, uses_device}
use Rattle.rb_site.specs.Site.{IsSite}
use Rattle.rb_pair.specs.declared.action.Action.{Action}
use Rattle.rb_pair.specs.declared.action.Action.TheVariants as actions

-- the steps of an action, each an event at its site
abbrev pub steps_of_action : Action → List (SiteId × SiteEvent)
steps_of_action (actions.One site event) = (site, event) ∷ []
steps_of_action (actions.Log site) = (site, at_site.DeliverAll) ∷ (site, at_site.Inject) ∷ []
steps_of_action actions.Idle = []

-- one of these steps touches its site's device
abbrev pub use_device : List (SiteId × SiteEvent) → Bool
use_device steps = list_any (λ step. uses_device step.1) steps

-- an action at site A, which it can play at this point of a run
abbrev pub ActionFits : Setup → Sites → Action → Type 0
ActionFits setup sites (actions.One own event) = (own ≡ A) × EventFits (shape_of setup A) sites.a event
ActionFits setup sites (actions.Log own) = own ≡ A
ActionFits setup sites actions.Idle = Unit {0}

-- a site that can play an action
abbrev pub CanAct : Site → (seen : ℕ → List ℕ) → Action → Type 0
CanAct site seen action =
    (setup : Setup) × (sites : Sites) × IsSite (shape_of setup A) site seen sites.a × ActionFits setup sites action

-- a site's run after the two steps of a `log`
abbrev pub after_log : Shape → Progress → Progress
after_log shape run = (site_step shape (site_step shape run at_site.DeliverAll).run at_site.Inject).run
