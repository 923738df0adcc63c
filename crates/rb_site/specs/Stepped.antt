-- What an event leaves of a site, by cases.
use Rattle.std.specs.Prelude.{ℕ, ◌≤◌, ⊤}
use Rattle.rb_base.specs.declared.outcome.Outcome.{Outcome}
use Rattle.rb_base.specs.Faults.{Rose}
use Rattle.rb_site.specs.declared.site.Site.{Site}
use Rattle.rb_site.specs.declared.stepped.Stepped.{Stepped}
use Rattle.rb_site.specs.declared.stepped.Stepped.TheVariants as steps
use Rattle.rb_site.specs.declared.stepped.StoppedSite.{StoppedSite}

-- this holds of the site and the outcome, if there are both
abbrev pub IfOn : Stepped → (Site → Outcome → Type 0) → Type 0
IfOn (steps.On site outcome) holds = holds site outcome
IfOn (steps.Stopped site) holds = ⊤
IfOn steps.NoMemory holds = ⊤

-- this holds of the stopped site, if there is one
abbrev pub IfStopped : Stepped → (StoppedSite → Type 0) → Type 0
IfStopped (steps.On site outcome) holds = ⊤
IfStopped (steps.Stopped site) holds = holds site
IfStopped steps.NoMemory holds = ⊤

-- the device failed within the event
abbrev pub IsStopped : Stepped → Type 0
IsStopped (steps.On site outcome) = ⊥
IsStopped (steps.Stopped site) = Unit {0}
IsStopped steps.NoMemory = ⊥

-- the event did not end
abbrev pub IsCut : Stepped → Type 0
IsCut (steps.On site outcome) = ⊥
IsCut (steps.Stopped site) = Unit {0}
IsCut steps.NoMemory = Unit {0}

-- the device failed only if its count of faults rose
pub record HasStepCause (before now : ℕ) (result : Stepped) : Type 0 where
  pub later : before ≤ now
  pub failed : IsStopped result → Rose before now
