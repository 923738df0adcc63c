-- What a site's value represents.
use Rattle.std.specs.Prelude.{◌≡◌, ℕ, List}
use Rattle.rb_base.specs.declared.outcome.Outcome.{Outcome}
use Rattle.rb_journal_defs.specs.Body.{Shape}
use Rattle.rb_play_defs.specs.Step.{Progress, site_step}
use Rattle.rb_play_defs.specs.declared.event.SiteEvent.{SiteEvent}
use Rattle.rb_play_defs.specs.Point.{EventFits}
use Rattle.rb_cluster.specs.Cluster as cluster
use Rattle.rb_cluster.specs.Cluster.{IsCluster, IsStoppedCluster}
use Rattle.rb_site.specs.declared.site.Site.{Site}
use Rattle.rb_site.specs.declared.stepped.StoppedSite.{StoppedSite}

-- a site over its device represents a point of a run
pub record IsSite (shape : Shape) (site : Site) (seen : ℕ → List ℕ) (run : Progress) : Type 0 where
  pub cluster : IsCluster site.cluster seen shape run

-- a site without injector and event buffer represents a point of a run
pub record IsStoppedSite (shape : Shape) (site : StoppedSite) (run : Progress) : Type 0 where
  pub cluster : IsStoppedCluster site.cluster shape run

-- a site that can play an event
abbrev pub CanTake : Site → (seen : ℕ → List ℕ) → SiteEvent → Type 0
CanTake site seen event = (shape : Shape) × (run : Progress) × IsSite shape site seen run × EventFits shape run event

-- a site plays an event that fits: from this point of a run it comes to the point after the event,
-- with the event's outcome
abbrev pub Plays : Shape → Progress → SiteEvent → (old : Site) → (before : ℕ → List ℕ) → (new : Site) → (after : ℕ → List ℕ) → Outcome → Type 0
Plays shape run event old before new after outcome =
    IsSite shape old before run → EventFits shape run event → IsSite shape new after (site_step shape run event).run × (outcome ≡ (site_step shape run event).outcome)

-- what is left of a site without its injector and event buffer
abbrev pub rest_of : Site → StoppedSite
rest_of site = record { cluster = cluster.rest_of site.cluster }

-- the length of its binlog files at which they are rotated, in bytes
abbrev pub limit_of : Site → ℕ
limit_of site = cluster.limit_of site.cluster

-- the number of its node groups
abbrev pub groups_of : Site → ℕ
groups_of site = cluster.groups_of site.cluster

-- the number of nodes in each group
abbrev pub replicas_of : Site → ℕ
replicas_of site = cluster.replicas_of site.cluster

-- a site with the same numbers of groups and nodes, and with the same limit
abbrev pub SameSetup : (old new : Site) → Type 0
SameSetup old new = (groups_of new ≡ groups_of old) × (replicas_of new ≡ replicas_of old) × (limit_of new ≡ limit_of old)
