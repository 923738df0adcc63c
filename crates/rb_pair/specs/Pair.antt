-- What a pair of sites represents.
use Rattle.std.specs.Prelude.{◌≡◌, ℕ, ◌+◌, ◌*◌, ◌≤◌, List, length}
use Rattle.rb_base.specs.declared.site.SiteId.TheVariants.{A, B}
use Rattle.rb_base.specs.declared.script.Event.{Event}
use Rattle.rb_base.specs.declared.script.Setup.{Setup}
use Rattle.rb_text_defs.specs.Legal.{IsLegalSetup, IsLegalEvent, changes_in_event}
use Rattle.rb_journal_defs.specs.Journal.{closed_epochs}
use Rattle.rb_journal_defs.specs.Counts.{own_changes}
use Rattle.rb_play_defs.specs.Play.{shape_of, Sites, progress_at, beginnings}
use Rattle.rb_site.specs.Site.{IsSite, limit_of}
use Rattle.rb_pair.specs.declared.pair.Pair.{Pair}

-- the most events that a pair plays
abbrev pub most_events : ℕ
most_events = 100000

-- the most changes that its clients make
abbrev pub most_changes : ℕ
most_changes = 1000000

-- the number of events that the pair has played
abbrev pub events_of : Pair → ℕ
events_of pair = pair.events

-- the number of changes that its clients asked for
abbrev pub changes_of : Pair → ℕ
changes_of pair = pair.changes

-- the pair represents both sites at a point of a run: site A over its device; and site B, which has
-- had no event. The pair has counted the run's events and its clients' changes.
pub record IsPair (setup : Setup) (pair : Pair) (seen_a : ℕ → List ℕ) (sites : Sites) : Type 0 where
  pub legal : IsLegalSetup setup
  pub a : IsSite (shape_of setup A) pair.a seen_a sites.a
  pub limit : limit_of pair.a ≡ setup.a.limit
  pub b : sites.b ≡ progress_at B (beginnings setup)
  pub closes : length (closed_epochs sites.a.journal) ≤ events_of pair
  pub changes : own_changes sites.a.journal ≤ changes_of pair
  pub few_events : events_of pair ≤ most_events
  pub few_changes : changes_of pair ≤ most_changes

-- an event is legal, and with it there are few events and changes
pub record HasRoom (setup : Setup) (pair : Pair) (event : Event) : Type 0 where
  pub legal : IsLegalEvent setup.tables (setup.a.groups * setup.a.replicas) event
  pub events : events_of pair + 1 ≤ most_events
  pub changes : changes_of pair + changes_in_event event ≤ most_changes

-- a pair that can play an event
abbrev pub CanPlay : Pair → (seen_a : ℕ → List ℕ) → Event → Type 0
CanPlay pair seen_a event = (setup : Setup) × (sites : Sites) × IsPair setup pair seen_a sites × HasRoom setup pair event
