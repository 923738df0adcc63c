-- The run of a script at both sites, and its results.
use Rattle.std.specs.Prelude.{ℕ, ◌*◌, ◌<◌, List, [], ◌∷◌, ◌++◌, length, fold, map}
use Rattle.std.specs.List.{enumerate_from, scan}
use Rattle.rb_base.specs.declared.site.SiteId.{SiteId}
use Rattle.rb_base.specs.declared.site.SiteId.TheVariants.{A, B}
use Rattle.rb_base.specs.declared.schema.Schema.{Schema}
use Rattle.rb_base.specs.declared.body.EpochBody.{EpochBody}
use Rattle.rb_base.specs.declared.script.Event.{Event}
use Rattle.rb_base.specs.declared.script.Event.TheVariants as events
use Rattle.rb_base.specs.declared.script.Setup.{Setup}
use Rattle.rb_base.specs.declared.script.SiteSetup.{SiteSetup}
use Rattle.rb_base.specs.declared.outcome.Outcome.{Outcome}
use Rattle.rb_base.specs.declared.outcome.Outcome.TheVariants as outcomes
use Rattle.rb_text_defs.specs.declared.script.LinedEvent.{LinedEvent}
use Rattle.rb_text_defs.specs.declared.script.Script.{Script}
use Rattle.rb_text_defs.specs.Report.{NamedRows, LogRows, report_text}
use Rattle.rb_log_defs.specs.File.{binlog_files, index_rows}
use Rattle.rb_device_defs.specs.Image.{HoldsLog}
use Rattle.rb_journal_defs.specs.Journal.{Journal}
use Rattle.rb_journal_defs.specs.Body.{Shape, mapped_tables}
use Rattle.rb_journal_defs.specs.Table.{rows_of_table}
use Rattle.rb_play_defs.specs.Step.{Progress, beginning, StepResult, site_step, written_bodies}
use Rattle.rb_play_defs.specs.declared.event.SiteEvent.{SiteEvent}
use Rattle.rb_play_defs.specs.declared.event.SiteEvent.TheVariants as at_site

-- the setup of one of the sites
abbrev pub setup_at : SiteId → Setup → SiteSetup
setup_at A setup = setup.a
setup_at B setup = setup.b

-- a site with some buckets, in groups of some nodes
pub record HasBuckets (setup : SiteSetup) : Type 0 where
  pub some : 0 < setup.groups * setup.replicas
  pub each : 0 < setup.replicas

-- a site as a script sets it up
abbrev pub shape_of : Setup → SiteId → Shape
shape_of setup site = record {
  site = site;
  buckets = (setup_at site setup).groups * (setup_at site setup).replicas;
  tables = mapped_tables setup.tables;
}

-- what an event of a script consists of: events of the sites, in order; an event that is not
-- supported yet consists of none
abbrev pub steps_of_event : Event → List (SiteId × SiteEvent)
steps_of_event (events.Tx site operations) = (site, at_site.Tx operations) ∷ []
steps_of_event (events.Close site gci) = (site, at_site.Close gci) ∷ []
steps_of_event (events.Deliver site place) = (site, at_site.Deliver place) ∷ []
steps_of_event (events.DeliverAll site) = (site, at_site.DeliverAll) ∷ []
steps_of_event (events.Inject site) = (site, at_site.Inject) ∷ []
steps_of_event (events.Log site) = (site, at_site.DeliverAll) ∷ (site, at_site.Inject) ∷ []
steps_of_event (events.Fail site node) = (site, at_site.Fail node) ∷ []
steps_of_event (events.Restart site node) = (site, at_site.Restart node) ∷ []
steps_of_event (events.Resend site) = (site, at_site.Resend) ∷ []
steps_of_event (events.Injector site) = (site, at_site.Injector) ∷ []
steps_of_event event = []

-- the outcome of `log`, given those of its delivery and of its `inject`
abbrev pub joined : Outcome → Outcome → Outcome
joined (outcomes.Delivered kept known old) (outcomes.Wrote count written bucket place) = outcomes.Logged kept known old count written bucket place
joined first second = outcomes.Nothing

-- the outcome of an event of a script, given the outcomes of its steps
abbrev pub joined_outcome : List Outcome → Outcome
joined_outcome [] = outcomes.Nothing
joined_outcome (outcome ∷ []) = outcome
joined_outcome (first ∷ second ∷ others) = joined first second

-- the state of both sites
pub record Sites : Type 0 where
  pub a : Progress
  pub b : Progress

-- one of the sites
abbrev pub progress_at : SiteId → Sites → Progress
progress_at A sites = sites.a
progress_at B sites = sites.b

-- the sites with this one in place of the site of its name
abbrev pub with_progress : SiteId → Progress → Sites → Sites
with_progress A run sites = record sites { a = run }
with_progress B run sites = record sites { b = run }

-- the result of a step at its site
abbrev pub result_of : Setup → Sites → (SiteId × SiteEvent) → StepResult
result_of setup sites step = site_step (shape_of setup step.0) (progress_at step.0 sites) step.1

-- both sites after a step
abbrev pub after_step : Setup → Sites → (SiteId × SiteEvent) → Sites
after_step setup sites step = with_progress step.0 (result_of setup sites step).run sites

-- both sites after these steps, in order
abbrev pub after_steps : Setup → Sites → List (SiteId × SiteEvent) → Sites
after_steps setup sites steps = fold (after_step setup) sites steps

-- the outcome of each of these steps
abbrev pub outcomes_of : Setup → Sites → List (SiteId × SiteEvent) → List Outcome
outcomes_of setup sites steps = scan (after_step setup) (λ before step. (result_of setup before step).outcome) sites steps

-- both sites before the first event
abbrev pub beginnings : Setup → Sites
beginnings setup = record {
  a = beginning setup.a.groups setup.a.replicas;
  b = beginning setup.b.groups setup.b.replicas;
}

-- both sites after some of the events of a run, and the outcome of each of these events
pub record Played : Type 0 where
  pub sites : Sites
  pub outcomes : List (ℕ × Outcome)

-- the run with one more event
abbrev pub played_on : Setup → Played → LinedEvent → Played
played_on setup played lined =
    let steps = steps_of_event lined.event in record {
      sites = after_steps setup played.sites steps;
      outcomes = played.outcomes ++ (lined.line, joined_outcome (outcomes_of setup played.sites steps)) ∷ [];
    }

-- the run before its first event
abbrev pub not_played : Setup → Played
not_played setup = record { sites = beginnings setup; outcomes = [] }

-- the run after these events, in order
unfoldable pub play_of : Setup → List LinedEvent → Played
play_of setup events = fold (played_on setup) (not_played setup) events

-- the run of a script after its last event
abbrev pub play : Script → Played
play script = play_of script.setup script.events

-- the bodies that site A has logged at the end of the script
abbrev pub log_of : Script → List EpochBody
log_of script = written_bodies (shape_of script.setup A) (play script).sites.a

-- site A's binlog files at the end of the script, file 1 first
abbrev pub files_of : Script → List (List ℕ)
files_of script = binlog_files A script.setup.a.limit (log_of script)

-- site A's device holds the log that the script leaves
abbrev pub HoldsLogOf : Script → (seen : ℕ → List ℕ) → Type 0
HoldsLogOf script seen = HoldsLog A script.setup.a.limit (log_of script) seen

-- the tables of a script with the rows that a journal leaves in them
abbrev pub tables_left : List Schema → Journal → List NamedRows
tables_left schemas journal =
    map (λ numbered. record { name = numbered.1.name; rows = rows_of_table numbered.0 journal }) (enumerate_from 1 schemas)

-- the log of these bodies, as a report lists it
abbrev pub log_rows : (limit : ℕ) → List EpochBody → LogRows
log_rows limit bodies = record { files = length (binlog_files A limit bodies); rows = index_rows A limit bodies }

-- the report of a run at this point: site B runs no event yet, and nothing of it is printed
abbrev pub report_at : Setup → Played → List ℕ
report_at setup played =
    report_text played.outcomes (log_rows setup.a.limit (written_bodies (shape_of setup A) played.sites.a))
    (tables_left setup.tables played.sites.a.journal)

-- the report of a script
unfoldable pub report_of : Script → List ℕ
report_of script = report_at script.setup (play script)
