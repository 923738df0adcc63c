-- The steps of a legal script's events: they are legal, and add no more than their events.
use Rattle.std.proofs.Common.{◌≡◌, ℕ, ◌<◌, ◌≤◌, List, [], ◌∷◌, length, refl, arith}
use Rattle.std.specs.Prelude.{sum_by}
use Rattle.std.specs.List.{AllByRecursion}
use Rattle.std.proofs.lemmas.List.Sums.{sum_by-cons, sum_by-append}
use Rattle.rb_base.specs.declared.site.SiteId.{SiteId}
use Rattle.rb_base.specs.declared.site.SiteId.TheVariants.{A, B}
use Rattle.rb_base.specs.declared.schema.Schema.{Schema}
use Rattle.rb_base.specs.declared.script.Setup.{Setup}
use Rattle.rb_base.specs.declared.script.Event.{Event}
use Rattle.rb_base.specs.declared.script.Event.TheVariants as events
use Rattle.rb_text_defs.specs.declared.script.LinedEvent.{LinedEvent}
use Rattle.rb_text_defs.specs.Legal.{IsLegalOperation, IsLegalEvent, changes_in_event}
use Rattle.rb_message_defs.proofs.Messages.{all_joined}
use Rattle.rb_play_defs.specs.Play.{shape_of, steps_of_event, Sites, progress_at, after_step, after_steps}
use Rattle.rb_play_defs.specs.declared.event.SiteEvent.{SiteEvent}
use Rattle.rb_play_defs.specs.declared.event.SiteEvent.TheVariants as happenings
use Rattle.rb_play_defs.proofs.Along.{steps_of}
use Rattle.rb_play_defs.proofs.Counts.{transactions_in, closes_in, changes_in_step, Counted, counted_self, counted_then, counted_event}

-- an event that a site of this many nodes can play
abbrev pub IsLegalAt : List Schema → (nodes : ℕ) → SiteEvent → Type 0
IsLegalAt tables nodes (happenings.Tx operations) = (1 ≤ length operations) × AllByRecursion (IsLegalOperation tables) operations
IsLegalAt tables nodes (happenings.Close gci) = Unit {0}
IsLegalAt tables nodes (happenings.Deliver place) = Unit {0}
IsLegalAt tables nodes happenings.DeliverAll = Unit {0}
IsLegalAt tables nodes happenings.Inject = Unit {0}
IsLegalAt tables nodes (happenings.Fail node) = node < nodes
IsLegalAt tables nodes (happenings.Restart node) = node < nodes
IsLegalAt tables nodes happenings.Resend = Unit {0}
IsLegalAt tables nodes happenings.Injector = Unit {0}

-- a step of a legal script: only site A has events yet
abbrev pub IsLegalStep : List Schema → (nodes : ℕ) → (SiteId × SiteEvent) → Type 0
IsLegalStep tables nodes step = (step.0 ≡ A) × IsLegalAt tables nodes step.1

-- the steps of a legal event are legal
pub legal_steps : (tables : List Schema) (nodes : ℕ) (event : Event) → IsLegalEvent tables nodes event → AllByRecursion (IsLegalStep tables nodes) (steps_of_event event)
legal_steps tables nodes (events.Tx site operations) legal = ((legal.0, (legal.1, legal.2)), tt)
legal_steps tables nodes (events.Close site gci) legal = ((legal, tt), tt)
legal_steps tables nodes (events.Deliver site place) legal = ((legal, tt), tt)
legal_steps tables nodes (events.DeliverAll site) legal = ((legal, tt), tt)
legal_steps tables nodes (events.Inject site) legal = ((legal, tt), tt)
legal_steps tables nodes (events.Log site) legal = ((legal, tt), ((legal, tt), tt))
legal_steps tables nodes (events.Fail site node) legal = (legal, tt)
legal_steps tables nodes (events.Restart site node) legal = (legal, tt)
legal_steps tables nodes (events.Resend site) legal = ((legal, tt), tt)
legal_steps tables nodes (events.Injector site) legal = ((legal, tt), tt)
legal_steps tables nodes event legal = tt

pub all_legal : (tables : List Schema) (nodes : ℕ) (lined : List LinedEvent) → AllByRecursion (λ one. IsLegalEvent tables nodes one.event) lined → AllByRecursion (IsLegalStep tables nodes) (steps_of lined)
all_legal tables nodes [] legal = tt
all_legal tables nodes (one ∷ more) legal = all_joined (IsLegalStep tables nodes) (steps_of_event one.event) (steps_of more) (legal_steps tables nodes one.event legal.0) (all_legal tables nodes more legal.1)

-- what these steps add at most
abbrev pub all_transactions : List (SiteId × SiteEvent) → ℕ
all_transactions steps = sum_by (λ step. transactions_in step.1) steps

abbrev pub all_closes : List (SiteId × SiteEvent) → ℕ
all_closes steps = sum_by (λ step. closes_in step.1) steps

abbrev pub all_changes_in : List (SiteId × SiteEvent) → ℕ
all_changes_in steps = sum_by (λ step. changes_in_step step.1) steps

-- the steps of an event hold one transaction or one close at most, and the event's changes
pub record AddLittle (event : Event) : Type 0 where
  pub transactions : all_transactions (steps_of_event event) ≤ 1
  pub closes : all_closes (steps_of_event event) ≤ 1
  pub changes : all_changes_in (steps_of_event event) ≡ changes_in_event event

pub add_little : (event : Event) → AddLittle event
add_little (events.Tx site operations) = record { transactions = omega arith; closes = omega arith; changes = omega (arith, sum_by-cons (λ (step : SiteId × SiteEvent). changes_in_step step.1) (site, happenings.Tx operations) []) }
add_little (events.Close site gci) = record { transactions = omega arith; closes = omega arith; changes = refl }
add_little (events.Deliver site place) = record { transactions = omega arith; closes = omega arith; changes = refl }
add_little (events.DeliverAll site) = record { transactions = omega arith; closes = omega arith; changes = refl }
add_little (events.Inject site) = record { transactions = omega arith; closes = omega arith; changes = refl }
add_little (events.Log site) = record { transactions = omega arith; closes = omega arith; changes = refl }
add_little (events.Fail site node) = record { transactions = omega arith; closes = omega arith; changes = refl }
add_little (events.Restart site node) = record { transactions = omega arith; closes = omega arith; changes = refl }
add_little (events.Resend site) = record { transactions = omega arith; closes = omega arith; changes = refl }
add_little (events.Injector site) = record { transactions = omega arith; closes = omega arith; changes = refl }
add_little (events.Piece site file position count) = record { transactions = omega arith; closes = omega arith; changes = refl }
add_little (events.Pull site) = record { transactions = omega arith; closes = omega arith; changes = refl }
add_little (events.Apply site) = record { transactions = omega arith; closes = omega arith; changes = refl }
add_little (events.Flow site) = record { transactions = omega arith; closes = omega arith; changes = refl }
add_little (events.Applier site) = record { transactions = omega arith; closes = omega arith; changes = refl }
add_little (events.Dump site) = record { transactions = omega arith; closes = omega arith; changes = refl }
add_little events.Drain = record { transactions = omega arith; closes = omega arith; changes = refl }

-- so do the steps of some events
pub record AddAtMost (lined : List LinedEvent) : Type 0 where
  pub transactions : all_transactions (steps_of lined) ≤ length lined
  pub closes : all_closes (steps_of lined) ≤ length lined
  pub changes : all_changes_in (steps_of lined) ≡ sum_by (λ one. changes_in_event one.event) lined

pub add_at_most : (lined : List LinedEvent) → AddAtMost lined
add_at_most [] = record { transactions = omega arith; closes = omega arith; changes = refl }
add_at_most (one ∷ more) =
    let little = add_little one.event in
    let rest = add_at_most more in record {
      transactions = omega (arith, little.transactions, rest.transactions, sum_by-append (λ (step : SiteId × SiteEvent). transactions_in step.1) (steps_of_event one.event) (steps_of more));
      closes = omega (arith, little.closes, rest.closes, sum_by-append (λ (step : SiteId × SiteEvent). closes_in step.1) (steps_of_event one.event) (steps_of more));
      changes = omega (arith, little.changes, rest.changes, sum_by-append (λ (step : SiteId × SiteEvent). changes_in_step step.1) (steps_of_event one.event) (steps_of more), sum_by-cons (λ (l : LinedEvent). changes_in_event l.event) one more);
    }

-- what one step adds at a site: nothing if it is the other site's
counted_step : (setup : Setup) (site other : SiteId) (event : SiteEvent) (sites : Sites) → Counted site (progress_at site sites) (progress_at site (after_step setup sites (other, event))) (transactions_in event) (closes_in event) (changes_in_step event)
counted_step setup A A event sites = counted_event (shape_of setup A) sites.a event
counted_step setup A B event sites = counted_self A sites.a (transactions_in event) (closes_in event) (changes_in_step event)
counted_step setup B A event sites = counted_self B sites.b (transactions_in event) (closes_in event) (changes_in_step event)
counted_step setup B B event sites = counted_event (shape_of setup B) sites.b event

-- what steps add at a site
pub counted_steps : (setup : Setup) (site : SiteId) (steps : List (SiteId × SiteEvent)) (sites : Sites) → Counted site (progress_at site sites) (progress_at site (after_steps setup sites steps)) (all_transactions steps) (all_closes steps) (all_changes_in steps)
counted_steps setup site [] sites = counted_self site (progress_at site sites) 0 0 0
counted_steps setup site (step ∷ later) sites =
    let next = after_step setup sites step in
    let both = counted_then site (progress_at site sites) (progress_at site next) (progress_at site (after_steps setup next later)) (transactions_in step.1) (closes_in step.1) (changes_in_step step.1) (all_transactions later) (all_closes later) (all_changes_in later)
    (counted_step setup site step.0 step.1 sites) (counted_steps setup site later next) in record {
      drawn = omega (arith, both.drawn, sum_by-cons (λ (step : SiteId × SiteEvent). transactions_in step.1) step later);
      closed = omega (arith, both.closed, sum_by-cons (λ (step : SiteId × SiteEvent). closes_in step.1) step later);
      own = omega (arith, both.own, sum_by-cons (λ (step : SiteId × SiteEvent). changes_in_step step.1) step later);
      applied = both.applied;
    }
