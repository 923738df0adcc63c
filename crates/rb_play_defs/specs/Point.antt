-- A point of a site's run, and what an event asks of it.
use Rattle.std.specs.Prelude.{◌≡◌, ℕ, ◌+◌, ◌≤◌, ◌<◌, Bool, true, false, List, length, sum_by}
use Rattle.std.specs.List.{AllByRecursion}
use Rattle.rb_base.specs.declared.site.SiteId.TheVariants.{A}
use Rattle.rb_base.specs.declared.schema.Schema.{Schema}
use Rattle.rb_base.specs.declared.schema.Mapped.{Mapped}
use Rattle.rb_base.specs.declared.script.ClientOp.{ClientOp}
use Rattle.rb_journal_defs.specs.Journal.{closed_epochs}
use Rattle.rb_journal_defs.specs.Counts.{own_changes, applied_changes}
use Rattle.rb_journal_defs.specs.Body.{Shape, mapped_tables}
use Rattle.rb_text_defs.specs.Script.{column_bytes, most_row_bytes}
use Rattle.rb_play_defs.specs.Step.{Progress}
use Rattle.rb_play_defs.specs.Sound.{IsSound, IsCovered}
use Rattle.rb_play_defs.specs.Fitting.{JournalFits, OperationFits}
use Rattle.rb_play_defs.specs.declared.event.SiteEvent.{SiteEvent}
use Rattle.rb_play_defs.specs.declared.event.SiteEvent.TheVariants as events

-- a table of at most 16 columns, whose rows are short, with a name of at most 32 bytes
pub record IsSmallTable (table : Mapped) : Type 0 where
  pub short : sum_by column_bytes table.columns ≤ most_row_bytes
  pub some : 0 < length table.columns
  pub few : length table.columns ≤ 16
  pub schema : length table.schema ≡ 2
  pub name : length table.name ≤ 32

-- the declared tables, all of them small
pub record AreDeclared (shape : Shape) : Type 0 where
  pub primary : shape.site ≡ A
  pub schemas : List Schema
  pub tables : shape.tables ≡ mapped_tables schemas
  pub small : AllByRecursion IsSmallTable shape.tables

-- the most changes that a site may make itself: an epoch of that many of the largest rows can still
-- be logged
abbrev pub most_own : ℕ
most_own = 1000000

-- the most epochs that it may close
abbrev pub most_closed : ℕ
most_closed = 1000000

-- the most changes that its applier may make: those of its peer, and its progress for each epoch
abbrev pub most_applied : ℕ
most_applied = 2000000

-- a point of a run over declared tables. It is sound, each row fits its table, and the owners hold
-- what is not acknowledged. No more transactions are numbered than changes were made, by the site
-- itself and by its applier. All counts are in bounds.
pub record IsPoint (shape : Shape) (run : Progress) : Type 0 where
  pub declared : AreDeclared shape
  pub sound : IsSound shape run
  pub fits : JournalFits shape run.journal
  pub covered : IsCovered shape run
  pub numbered : run.drawn ≤ own_changes run.journal + applied_changes shape.site run.journal
  pub few : own_changes run.journal ≤ most_own
  pub few_closed : length (closed_epochs run.journal) ≤ most_closed
  pub few_applied : applied_changes shape.site run.journal ≤ most_applied

-- what a client's transaction needs: it has an operation, all operations fit the tables, and their
-- changes have room
pub record TxFits (shape : Shape) (run : Progress) (operations : List ClientOp) : Type 0 where
  pub fit : AllByRecursion (OperationFits shape.tables) operations
  pub some : 1 ≤ length operations
  pub room : own_changes run.journal + length operations ≤ most_own

-- the epoch that a close needs has room
abbrev pub CloseFits : Progress → Type 0
CloseFits run = length (closed_epochs run.journal) + 1 ≤ most_closed

-- what an event needs of a point of a run
abbrev pub EventFits : Shape → Progress → SiteEvent → Type 0
EventFits shape run (events.Tx operations) = TxFits shape run operations
EventFits shape run (events.Close gci) = CloseFits run
EventFits shape run (events.Deliver place) = Unit {0}
EventFits shape run events.DeliverAll = Unit {0}
EventFits shape run events.Inject = Unit {0}
EventFits shape run (events.Fail node) = node < shape.buckets
EventFits shape run (events.Restart node) = node < shape.buckets
EventFits shape run events.Resend = Unit {0}
EventFits shape run events.Injector = Unit {0}

-- an event that a cluster with a lost group refuses
abbrev pub needs_all_groups : SiteEvent → Bool
needs_all_groups (events.Tx operations) = true
needs_all_groups (events.Close gci) = true
needs_all_groups (events.Deliver place) = false
needs_all_groups events.DeliverAll = false
needs_all_groups events.Inject = false
needs_all_groups (events.Fail node) = true
needs_all_groups (events.Restart node) = true
needs_all_groups events.Resend = true
needs_all_groups events.Injector = false

-- an event that uses the log device
abbrev pub uses_device : SiteEvent → Bool
uses_device (events.Tx operations) = false
uses_device (events.Close gci) = false
uses_device (events.Deliver place) = false
uses_device events.DeliverAll = false
uses_device events.Inject = true
uses_device (events.Fail node) = false
uses_device (events.Restart node) = false
uses_device events.Resend = false
uses_device events.Injector = true
