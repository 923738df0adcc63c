-- Bounds on a run's transactions, epochs and changes, given its events.
use Rattle.std.proofs.Common.{◌≡◌, ℕ, ◌+◌, ◌≤◌, Bool, List, [], ◌∷◌, length, refl, ap, ◌∙◌, arith, length-append}
use Rattle.std.specs.Prelude.{Option}
use Rattle.std.proofs.lemmas.List.{length-map}
use Rattle.std.proofs.lemmas.List.Sums.{sum_by-cons}
use Rattle.rb_base.specs.Site.{server_of}
use Rattle.rb_base.specs.declared.site.SiteId.{SiteId}
use Rattle.rb_base.specs.declared.row.Row.{Row}
use Rattle.rb_base.specs.declared.script.ClientOp.{ClientOp}
use Rattle.rb_journal_defs.specs.Journal.{Entry, Closed, Journal, own_of, closed_epochs}
use Rattle.rb_journal_defs.specs.Counts.{own_changes, applied_of, applied_changes}
use Rattle.rb_journal_defs.specs.Body.{Shape}
use Rattle.rb_journal_defs.specs.Transaction.{change_over, changes_made}
use Rattle.rb_play_defs.specs.Step.{Progress, rows_of, tx_entry, committed, closed, site_step}
use Rattle.rb_play_defs.specs.declared.event.SiteEvent.{SiteEvent}
use Rattle.rb_play_defs.specs.declared.event.SiteEvent.TheVariants as happenings
use Rattle.rb_play_defs.proofs.Alike.{Alike, by_journal}

-- an event of a site adds at most this many transactions, closes and changes of the site's own
abbrev pub transactions_in : SiteEvent → ℕ
transactions_in (happenings.Tx operations) = 1
transactions_in event = 0

abbrev pub closes_in : SiteEvent → ℕ
closes_in (happenings.Close gci) = 1
closes_in event = 0

abbrev pub changes_in_step : SiteEvent → ℕ
changes_in_step (happenings.Tx operations) = length operations
changes_in_step event = 0

-- what a part of a run adds at most to a site: transactions, closes, and changes of its own
pub record Counted (site : SiteId) (run next : Progress) (transactions closes changes : ℕ) : Type 0 where
  pub drawn : next.drawn ≤ run.drawn + transactions
  pub closed : length (closed_epochs next.journal) ≤ length (closed_epochs run.journal) + closes
  pub own : own_changes next.journal ≤ own_changes run.journal + changes
  pub applied : applied_changes site next.journal ≡ applied_changes site run.journal

-- a run that is unchanged is within any counts
pub counted_self : (site : SiteId) (run : Progress) (transactions closes changes : ℕ) → Counted site run run transactions closes changes
counted_self site run transactions closes changes = record { drawn = omega arith; closed = omega arith; own = omega arith; applied = refl }

-- the counts of two parts of a run add up
pub counted_then : (site : SiteId) (a b c : Progress) (transactions closes changes more_transactions more_closes more_changes : ℕ) → Counted site a b transactions closes changes → Counted site b c more_transactions more_closes more_changes →
    Counted site a c (transactions + more_transactions) (closes + more_closes) (changes + more_changes)
counted_then site a b c transactions closes changes more_transactions more_closes more_changes first second = record {
  drawn = (let h = first.drawn in let g = second.drawn in omega arith);
  closed = (let h = first.closed in let g = second.closed in omega arith);
  own = (let h = first.own in let g = second.own in omega arith);
  applied = second.applied ∙ first.applied;
}

-- a run that is alike is within any counts
counted_alike : (site : SiteId) (run next : Progress) (transactions closes changes : ℕ) → Alike run next → Counted site run next transactions closes changes
counted_alike site run next transactions closes changes alike = record {
  drawn = (let same = alike.drawn in omega arith);
  closed = (let same = ap (λ (journal : Journal). length (closed_epochs journal)) alike.journal in omega arith);
  own = (let same = ap own_changes alike.journal in omega arith);
  applied = ap (applied_changes site) alike.journal;
}

-- a transaction has one change for each operation
pub as_many_changes : (rows : ℕ → ℕ → Option Row) (author transid : ℕ) (operations : List ClientOp) → length (changes_made rows author transid operations) ≡ length operations
unfolding changes_made
as_many_changes rows author transid operations = length-map operations (λ operation. change_over author transid (rows operation.table operation.key) operation)

-- an accepted transaction
counted_commit : (shape : Shape) (operations : List ClientOp) (run : Progress) → Counted shape.site run (committed shape operations run) 1 0 (length operations)
counted_commit shape operations run = record {
  drawn = omega arith;
  closed = omega arith;
  own = omega (arith, sum_by-cons (λ (entry : Entry). length (own_of entry)) (tx_entry shape operations run) run.journal, as_many_changes (rows_of run) (server_of shape.site) (run.drawn + 1) operations);
  applied = omega (arith, sum_by-cons (λ (entry : Entry). length (applied_of shape.site entry)) (tx_entry shape operations run) run.journal);
}

-- a close
counted_close : (shape : Shape) (gci : Bool) (run : Progress) → Counted shape.site run (closed shape gci run) 0 1 0
counted_close shape gci run = record {
  drawn = omega arith;
  closed = omega (arith, length-append (closed_epochs run.journal) (run.opened ∷ []));
  own = omega (arith, sum_by-cons (λ (entry : Entry). length (own_of entry)) (Closed run.opened) run.journal);
  applied = omega (arith, sum_by-cons (λ (entry : Entry). length (applied_of shape.site entry)) (Closed run.opened) run.journal);
}

-- an event of a site
pub counted_event : (shape : Shape) (run : Progress) (event : SiteEvent) → Counted shape.site run (site_step shape run event).run (transactions_in event) (closes_in event) (changes_in_step event)
counted_event shape run event =
    by_journal shape run (λ event next. Counted shape.site run next (transactions_in event) (closes_in event) (changes_in_step event))
    (λ event next alike. counted_alike shape.site run next (transactions_in event) (closes_in event) (changes_in_step event) alike)
    (λ operations free. counted_commit shape operations run)
    (λ gci. counted_close shape gci run)
    event
