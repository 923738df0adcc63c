-- Events that leave the journal, the open epoch and the number of transactions unchanged: all but
-- accepted transactions and closes.
use Rattle.std.proofs.Common.{◌≡◌, ℕ, ◌+◌, Bool, true, false, List, [], ◌∷◌, length, refl, ◌∙◌}
use Rattle.std.specs.Prelude.{Option, Some, None, if◌then◌else◌}
use Rattle.std.specs.List.{slice_get}
use Rattle.std.specs.Option.{option_map_or}
use Rattle.rb_base.specs.declared.message.Sent.{Sent}
use Rattle.rb_base.specs.declared.outcome.Outcome.TheVariants as outcomes
use Rattle.rb_base.specs.declared.script.ClientOp.{ClientOp}
use Rattle.rb_journal_defs.specs.Body.{Shape}
use Rattle.rb_journal_defs.specs.Transaction.{Refusal, refusal_of}
use Rattle.rb_message_defs.specs.Nodes.{node_at, successor_of, with_restart}
use Rattle.rb_message_defs.specs.Received.{answer_to}
use Rattle.rb_play_defs.specs.Step.{Progress, StepResult, unchanged, refused, rows_of, committed, commit_outcome, tx_step, closed, close_step, fed_by, delivered_message, answer_outcome, deliver_step, undelivered, after_delivery, all_delivered, delivery_of_all, deliver_all_step, injection_of, inject_step, needed_of, takeover_step, loss_step, fail_step, restart_step, resend_step, injector_step, unless_lost, site_step}
use Rattle.rb_play_defs.specs.declared.event.SiteEvent.{SiteEvent}
use Rattle.rb_play_defs.specs.declared.event.SiteEvent.TheVariants as happenings

-- a run whose journal, open epoch and number of transactions are unchanged
pub record Alike (run next : Progress) : Type 0 where
  pub journal : next.journal ≡ run.journal
  pub opened : next.opened ≡ run.opened
  pub drawn : next.drawn ≡ run.drawn

pub alike_self : (run : Progress) → Alike run run
alike_self run = record { journal = refl; opened = refl; drawn = refl }

pub alike_then : (a b c : Progress) → Alike a b → Alike b c → Alike a c
alike_then a b c one more = record { journal = more.journal ∙ one.journal; opened = more.opened ∙ one.opened; drawn = more.drawn ∙ one.drawn }

-- deliveries
pub alike_deliver : (shape : Shape) (place : ℕ) (run : Progress) → Alike run (deliver_step shape place run).run
unfolding deliver_step
alike_deliver shape place run = go (slice_get run.sent place)
  where
    go : (x : Option Sent) → Alike run (option_map_or (λ sent. record { run = delivered_message place sent.message run; outcome = answer_outcome (answer_to (fed_by shape run) sent.message) }) x (unchanged run (outcomes.NoMessage place (length run.sent)))).run
    go None = alike_self run
    go (Some sent) = record { journal = refl; opened = refl; drawn = refl }

alike_all : (shape : Shape) (places : List ℕ) (run : Progress) → Alike run (all_delivered shape places run)
alike_all shape [] run = alike_self run
alike_all shape (place ∷ places) run = alike_then run (after_delivery shape run place) (all_delivered shape (place ∷ places) run) (alike_deliver shape place run) (alike_all shape places (after_delivery shape run place))

alike_delivery : (shape : Shape) (run : Progress) → Alike run (delivery_of_all shape run).run
unfolding delivery_of_all
alike_delivery shape run = alike_all shape (undelivered run) run

-- an `inject` event
alike_injection : (shape : Shape) (run : Progress) → Alike run (injection_of shape run).run
unfolding injection_of
alike_injection shape run = record { journal = refl; opened = refl; drawn = refl }

-- the failure or the restart of a node
pub alike_fail : (shape : Shape) (node : ℕ) (run : Progress) → Alike run (fail_step shape node run).run
unfolding fail_step
alike_fail shape node run = go (node_at run.nodes node).up (successor_of run.nodes (needed_of run) node)
  where
    go : (up : Bool) (successor : Option ℕ) → Alike run (if up then option_map_or (λ other. takeover_step shape node other run) successor (loss_step shape node run) else unchanged run (outcomes.NodeDown node)).run
    go true None = record { journal = refl; opened = refl; drawn = refl }
    go true (Some other) = record { journal = refl; opened = refl; drawn = refl }
    go false successor = alike_self run

pub alike_restart : (node : ℕ) (run : Progress) → Alike run (restart_step node run).run
unfolding restart_step
alike_restart node run = go (node_at run.nodes node).up
  where
    go : (up : Bool) → Alike run (if up then unchanged run (outcomes.NodeUp node) else record { run = record run { nodes = with_restart node run.opened run.nodes }; outcome = outcomes.Restarted (record { 0 = run.opened + 1 }) }).run
    go true = alike_self run
    go false = record { journal = refl; opened = refl; drawn = refl }

-- a resend
pub alike_resend : (shape : Shape) (run : Progress) → Alike run (resend_step shape run).run
unfolding resend_step
alike_resend shape run = record { journal = refl; opened = refl; drawn = refl }

-- the restart of the injector
pub alike_injector : (shape : Shape) (run : Progress) → Alike run (injector_step shape run).run
unfolding injector_step
alike_injector shape run = record { journal = refl; opened = refl; drawn = refl }

-- an event that a site with a lost group refuses
unless : (run : Progress) (step : StepResult) (fact : Progress → Type 0) → fact run → fact step.run → fact (unless_lost run step).run
unless run step fact before next = go run.lost
  where
    go : (lost : Option (ℕ × ℕ)) → fact (option_map_or (λ loss. unchanged run (outcomes.SiteLost loss.0 (record { 0 = loss.1 }))) lost step).run
    go None = next
    go (Some loss) = before

-- a transaction, refused or accepted
transaction : (shape : Shape) (run : Progress) (operations : List ClientOp) (fact : Progress → Type 0) → fact run → (refusal_of (rows_of run) operations ≡ None → fact (committed shape operations run)) → fact (tx_step shape operations run).run
unfolding tx_step
transaction shape run operations fact before accepted = go (refusal_of (rows_of run) operations) refl
  where
    go : (x : Option Refusal) → refusal_of (rows_of run) operations ≡ x → fact (option_map_or (λ refusal. unchanged run (refused refusal)) x (record { run = committed shape operations run; outcome = commit_outcome (committed shape operations run) })).run
    go None free = accepted free
    go (Some refusal) free = before

-- a fact about what an event leaves of the journal: it holds if the run is alike, after an accepted
-- transaction, and after a close
pub by_journal : (shape : Shape) (run : Progress) (fact : SiteEvent → Progress → Type 0) →
    ((event : SiteEvent) (next : Progress) → Alike run next → fact event next) →
    ((operations : List ClientOp) → refusal_of (rows_of run) operations ≡ None → fact (happenings.Tx operations) (committed shape operations run)) →
    ((gci : Bool) → fact (happenings.Close gci) (closed shape gci run)) →
    (event : SiteEvent) → fact event (site_step shape run event).run
unfolding site_step close_step deliver_all_step inject_step
by_journal shape run fact alike accepted closes (happenings.Tx operations) =
    unless run (tx_step shape operations run) (fact (happenings.Tx operations)) (alike (happenings.Tx operations) run (alike_self run))
    (transaction shape run operations (fact (happenings.Tx operations)) (alike (happenings.Tx operations) run (alike_self run)) (accepted operations))
by_journal shape run fact alike accepted closes (happenings.Close gci) =
    unless run (close_step shape gci run) (fact (happenings.Close gci)) (alike (happenings.Close gci) run (alike_self run)) (closes gci)
by_journal shape run fact alike accepted closes (happenings.Deliver place) = alike (happenings.Deliver place) (deliver_step shape place run).run (alike_deliver shape place run)
by_journal shape run fact alike accepted closes happenings.DeliverAll = alike happenings.DeliverAll (delivery_of_all shape run).run (alike_delivery shape run)
by_journal shape run fact alike accepted closes happenings.Inject = alike happenings.Inject (injection_of shape run).run (alike_injection shape run)
by_journal shape run fact alike accepted closes (happenings.Fail node) =
    unless run (fail_step shape node run) (fact (happenings.Fail node)) (alike (happenings.Fail node) run (alike_self run)) (alike (happenings.Fail node) (fail_step shape node run).run (alike_fail shape node run))
by_journal shape run fact alike accepted closes (happenings.Restart node) =
    unless run (restart_step node run) (fact (happenings.Restart node)) (alike (happenings.Restart node) run (alike_self run)) (alike (happenings.Restart node) (restart_step node run).run (alike_restart node run))
by_journal shape run fact alike accepted closes happenings.Resend =
    unless run (resend_step shape run) (fact happenings.Resend) (alike happenings.Resend run (alike_self run)) (alike happenings.Resend (resend_step shape run).run (alike_resend shape run))
by_journal shape run fact alike accepted closes happenings.Injector = alike happenings.Injector (injector_step shape run).run (alike_injector shape run)
