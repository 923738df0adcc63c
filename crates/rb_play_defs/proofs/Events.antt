-- The step of an event, by what the event is and what it finds.
use Rattle.std.proofs.Common.{◌≡◌, ℕ, List, sym, ap, subst, ◌∙◌, ◌+◌, Bool, true, false, length, refl, take}
use Rattle.rb_journal_defs.specs.Body.{Shape, body_of, completed_bodies}
use Rattle.rb_base.specs.declared.outcome.Outcome.{Outcome}
use Rattle.rb_play_defs.specs.Step.{Progress, StepResult, fed_by, written_bodies, unchanged, needed_of, takeover_step, loss_step, fail_step, restart_step, resend_step, refused, rows_of, tx_entry, committed, commit_outcome, tx_step, closed, close_step, delivered_message, answer_outcome, deliver_step, injected, deliver_all_step, injection_of, inject_step, injector_step, unless_lost, site_step}
use Rattle.rb_play_defs.specs.Sound.{IsSound}
use Rattle.std.specs.Prelude.{None, if◌then◌else◌, Option, Some}
use Rattle.std.specs.Option.{option_map_or}
use Rattle.rb_base.specs.declared.message.Sent.{Sent}
use Rattle.rb_base.specs.declared.outcome.Outcome.TheVariants as outcomes
use Rattle.rb_message_defs.specs.Nodes.{node_at, successor_of, with_restart}
use Rattle.rb_base.specs.declared.script.ClientOp.{ClientOp}
use Rattle.rb_journal_defs.specs.Transaction.{Refusal, refusal_of}
use Rattle.rb_journal_defs.proofs.Bodies.{completed_entered, completed_closed, if_logged}
use Rattle.rb_play_defs.proofs.Sounds.{closed_all_below}
use Rattle.std.proofs.lemmas.List.{take-append-le}
use Rattle.rb_play_defs.proofs.Grows.{written_within}
use Rattle.std.specs.List.{slice_get}
use Rattle.rb_message_defs.specs.Received.{answer_to}
use Rattle.rb_play_defs.specs.declared.event.SiteEvent.{SiteEvent}
use Rattle.rb_play_defs.specs.declared.event.SiteEvent.TheVariants as happenings
use Rattle.rb_play_defs.specs.Point.{needs_all_groups, uses_device}

-- a step leaves what the event buffer was fed, and the written bodies
pub record LeavesLog (shape : Shape) (run now : Progress) : Type 0 where
  pub fed : fed_by shape now ≡ fed_by shape run
  pub written : written_bodies shape now ≡ written_bodies shape run

-- a step by what its event is
pub step_is : (stands : Progress → Type 0) (outcome : Outcome) (step other : StepResult) → step ≡ other → stands other.run × (outcome ≡ other.outcome) → stands step.run × (outcome ≡ step.outcome)
step_is stands outcome step other is held = subst (λ (s : StepResult). stands s.run × (outcome ≡ s.outcome)) (sym is) held

-- the step of a failure: a successor takes over, the group is lost, or the node is down already
pub step_takes_over : (shape : Shape) (node successor : ℕ) (run : Progress) → (node_at run.nodes node).up ≡ true → successor_of run.nodes (needed_of run) node ≡ Some successor → fail_step shape node run ≡ takeover_step shape node successor run
unfolding fail_step
step_takes_over shape node successor run up is =
    ap (λ (b : Bool). if b then option_map_or (λ other. takeover_step shape node other run) (successor_of run.nodes (needed_of run) node) (loss_step shape node run) else unchanged run (outcomes.NodeDown node)) up
    ∙ ap (λ (o : Option ℕ). option_map_or (λ other. takeover_step shape node other run) o (loss_step shape node run)) is

pub step_loses : (shape : Shape) (node : ℕ) (run : Progress) → (node_at run.nodes node).up ≡ true → successor_of run.nodes (needed_of run) node ≡ None → fail_step shape node run ≡ loss_step shape node run
unfolding fail_step
step_loses shape node run up is =
    ap (λ (b : Bool). if b then option_map_or (λ other. takeover_step shape node other run) (successor_of run.nodes (needed_of run) node) (loss_step shape node run) else unchanged run (outcomes.NodeDown node)) up
    ∙ ap (λ (o : Option ℕ). option_map_or (λ other. takeover_step shape node other run) o (loss_step shape node run)) is

pub step_was_down : (shape : Shape) (node : ℕ) (run : Progress) → (node_at run.nodes node).up ≡ false → fail_step shape node run ≡ unchanged run (outcomes.NodeDown node)
unfolding fail_step
step_was_down shape node run down = ap (λ (b : Bool). if b then option_map_or (λ other. takeover_step shape node other run) (successor_of run.nodes (needed_of run) node) (loss_step shape node run) else unchanged run (outcomes.NodeDown node)) down

-- the step of a restart
pub step_restarts : (node : ℕ) (run : Progress) → (node_at run.nodes node).up ≡ false → restart_step node run ≡ record { run = record run { nodes = with_restart node run.opened run.nodes }; outcome = outcomes.Restarted (record { 0 = run.opened + 1 }) }
unfolding restart_step
step_restarts node run down = ap (λ (b : Bool). if b then unchanged run (outcomes.NodeUp node) else record { run = record run { nodes = with_restart node run.opened run.nodes }; outcome = outcomes.Restarted (record { 0 = run.opened + 1 }) }) down

pub step_was_up : (node : ℕ) (run : Progress) → (node_at run.nodes node).up ≡ true → restart_step node run ≡ unchanged run (outcomes.NodeUp node)
unfolding restart_step
step_was_up node run up = ap (λ (b : Bool). if b then unchanged run (outcomes.NodeUp node) else record { run = record run { nodes = with_restart node run.opened run.nodes }; outcome = outcomes.Restarted (record { 0 = run.opened + 1 }) }) up

-- the outcomes of a transaction
pub tx_accepted : (shape : Shape) (operations : List ClientOp) (run : Progress) → refusal_of (rows_of run) operations ≡ None → tx_step shape operations run ≡ record { run = committed shape operations run; outcome = commit_outcome (committed shape operations run) }
unfolding tx_step
tx_accepted shape operations run free = ap (λ (r : Option Refusal). option_map_or (λ refusal. unchanged run (refused refusal)) r (record { run = committed shape operations run; outcome = commit_outcome (committed shape operations run) })) free

pub tx_refused : (shape : Shape) (operations : List ClientOp) (run : Progress) (refusal : Refusal) → refusal_of (rows_of run) operations ≡ Some refusal → tx_step shape operations run ≡ unchanged run (refused refusal)
unfolding tx_step
tx_refused shape operations run refusal is = ap (λ (r : Option Refusal). option_map_or (λ refusal. unchanged run (refused refusal)) r (record { run = committed shape operations run; outcome = commit_outcome (committed shape operations run) })) is

-- the log represents the same after a transaction
pub tx_leaves_log : (shape : Shape) (operations : List ClientOp) (run : Progress) → IsSound shape run → LeavesLog shape run (tx_step shape operations run).run
unfolding tx_step
tx_leaves_log shape operations run sound = go (refusal_of (rows_of run) operations)
  where
    go : (r : Option Refusal) → LeavesLog shape run (option_map_or (λ refusal. unchanged run (refused refusal)) r (record { run = committed shape operations run; outcome = commit_outcome (committed shape operations run) })).run
    go None = record { fed = refl; written = ap (take run.written) (completed_entered shape run.opened (tx_entry shape operations run) run.journal refl (closed_all_below run.opened run.journal sound.order)) }
    go (Some refusal) = record { fed = refl; written = refl }

-- what is written stays
pub close_written : (shape : Shape) (gci : Bool) (run : Progress) → IsSound shape run → written_bodies shape (closed shape gci run) ≡ written_bodies shape run
close_written shape gci run sound =
    ap (take run.written) (completed_closed shape run.opened run.journal)
    ∙ take-append-le run.written (completed_bodies shape run.journal) (if_logged (body_of shape run.opened run.journal)) (written_within shape run sound)

-- the log represents the same
pub close_leaves_log : (shape : Shape) (gci : Bool) (run : Progress) → IsSound shape run → LeavesLog shape run (close_step shape gci run).run
unfolding close_step
close_leaves_log shape gci run sound = record { fed = refl; written = close_written shape gci run sound }

-- the step at a place where there is a message
pub deliver_there : (shape : Shape) (run : Progress) (place : ℕ) (at : Sent) → slice_get run.sent place ≡ Some at → deliver_step shape place run ≡ record { run = delivered_message place at.message run; outcome = answer_outcome (answer_to (fed_by shape run) at.message) }
unfolding deliver_step
deliver_there shape run place at there = ap (λ (x : Option Sent). option_map_or (λ sent. record { run = delivered_message place sent.message run; outcome = answer_outcome (answer_to (fed_by shape run) sent.message) }) x (unchanged run (outcomes.NoMessage place (length run.sent)))) there

-- without a loss a site refuses no event for one
pub not_lost : (run : Progress) (step : StepResult) → run.lost ≡ None → unless_lost run step ≡ step
not_lost run step none = ap (λ (lost : Option (ℕ × ℕ)). option_map_or (λ loss. unchanged run (outcomes.SiteLost loss.0 (record { 0 = loss.1 }))) lost step) none

pub is_tx : (shape : Shape) (run : Progress) (event : SiteEvent) (operations : List ClientOp) → event ≡ happenings.Tx operations → run.lost ≡ None → site_step shape run event ≡ tx_step shape operations run
unfolding site_step
is_tx shape run event operations is none = ap (site_step shape run) is ∙ not_lost run (tx_step shape operations run) none

pub is_close : (shape : Shape) (run : Progress) (event : SiteEvent) (gci : Bool) → event ≡ happenings.Close gci → run.lost ≡ None → site_step shape run event ≡ close_step shape gci run
unfolding site_step
is_close shape run event gci is none = ap (site_step shape run) is ∙ not_lost run (close_step shape gci run) none

pub is_deliver : (shape : Shape) (run : Progress) (event : SiteEvent) (place : ℕ) → event ≡ happenings.Deliver place → site_step shape run event ≡ deliver_step shape place run
unfolding site_step
is_deliver shape run event place is = ap (site_step shape run) is

pub is_deliver_all : (shape : Shape) (run : Progress) (event : SiteEvent) → event ≡ happenings.DeliverAll → site_step shape run event ≡ deliver_all_step shape run
unfolding site_step
is_deliver_all shape run event is = ap (site_step shape run) is

pub is_inject : (shape : Shape) (run : Progress) (event : SiteEvent) → event ≡ happenings.Inject → site_step shape run event ≡ inject_step shape run
unfolding site_step
is_inject shape run event is = ap (site_step shape run) is

pub is_fail : (shape : Shape) (run : Progress) (event : SiteEvent) (node : ℕ) → event ≡ happenings.Fail node → run.lost ≡ None → site_step shape run event ≡ fail_step shape node run
unfolding site_step
is_fail shape run event node is none = ap (site_step shape run) is ∙ not_lost run (fail_step shape node run) none

pub is_restart : (shape : Shape) (run : Progress) (event : SiteEvent) (node : ℕ) → event ≡ happenings.Restart node → run.lost ≡ None → site_step shape run event ≡ restart_step node run
unfolding site_step
is_restart shape run event node is none = ap (site_step shape run) is ∙ not_lost run (restart_step node run) none

pub is_resend : (shape : Shape) (run : Progress) (event : SiteEvent) → event ≡ happenings.Resend → run.lost ≡ None → site_step shape run event ≡ resend_step shape run
unfolding site_step
is_resend shape run event is none = ap (site_step shape run) is ∙ not_lost run (resend_step shape run) none

-- an event at a lost site
pub lost_before : (run : Progress) (step : StepResult) (group epoch : ℕ) → run.lost ≡ Some (group, epoch) → unless_lost run step ≡ unchanged run (outcomes.SiteLost group (record { 0 = epoch }))
lost_before run step group epoch lost = ap (λ (lost : Option (ℕ × ℕ)). option_map_or (λ loss. unchanged run (outcomes.SiteLost loss.0 (record { 0 = loss.1 }))) lost step) lost

pub refused_where : (shape : Shape) (run : Progress) (event : SiteEvent) (group epoch : ℕ) → needs_all_groups event ≡ true → run.lost ≡ Some (group, epoch) → site_step shape run event ≡ unchanged run (outcomes.SiteLost group (record { 0 = epoch }))
unfolding site_step
refused_where shape run (happenings.Tx operations) group epoch needs lost = lost_before run (tx_step shape operations run) group epoch lost
refused_where shape run (happenings.Close gci) group epoch needs lost = lost_before run (close_step shape gci run) group epoch lost
refused_where shape run (happenings.Fail node) group epoch needs lost = lost_before run (fail_step shape node run) group epoch lost
refused_where shape run (happenings.Restart node) group epoch needs lost = lost_before run (restart_step node run) group epoch lost
refused_where shape run happenings.Resend group epoch needs lost = lost_before run (resend_step shape run) group epoch lost
refused_where shape run (happenings.Deliver place) group epoch needs lost = absurd (let no : false ≡ true = needs in cc)
refused_where shape run happenings.DeliverAll group epoch needs lost = absurd (let no : false ≡ true = needs in cc)
refused_where shape run happenings.Inject group epoch needs lost = absurd (let no : false ≡ true = needs in cc)
refused_where shape run happenings.Injector group epoch needs lost = absurd (let no : false ≡ true = needs in cc)

-- what `inject` leaves is what its step leaves
pub turn_is_step : (shape : Shape) (run : Progress) → (inject_step shape run).run ≡ injected shape run
unfolding inject_step injection_of
turn_is_step shape run = refl

pub is_injector : (shape : Shape) (run : Progress) (event : SiteEvent) → event ≡ happenings.Injector → site_step shape run event ≡ injector_step shape run
unfolding site_step
is_injector shape run event is = ap (site_step shape run) is

-- the log represents the same after these events
pub fail_leaves_log : (shape : Shape) (node : ℕ) (run : Progress) → LeavesLog shape run (fail_step shape node run).run
unfolding fail_step
fail_leaves_log shape node run = go (node_at run.nodes node).up (successor_of run.nodes (needed_of run) node)
  where
    go : (up : Bool) (found : Option ℕ) → LeavesLog shape run (if up then option_map_or (λ other. takeover_step shape node other run) found (loss_step shape node run) else unchanged run (outcomes.NodeDown node)).run
    go true (Some other) = record { fed = refl; written = refl }
    go true None = record { fed = refl; written = refl }
    go false found = record { fed = refl; written = refl }

pub restart_leaves_log : (shape : Shape) (node : ℕ) (run : Progress) → LeavesLog shape run (restart_step node run).run
unfolding restart_step
restart_leaves_log shape node run = go (node_at run.nodes node).up
  where
    go : (up : Bool) → LeavesLog shape run (if up then unchanged run (outcomes.NodeUp node) else record { run = record run { nodes = with_restart node run.opened run.nodes }; outcome = outcomes.Restarted (record { 0 = run.opened + 1 }) }).run
    go true = record { fed = refl; written = refl }
    go false = record { fed = refl; written = refl }

pub unless_leaves_log : (shape : Shape) (run : Progress) (step : StepResult) → LeavesLog shape run step.run → LeavesLog shape run (unless_lost run step).run
unless_leaves_log shape run step leaves = go run.lost
  where
    go : (lost : Option (ℕ × ℕ)) → LeavesLog shape run (option_map_or (λ loss. unchanged run (outcomes.SiteLost loss.0 (record { 0 = loss.1 }))) lost step).run
    go None = leaves
    go (Some loss) = record { fed = refl; written = refl }

pub leaves_log : (event : SiteEvent) (shape : Shape) (run : Progress) → needs_all_groups event ≡ true → IsSound shape run → LeavesLog shape run (site_step shape run event).run
unfolding site_step resend_step
leaves_log (happenings.Tx operations) shape run needs sound = unless_leaves_log shape run (tx_step shape operations run) (tx_leaves_log shape operations run sound)
leaves_log (happenings.Close gci) shape run needs sound = unless_leaves_log shape run (close_step shape gci run) (close_leaves_log shape gci run sound)
leaves_log (happenings.Fail node) shape run needs sound = unless_leaves_log shape run (fail_step shape node run) (fail_leaves_log shape node run)
leaves_log (happenings.Restart node) shape run needs sound = unless_leaves_log shape run (restart_step node run) (restart_leaves_log shape node run)
leaves_log happenings.Resend shape run needs sound = unless_leaves_log shape run (resend_step shape run) (record { fed = refl; written = refl })
leaves_log (happenings.Deliver place) shape run needs sound = absurd (let no : false ≡ true = needs in cc)
leaves_log happenings.DeliverAll shape run needs sound = absurd (let no : false ≡ true = needs in cc)
leaves_log happenings.Inject shape run needs sound = absurd (let no : false ≡ true = needs in cc)
leaves_log happenings.Injector shape run needs sound = absurd (let no : false ≡ true = needs in cc)

-- an event inside that is no delivery needs all groups
pub is_at_nodes : (event : SiteEvent) → uses_device event ≡ false → ((place : ℕ) → event ≡ happenings.Deliver place → ⊥) → (event ≡ happenings.DeliverAll → ⊥) → needs_all_groups event ≡ true
is_at_nodes (happenings.Tx operations) inside a b = refl
is_at_nodes (happenings.Close gci) inside a b = refl
is_at_nodes (happenings.Deliver place) inside a b = absurd (a place refl)
is_at_nodes happenings.DeliverAll inside a b = absurd (b refl)
is_at_nodes happenings.Inject inside a b = absurd (let no : true ≡ false = inside in cc)
is_at_nodes (happenings.Fail node) inside a b = refl
is_at_nodes (happenings.Restart node) inside a b = refl
is_at_nodes happenings.Resend inside a b = refl
is_at_nodes happenings.Injector inside a b = absurd (let no : true ≡ false = inside in cc)
