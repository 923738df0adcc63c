-- What each event does at a site, and its outcome.
use Rattle.std.specs.Prelude.{ℕ, ◌+◌, ◌/◌, Bool, true, false, if◌then◌else◌, List, [], ◌∷◌, ◌++◌, length, filter, filter_map, map, fold, count_by, Option, Some, None, unwrap_or}
use Rattle.std.specs.List.{flat_map, last_or, slice_get}
use Rattle.std.specs.Option.{option_map, option_map_or}
use Rattle.rb_base.specs.declared.row.Row.{Row}
use Rattle.rb_base.specs.declared.change.Change.{Change}
use Rattle.rb_base.specs.declared.body.EpochBody.{EpochBody}
use Rattle.rb_base.specs.declared.message.Message.{Message}
use Rattle.rb_base.specs.declared.message.Sent.{Sent}
use Rattle.rb_base.specs.declared.script.ClientOp.{ClientOp}
use Rattle.rb_base.specs.declared.outcome.Outcome.{Outcome}
use Rattle.rb_base.specs.declared.outcome.Outcome.TheVariants as outcomes
use Rattle.rb_base.specs.Site.{server_of}
use Rattle.rb_journal_defs.specs.Journal.{Entry, Client, Closed, Journal, changes_of, row_at}
use Rattle.rb_journal_defs.specs.Body.{Shape, changes_in, body_of, numbers_below, has_something_to_log, logged_bodies}
use Rattle.rb_journal_defs.specs.Transaction.{Refusal, RowTwice, KeyThere, NoKey, refusal_of, changes_made}
use Rattle.rb_journal_defs.specs.Clock.{first_epoch, epoch_after}
use Rattle.rb_message_defs.specs.declared.answers.Received.{Received}
use Rattle.rb_message_defs.specs.declared.answers.Received.TheVariants as answers
use Rattle.rb_message_defs.specs.declared.answers.Missing.{Missing}
use Rattle.rb_message_defs.specs.Message.{parts_sent, done_message, sent_by}
use Rattle.rb_message_defs.specs.Nodes.{Nodes, nodes_at_first, node_at, owner_in, needed_epoch, unacknowledged, sent_from, group_of, successor_of, owned_by, with_failure, with_restart, with_owner, returns, with_returns, numbers_in, waiting_places}
use Rattle.rb_message_defs.specs.Received.{Fed, answer_to, answers_to, missing_of}
use Rattle.rb_message_defs.specs.Taken.{taken_epochs}
use Rattle.rb_play_defs.specs.declared.event.SiteEvent.{SiteEvent}
use Rattle.rb_play_defs.specs.declared.event.SiteEvent.TheVariants.{Tx, Close, Deliver, DeliverAll, Inject, Fail, Restart, Resend, Injector}

-- the state of a site in a run: its journal, its open epoch, and the number of transactions so far;
-- all messages that its nodes sent, and the places of those that were delivered; the messages that
-- the event buffer received, the newest first, the last epoch that was taken from it, and the
-- number of logged bodies; the acknowledged epoch, which is the greatest written one that an
-- `inject` told the nodes; the site's nodes; and the first group that it lost, with the epoch that
-- was needed at that time
pub record Progress : Type 0 where
  pub journal : Journal
  pub opened : ℕ
  pub drawn : ℕ
  pub sent : List Sent
  pub delivered : List ℕ
  pub received : List Message
  pub last : ℕ
  pub written : ℕ
  pub acknowledged : ℕ
  pub nodes : Nodes
  pub lost : Option (ℕ × ℕ)

-- the state of a new site
abbrev pub beginning : (groups replicas : ℕ) → Progress
beginning groups replicas = record {
  journal = [];
  opened = first_epoch;
  drawn = 0;
  sent = [];
  delivered = [];
  received = [];
  last = 0;
  written = 0;
  acknowledged = 0;
  nodes = nodes_at_first groups replicas;
  lost = None;
}

-- the state after an event, and the event's outcome
pub record StepResult : Type 0 where
  pub run : Progress
  pub outcome : Outcome

-- the result of an event that changes nothing
abbrev pub unchanged : Progress → Outcome → StepResult
unchanged run outcome = record { run = run; outcome = outcome }

-- the row of each key of each table
abbrev pub rows_of : Progress → ℕ → ℕ → Option Row
rows_of run table key = row_at table key run.journal

-- the outcome of a refused transaction
abbrev pub refused : Refusal → Outcome
refused (RowTwice number) = outcomes.RowTwice number
refused (KeyThere number) = outcomes.KeyThere number
refused (NoKey number) = outcomes.NoKey number

-- the changes of a client's transaction, if it is accepted
abbrev pub tx_changes : Shape → List ClientOp → Progress → List Change
tx_changes shape operations run = changes_made (rows_of run) (server_of shape.site) (run.drawn + 1) operations

-- the messages that a new entry of the open epoch sends: one for each of its changes
abbrev pub messages_entered : Shape → Entry → Progress → List Message
messages_entered shape entry run = parts_sent shape.buckets run.opened (changes_in shape.site run.opened run.journal) (changes_of shape.site entry)

-- the site after a new entry of its open epoch: the entry is in the journal, and the owners of the
-- buckets have sent its changes
abbrev pub entered : Shape → Entry → Progress → Progress
entered shape entry run = record run {
  journal = entry ∷ run.journal;
  sent = run.sent ++ map (sent_by (owner_in run.nodes)) (messages_entered shape entry run);
}

-- the entry of a client's transaction
abbrev pub tx_entry : Shape → List ClientOp → Progress → Entry
tx_entry shape operations run = Client run.opened (run.drawn + 1) (tx_changes shape operations run)

-- the site after the commit of a client's transaction
abbrev pub committed : Shape → List ClientOp → Progress → Progress
committed shape operations run =
    let after = entered shape (tx_entry shape operations run) run in
    record after { drawn = run.drawn + 1 }

-- the outcome of an accepted transaction
abbrev pub commit_outcome : Progress → Outcome
commit_outcome run =
    outcomes.Committed run.drawn (record { 0 = run.opened }) (length run.sent)

-- a client's transaction: it is either refused, which changes nothing, or committed
unfoldable pub tx_step : Shape → List ClientOp → Progress → StepResult
tx_step shape operations run =
    option_map_or (λ refusal. unchanged run (refused refusal)) (refusal_of (rows_of run) operations)
    (record { run = committed shape operations run; outcome = commit_outcome (committed shape operations run) })

-- the epoch of the last body, or 0
abbrev pub last_epoch : List EpochBody → ℕ
last_epoch bodies = unwrap_or (last_or None (map (λ body. body.epoch.0) bodies)) 0

-- the bodies that a site has logged
abbrev pub written_bodies : Shape → Progress → List EpochBody
written_bodies shape run = logged_bodies shape run.written run.journal

-- the last written epoch: the last one that is logged, or 0
abbrev pub last_written : Shape → Progress → ℕ
last_written shape run = last_epoch (written_bodies shape run)

-- the needed epoch of a site
abbrev pub needed_of : Progress → ℕ
needed_of run = needed_epoch run.acknowledged run.opened run.journal

-- what a node resends of a bucket: all its messages that are not acknowledged
abbrev pub sent_again : Shape → Progress → (sender bucket : ℕ) → List Sent
sent_again shape run sender bucket = sent_from sender (unacknowledged shape run.acknowledged run.opened run.journal bucket)

-- the site with its open epoch closed, before any message is sent
abbrev pub only_closed : (gci : Bool) → Progress → Progress
only_closed gci run = record run { journal = Closed run.opened ∷ run.journal; opened = epoch_after gci run.opened }

-- the messages that a group sends at a close: the owners send the Done of each bucket, and home
-- nodes to which buckets return resend those buckets
abbrev pub sent_at_close : Shape → (before after : Progress) → (group : ℕ) → List Sent
sent_at_close shape before after group =
    map (λ bucket. sent_by (owner_in before.nodes) (done_message shape before.opened bucket before.journal)) (numbers_in before.nodes group)
    ++ flat_map (λ bucket. sent_again shape after bucket bucket) (filter (returns before.nodes (needed_of after)) (numbers_in before.nodes group))

-- the site after its open epoch closed: each group has sent its messages, the buckets that can
-- return are at their home nodes, and the next epoch is open
abbrev pub closed : Shape → (gci : Bool) → Progress → Progress
closed shape gci run =
    let after = only_closed gci run in
    record after {
      sent = run.sent ++ flat_map (sent_at_close shape run after) (numbers_below (shape.buckets / run.nodes.replicas));
      nodes = with_returns (needed_of after) run.nodes;
    }

-- a close and its outcome
unfoldable pub close_step : Shape → (gci : Bool) → Progress → StepResult
close_step shape gci run = record {
  run = closed shape gci run;
  outcome = outcomes.Closed (record { 0 = run.opened }) (length (closed shape gci run).sent);
}

-- the site after a node failed and its successor took over its buckets and resent them
abbrev pub taken_over : Shape → (node successor : ℕ) → Progress → Progress
taken_over shape node successor run = record run {
  nodes = with_owner node successor (with_failure node (length run.sent) run.nodes);
  sent = run.sent ++ flat_map (sent_again shape run successor) (owned_by run.nodes node);
}

-- a takeover and its outcome
abbrev pub takeover_step : Shape → (node successor : ℕ) → Progress → StepResult
takeover_step shape node successor run = record {
  run = taken_over shape node successor run;
  outcome = outcomes.Failed (length (owned_by run.nodes node)) (length (taken_over shape node successor run).sent);
}

-- the failure of a node in whose group no other node covers: the group is lost
abbrev pub loss_step : Shape → (node : ℕ) → Progress → StepResult
loss_step shape node run = record {
  run = record run { nodes = with_failure node (length run.sent) run.nodes; lost = Some (group_of run.nodes node, needed_of run) };
  outcome = outcomes.Lost (group_of run.nodes node) (record { 0 = needed_of run });
}

-- the failure of a node, if the node is up
unfoldable pub fail_step : Shape → (node : ℕ) → Progress → StepResult
fail_step shape node run =
    if (node_at run.nodes node).up
    then option_map_or (λ successor. takeover_step shape node successor run) (successor_of run.nodes (needed_of run) node) (loss_step shape node run)
    else unchanged run (outcomes.NodeDown node)

-- the restart of a node, if the node is down: its buffer is empty, and begins with the epoch after
-- the open one
unfoldable pub restart_step : (node : ℕ) → Progress → StepResult
restart_step node run =
    if (node_at run.nodes node).up then unchanged run (outcomes.NodeUp node)
    else record { run = record run { nodes = with_restart node run.opened run.nodes }; outcome = outcomes.Restarted (record { 0 = run.opened + 1 }) }

-- what all owners resend of their buckets, bucket 0 first
abbrev pub sent_by_owners : Shape → Progress → List Sent
sent_by_owners shape run = flat_map (λ bucket. sent_again shape run (owner_in run.nodes bucket) bucket) (numbers_below shape.buckets)

-- a resend of every bucket by its owner, and its outcome
unfoldable pub resend_step : Shape → Progress → StepResult
resend_step shape run =
    let sent = run.sent ++ sent_by_owners shape run in
    record { run = record run { sent = sent }; outcome = outcomes.Resent (length sent) }

-- what the owners resend to a new injector; nothing if a group is lost
abbrev pub sent_to_injector : Shape → Progress → List Sent
sent_to_injector shape run = option_map_or (λ loss. []) run.lost (sent_by_owners shape run)

-- the site after its injector stopped and recovered: the event buffer is empty, and the last taken
-- epoch is the last logged one
abbrev pub with_new_injector : Shape → Progress → Progress
with_new_injector shape run = record run {
  received = [];
  last = last_written shape run;
  sent = run.sent ++ sent_to_injector shape run;
}

-- the restart of the injector and its outcome
unfoldable pub injector_step : Shape → Progress → StepResult
injector_step shape run = record {
  run = with_new_injector shape run;
  outcome = outcomes.Recovered (record { 0 = last_written shape run }) (length (with_new_injector shape run).sent);
}

-- an event that a site with a lost group refuses
abbrev pub unless_lost : Progress → StepResult → StepResult
unless_lost run step = option_map_or (λ loss. unchanged run (outcomes.SiteLost loss.0 (record { 0 = loss.1 }))) run.lost step

-- the history of the event buffer
abbrev pub fed_by : Shape → Progress → Fed
fed_by shape run = record { buckets = shape.buckets; last = run.last; received = run.received }

-- the site after the message at this place reached the event buffer
abbrev pub delivered_message : (place : ℕ) → Message → Progress → Progress
delivered_message place message run = record run { delivered = place ∷ run.delivered; received = message ∷ run.received }

-- the outcome of the delivery of one message
abbrev pub answer_outcome : Received → Outcome
answer_outcome answers.Kept = outcomes.Kept
answer_outcome answers.Known = outcomes.Known
answer_outcome answers.Old = outcomes.Old

-- the delivery of the message at a place, if there is one
unfoldable pub deliver_step : Shape → (place : ℕ) → Progress → StepResult
deliver_step shape place run =
    option_map_or (λ sent. record {
      run = delivered_message place sent.message run;
      outcome = answer_outcome (answer_to (fed_by shape run) sent.message);
    }) (slice_get run.sent place) (unchanged run (outcomes.NoMessage place (length run.sent)))

-- how many messages the site had sent when this node last failed
abbrev pub failed_in : Progress → (node : ℕ) → ℕ
failed_in run node = (node_at run.nodes node).failed_at

-- the places of the messages that were never delivered and whose sender has not failed since
abbrev pub undelivered : Progress → List ℕ
undelivered run = waiting_places (failed_in run) run.sent run.delivered

-- the site after the delivery of one place
abbrev pub after_delivery : Shape → Progress → (place : ℕ) → Progress
after_delivery shape run place = (deliver_step shape place run).run

-- the site after the delivery of these places, in order
abbrev pub all_delivered : Shape → List ℕ → Progress → Progress
all_delivered shape places run = fold (after_delivery shape) run places

-- the messages at these places
abbrev pub messages_at : List Sent → (places : List ℕ) → List Message
messages_at sent places = filter_map (λ place. option_map (λ message. message.message) (slice_get sent place)) places

-- how many messages of a delivery were kept, known and old
pub record Answers : Type 0 where
  pub kept : ℕ
  pub known : ℕ
  pub old : ℕ

abbrev pub is_kept : Received → Bool
is_kept answers.Kept = true
is_kept answer = false

abbrev pub is_known : Received → Bool
is_known answers.Known = true
is_known answer = false

abbrev pub is_old : Received → Bool
is_old answers.Old = true
is_old answer = false

-- how often each answer stands in a list
abbrev pub counts_of : List Received → Answers
counts_of received = record { kept = count_by is_kept received; known = count_by is_known received; old = count_by is_old received }

-- the delivery of every message that was never delivered and whose sender has not failed since
pub record Delivery : Type 0 where
  pub run : Progress
  pub answers : Answers

unfoldable pub delivery_of_all : Shape → Progress → Delivery
delivery_of_all shape run = record {
  run = all_delivered shape (undelivered run) run;
  answers = counts_of (answers_to (fed_by shape run) (messages_at run.sent (undelivered run)));
}

-- a delivery of all messages and its outcome
unfoldable pub deliver_all_step : Shape → Progress → StepResult
deliver_all_step shape run =
    let delivery = delivery_of_all shape run in
    record { run = delivery.run; outcome = outcomes.Delivered delivery.answers.kept delivery.answers.known delivery.answers.old }

-- the epochs that the injector can take
abbrev pub takeable : Shape → Progress → List ℕ
takeable shape run = taken_epochs (fed_by shape run) run.journal

-- the epochs among these that have something to log
abbrev pub worth_logging : Shape → Journal → List ℕ → List ℕ
worth_logging shape journal epochs = filter (λ epoch. has_something_to_log (body_of shape epoch journal)) epochs

-- the site after one epoch was taken, and logged if it has something to log
abbrev pub with_taken : Shape → Progress → (epoch : ℕ) → Progress
with_taken shape run epoch = record run { last = epoch; written = run.written + length (worth_logging shape run.journal (epoch ∷ [])) }

-- the site after the epochs up to the first one that is not whole were taken, and those with
-- something to log were logged
abbrev pub with_all_taken : Shape → Progress → Progress
with_all_taken shape run = record run {
  last = unwrap_or (last_or None (takeable shape run)) run.last;
  written = run.written + length (worth_logging shape run.journal (takeable shape run));
}

-- the site after its nodes are told the greatest written epoch
abbrev pub with_acknowledged : Shape → Progress → Progress
with_acknowledged shape run = record run { acknowledged = last_written shape run }

-- the site after an `inject` event
abbrev pub injected : Shape → Progress → Progress
injected shape run = with_acknowledged shape (with_all_taken shape run)

-- the result of an `inject` event: the number of epochs that it logged, the last logged epoch, and
-- the first message that is missing of the next epoch
pub record Injection : Type 0 where
  pub run : Progress
  pub count : ℕ
  pub written : ℕ
  pub missing : Missing

-- the first message that is missing of the next epoch, which is not whole
abbrev pub missing_after : Shape → Progress → Missing
missing_after shape run = unwrap_or (missing_of (fed_by shape run)) (record { bucket = 0; place = None })

unfoldable pub injection_of : Shape → Progress → Injection
injection_of shape run =
    let after = injected shape run in record {
      run = after;
      count = length (worth_logging shape run.journal (takeable shape run));
      written = last_written shape after;
      missing = missing_after shape after;
    }

-- an `inject` event and its outcome
unfoldable pub inject_step : Shape → Progress → StepResult
inject_step shape run =
    let injection = injection_of shape run in record {
      run = injection.run;
      outcome = outcomes.Wrote injection.count (record { 0 = injection.written }) injection.missing.bucket injection.missing.place;
    }

-- an event at the site, and its outcome
unfoldable pub site_step : Shape → Progress → SiteEvent → StepResult
site_step shape run (Tx operations) = unless_lost run (tx_step shape operations run)
site_step shape run (Close gci) = unless_lost run (close_step shape gci run)
site_step shape run (Deliver place) = deliver_step shape place run
site_step shape run DeliverAll = deliver_all_step shape run
site_step shape run Inject = inject_step shape run
site_step shape run (Fail node) = unless_lost run (fail_step shape node run)
site_step shape run (Restart node) = unless_lost run (restart_step node run)
site_step shape run Resend = unless_lost run (resend_step shape run)
site_step shape run Injector = injector_step shape run
