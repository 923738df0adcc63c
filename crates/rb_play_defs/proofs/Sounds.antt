-- Each event keeps a site sound.
use Rattle.std.proofs.Common.{◌≡◌, ℕ, ◌+◌, ◌*◌, ◌/◌, ◌^◌, ◌<◌, ◌≤◌, Bool, true, false, cond, List, [], ◌∷◌, ◌++◌, length, map, filter, refl, sym, ap, subst, ◌∙◌, inl, inr, arith, length-append}
use Rattle.std.specs.Prelude.{◌⊎◌, ◌==◌, nat_le, if◌then◌else◌, Option, Some, None}
use Rattle.std.specs.List.{AllByRecursion, enumerate_from, flat_map}
use Rattle.std.specs.Option.{option_map_or}
use Rattle.std.proofs.Math.Nat.{lt-mul-div-succ, div-mul-le_self, mul-le-mul_left}
use Rattle.std.proofs.lemmas.List.{length-map}
use Rattle.std.proofs.lemmas.List.FromFn.{length-enumerate_from}
use Rattle.rb_base.specs.Site.{server_of}
use Rattle.rb_base.specs.declared.row.Row.{Row}
use Rattle.rb_base.specs.declared.message.Message.{Message}
use Rattle.rb_base.specs.declared.message.Sent.{Sent}
use Rattle.rb_base.specs.declared.script.ClientOp.{ClientOp}
use Rattle.rb_base.specs.declared.outcome.Outcome.TheVariants as outcomes
use Rattle.rb_journal_defs.specs.Journal.{Entry, Closed, Journal, closed_epochs}
use Rattle.rb_journal_defs.specs.Transaction.{changes_made}
use Rattle.rb_journal_defs.specs.Body.{Shape, body_of, has_something_to_log, numbers_below}
use Rattle.rb_journal_defs.specs.Order.{InOrder, IsClosed, AddsTo, MadeBy, HasAuthors}
use Rattle.rb_journal_defs.specs.Clock.{epoch_after}
use Rattle.rb_journal_defs.proofs.Bodies.{body_of_other, body_of_closed, adds_epoch, adds_closes_none}
use Rattle.rb_journal_defs.proofs.Order.{Rises, closed_rise, opened_above, closed_below, upto, upto_closed, adds_in_order, adds_stays_closed}
use Rattle.rb_message_defs.specs.Message.{IsMessageOf, done_message, sent_by}
use Rattle.rb_message_defs.specs.Nodes.{Node, Nodes, nodes_at_first, node_at, owner_in, unacknowledged, group_of, successor_of, owned_by, with_node, with_failure, with_restart, with_owner, returns, with_returns, numbers_in}
use Rattle.rb_message_defs.proofs.Messages.{all_more, all_joined, all_mapped, all_below, stays_when_entered, stays_at_close, previous_stays, part_of_close, parts_are_messages}
use Rattle.rb_message_defs.proofs.Again.{all_flat, again_is_own, sent_from_own}
use Rattle.rb_message_defs.proofs.Numbers.{length_numbers}
use Rattle.rb_play_defs.specs.Step.{Progress, beginning, unchanged, rows_of, messages_entered, entered, tx_entry, committed, needed_of, sent_again, only_closed, sent_at_close, closed, taken_over, takeover_step, loss_step, fail_step, restart_step, resend_step, worth_logging}
use Rattle.rb_play_defs.specs.Sound.{IsOwn, AreNodes, IsSound}

gci_rises : (epoch : ℕ) → epoch < epoch_after true epoch
gci_rises epoch = let h : epoch < 2 ^ 32 * (epoch / 2 ^ 32 + 1) = lt-mul-div-succ epoch (omega arith) in omega arith

-- the next epoch is above the one that closes
pub epoch_rises : (gci : Bool) (epoch : ℕ) → epoch < epoch_after gci epoch
epoch_rises false epoch = omega arith
epoch_rises true epoch = gci_rises epoch

-- messages that their owners send are the journal's
own_sent : (shape : Shape) (j : Journal) (owner : ℕ → ℕ) (ms : List Message) → AllByRecursion (IsOwn shape j) ms → AllByRecursion (λ (s : Sent). IsOwn shape j s.message) (map (sent_by owner) ms)
own_sent shape j owner [] all = tt
own_sent shape j owner (m ∷ ms) all = (all.0, own_sent shape j owner ms all.1)

-- the next epoch is at most 2^32 above the one that closes
pub epoch_near : (gci : Bool) (epoch : ℕ) → epoch_after gci epoch ≤ epoch + 4294967296
epoch_near false epoch = omega arith
epoch_near true epoch = omega arith

-- the Done of a bucket is a message of the journal after the close
done_is_own : (shape : Shape) (o bucket : ℕ) (j : Journal) → bucket < shape.buckets → IsOwn shape (Closed o ∷ j) (done_message shape o bucket j)
done_is_own shape o bucket j within = (within, (inl refl, sym (previous_stays o o j (omega arith)), ap length (sym (part_of_close shape o bucket o j))))

own_more : (shape : Shape) (old new : Journal) → ((m : Message) → IsMessageOf shape old m → IsMessageOf shape new m) → (m : Message) → IsOwn shape old m → IsOwn shape new m
own_more shape old new f m own = (own.0, f m own.1)

-- the last taken epoch is below the open one
pub last_below_opened : (shape : Shape) (run : Progress) → IsSound shape run → run.last < run.opened
last_below_opened shape run sound = go sound.last
  where
    go : (run.last ≡ 0) ⊎ IsClosed run.last run.journal → run.last < run.opened
    go (inl q) = let h = opened_above run.opened run.journal sound.order in omega arith
    go (inr c) = closed_below run.opened run.last run.journal sound.order c

-- if bodies are unchanged, so are the epochs that have something to log
worth_same : (shape : Shape) (old new : Journal) (epochs : List ℕ) → ((e : ℕ) → body_of shape e new ≡ body_of shape e old) → worth_logging shape new epochs ≡ worth_logging shape old epochs
worth_same shape old new [] same = refl
worth_same shape old new (e ∷ es) same = rw (same e) (go (has_something_to_log (body_of shape e old)) (worth_same shape old new es same))
  where
    go : (b : Bool) → worth_logging shape new es ≡ worth_logging shape old es → cond b (e ∷ worth_logging shape new es) (worth_logging shape new es) ≡ cond b (e ∷ worth_logging shape old es) (worth_logging shape old es)
    go true q = ap (λ (xs : List ℕ). e ∷ xs) q
    go false q = q

worth_within : (shape : Shape) (old new : Journal) (top : ℕ) (epochs : List ℕ) → AllByRecursion (λ e. e < top) epochs → ((e : ℕ) → e < top → body_of shape e new ≡ body_of shape e old) → worth_logging shape new epochs ≡ worth_logging shape old epochs
worth_within shape old new top [] below same = refl
worth_within shape old new top (e ∷ es) below same = rw (same e below.0) (go (has_something_to_log (body_of shape e old)) (worth_within shape old new top es below.1 same))
  where
    go : (b : Bool) → worth_logging shape new es ≡ worth_logging shape old es → cond b (e ∷ worth_logging shape new es) (worth_logging shape new es) ≡ cond b (e ∷ worth_logging shape old es) (worth_logging shape old es)
    go true q = ap (λ (xs : List ℕ). e ∷ xs) q
    go false q = q

-- epochs that pass a test are below a bound if all epochs are
filter_below : (top : ℕ) (test : ℕ → Bool) (xs : List ℕ) → AllByRecursion (λ e. e < top) xs → AllByRecursion (λ e. e < top) (filter test xs)
filter_below top test [] all = tt
filter_below top test (x ∷ xs) all = go (test x) (filter_below top test xs all.1)
  where
    go : (b : Bool) → AllByRecursion (λ e. e < top) (filter test xs) → AllByRecursion (λ e. e < top) (cond b (x ∷ filter test xs) (filter test xs))
    go true rest = (all.0, rest)
    go false rest = rest

rise_below : (top : ℕ) (xs : List ℕ) → Rises top xs → AllByRecursion (λ e. e < top) xs
rise_below top [] rises = tt
rise_below top (x ∷ xs) rises = (rises.1, rise_below top xs rises.3)

-- the closed epochs are below the open one
pub closed_all_below : (o : ℕ) (j : Journal) → InOrder o j → AllByRecursion (λ e. e < o) (closed_epochs j)
closed_all_below o j h = rise_below o (closed_epochs j) (closed_rise o j h)

-- the nodes of a new site
nodes_at_start : (groups replicas : ℕ) → 0 < replicas → AreNodes (groups * replicas) (nodes_at_first groups replicas)
nodes_at_start groups replicas some = record {
  some = some;
  nodes = length-map (numbers_below (groups * replicas)) _ ∙ length_numbers (groups * replicas);
  owners = length_numbers (groups * replicas);
  groups = groups;
  whole = refl;
}

pub sound_beginning : (shape : Shape) (groups replicas : ℕ) → shape.buckets ≡ groups * replicas → 0 < groups * replicas → 0 < replicas → IsSound shape (beginning groups replicas)
sound_beginning shape groups replicas count some each = record {
  order = omega arith;
  near = omega arith;
  authored = tt;
  some = omega (arith, count);
  sent = tt;
  received = tt;
  last = inl refl;
  nodes = subst (λ (n : ℕ). AreNodes n (nodes_at_first groups replicas)) (sym count) (nodes_at_start groups replicas each);
  written = refl;
}

-- the numbers of nodes and owners are unchanged
with_node_stays : (buckets number : ℕ) (node : Node) (site : Nodes) → AreNodes buckets site → AreNodes buckets (with_node number node site)
with_node_stays buckets number node site nodes = record {
  some = nodes.some;
  nodes = length-map (enumerate_from 0 site.nodes) _ ∙ length-enumerate_from 0 site.nodes ∙ nodes.nodes;
  owners = nodes.owners;
  groups = nodes.groups;
  whole = nodes.whole;
}

with_owner_stays : (buckets old new : ℕ) (site : Nodes) → AreNodes buckets site → AreNodes buckets (with_owner old new site)
with_owner_stays buckets old new site nodes = record { some = nodes.some; nodes = nodes.nodes; owners = length-map site.owners _ ∙ nodes.owners; groups = nodes.groups; whole = nodes.whole }

with_returns_stays : (buckets needed : ℕ) (site : Nodes) → AreNodes buckets site → AreNodes buckets (with_returns needed site)
with_returns_stays buckets needed site nodes = record {
  some = nodes.some;
  nodes = nodes.nodes;
  owners = length-map (enumerate_from 0 site.owners) _ ∙ length-enumerate_from 0 site.owners ∙ nodes.owners;
  groups = nodes.groups;
  whole = nodes.whole;
}

-- further messages of the journal may be sent
pub sound_sent : (shape : Shape) (run : Progress) (sent : List Sent) → IsSound shape run → AllByRecursion (λ s. IsOwn shape run.journal s.message) sent → IsSound shape (record run { sent = run.sent ++ sent })
sound_sent shape run sent sound own = record {
  order = sound.order;
  near = sound.near;
  authored = sound.authored;
  some = sound.some;
  sent = all_joined (λ s. IsOwn shape run.journal s.message) run.sent sent sound.sent own;
  received = sound.received;
  last = sound.last;
  nodes = sound.nodes;
  written = sound.written;
}

sound_nodes : (shape : Shape) (run : Progress) (nodes : Nodes) (lost : Option (ℕ × ℕ)) → IsSound shape run → AreNodes shape.buckets nodes → IsSound shape (record run { nodes = nodes; lost = lost })
sound_nodes shape run nodes lost sound are = record { order = sound.order; near = sound.near; authored = sound.authored; some = sound.some; sent = sound.sent; received = sound.received; last = sound.last; nodes = are; written = sound.written }

-- the messages that are resent for some buckets are the journal's
pub again_own : (shape : Shape) (run : Progress) (sender : ℕ → ℕ) (buckets : List ℕ) → AllByRecursion (λ bucket. bucket < shape.buckets) buckets → AllByRecursion (λ s. IsOwn shape run.journal s.message) (flat_map (λ bucket. sent_again shape run (sender bucket) bucket) buckets)
again_own shape run sender [] all = tt
again_own shape run sender (bucket ∷ buckets) all =
    all_joined (λ s. IsOwn shape run.journal s.message) (sent_again shape run (sender bucket) bucket) (flat_map (λ b. sent_again shape run (sender b) b) buckets)
    (sent_from_own shape run.journal (sender bucket) (unacknowledged shape run.acknowledged run.opened run.journal bucket) (again_is_own shape run.acknowledged run.opened run.journal bucket all.0))
    (again_own shape run sender buckets all.1)

-- a takeover
pub sound_takeover : (shape : Shape) (node successor : ℕ) (run : Progress) → IsSound shape run → IsSound shape (taken_over shape node successor run)
sound_takeover shape node successor run sound =
    sound_nodes shape (record run { sent = run.sent ++ flat_map (sent_again shape run successor) (owned_by run.nodes node) }) (with_owner node successor (with_failure node (length run.sent) run.nodes)) run.lost
    (sound_sent shape run (flat_map (sent_again shape run successor) (owned_by run.nodes node)) sound
    (again_own shape run (λ bucket. successor) (owned_by run.nodes node) (filter_below shape.buckets (λ bucket. owner_in run.nodes bucket == node) (numbers_below (length run.nodes.owners)) (subst (λ (n : ℕ). AllByRecursion (λ bucket. bucket < n) (numbers_below (length run.nodes.owners))) sound.nodes.owners (all_below (length run.nodes.owners) (λ k below. below))))))
    (with_owner_stays shape.buckets node successor (with_failure node (length run.sent) run.nodes) (with_node_stays shape.buckets node _ run.nodes sound.nodes))

-- the loss of a group
pub sound_loss : (shape : Shape) (node : ℕ) (run : Progress) → IsSound shape run → IsSound shape (loss_step shape node run).run
sound_loss shape node run sound = sound_nodes shape run (with_failure node (length run.sent) run.nodes) (Some (group_of run.nodes node, needed_of run)) sound (with_node_stays shape.buckets node _ run.nodes sound.nodes)

-- the failure or the restart of a node
pub sound_fail : (shape : Shape) (node : ℕ) (run : Progress) → IsSound shape run → IsSound shape (fail_step shape node run).run
unfolding fail_step
sound_fail shape node run sound = go (node_at run.nodes node).up (successor_of run.nodes (needed_of run) node)
  where
    go : (up : Bool) (successor : Option ℕ) → IsSound shape (if up then option_map_or (λ other. takeover_step shape node other run) successor (loss_step shape node run) else unchanged run (outcomes.NodeDown node)).run
    go true None = sound_loss shape node run sound
    go true (Some other) = sound_takeover shape node other run sound
    go false successor = sound

pub sound_restart : (shape : Shape) (node : ℕ) (run : Progress) → IsSound shape run → IsSound shape (restart_step node run).run
unfolding restart_step
sound_restart shape node run sound = go (node_at run.nodes node).up
  where
    go : (up : Bool) → IsSound shape (if up then unchanged run (outcomes.NodeUp node) else record { run = record run { nodes = with_restart node run.opened run.nodes }; outcome = outcomes.Restarted (record { 0 = run.opened + 1 }) }).run
    go true = sound
    go false = sound_nodes shape run (with_restart node run.opened run.nodes) run.lost sound (with_node_stays shape.buckets node _ run.nodes sound.nodes)

-- a resend
pub sound_resend : (shape : Shape) (run : Progress) → IsSound shape run → IsSound shape (resend_step shape run).run
unfolding resend_step
sound_resend shape run sound =
    sound_sent shape run (flat_map (λ bucket. sent_again shape run (owner_in run.nodes bucket) bucket) (numbers_below shape.buckets)) sound
    (again_own shape run (owner_in run.nodes) (numbers_below shape.buckets) (all_below shape.buckets (λ k below. below)))

-- a new entry of the open epoch
pub sound_entered : (shape : Shape) (entry : Entry) (run : Progress) → AddsTo run.opened entry → HasAuthors shape.site entry → IsSound shape run → IsSound shape (entered shape entry run)
sound_entered shape entry run adds authors sound =
    let journal = entry ∷ run.journal in
    let more = own_more shape run.journal journal (λ m is. stays_when_entered shape run.opened entry run.journal m adds sound.order is) in
    let closed = adds_closes_none run.opened entry run.journal adds in
    record {
      order = adds_in_order run.opened entry run.journal adds sound.order;
      near = (let near = sound.near in let same = ap length closed in omega arith);
      authored = (authors, sound.authored);
      some = sound.some;
      sent = all_joined (λ (s : Sent). IsOwn shape journal s.message) run.sent (map (sent_by (owner_in run.nodes)) (messages_entered shape entry run))
          (all_more (λ (s : Sent). IsOwn shape run.journal s.message) (λ (s : Sent). IsOwn shape journal s.message) run.sent (λ s own. more s.message own) sound.sent)
          (own_sent shape journal (owner_in run.nodes) (messages_entered shape entry run) (parts_are_messages shape run.opened entry run.journal adds sound.some));
      received = all_more (IsOwn shape run.journal) (IsOwn shape journal) run.received more sound.received;
      last = stays sound.last;
      nodes = sound.nodes;
      written = sound.written ∙ ap length (sym (ap (λ (epochs : List ℕ). worth_logging shape journal (filter (λ epoch. nat_le epoch run.last) epochs)) closed ∙ worth_within shape run.journal journal run.opened (upto run.last run.journal)
          (filter_below run.opened (λ e. nat_le e run.last) (closed_epochs run.journal) (closed_all_below run.opened run.journal sound.order))
          (λ e l. body_of_other shape e entry run.journal (let m = l in let own = adds_epoch run.opened entry adds in λ q. absurd (omega arith)))));
    }
  where
    stays : (run.last ≡ 0) ⊎ IsClosed run.last run.journal → (run.last ≡ 0) ⊎ IsClosed run.last (entry ∷ run.journal)
    stays (inl q) = inl q
    stays (inr c) = inr (adds_stays_closed run.opened run.last entry run.journal adds c)

-- the changes of a client's transaction have the site as their author
made_by_site : (rows : ℕ → ℕ → Option Row) (author transid : ℕ) (operations : List ClientOp) → MadeBy author (changes_made rows author transid operations)
unfolding changes_made
made_by_site rows author transid [] = tt
made_by_site rows author transid (operation ∷ operations) = (refl, made_by_site rows author transid operations)

pub tx_authors : (shape : Shape) (operations : List ClientOp) (run : Progress) → HasAuthors shape.site (tx_entry shape operations run)
tx_authors shape operations run = made_by_site (rows_of run) (server_of shape.site) (run.drawn + 1) operations

-- another number of transactions changes nothing of this
sound_drawn : (shape : Shape) (run : Progress) (drawn : ℕ) → IsSound shape run → IsSound shape (record run { drawn = drawn })
sound_drawn shape run drawn sound = record { order = sound.order; near = sound.near; authored = sound.authored; some = sound.some; sent = sound.sent; received = sound.received; last = sound.last; nodes = sound.nodes; written = sound.written }

-- an accepted transaction
pub sound_commit : (shape : Shape) (operations : List ClientOp) (run : Progress) → IsSound shape run → IsSound shape (committed shape operations run)
sound_commit shape operations run sound =
    let entry = tx_entry shape operations run in
    sound_drawn shape (entered shape entry run) (run.drawn + 1) (sound_entered shape entry run refl (tx_authors shape operations run) sound)

-- a close, before any message is sent
sound_only_closed : (shape : Shape) (gci : Bool) (run : Progress) → IsSound shape run → IsSound shape (only_closed gci run)
sound_only_closed shape gci run sound =
    let more = own_more shape run.journal (Closed run.opened ∷ run.journal) (λ m is. stays_at_close shape run.opened run.journal m sound.order is) in
    record {
      order = (epoch_rises gci run.opened, sound.order);
      near = (let near = sound.near in let next = epoch_near gci run.opened in let more = length-append (closed_epochs run.journal) (run.opened ∷ []) in omega arith);
      authored = (tt, sound.authored);
      some = sound.some;
      sent = all_more (λ (s : Sent). IsOwn shape run.journal s.message) (λ (s : Sent). IsOwn shape (Closed run.opened ∷ run.journal) s.message) run.sent (λ s own. more s.message own) sound.sent;
      received = all_more (IsOwn shape run.journal) (IsOwn shape (Closed run.opened ∷ run.journal)) run.received more sound.received;
      last = stays_closed sound.last;
      nodes = sound.nodes;
      written = sound.written ∙ ap length (sym (worth_same shape run.journal (Closed run.opened ∷ run.journal) (upto run.last run.journal) (λ e. body_of_closed shape e run.opened run.journal)
          ) ∙ ap (worth_logging shape (Closed run.opened ∷ run.journal)) (sym (upto_closed run.last run.opened run.journal (last_below_opened shape run sound))));
    }
  where
    stays_closed : (run.last ≡ 0) ⊎ IsClosed run.last run.journal → (run.last ≡ 0) ⊎ ((run.opened ≡ run.last) ⊎ IsClosed run.last run.journal)
    stays_closed (inl q) = inl q
    stays_closed (inr c) = inr (inr c)

-- the buckets of a group are the site's
group_within : (buckets replicas group step : ℕ) → group < buckets / replicas → step < replicas → group * replicas + step < buckets
group_within buckets replicas group step below within =
    let whole = div-mul-le_self buckets replicas in
    let more : replicas * (group + 1) ≤ replicas * (buckets / replicas) = mul-le-mul_left replicas (omega arith) in
    let all : replicas * (group + 1) ≡ group * replicas + replicas = grind arith in
    let turned : replicas * (buckets / replicas) ≡ buckets / replicas * replicas = grind arith in
    omega arith

buckets_within : (shape : Shape) (run : Progress) (group : ℕ) → group < shape.buckets / run.nodes.replicas → AllByRecursion (λ bucket. bucket < shape.buckets) (numbers_in run.nodes group)
buckets_within shape run group below =
    all_mapped (λ bucket. bucket < shape.buckets) (λ step. group * run.nodes.replicas + step) (numbers_below run.nodes.replicas)
    (all_below run.nodes.replicas (λ step within. group_within shape.buckets run.nodes.replicas group step below within))

-- the messages that a group sends at a close are the journal's
close_own : (shape : Shape) (gci : Bool) (run : Progress) (group : ℕ) → group < shape.buckets / run.nodes.replicas → AllByRecursion (λ (s : Sent). IsOwn shape (only_closed gci run).journal s.message) (sent_at_close shape run (only_closed gci run) group)
close_own shape gci run group below =
    let after = only_closed gci run in
    let buckets = numbers_in run.nodes group in
    let within = buckets_within shape run group below in
    all_joined (λ (s : Sent). IsOwn shape after.journal s.message) _ (flat_map (λ bucket. sent_again shape after bucket bucket) (filter (returns run.nodes (needed_of after)) buckets))
    (all_mapped (λ (s : Sent). IsOwn shape after.journal s.message) (λ bucket. sent_by (owner_in run.nodes) (done_message shape run.opened bucket run.journal)) buckets (dones buckets within))
    (again_own shape after (λ bucket. bucket) (filter (returns run.nodes (needed_of after)) buckets) (filter_below shape.buckets (returns run.nodes (needed_of after)) buckets within))
  where
    dones : (buckets : List ℕ) → AllByRecursion (λ bucket. bucket < shape.buckets) buckets → AllByRecursion (λ bucket. IsOwn shape (Closed run.opened ∷ run.journal) (done_message shape run.opened bucket run.journal)) buckets
    dones [] all = tt
    dones (bucket ∷ buckets) all = (done_is_own shape run.opened bucket run.journal all.0, dones buckets all.1)

-- a close
pub sound_close : (shape : Shape) (gci : Bool) (run : Progress) → IsSound shape run → IsSound shape (closed shape gci run)
sound_close shape gci run sound =
    let after = only_closed gci run in
    let groups = numbers_below (shape.buckets / run.nodes.replicas) in
    let sends : IsSound shape (record after { sent = run.sent ++ flat_map (sent_at_close shape run after) groups }) =
    sound_sent shape after (flat_map (sent_at_close shape run after) groups) (sound_only_closed shape gci run sound)
    (all_flat (λ (s : Sent). IsOwn shape after.journal s.message) (sent_at_close shape run after) groups (all_below (shape.buckets / run.nodes.replicas) (λ group below. close_own shape gci run group below))) in
    sound_nodes shape (record after { sent = run.sent ++ flat_map (sent_at_close shape run after) groups }) (with_returns (needed_of after) run.nodes) run.lost sends (with_returns_stays shape.buckets (needed_of after) run.nodes sound.nodes)
