-- What deliveries leave of a cluster.
use Rattle.std.proofs.Common.{◌≡◌, ℕ, zero, suc, ◌<◌, ◌≤◌, List, [], ◌∷◌, length, refl, sym, ap, subst, ◌∙◌, arith}
use Rattle.std.specs.Prelude.{Option, Some, None}
use Rattle.std.specs.List.{slice_get}
use Rattle.std.specs.Option.{option_map, option_map_or}
use Rattle.rb_base.specs.declared.message.Message.{Message}
use Rattle.rb_base.specs.declared.message.Sent.{Sent}
use Rattle.rb_base.specs.declared.outcome.Outcome.TheVariants as outcomes
use Rattle.rb_journal_defs.specs.Body.{Shape}
use Rattle.rb_message_defs.specs.declared.answers.Received.{Received}
use Rattle.rb_message_defs.specs.Message.{bucket_in}
use Rattle.rb_message_defs.specs.Received.{Fed, answer_to}
use Rattle.rb_evbuf.specs.Buffer.{StandsFor, buckets_of}
use Rattle.rb_play_defs.specs.Step.{Progress, StepResult, unchanged, fed_by, delivered_message, answer_outcome, deliver_step}
use Rattle.rb_play_defs.specs.Sound.{IsOwn, IsCovered}
use Rattle.rb_play_defs.proofs.Takes.{of_sent, sound_delivered}
use Rattle.rb_play_defs.proofs.Alike.{Alike, alike_deliver}
use Rattle.rb_play_defs.proofs.Covering.{covered_delivered}
use Rattle.rb_nodes.specs.Net.{Net, HoldsNet, delivered_net}
use Rattle.rb_cluster.specs.Net.{net_of}
use Rattle.rb_cluster.specs.Cluster.{IsCluster, sent_by_cluster}
use Rattle.rb_cluster.specs.declared.cluster.Cluster.{Cluster}
use Rattle.rb_cluster.proofs.RestLaws.{rest_alike}
use Rattle.rb_nodes.specs.declared.site_nodes.SiteNodes.{SiteNodes}
use Rattle.rb_evbuf.specs.declared.buffer.EventBuffer.{EventBuffer}
use Rattle.rb_play_defs.proofs.Events.{deliver_there}

-- what stands at a place
some_message : (sent : List Sent) (place : ℕ) (message : Message) → option_map (λ sent. sent.message) (slice_get sent place) ≡ Some message → (at : Sent) × (slice_get sent place ≡ Some at) × (at.message ≡ message)
some_message sent place message is = go (slice_get sent place) refl
  where
    go : (x : Option Sent) → slice_get sent place ≡ x → (at : Sent) × (slice_get sent place ≡ Some at) × (at.message ≡ message)
    go None q = absurd (let g : None ≡ Some message = sym (ap (option_map (λ sent. sent.message)) q) ∙ is in cc)
    go (Some at) q = (at, q, (let g : Some at.message ≡ Some message = sym (ap (option_map (λ sent. sent.message)) q) ∙ is in cc))

-- a message that was sent is of a bucket of the event buffer
pub bucket_fits : (cluster : Cluster) (place : ℕ) (message : Message) (seen : ℕ → List ℕ) (shape : Shape) (run : Progress) → IsCluster cluster seen shape run →
    ((b : ℕ) (n : Net) → HoldsNet cluster.rest.nodes b n → option_map (λ sent. sent.message) (slice_get n.sent place) ≡ Some message) → bucket_in message < buckets_of cluster.log.events
bucket_fits cluster place message seen shape run held is =
    let (at, there, same) = some_message run.sent place message (is shape.buckets (net_of shape run) held.rest.net) in
    let own = of_sent (λ (s : Sent). IsOwn shape run.journal s.message) run.sent place at held.rest.point.sound.sent there in
    let b : bucket_in at.message < shape.buckets = own.0 in
    let m : bucket_in at.message ≡ bucket_in message = ap bucket_in same in
    let e : cluster.log.events.buckets ≡ shape.buckets = held.log.events.buckets in
    omega arith

-- a cluster that a message reached
pub cluster_delivered : (old : Cluster) (nodes : SiteNodes) (events : EventBuffer) (place : ℕ) (message : Message) (answer : Received) (seen : ℕ → List ℕ) (shape : Shape) (run : Progress) → IsCluster old seen shape run →
    ((b : ℕ) (n : Net) → HoldsNet old.rest.nodes b n → option_map (λ sent. sent.message) (slice_get n.sent place) ≡ Some message) →
    ((b : ℕ) (n : Net) → HoldsNet old.rest.nodes b n → HoldsNet nodes b (delivered_net place n)) →
    ((fed : Fed) → StandsFor old.log.events fed → answer ≡ answer_to fed message) →
    ((fed : Fed) → StandsFor old.log.events fed → StandsFor events (record fed { received = message ∷ fed.received })) →
    IsCluster (record { rest = record old.rest { nodes = nodes }; log = record old.log { events = events } }) seen shape (deliver_step shape place run).run × (answer_outcome answer ≡ (deliver_step shape place run).outcome)
cluster_delivered old nodes events place message answer seen shape run held is moved answers fed =
    let (at, there, same) = some_message run.sent place message (is shape.buckets (net_of shape run) held.rest.net) in
    let step = deliver_there shape run place at there in
    let m : message ≡ at.message = sym same in
    let now : Progress = delivered_message place at.message run in
    let after : IsCluster (record { rest = record old.rest { nodes = nodes }; log = record old.log { events = events } }) seen shape now = record {
      rest = rest_alike old.rest nodes shape run now held.rest (subst (λ (s : StepResult). Alike run s.run) step (alike_deliver shape place run)) (sound_delivered shape place run at held.rest.point.sound there)
          (subst (λ (s : StepResult). IsCovered shape s.run) step (covered_delivered shape place run held.rest.point.covered)) (moved shape.buckets (net_of shape run) held.rest.net);
      log = record {
        events = subst (λ (m : Message). StandsFor events (record { buckets = shape.buckets; last = run.last; received = m ∷ run.received })) m (fed (fed_by shape run) held.log.events);
        injector = held.log.injector;
      };
    } in (
      subst (λ (s : StepResult). IsCluster (record { rest = record old.rest { nodes = nodes }; log = record old.log { events = events } }) seen shape s.run) (sym step) after,
      ap answer_outcome (answers (fed_by shape run) held.log.events ∙ ap (answer_to (fed_by shape run)) m) ∙ sym (ap (λ (s : StepResult). s.outcome) step),
    )

-- a place after all messages
pub none_there : (sent : List Sent) (place : ℕ) → length sent ≤ place → slice_get sent place ≡ None
none_there [] place over = refl
none_there (s ∷ sent) zero over = absurd (omega arith)
none_there (s ∷ sent) (suc place) over = none_there sent place (omega arith)

pub not_delivered : (cluster : Cluster) (place count : ℕ) (seen : ℕ → List ℕ) (shape : Shape) (run : Progress) → IsCluster cluster seen shape run → count ≡ sent_by_cluster cluster → count ≤ place →
    IsCluster cluster seen shape (deliver_step shape place run).run × (outcomes.NoMessage place count ≡ (deliver_step shape place run).outcome)
unfolding deliver_step
not_delivered cluster place count seen shape run held is over =
    let n : count ≡ length run.sent = is ∙ ap length held.rest.net.outbox.sent_is in
    let step : deliver_step shape place run ≡ unchanged run (outcomes.NoMessage place (length run.sent)) =
    ap (λ (x : Option Sent). option_map_or (λ sent. record { run = delivered_message place sent.message run; outcome = answer_outcome (answer_to (fed_by shape run) sent.message) }) x (unchanged run (outcomes.NoMessage place (length run.sent)))) (none_there run.sent place (omega arith)) in
    (subst (λ (s : StepResult). IsCluster cluster seen shape s.run) (sym step) held, ap (outcomes.NoMessage place) n ∙ sym (ap (λ (s : StepResult). s.outcome) step))
