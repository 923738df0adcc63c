-- The epochs of an `inject`, one after the other.
use Rattle.std.proofs.Common.{◌≡◌, ℕ, ◌+◌, ◌<◌, ◌≤◌, Bool, true, false, cond, List, [], ◌∷◌, length, refl, sym, ap, subst, ◌∙◌, arith, length-append}
use Rattle.std.specs.Prelude.{max, Option, Some, None, unwrap_or}
use Rattle.std.proofs.Math.Nat.{max-eq_right}
use Rattle.std.proofs.lemmas.List.Elements.{filter-append}
use Rattle.rb_base.specs.declared.epoch.Epoch.{Epoch}
use Rattle.rb_base.specs.declared.outcome.Outcome.TheVariants as outcomes
use Rattle.rb_journal_defs.specs.Body.{Shape, body_of, has_something_to_log}
use Rattle.rb_journal_defs.proofs.Order.{first_is_above}
use Rattle.rb_message_defs.specs.declared.answers.Missing.{Missing}
use Rattle.rb_message_defs.specs.Received.{Fed, AreChained, missing_of}
use Rattle.rb_message_defs.proofs.Chained.{are_chained}
use Rattle.rb_evbuf.specs.Buffer.{StandsFor, last_of}
use Rattle.rb_play_defs.specs.Step.{Progress, fed_by, takeable, worth_logging, written_bodies, last_written, with_taken, with_all_taken, injected, missing_after, injection_of, inject_step}
use Rattle.rb_play_defs.specs.UnfinishedLog.{HoldsUnfinishedLog}
use Rattle.rb_play_defs.proofs.Takes.{takeable_rest, taken_more, taken_end, prefix_of, sound_injected}
use Rattle.rb_inject.specs.Injector as inject
use Rattle.rb_inject.specs.declared.injector.Injector.{Injector}
use Rattle.rb_evbuf.specs.declared.buffer.EventBuffer.{EventBuffer}
use Rattle.rb_play_defs.proofs.Covering.{written_below, covered_all_taken, covered_injected}
use Rattle.rb_play_defs.specs.Point.{most_closed}
use Rattle.rb_cluster.specs.Net.{net_of}
use Rattle.rb_cluster.specs.Cluster.{log_setup, IsStoppedCluster, IsCluster}
use Rattle.rb_cluster.specs.Taken.{IsLogAt, log_of, HasTaken}
use Rattle.rb_cluster.specs.declared.log.Log.{Log}
use Rattle.rb_cluster.specs.declared.stopped.StoppedCluster.{StoppedCluster}
use Rattle.rb_nodes.specs.Net.{Net, HoldsNet, acknowledged_net, CanAcknowledge}
use Rattle.rb_cluster.proofs.RestLaws.{rest_alike, log_alike}
use Rattle.rb_nodes.specs.declared.site_nodes.SiteNodes.{SiteNodes}
use Rattle.rb_play_defs.proofs.Logging.{written_small}
use Rattle.rb_cluster.proofs.LogLaws.{written_epoch}

-- some of the epochs are taken
pub record IsTurning (shape : Shape) (run : Progress) (events : EventBuffer) (its : Injector) (seen : ℕ → List ℕ) (count : ℕ) : Type 0 where
  pub now : Progress
  pub held : IsLogAt (log_of events its) seen shape now
  pub goal : with_all_taken shape now ≡ with_all_taken shape run
  pub journal : now.journal ≡ run.journal
  pub least : run.written ≤ now.written
  pub counted : count + length (worth_logging shape now.journal (takeable shape now)) ≡ length (worth_logging shape run.journal (takeable shape run))
  pub few : count ≤ now.written

-- one more is
pub turn_more : (shape : Shape) (run : Progress) (events new : EventBuffer) (its next : Injector) (seen after : ℕ → List ℕ) (count more : ℕ) (logged : Bool) (turning : IsTurning shape run events its seen count) →
    HasTaken shape turning.now (log_of new next) after (Some logged) → more ≡ count + cond logged 1 0 → IsTurning shape run new next after more
turn_more shape run events new its next seen after count more logged turning (e, rest, front, held, is) n =
    let now = turning.now in
    let sound = turning.held.point.sound in
    let later = takeable_rest shape now e rest sound front in
    let one : length (worth_logging shape now.journal (e ∷ [])) ≡ cond logged 1 0 = one_length (has_something_to_log (body_of shape e now.journal)) refl is in
    let both : length (worth_logging shape now.journal (takeable shape now)) ≡ length (worth_logging shape now.journal (e ∷ [])) + length (worth_logging shape now.journal rest) =
    ap (λ (es : List ℕ). length (worth_logging shape now.journal es)) front
    ∙ ap length (filter-append (λ epoch. has_something_to_log (body_of shape epoch now.journal)) (e ∷ []) rest)
    ∙ length-append (worth_logging shape now.journal (e ∷ [])) (worth_logging shape now.journal rest) in
    let left : length (worth_logging shape now.journal (takeable shape (with_taken shape now e))) ≡ length (worth_logging shape now.journal rest) = ap (λ (es : List ℕ). length (worth_logging shape now.journal es)) later in
    let before = turning.counted in
    let few = turning.few in
    let least = turning.least in
    record {
      now = with_taken shape now e;
      held = held;
      goal = sym (taken_more shape now e rest sound front) ∙ turning.goal;
      journal = turning.journal;
      least = omega arith;
      counted = omega arith;
      few = omega arith;
    }
  where
    one_length : (b : Bool) → has_something_to_log (body_of shape e turning.now.journal) ≡ b → logged ≡ has_something_to_log (body_of shape e turning.now.journal) → length (worth_logging shape turning.now.journal (e ∷ [])) ≡ cond logged 1 0
    one_length b same is = subst (λ (c : Bool). length (worth_logging shape turning.now.journal (e ∷ [])) ≡ cond c 1 0) (sym (is ∙ same)) (by_case b same)
      where
        by_case : (b : Bool) → has_something_to_log (body_of shape e turning.now.journal) ≡ b → length (worth_logging shape turning.now.journal (e ∷ [])) ≡ cond b 1 0
        by_case true same = rw same refl
        by_case false same = rw same refl

-- the last taken epoch rises
pub turn_rises : (shape : Shape) (run : Progress) (events new : EventBuffer) (its next : Injector) (seen after : ℕ → List ℕ) (count : ℕ) (logged : Bool) (turning : IsTurning shape run events its seen count) →
    HasTaken shape turning.now (log_of new next) after (Some logged) → last_of events < last_of new
turn_rises shape run events new its next seen after count logged turning (e, rest, front, held, is) =
    let now = turning.now in
    let ahead = prefix_of shape now e rest front in
    let above : now.last < e = first_is_above now.last e _ ahead.0 ahead.1 in
    let before : last_of events ≡ now.last = turning.held.log.events.last in
    let following : last_of new ≡ e = held.log.events.last in
    omega arith

-- how many are logged is a small number
pub turn_few : (shape : Shape) (run : Progress) (events : EventBuffer) (its : Injector) (seen : ℕ → List ℕ) (count : ℕ) → IsTurning shape run events its seen count → count ≤ most_closed
turn_few shape run events its seen count turning =
    let held = turning.held in
    omega (arith, turning.few, written_small shape turning.now held.point.sound held.point.few_closed)

-- no epoch is left
pub turn_ends : (shape : Shape) (run : Progress) (events new : EventBuffer) (its next : Injector) (seen after : ℕ → List ℕ) (count : ℕ) (turning : IsTurning shape run events its seen count) → HasTaken shape turning.now (log_of new next) after None →
    IsLogAt (log_of new next) after shape (with_all_taken shape run) × (count ≡ length (worth_logging shape run.journal (takeable shape run)))
turn_ends shape run events new its next seen after count turning (none, held) =
    let z : length (worth_logging shape turning.now.journal (takeable shape turning.now)) ≡ 0 = ap (λ (es : List ℕ). length (worth_logging shape turning.now.journal es)) none in
    let counted = turning.counted in
    let end : turning.now ≡ with_all_taken shape run = sym (taken_end shape turning.now none) ∙ turning.goal in
    (subst (IsLogAt (log_of new next) after shape) end held, omega arith)

-- what a fault leaves in one of them is what it leaves in all
pub turn_left : (shape : Shape) (run : Progress) (events : EventBuffer) (its : Injector) (seen after : ℕ → List ℕ) (count limit : ℕ) (turning : IsTurning shape run events its seen count) →
    HoldsUnfinishedLog shape.site limit turning.now.written (written_bodies shape (with_all_taken shape turning.now)) after → HoldsUnfinishedLog shape.site limit run.written (written_bodies shape (with_all_taken shape run)) after
turn_left shape run events its seen after count limit turning left =
    subst (λ (end : Progress). HoldsUnfinishedLog shape.site limit run.written (written_bodies shape end) after) turning.goal
    (record { count = left.count; least_are_there = omega (arith, turning.least, left.least_are_there); within = left.within; image = left.image })

-- the nodes can learn the last epoch that is written
pub can_acknowledge : (rest : StoppedCluster) (log : Log) (seen : ℕ → List ℕ) (shape : Shape) (run : Progress) → IsStoppedCluster rest shape run → IsLogAt log seen shape (with_all_taken shape run) → CanAcknowledge rest.nodes (inject.written_of log.injector)
can_acknowledge rest log seen shape run held turned =
    (shape.buckets, net_of shape run, held.net, omega (arith, written_epoch log.injector (log_setup shape log.injector) (written_bodies shape (with_all_taken shape run)) seen turned.log.injector, written_below shape (with_all_taken shape run) turned.point.sound))

-- and were
rest_turned : (rest : StoppedCluster) (nodes : SiteNodes) (through : ℕ) (shape : Shape) (run : Progress) → IsStoppedCluster rest shape run → through ≡ last_written shape (with_all_taken shape run) →
    ((b : ℕ) (n : Net) → HoldsNet rest.nodes b n → HoldsNet nodes b (acknowledged_net through n)) → IsStoppedCluster (record rest { nodes = nodes }) shape (injected shape run)
rest_turned rest nodes through shape run held last told =
    let taken = covered_all_taken shape run (takeable shape run) held.point.sound refl held.point.covered in
    let least : run.acknowledged ≤ last_written shape (with_all_taken shape run) = taken.told in
    let net : HoldsNet nodes shape.buckets (net_of shape (injected shape run)) =
    subst (λ (epoch : ℕ). HoldsNet nodes shape.buckets (net_of shape (record (injected shape run) { acknowledged = epoch }))) (ap (max run.acknowledged) last ∙ max-eq_right least) (told shape.buckets (net_of shape run) held.net) in
    rest_alike rest nodes shape run (injected shape run) held (record { journal = refl; opened = refl; drawn = refl }) (sound_injected shape run held.point.sound) (covered_injected shape run held.point.sound held.point.covered) net

-- the cluster after `inject`, and the outcome
pub turn_outcome : (rest : StoppedCluster) (nodes : SiteNodes) (log : Log) (count : ℕ) (written : Epoch) (found : Option Missing) (missing : Missing) (seen : ℕ → List ℕ) (shape : Shape) (run : Progress) →
    IsStoppedCluster rest shape run → IsLogAt log seen shape (with_all_taken shape run) → count ≡ length (worth_logging shape run.journal (takeable shape run)) → written.0 ≡ inject.written_of log.injector →
    ((b : ℕ) (n : Net) → HoldsNet rest.nodes b n → HoldsNet nodes b (acknowledged_net written.0 n)) →
    ((fed : Fed) → StandsFor log.events fed → AreChained fed.received → found ≡ missing_of fed) → missing ≡ unwrap_or found (record { bucket = 0; place = None }) →
    IsCluster (record { rest = record rest { nodes = nodes }; log = log }) seen shape (inject_step shape run).run × (outcomes.Wrote count written missing.bucket missing.place ≡ (inject_step shape run).outcome)
unfolding inject_step injection_of
turn_outcome rest nodes log count written found missing seen shape run held turned counted is told answers named =
    let after = injected shape run in
    let last : written.0 ≡ last_written shape after = is ∙ written_epoch log.injector (log_setup shape log.injector) (written_bodies shape after) seen turned.log.injector in
    let through : written ≡ record { 0 = last_written shape after } = ap (λ (n : ℕ). record { 0 = n }) last in
    let there : missing ≡ missing_after shape after =
    named ∙ ap (λ (o : Option Missing). unwrap_or o (record { bucket = 0; place = None })) (answers (fed_by shape after) turned.log.events (are_chained shape after.opened after.journal after.received turned.point.sound.order turned.point.sound.received)) in (
      record { rest = rest_turned rest nodes written.0 shape run held last told; log = log_alike log seen shape (with_all_taken shape run) after turned.log (record { fed = refl; written = refl }) },
      ap (λ (n : ℕ). outcomes.Wrote n written missing.bucket missing.place) counted
          ∙ ap (λ (x : Epoch). outcomes.Wrote (length (worth_logging shape run.journal (takeable shape run))) x missing.bucket missing.place) through
          ∙ ap (λ (m : Missing). outcomes.Wrote (length (worth_logging shape run.journal (takeable shape run))) (record { 0 = last_written shape after }) m.bucket m.place) there,
    )
