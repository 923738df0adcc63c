-- A cluster whose injector stopped and restarts.
use Rattle.std.proofs.Common.{◌≡◌, ℕ, List, [], ◌++◌, length, refl, sym, ap, subst, ◌∙◌}
use Rattle.std.specs.Prelude.{true, false, is_some, Option, Some, None}
use Rattle.std.specs.Option.{option_map_or}
use Rattle.rb_base.specs.declared.site.SiteId.{SiteId}
use Rattle.rb_base.specs.declared.schema.Mapped.{Mapped}
use Rattle.rb_base.specs.declared.epoch.Epoch.{Epoch}
use Rattle.rb_device_defs.specs.Image.{IsLogImage}
use Rattle.rb_base.specs.declared.message.Sent.{Sent}
use Rattle.rb_base.specs.declared.outcome.Outcome.TheVariants as outcomes
use Rattle.rb_journal_defs.specs.Body.{Shape}
use Rattle.rb_evbuf.specs.Buffer.{StandsFor}
use Rattle.rb_evbuf.specs.declared.buffer.EventBuffer.{EventBuffer}
use Rattle.rb_inject.specs.Injector as inject
use Rattle.rb_inject.specs.Injector.{LogSetup, CanBeRecovered}
use Rattle.rb_inject.specs.declared.injector.Injector.{Injector}
use Rattle.rb_play_defs.specs.Step.{Progress, last_written, sent_by_owners, sent_to_injector, with_new_injector, injector_step, resend_step, written_bodies}
use Rattle.rb_play_defs.proofs.Restarts.{sound_injector}
use Rattle.rb_nodes.specs.Net.{Net, HoldsNet, CanResend, buckets_in, count_in, lost_in, resent_net}
use Rattle.rb_cluster.specs.Cluster.{log_setup, IsStoppedCluster, IsCluster, limit_of}
use Rattle.rb_cluster.specs.Taken.{log_of}
use Rattle.rb_cluster.specs.declared.stopped.StoppedCluster.{StoppedCluster}
use Rattle.rb_cluster.specs.declared.cluster.Cluster.{Cluster}
use Rattle.rb_play_defs.proofs.Covering.{covered_injector}
use Rattle.rb_cluster.proofs.RestLaws.{rest_alike, log_at, none_lost}
use Rattle.rb_nodes.specs.declared.site_nodes.SiteNodes.{SiteNodes}
use Rattle.rb_cluster.proofs.FailLaws.{can_resend, cluster_resent}
use Rattle.rb_cluster.proofs.LogLaws.{log_named, can_be_recovered, written_epoch}

-- what is not there
there_or_none : {X : Type 0} → (found : Option X) → is_some found ≡ false → found ≡ None
there_or_none None none = refl
there_or_none (Some x) none = absurd (let no : true ≡ false = none in cc)

-- what the owners resend to a new injector
again_where : (shape : Shape) (run : Progress) (lost : Option (ℕ × ℕ)) → run.lost ≡ lost → sent_to_injector shape run ≡ option_map_or (λ loss. []) lost (sent_by_owners shape run)
again_where shape run lost is = ap (λ (l : Option (ℕ × ℕ)). option_map_or (λ loss. []) l (sent_by_owners shape run)) is

none_lost_of : (rest : StoppedCluster) (shape : Shape) (run : Progress) → IsStoppedCluster rest shape run → is_some (lost_in rest.nodes) ≡ false → run.lost ≡ None
none_lost_of rest shape run held none = none_lost rest shape run held (sym (there_or_none (lost_in rest.nodes) none))

pub can_send_again : (rest : StoppedCluster) (shape : Shape) (run : Progress) → IsStoppedCluster rest shape run → is_some (lost_in rest.nodes) ≡ false → CanResend rest.nodes
can_send_again rest shape run held none = can_resend rest shape run held (none_lost_of rest shape run held none)

-- all owners resent
pub rest_resent : (old : StoppedCluster) (nodes : SiteNodes) (shape : Shape) (run : Progress) → IsStoppedCluster old shape run → is_some (lost_in old.nodes) ≡ false → ((b : ℕ) (n : Net) → HoldsNet old.nodes b n → HoldsNet nodes b (resent_net b n)) →
    IsStoppedCluster (record old { nodes = nodes }) shape (record run { sent = run.sent ++ sent_to_injector shape run })
unfolding resend_step
rest_resent old nodes shape run held none sends =
    let (after, answer) = cluster_resent old nodes (count_in nodes) shape run held sends refl in
    subst (λ (more : List Sent). IsStoppedCluster (record old { nodes = nodes }) shape (record run { sent = run.sent ++ more })) (sym (again_where shape run None (none_lost_of old shape run held none))) after

-- the cluster with its new injector, and the outcome
pub cluster_recovered : (old new : StoppedCluster) (events : EventBuffer) (its : Injector) (buckets sent : ℕ) (written : Epoch) (seen : ℕ → List ℕ) (shape : Shape) (run : Progress) → IsStoppedCluster old shape run →
    IsStoppedCluster new shape (record run { sent = run.sent ++ sent_to_injector shape run }) → inject.StandsFor its (log_setup shape its) (written_bodies shape run) seen → written.0 ≡ inject.written_of its → buckets ≡ buckets_in old.nodes →
    StandsFor events (record { buckets = buckets; last = written.0; received = [] }) → sent ≡ count_in new.nodes →
    IsCluster (record { rest = new; log = log_of events its }) seen shape (injector_step shape run).run × (outcomes.Recovered written sent ≡ (injector_step shape run).outcome)
unfolding injector_step
cluster_recovered old new events its buckets sent written seen shape run before held log last all fed count =
    let through : written.0 ≡ last_written shape run = last ∙ written_epoch its (log_setup shape its) (written_bodies shape run) seen log in
    let now = with_new_injector shape run in (
      record {
        rest = rest_alike new new.nodes shape (record run { sent = run.sent ++ sent_to_injector shape run }) now held (record { journal = refl; opened = refl; drawn = refl })
            (sound_injector shape run before.point.sound) (covered_injector shape run before.point.covered) held.net;
        log = record {
          events = subst (λ (epoch : ℕ). StandsFor events (record { buckets = shape.buckets; last = epoch; received = [] })) through
              (subst (λ (n : ℕ). StandsFor events (record { buckets = n; last = written.0; received = [] })) (all ∙ before.net.groups.buckets_are) fed);
          injector = log;
        };
      },
      ap (λ (n : ℕ). outcomes.Recovered (record { 0 = n }) sent) through ∙ ap (outcomes.Recovered (record { 0 = last_written shape run })) (count ∙ ap length held.net.outbox.sent_is),
    )

-- what the call is given is what the cluster's log is written for
setup_named : (old : Cluster) (limit : ℕ) (tables : List Mapped) (seen : ℕ → List ℕ) (shape : Shape) (run : Progress) → limit ≡ limit_of old → tables ≡ old.rest.books.mapped → IsCluster old seen shape run →
    record { site = old.rest.books.id; limit = limit; tables = tables } ≡ log_setup shape old.log.injector
setup_named old limit tables seen shape run is named held =
    ap (λ (id : SiteId). record { site = id; limit = limit; tables = tables }) held.rest.books.id
    ∙ ap (λ (n : ℕ). record { site = shape.site; limit = n; tables = tables }) is
    ∙ ap (λ (ts : List Mapped). record { site = shape.site; limit = limit_of old; tables = ts }) (named ∙ held.rest.books.mapped)

-- so the log can be recovered
pub log_can_be_recovered : (old : Cluster) (limit : ℕ) (tables : List Mapped) (seen : ℕ → List ℕ) (shape : Shape) (run : Progress) → limit ≡ limit_of old → tables ≡ old.rest.books.mapped → IsCluster old seen shape run →
    CanBeRecovered (record { site = old.rest.books.id; limit = limit; tables = tables }) (written_bodies shape run) seen
log_can_be_recovered old limit tables seen shape run is named held =
    subst (λ (setup : LogSetup). CanBeRecovered setup (written_bodies shape run) seen) (sym (setup_named old limit tables seen shape run is named held)) (can_be_recovered old.log seen shape run (log_at old seen shape run held))

-- the new injector has the same log
pub log_recovered : (old : Cluster) (limit : ℕ) (tables : List Mapped) (its : Injector) (seen now : ℕ → List ℕ) (shape : Shape) (run : Progress) → limit ≡ limit_of old → tables ≡ old.rest.books.mapped → IsCluster old seen shape run →
    inject.StandsFor its (record { site = old.rest.books.id; limit = limit; tables = tables }) (written_bodies shape run) now → inject.StandsFor its (log_setup shape its) (written_bodies shape run) now
log_recovered old limit tables its seen now shape run is named held log =
    log_named shape its (limit_of old) (written_bodies shape run) now (subst (λ (setup : LogSetup). inject.StandsFor its setup (written_bodies shape run) now) (setup_named old limit tables seen shape run is named held) log)

-- what a fault leaves is an image of it
pub image_left : (old : Cluster) (limit : ℕ) (tables : List Mapped) (seen now : ℕ → List ℕ) (shape : Shape) (run : Progress) → limit ≡ limit_of old → tables ≡ old.rest.books.mapped → IsCluster old seen shape run →
    IsLogImage old.rest.books.id limit (written_bodies shape run) now → IsLogImage shape.site (limit_of old) (written_bodies shape run) now
image_left old limit tables seen now shape run is named held image = subst (λ (setup : LogSetup). IsLogImage setup.site setup.limit (written_bodies shape run) now) (setup_named old limit tables seen shape run is named held) image
