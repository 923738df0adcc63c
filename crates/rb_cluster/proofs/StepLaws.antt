-- What an event does by what it is, and what a fault leaves if it wrote nothing.
use Rattle.std.proofs.Common.{◌≡◌, ℕ, arith, true, List, refl, sym, ap, ◌∙◌}
use Rattle.std.specs.Prelude.{Some}
use Rattle.rb_base.specs.declared.outcome.Outcome.TheVariants as outcomes
use Rattle.rb_journal_defs.specs.Body.{Shape}
use Rattle.rb_play_defs.specs.Step.{Progress, unchanged, written_bodies, site_step}
use Rattle.rb_play_defs.specs.declared.event.SiteEvent.{SiteEvent}
use Rattle.rb_play_defs.proofs.Grows.{goes_site}
use Rattle.rb_device_defs.specs.Image.{IsLogImage}
use Rattle.rb_play_defs.specs.UnfinishedLog.{HoldsUnfinishedLog}
use Rattle.rb_base.specs.declared.epoch.Epoch.{Epoch}
use Rattle.rb_nodes.specs.Net.{lost_in, loss_of}
use Rattle.rb_play_defs.specs.Point.{needs_all_groups}
use Rattle.rb_cluster.specs.Cluster.{IsStoppedCluster, IsCluster, limit_of}
use Rattle.rb_cluster.specs.declared.stopped.StoppedCluster.{StoppedCluster}
use Rattle.rb_cluster.specs.declared.cluster.Cluster.{Cluster}
use Rattle.rb_cluster.proofs.RestLaws.{log_image}
use Rattle.rb_play_defs.proofs.Events.{step_is, refused_where}
use Rattle.rb_play_defs.proofs.Logging.{part_of}

-- what a fault leaves, if it left an image of what was written before the event
pub part_before : (cluster : Cluster) (event : SiteEvent) (seen now : ℕ → List ℕ) (shape : Shape) (run : Progress) → IsCluster cluster seen shape run → IsLogImage shape.site (limit_of cluster) (written_bodies shape run) now →
    HoldsUnfinishedLog shape.site (limit_of cluster) run.written (written_bodies shape (site_step shape run event).run) now
part_before cluster event seen now shape run held image =
    let sound = held.rest.point.sound in
    part_of shape run run (written_bodies shape (site_step shape run event).run) (limit_of cluster) now sound (omega arith) (goes_site shape run event sound).grows image

pub part_unmoved : (cluster : Cluster) (event : SiteEvent) (seen : ℕ → List ℕ) (shape : Shape) (run : Progress) → IsCluster cluster seen shape run →
    HoldsUnfinishedLog shape.site (limit_of cluster) run.written (written_bodies shape (site_step shape run event).run) seen
part_unmoved cluster event seen shape run held = part_before cluster event seen seen shape run held (log_image cluster.log seen shape run held.log)

pub rest_lost : (cluster : StoppedCluster) (event : SiteEvent) (loss : ℕ × Epoch) (shape : Shape) (run : Progress) → IsStoppedCluster cluster shape run → needs_all_groups event ≡ true → Some loss ≡ lost_in cluster.nodes →
    IsStoppedCluster cluster shape (site_step shape run event).run × (outcomes.SiteLost loss.0 loss.1 ≡ (site_step shape run event).outcome)
rest_lost cluster event loss shape run held needs is =
    step_is (IsStoppedCluster cluster shape) (outcomes.SiteLost loss.0 loss.1) (site_step shape run event) (unchanged run (outcomes.SiteLost loss.0 loss.1))
    (refused_where shape run event loss.0 loss.1.0 needs (sym held.net.lost ∙ ap loss_of (sym is))) (held, refl)
