-- A cluster after an event that adds no entry to the journal.
use Rattle.std.proofs.Common.{◌≡◌, ℕ, List, sym, ap, subst, ◌∙◌}
use Rattle.rb_base.specs.declared.body.EpochBody.{EpochBody}
use Rattle.rb_commit.specs.Hand.{Hand}
use Rattle.rb_device_defs.specs.Image.{IsLogImage}
use Rattle.rb_device_defs.proofs.ImageLaws.{whole_is_image}
use Rattle.rb_journal_defs.specs.Journal.{Journal, previous_closed}
use Rattle.rb_journal_defs.specs.Body.{Shape}
use Rattle.rb_message_defs.specs.Received.{Fed}
use Rattle.rb_store.specs.Left.{held_by}
use Rattle.rb_evbuf.specs.Buffer as buffer
use Rattle.rb_inject.specs.Injector as inject
use Rattle.rb_base.specs.declared.outcome.Outcome.{Outcome}
use Rattle.rb_play_defs.specs.Step.{Progress, StepResult, written_bodies}
use Rattle.rb_play_defs.specs.Sound.{IsSound, IsCovered}
use Rattle.rb_play_defs.proofs.Alike.{Alike}
use Rattle.std.specs.Prelude.{None}
use Rattle.rb_nodes.specs.Net.{HoldsNet, lost_in, loss_of}
use Rattle.rb_nodes.specs.declared.site_nodes.SiteNodes.{SiteNodes}
use Rattle.rb_play_defs.proofs.Points.{point_alike}
use Rattle.rb_cluster.specs.Net.{net_of}
use Rattle.rb_cluster.specs.Cluster.{HoldsBooks, log_setup, HoldsLog, IsStoppedCluster, IsCluster}
use Rattle.rb_cluster.specs.Taken.{IsLogAt}
use Rattle.rb_cluster.specs.declared.books.Books.{Books}
use Rattle.rb_cluster.specs.declared.log.Log.{Log}
use Rattle.rb_cluster.specs.declared.stopped.StoppedCluster.{StoppedCluster}
use Rattle.rb_cluster.specs.declared.cluster.Cluster.{Cluster}
use Rattle.rb_play_defs.proofs.Events.{LeavesLog}

-- the clock of a cluster
abbrev hand_of : (opened : ℕ) → Journal → (drawn : ℕ) → Hand
hand_of opened journal drawn = record { opened = opened; previous = previous_closed opened journal; drawn = drawn }

-- its books represent the same
books_alike : (books : Books) (shape : Shape) (run now : Progress) → HoldsBooks books shape run → Alike run now → HoldsBooks books shape now
books_alike books shape run now held alike = record {
  id = held.id;
  mapped = held.mapped;
  clock = held.clock
      ∙ ap (λ (o : ℕ). hand_of o run.journal run.drawn) (sym alike.opened)
      ∙ ap (λ (j : Journal). hand_of now.opened j run.drawn) (sym alike.journal)
      ∙ ap (λ (d : ℕ). hand_of now.opened now.journal d) (sym alike.drawn);
  rows = λ table key. held.rows table key ∙ ap (held_by table key) (sym alike.journal);
  count = held.count;
}

-- only the nodes changed
pub rest_alike : (old : StoppedCluster) (nodes : SiteNodes) (shape : Shape) (run now : Progress) → IsStoppedCluster old shape run → Alike run now → IsSound shape now → IsCovered shape now → HoldsNet nodes shape.buckets (net_of shape now) →
    IsStoppedCluster (record old { nodes = nodes }) shape now
rest_alike old nodes shape run now held alike sound covered net = record {
  point = point_alike shape run now held.point alike sound covered;
  books = books_alike old.books shape run now held.books alike;
  net = net;
}

-- so the log represents the same
pub log_alike : (log : Log) (seen : ℕ → List ℕ) (shape : Shape) (run now : Progress) → HoldsLog log seen shape run → LeavesLog shape run now → HoldsLog log seen shape now
log_alike log seen shape run now held leaves = record {
  events = subst (λ (f : Fed). buffer.StandsFor log.events f) (sym leaves.fed) held.events;
  injector = subst (λ (bodies : List EpochBody). inject.StandsFor log.injector (log_setup shape log.injector) bodies seen) (sym leaves.written) held.injector;
}

-- the log of a cluster at its point
pub log_at : (cluster : Cluster) (seen : ℕ → List ℕ) (shape : Shape) (run : Progress) → IsCluster cluster seen shape run → IsLogAt cluster.log seen shape run
log_at cluster seen shape run held = record { point = held.rest.point; log = held.log }

-- a log is an image of itself
pub log_image : (log : Log) (seen : ℕ → List ℕ) (shape : Shape) (run : Progress) → HoldsLog log seen shape run → IsLogImage shape.site (inject.limit_of log.injector) (written_bodies shape run) seen
log_image log seen shape run held = whole_is_image shape.site (inject.limit_of log.injector) (written_bodies shape run) seen held.injector.held

-- the same when a branch of the code names the cluster and the outcome
pub at_branch : (shape : Shape) (step : StepResult) (cluster now : StoppedCluster) (outcome said : Outcome) → now ≡ cluster → said ≡ outcome → IsStoppedCluster cluster shape step.run × (outcome ≡ step.outcome) → IsStoppedCluster now shape step.run × (said ≡ step.outcome)
at_branch shape step cluster now outcome said same answer held = (subst (λ (c : StoppedCluster). IsStoppedCluster c shape step.run) (sym same) held.0, answer ∙ held.1)

-- the nodes show that no group is lost
pub none_lost : (cluster : StoppedCluster) (shape : Shape) (run : Progress) → IsStoppedCluster cluster shape run → None ≡ lost_in cluster.nodes → run.lost ≡ None
none_lost cluster shape run held none = sym held.net.lost ∙ ap loss_of (sym none)
