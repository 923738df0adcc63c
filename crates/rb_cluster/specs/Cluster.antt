-- What a cluster's value represents: its books, its nodes and its log at a point of a run.
use Rattle.std.specs.Prelude.{◌≡◌, ℕ, List, length, Some}
use Rattle.std.specs.Option.{option_map}
use Rattle.rb_journal_defs.specs.Journal.{previous_closed}
use Rattle.rb_journal_defs.specs.Body.{Shape}
use Rattle.rb_store.specs.Tables.{held_at, tables_in}
use Rattle.rb_store.specs.Left.{held_by}
use Rattle.rb_evbuf.specs.Buffer as buffer
use Rattle.rb_inject.specs.Injector as injector
use Rattle.rb_inject.specs.Injector.{LogSetup}
use Rattle.rb_inject.specs.declared.injector.Injector.{Injector}
use Rattle.rb_play_defs.specs.Step.{Progress, fed_by, written_bodies}
use Rattle.rb_message_defs.specs.Nodes.{owner_in, unacknowledged}
use Rattle.rb_bucket.specs.Bucket.{messages_kept}
use Rattle.rb_nodes.specs.Net as nodes
use Rattle.rb_nodes.specs.Net.{HoldsNet, count_in, groups_in, replicas_in}
use Rattle.rb_play_defs.specs.Point.{IsPoint}
use Rattle.rb_cluster.specs.Net.{net_of}
use Rattle.rb_cluster.specs.declared.books.Books.{Books}
use Rattle.rb_cluster.specs.declared.log.Log.{Log}
use Rattle.rb_cluster.specs.declared.stopped.StoppedCluster.{StoppedCluster}
use Rattle.rb_cluster.specs.declared.cluster.Cluster.{Cluster}

-- the books at a point: the clock, each row with its author and its epoch, and the counts
pub record HoldsBooks (books : Books) (shape : Shape) (run : Progress) : Type 0 where
  pub id : books.id ≡ shape.site
  pub mapped : books.mapped ≡ shape.tables
  pub clock : books.clock ≡ record { opened = run.opened; previous = previous_closed run.opened run.journal; drawn = run.drawn }
  pub rows : (table key : ℕ) → held_at books.tables table key ≡ held_by table key run.journal
  pub count : tables_in books.tables ≡ length shape.tables

-- what a log is written for, with this injector's limit
abbrev pub log_setup : Shape → Injector → LogSetup
log_setup shape its = record { site = shape.site; limit = injector.limit_of its; tables = shape.tables }

-- the log at a point: what the event buffer was fed, and the bodies that the injector has written
-- to its device
pub record HoldsLog (log : Log) (seen : ℕ → List ℕ) (shape : Shape) (run : Progress) : Type 0 where
  pub events : buffer.StandsFor log.events (fed_by shape run)
  pub injector : injector.StandsFor log.injector (log_setup shape log.injector) (written_bodies shape run) seen

-- a cluster without event buffer and injector represents a point of a run
pub record IsStoppedCluster (cluster : StoppedCluster) (shape : Shape) (run : Progress) : Type 0 where
  pub point : IsPoint shape run
  pub books : HoldsBooks cluster.books shape run
  pub net : HoldsNet cluster.nodes shape.buckets (net_of shape run)

-- a cluster over its device represents a point of a run
pub record IsCluster (cluster : Cluster) (seen : ℕ → List ℕ) (shape : Shape) (run : Progress) : Type 0 where
  pub rest : IsStoppedCluster cluster.rest shape run
  pub log : HoldsLog cluster.log seen shape run

-- what is left of a cluster without its event buffer and its injector
abbrev pub rest_of : Cluster → StoppedCluster
rest_of cluster = cluster.rest

-- the length of its binlog files at which they are rotated, in bytes
abbrev pub limit_of : Cluster → ℕ
limit_of cluster = injector.limit_of cluster.log.injector

-- the number of messages that its nodes have sent
abbrev pub sent_by_cluster : Cluster → ℕ
sent_by_cluster cluster = count_in cluster.rest.nodes

-- the number of its node groups
abbrev pub groups_of : Cluster → ℕ
groups_of cluster = groups_in cluster.rest.nodes

-- the number of nodes in each group
abbrev pub replicas_of : Cluster → ℕ
replicas_of cluster = replicas_in cluster.rest.nodes

-- a cluster with the same numbers of groups and nodes, and with the same limit
abbrev pub SameSetup : (old new : Cluster) → Type 0
SameSetup old new = (groups_of new ≡ groups_of old) × (replicas_of new ≡ replicas_of old) × (limit_of new ≡ limit_of old)

-- the owner of a bucket is up, and its buffer has all unacknowledged messages of the bucket
abbrev pub OwnerHolds : Shape → Cluster → Progress → (bucket : ℕ) → Type 0
OwnerHolds shape cluster run bucket =
    option_map (λ buffer. messages_kept buffer bucket) (nodes.buffer_at cluster.rest.nodes (owner_in run.nodes bucket))
    ≡ Some (unacknowledged shape run.acknowledged run.opened run.journal bucket)
