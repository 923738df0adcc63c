-- What it means that a call plays an event.
use Rattle.std.specs.Prelude.{◌≡◌, ℕ, ◌<◌, List, None}
use Rattle.rb_base.specs.declared.outcome.Outcome.{Outcome}
use Rattle.rb_base.specs.declared.change.Change.{Change}
use Rattle.rb_base.specs.declared.script.ClientOp.{ClientOp}
use Rattle.rb_journal_defs.specs.Body.{Shape}
use Rattle.rb_journal_defs.specs.Transaction.{refusal_of}
use Rattle.rb_play_defs.specs.Step.{Progress, StepResult, rows_of, tx_changes}
use Rattle.rb_play_defs.specs.declared.event.SiteEvent.{SiteEvent}
use Rattle.rb_play_defs.specs.Point.{TxFits, CloseFits, EventFits}
use Rattle.rb_cluster.specs.Cluster.{IsCluster, IsStoppedCluster}
use Rattle.rb_cluster.specs.declared.stopped.StoppedCluster.{StoppedCluster}
use Rattle.rb_cluster.specs.declared.cluster.Cluster.{Cluster}

-- the points that a value may represent
abbrev pub Points : Type 1
Points = Shape → Progress → Type 0

-- a call goes along this step: from any point of `old` it leads to the point after the step, which
-- is one of `new`, and gives the step's outcome
abbrev pub Plays : (old new : Points) → (step : Shape → Progress → StepResult) → Outcome → Type 0
Plays old new step outcome =
    (shape : Shape) (run : Progress) → old shape run → new shape (step shape run).run × (outcome ≡ (step shape run).outcome)

-- a value represents some point
abbrev pub SomePoint : Points → Type 0
SomePoint points = (shape : Shape) × (run : Progress) × points shape run

-- the points at which a cluster can play an event
abbrev pub Ready : SiteEvent → Cluster → (seen : ℕ → List ℕ) → Points
Ready event cluster seen shape run = IsCluster cluster seen shape run × EventFits shape run event

-- the same for a cluster without its log
abbrev pub RestReady : SiteEvent → StoppedCluster → Points
RestReady event cluster shape run = IsStoppedCluster cluster shape run × EventFits shape run event

-- the points at which no group of it is lost
abbrev pub Whole : StoppedCluster → Points
Whole cluster shape run = IsStoppedCluster cluster shape run × (run.lost ≡ None)

-- the points at which no group of it is lost and a client's transaction fits
abbrev pub TxReady : List ClientOp → StoppedCluster → Points
TxReady operations cluster shape run = Whole cluster shape run × TxFits shape run operations

-- the points at which such a transaction is accepted, with these changes
abbrev pub Accepts : List ClientOp → List Change → StoppedCluster → Points
Accepts operations changes cluster shape run =
    TxReady operations cluster shape run × (refusal_of (rows_of run) operations ≡ None) × (changes ≡ tx_changes shape operations run)

-- the points at which no group of it is lost and the open epoch can close
abbrev pub CloseReady : StoppedCluster → Points
CloseReady cluster shape run = Whole cluster shape run × CloseFits run

-- the points at which no group of it is lost and a node has this number
abbrev pub NodeReady : (node : ℕ) → StoppedCluster → Points
NodeReady node cluster shape run = Whole cluster shape run × (node < shape.buckets)
