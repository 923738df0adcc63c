-- What stops a cluster in an event.
use Rattle.std.specs.Prelude.{ℕ, ◌≤◌, ⊤, Result, Ok, Err}
use Rattle.rb_base.specs.Faults.{Rose}
use Rattle.rb_cluster.specs.declared.halt.Halt.{Halt}
use Rattle.rb_cluster.specs.declared.halt.Halt.TheVariants as halts
use Rattle.rb_cluster.specs.declared.stopped.StoppedCluster.{StoppedCluster}

-- this holds of what is left of the cluster, if its device failed
abbrev pub IfStopped : {T : Type 0} → Result T Halt → (StoppedCluster → Type 0) → Type 0
IfStopped (Ok value) holds = ⊤
IfStopped (Err (halts.Stopped rest)) holds = holds rest
IfStopped (Err halts.NoMemory) holds = ⊤

-- the device failed
abbrev pub IsStopped : {T : Type 0} → Result T Halt → Type 0
IsStopped (Ok value) = ⊥
IsStopped (Err (halts.Stopped rest)) = Unit {0}
IsStopped (Err halts.NoMemory) = ⊥

-- the device failed only if its count of faults rose, or is at its greatest number; the count never
-- falls
pub record HasHaltCause {T : Type 0} (before now : ℕ) (result : Result T Halt) : Type 0 where
  pub later : before ≤ now
  pub failed : IsStopped result → Rose before now
