-- The count of faults that a source, a sink and a device keep. It never falls.
use Rattle.std.specs.Prelude.{◌≡◌, ◌⊎◌, ℕ, ◌<◌, ◌≤◌, ◌-◌, ◌^◌, Result, IsErrOf}
use Rattle.rb_base.specs.declared.faults.Failed.{Failed}
use Rattle.rb_base.specs.declared.faults.OutFault.{OutFault}
use Rattle.rb_base.specs.declared.faults.OutFault.TheVariants as faults

-- the count rose, or it is at the greatest number of its type
abbrev pub Rose : (before now : ℕ) → Type 0
Rose before now = (before < now) ⊎ (now ≡ 2 ^ 64 - 1)

-- the call failed only if the count rose, or is at its greatest number; the count never falls
pub record HasCause {T : Type 0} (before now : ℕ) (result : Result T Failed) : Type 0 where
  pub later : before ≤ now
  pub failed : IsErrOf result (record {}) → Rose before now

-- the same for a call whose object may also run out of memory
pub record HasOutCause {T : Type 0} (before now : ℕ) (result : Result T OutFault) : Type 0 where
  pub later : before ≤ now
  pub failed : IsErrOf result faults.Failed → Rose before now
