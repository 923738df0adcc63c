-- What the faults of an injector mean.
use Rattle.std.specs.Prelude.{ℕ, ◌≤◌, Result, IsErrOf, Ok, Err}
use Rattle.rb_base.specs.Faults.{Rose}
use Rattle.rb_disk.specs.declared.fault.DiskLogFault.{DiskLogFault}
use Rattle.rb_disk.specs.declared.fault.DiskLogFault.TheVariants as logs
use Rattle.rb_etx.specs.declared.fault.EncodeFault.{EncodeFault}
use Rattle.rb_etx.specs.declared.fault.EncodeFault.TheVariants as encodes
use Rattle.rb_inject.specs.declared.fault.InjectFault.{InjectFault}
use Rattle.rb_inject.specs.declared.fault.InjectFault.TheVariants as faults

-- the injector's fault for a fault of its files or its index
abbrev pub inject_fault_of : DiskLogFault → InjectFault
inject_fault_of logs.DiskFault = faults.DiskFault
inject_fault_of logs.NoMemory = faults.NoMemory

-- the injector's fault for a fault of the encoder
abbrev pub too_large_of : EncodeFault → InjectFault
too_large_of (encodes.TooLarge size) = faults.TooLarge size
too_large_of encodes.NoMemory = faults.NoMemory

-- the device failed only if its count of faults rose, or is at its greatest number; the count never
-- falls
pub record HasInjectCause {T : Type 0} (before now : ℕ) (result : Result T InjectFault) : Type 0 where
  pub later : before ≤ now
  pub failed : IsErrOf result faults.DiskFault → Rose before now

-- a log was not begun because the device is not empty
abbrev pub IsNotEmpty : {T : Type 0} → Result T InjectFault → Type 0
IsNotEmpty (Ok value) = ⊥
IsNotEmpty (Err (faults.NotEmpty file size)) = Unit {0}
IsNotEmpty (Err (faults.TooLarge size)) = ⊥
IsNotEmpty (Err faults.DiskFault) = ⊥
IsNotEmpty (Err faults.NoMemory) = ⊥

-- an epoch was not logged because it is too large
abbrev pub IsTooLarge : {T : Type 0} → Result T InjectFault → Type 0
IsTooLarge (Ok value) = ⊥
IsTooLarge (Err (faults.NotEmpty file size)) = ⊥
IsTooLarge (Err (faults.TooLarge size)) = Unit {0}
IsTooLarge (Err faults.DiskFault) = ⊥
IsTooLarge (Err faults.NoMemory) = ⊥
