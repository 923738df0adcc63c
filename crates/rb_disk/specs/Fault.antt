-- What the fault of a log on a device implies about that device.
use Rattle.std.specs.Prelude.{ℕ, ◌≤◌, Result, IsErrOf}
use Rattle.rb_base.specs.declared.faults.OutFault.{OutFault}
use Rattle.rb_base.specs.declared.faults.OutFault.TheVariants as outs
use Rattle.rb_base.specs.Faults.{Rose}
use Rattle.rb_disk.specs.declared.fault.DiskLogFault.{DiskLogFault}
use Rattle.rb_disk.specs.declared.fault.DiskLogFault.TheVariants as faults

-- the fault of the log for each fault of its device
abbrev pub fault_of : OutFault → DiskLogFault
fault_of outs.Failed = faults.DiskFault
fault_of outs.NoMemory = faults.NoMemory

-- the device failed only if its count of faults rose, or is at its greatest number; the count never
-- falls
pub record HasDiskCause {T : Type 0} (before now : ℕ) (result : Result T DiskLogFault) : Type 0 where
  pub later : before ≤ now
  pub failed : IsErrOf result faults.DiskFault → Rose before now
