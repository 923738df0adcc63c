-- What the faults of a pair mean.
use Rattle.std.specs.Prelude.{◌≡◌, ℕ, ◌≤◌, Result, Ok, Err}
use Rattle.rb_base.specs.Faults.{Rose}
use Rattle.rb_base.specs.declared.site.SiteId.{SiteId}
use Rattle.rb_base.specs.declared.site.SiteId.TheVariants.{A}
use Rattle.rb_pair.specs.declared.fault.PairFault.{PairFault}
use Rattle.rb_pair.specs.declared.fault.PairFault.TheVariants as faults

-- the pair did not begin, since a device is not empty
abbrev pub IsNotEmpty : {T : Type 0} → Result T PairFault → Type 0
IsNotEmpty (Ok value) = ⊥
IsNotEmpty (Err (faults.NotEmpty site file size)) = Unit {0}
IsNotEmpty (Err (faults.DiskFault site)) = ⊥
IsNotEmpty (Err faults.NoMemory) = ⊥

-- site A's device failed only if its count of faults rose, or is at its greatest number; the count
-- never falls; and no fault names another device
pub record HasPairCause {T : Type 0} (before now : ℕ) (result : Result T PairFault) : Type 0 where
  pub later : before ≤ now
  pub failed : (site : SiteId) → result ≡ Err (faults.DiskFault site) → (site ≡ A) × Rose before now
