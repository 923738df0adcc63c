-- The epoch that is open. As in NDB Cluster, an epoch has its GCI in the high 32 bits and its micro
-- GCI in the low 32 bits.
use Rattle.std.specs.Prelude.{ℕ, ◌+◌, ◌^◌, Bool, true, false}
use Rattle.rb_base.specs.Epoch.{next_gci_of}

-- the first epoch that a site opens: micro GCI 0 of GCI 1
abbrev pub first_epoch : ℕ
first_epoch = 2 ^ 32

-- the epoch that opens when an epoch closes: the next number, or micro GCI 0 of the next GCI
abbrev pub epoch_after : (gci : Bool) → (epoch : ℕ) → ℕ
epoch_after false epoch = epoch + 1
epoch_after true epoch = next_gci_of (record { 0 = epoch })
