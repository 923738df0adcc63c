-- The two halves of an epoch: the GCI in the high 32 bits, the micro GCI in the low 32 bits.
use Rattle.std.specs.Prelude.{ℕ, ◌+◌, ◌*◌, ◌/◌, ◌%◌, ◌^◌}
use Rattle.rb_base.specs.declared.epoch.Epoch.{Epoch}

-- the global checkpoint index
abbrev pub gci_of : Epoch → ℕ
gci_of e = e.0 / 2 ^ 32

-- the micro GCI
abbrev pub micro_of : Epoch → ℕ
micro_of e = e.0 % 2 ^ 32

-- the number of the first epoch of the next GCI
abbrev pub next_gci_of : Epoch → ℕ
next_gci_of e = (gci_of e + 1) * 2 ^ 32
