-- Bitmaps in which all bits are the same.
use Rattle.std.specs.Prelude.{ℕ, ◌-◌, ◌^◌, ◌==◌, Bool, List, if◌then◌else◌}
use Rattle.rb_read_defs.specs.Events.{used_bits}

-- the number of `count` bits, each of which is `bit`
abbrev pub ones : (bit : Bool) → (count : ℕ) → ℕ
ones bit count = if bit then 2 ^ count - 1 else 0

-- the byte in which each bit is this one
abbrev pub whole_byte : Bool → ℕ
whole_byte bit = if bit then 255 else 0

-- each of the first `count` bits of a bitmap is `bit`
abbrev pub are_all : (bit : Bool) → (count : ℕ) → List ℕ → Bool
are_all bit count bitmap = used_bits count bitmap == ones bit count
