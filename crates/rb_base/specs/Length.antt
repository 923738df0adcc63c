-- Length-encoded integers, as the MySQL protocol writes them.
use Rattle.std.specs.Prelude.{ℕ, ◌+◌, ◌==◌, ◌||◌, nat_lt, nat_le, if◌then◌else◌, List, [], ◌∷◌, length, drop, slice_get, Option, Some, None}
use Rattle.byteorder.specs.Endian.{little_bytes, little_number}
use Rattle.rb_base.specs.declared.faults.LengthRead.{LengthRead}
use Rattle.rb_base.specs.declared.faults.LengthRead.TheVariants.{Number, Short, Wrong}

-- a number below 251 is one byte; any other number is a byte that gives its width, and then the
-- number in 2, 3 or 8 bytes, the lowest byte first
unfoldable pub length_bytes : ℕ → List ℕ
length_bytes n =
    if nat_lt n 251 then n ∷ []
    else (if nat_lt n 65536 then 252 ∷ little_bytes 2 n
    else (if nat_lt n 16777216 then 253 ∷ little_bytes 3 n
    else 254 ∷ little_bytes 8 n))

-- how many bytes of the number follow its first byte, if that is `fc`, `fd` or `fe`
abbrev pub width_after : (first : ℕ) → ℕ
width_after first = if first == 252 then 2 else (if first == 253 then 3 else 8)

-- the number that starts at a place, in the shortest form or a longer one, and the place after it;
-- `fb` and `ff` begin no number
unfoldable pub length_read : List ℕ → (at : ℕ) → LengthRead
length_read bytes at = by_first (slice_get bytes at)
  where
    by_first : Option ℕ → LengthRead
    by_first None = Short
    by_first (Some first) =
        if (first == 251) || (first == 255) then Wrong
        else (if nat_lt first 251 then Number first (at + 1)
        else (if nat_le (at + 1 + width_after first) (length bytes) then Number (little_number (width_after first) (drop (at + 1) bytes)) (at + 1 + width_after first) else Short))
