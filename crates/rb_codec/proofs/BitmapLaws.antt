-- A bitmap, byte by byte.
use Rattle.std.proofs.Common.{◌≡◌, ◌≢◌, ◌⊎◌, inl, inr, ℕ, zero, suc, ◌+◌, ◌*◌, ◌-◌, ◌/◌, ◌%◌, ◌^◌, ◌<◌, ◌≤◌, Bool, true, false, ◌==◌, List, [], ◌∷◌, length, refl, sym, ap, subst, ◌∙◌, arith, eq-eqb, ne_eqb}
use Rattle.std.specs.Prelude.{◌&&◌}
use Rattle.std.proofs.lemmas.Bool.Decides.{eqb_tells}
use Rattle.std.proofs.lemmas.Nat.{mod-pow-add, pow-add}
use Rattle.byteorder.specs.Endian.{little_from, little_number}
use Rattle.rb_log_defs.specs.Table.{bitmap_size}
use Rattle.rb_read_defs.specs.Events.{used_bits}
use Rattle.rb_codec.specs.Bitmap.{ones, whole_byte, are_all}

-- the number in the bytes after the first one
after_first : (i n b : ℕ) (bs : List ℕ) → little_from (suc i) n (b ∷ bs) ≡ little_from i n bs
after_first i zero b bs = refl
after_first i (suc n) b bs = rw (after_first (suc i) n b bs) refl

-- two numbers are equal if their lowest bytes are equal and so are the other bytes
same_parts : (u b x y : ℕ) → b < 256 → y < 256 → (u * 256 + b == x * 256 + y) ≡ ((b == y) && (u == x))
same_parts u b x y bb yy = go (eqb_tells b y) (eqb_tells u x) (eqb_tells (u * 256 + b) (x * 256 + y))
  where
    go : (((b == y) ≡ true) × (b ≡ y)) ⊎ (((b == y) ≡ false) × (b ≢ y)) → (((u == x) ≡ true) × (u ≡ x)) ⊎ (((u == x) ≡ false) × (u ≢ x)) →
        (((u * 256 + b == x * 256 + y) ≡ true) × (u * 256 + b ≡ x * 256 + y)) ⊎ (((u * 256 + b == x * 256 + y) ≡ false) × (u * 256 + b ≢ x * 256 + y)) →
        (u * 256 + b == x * 256 + y) ≡ ((b == y) && (u == x))
    go (inl (p, e)) (inl (q, f)) (inl (r, g)) = rw (p, q, r) refl
    go (inl (p, e)) (inl (q, f)) (inr (r, differs)) = absurd (differs (omega (arith, e, f)))
    go (inl (p, e)) (inr (q, differs)) (inl (r, g)) = absurd (differs (omega (arith, e, g)))
    go (inl (p, e)) (inr (q, differs)) (inr (r, other)) = rw (p, q, r) refl
    go (inr (p, differs)) t (inl (r, g)) = absurd (differs (omega (arith, g, bb, yy)))
    go (inr (p, differs)) t (inr (r, other)) = rw (p, r) refl

-- the used bits, as the first byte and the bytes after it
used_more : (count b : ℕ) (bs : List ℕ) → b < 256 → 8 ≤ count → used_bits count (b ∷ bs) ≡ used_bits (count - 8) bs * 256 + b
used_more count b bs byte some =
    let rest : ℕ = little_number (length bs) bs in
    let all : little_number (length (b ∷ bs)) (b ∷ bs) ≡ b + 256 * rest = ap (λ (n : ℕ). b + 256 * n) (after_first 0 (length bs) b bs) in
    let split : (b + 256 * rest) % 2 ^ ((count - 8) + 8) ≡ ((b + 256 * rest) / 2 ^ 8 % 2 ^ (count - 8)) * 2 ^ 8 + (b + 256 * rest) % 2 ^ 8 = mod-pow-add (b + 256 * rest) (count - 8) 8 in
    let above : (b + 256 * rest) / 256 ≡ rest = omega (arith, byte) in
    let low : (b + 256 * rest) % 256 ≡ b = omega (arith, byte) in
    let same : count ≡ (count - 8) + 8 = omega (arith, some) in
    ap (λ (n : ℕ). n % 2 ^ count) all ∙ ap (λ (n : ℕ). (b + 256 * rest) % 2 ^ n) same ∙ split ∙ ap (λ (n : ℕ). (n % 2 ^ (count - 8)) * 256 + (b + 256 * rest) % 256) above ∙ ap (λ (n : ℕ). (rest % 2 ^ (count - 8)) * 256 + n) low

-- a number whose bits are all the same, as its first byte and the bytes after it
ones_more : (bit : Bool) (count : ℕ) → 8 ≤ count → ones bit count ≡ ones bit (count - 8) * 256 + whole_byte bit
ones_more false count some = refl
ones_more true count some =
    let parts : 2 ^ ((count - 8) + 8) ≡ 2 ^ (count - 8) * 2 ^ 8 = pow-add 2 (count - 8) 8 in
    let same : 2 ^ count ≡ 2 ^ (count - 8) * 256 = ap (λ (n : ℕ). 2 ^ n) (omega (arith, some)) ∙ parts in
    omega (arith, same, at_least_one (count - 8))
  where
    at_least_one : (n : ℕ) → 1 ≤ 2 ^ n
    at_least_one zero = omega arith
    at_least_one (suc n) = omega (arith, at_least_one n)

-- a bitmap with one more byte in front
pub byte_more : (bit : Bool) (count b : ℕ) (bs : List ℕ) → b < 256 → 8 ≤ count → are_all bit count (b ∷ bs) ≡ ((b == whole_byte bit) && are_all bit (count - 8) bs)
byte_more bit count b bs byte some =
    rw (used_more count b bs byte some, ones_more bit count some) (same_parts (used_bits (count - 8) bs) b (ones bit (count - 8)) (whole_byte bit) byte (small bit))
  where
    small : (bit : Bool) → whole_byte bit < 256
    small true = omega arith
    small false = omega arith

-- a bitmap whose first byte has a different bit
pub another_byte : (bit : Bool) (count b whole : ℕ) (bs bytes : List ℕ) → bytes ≡ b ∷ bs → b < 256 → 8 ≤ count → whole ≡ whole_byte bit → b ≢ whole → are_all bit count bytes ≡ false
another_byte bit count b whole bs bytes is byte some same differs =
    ap (are_all bit count) is ∙ byte_more bit count b bs byte some ∙ ap (λ (t : Bool). t && are_all bit (count - 8) bs) (ne_eqb b (whole_byte bit) (λ e. differs (e ∙ sym same)))

-- a bitmap whose first byte has no different bit
pub same_byte : (bit : Bool) (count b whole : ℕ) (bs bytes : List ℕ) → bytes ≡ b ∷ bs → b < 256 → 8 ≤ count → whole ≡ whole_byte bit → b ≡ whole → are_all bit count bytes ≡ are_all bit (count - 8) bs
same_byte bit count b whole bs bytes is byte some same equal =
    ap (are_all bit count) is ∙ byte_more bit count b bs byte some ∙ ap (λ (t : Bool). t && are_all bit (count - 8) bs) (eq-eqb b (whole_byte bit) (equal ∙ same))

-- the last byte of a bitmap
pub last_byte : (bit : Bool) (count b : ℕ) (bs : List ℕ) → length (b ∷ bs) ≡ bitmap_size count → count < 8 → are_all bit count (b ∷ bs) ≡ (b % 2 ^ count == ones bit count)
last_byte bit count b [] size few = let alone : b + 256 * 0 ≡ b = omega arith in ap (λ (n : ℕ). n % 2 ^ count == ones bit count) alone
last_byte bit count b (other ∷ bs) size few = absurd (omega (arith, size, few))

-- an empty bitmap
pub no_byte : (bit : Bool) (count : ℕ) (bs : List ℕ) → length bs ≡ 0 → length bs ≡ bitmap_size count → are_all bit count bs ≡ true
no_byte bit count (b ∷ bs) none size = absurd (omega (arith, none))
no_byte bit count [] none size = let zero_is : count ≡ 0 = omega (arith, size) in subst (λ (n : ℕ). are_all bit n [] ≡ true) (sym zero_is) (empty bit)
  where
    empty : (bit : Bool) → are_all bit 0 [] ≡ true
    empty true = refl
    empty false = refl
