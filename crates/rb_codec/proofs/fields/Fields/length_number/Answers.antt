use Rattle.std.proofs.Common.{◌≡◌, ◌+◌, ◌≤◌, ℕ, Bool, true, false, cond, List, length, Option, Some, None, nat_le, refl, sym, arith}
use Rattle.std.specs.Prelude.{slice_get}
use Rattle.std.proofs.lemmas.Bool.{leb-true}
use Rattle.std.proofs.lemmas.Option.{slice_get_within}
use Rattle.rb_base.specs.Length.{length_read, width_after}
use Rattle.rb_base.specs.declared.faults.LengthRead.{LengthRead}
use Rattle.rb_base.specs.declared.faults.LengthRead.TheVariants as lengths
use Rattle.rb_codec.proofs.fields.Fields.length_number.Goals as goal

place : LengthRead → (other : ℕ) → ℕ
place (lengths.Number n after) other = after
place lengths.Short other = other
place lengths.Wrong other = other

by_tests : (wrong small whole : Bool) (first start read end n after limit : ℕ) → start ≤ limit → (whole ≡ true → end ≤ limit)
    → cond wrong lengths.Wrong (cond small (lengths.Number first start) (cond whole (lengths.Number read end) lengths.Short)) ≡ lengths.Number n after → after ≤ limit
by_tests true small whole first start read end n after limit near far e = absurd cc
by_tests false true whole first start read end n after limit near far e = let h : start ≡ after = cc in omega (arith, h, near)
by_tests false false true first start read end n after limit near far e = let h : end ≡ after = cc in omega (arith, h, far refl)
by_tests false false false first start read end n after limit near far e = absurd cc

-- a length-encoded number ends within the bytes
read_within : (bytes : List ℕ) (at n after : ℕ) → length_read bytes at ≡ lengths.Number n after → after ≤ length bytes
unfolding length_read
read_within bytes at n after e = by_first (slice_get bytes at) refl
  where
    by_first : (o : Option ℕ) → slice_get bytes at ≡ o → after ≤ length bytes
    by_first None is = absurd cc
    by_first (Some first) is =
        let lt = slice_get_within bytes at first is in
        let e' = rw is at e in
        by_tests _ _ (nat_le (at + 1 + width_after first) (length bytes)) first (at + 1) _ (at + 1 + width_after first) n after (length bytes) (omega (arith, lt)) (leb-true _ _) e'

pub invariant_of-self : goal.invariant_of-self
invariant_of-self c = record { within = read_within c.args.self.now.bytes.now c.args.self.now.at c.in-Number.number c.in-Number.after (sym c.in-Number.ensures) }
