-- A file that a failed call left unchanged.
use Rattle.std.proofs.Common.{ℕ, ◌≤◌, List, length, arith, refl}
use Rattle.rb_disk.specs.Disk.{CutShort}

pub not_cut : (len : ℕ) (xs : List ℕ) → len ≤ length xs → CutShort len xs xs
not_cut len xs within = record {
  no_shorter = within;
  no_longer = omega arith;
  front = refl;
}
