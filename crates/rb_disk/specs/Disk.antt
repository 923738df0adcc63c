-- The effects of a log device's calls on the bytes of a file.
use Rattle.std.specs.Prelude.{◌≡◌, ℕ, ◌+◌, ◌<◌, ◌≤◌, max, List, [], ◌++◌, length, take, drop}

-- `new` is `old` with these bytes written at this place
abbrev pub Holds : List ℕ → ℕ → List ℕ → List ℕ → Type 0
Holds old at bytes new = new ≡ take at old ++ (bytes ++ drop (at + length bytes) old)

-- `new` is a possible result of a write of `n` bytes at `at` that failed: the range of the write
-- may hold any bytes, and the rest is unchanged; the file is not shorter than before, and not
-- longer than a successful write leaves it
pub record Torn (at n : ℕ) (old new : List ℕ) : Type 0 where
  pub before : take at new ≡ take at old
  pub after : drop (at + n) new ≡ drop (at + n) old
  pub no_shorter : length old ≤ length new
  pub no_longer : length new ≤ max (length old) (at + n)

-- `new` is a possible result of a truncation to `len` bytes that failed: its length is between
-- `len` and the old length, its first `len` bytes are unchanged, and the bytes after them are
-- arbitrary
pub record CutShort (len : ℕ) (old new : List ℕ) : Type 0 where
  pub no_shorter : len ≤ length new
  pub no_longer : length new ≤ length old
  pub front : take len new ≡ take len old

-- this file is the lowest that is not empty, and it has this length
pub record IsLowestFile (file size : ℕ) (seen : ℕ → List ℕ) : Type 0 where
  pub there : length (seen file) ≡ size
  pub some : 0 < size
  pub lower : (other : ℕ) → other < file → seen other ≡ []
