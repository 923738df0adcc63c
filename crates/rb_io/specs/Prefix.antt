-- The effect of a write that stopped on an error.
use Rattle.std.specs.Prelude.{ℕ, ◌≤◌, List, Option, length, take}
use Rattle.std.specs.Io.KnownBytes.{Appends}

-- if the sink's content is known, it grew by a prefix of `bytes`
abbrev pub GrowsByPrefix : (old new : Option (List ℕ)) → List ℕ → Type 0
GrowsByPrefix old new bytes = (n : ℕ) × (n ≤ length bytes) × Appends old new (take n bytes)
