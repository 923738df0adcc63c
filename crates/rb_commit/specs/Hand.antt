-- The state of a site's clock.
use Rattle.std.specs.Prelude.{ℕ}

-- the open epoch; the epoch closed before it, or 0; and the number of numbered transactions
pub record Hand : Type 0 where
  pub opened : ℕ
  pub previous : ℕ
  pub drawn : ℕ
