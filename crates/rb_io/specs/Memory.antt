-- The sources and sinks in memory, as their callers see them.
use Rattle.std.specs.Prelude.{ℕ, List}

-- the bytes that remain, the number of the next call, the numbers of the calls that fail, and the
-- count of faults
pub record SourceState : Type 0 where
  pub left : List ℕ
  pub call : ℕ
  pub failing : List ℕ
  pub faults : ℕ

-- the bytes that were written, the number of the next call, the numbers of the calls that fail, and
-- the count of faults
pub record SinkState : Type 0 where
  pub held : List ℕ
  pub call : ℕ
  pub failing : List ℕ
  pub faults : ℕ
