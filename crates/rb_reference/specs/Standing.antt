-- The binlog that a layout in memory represents, and the binlogs that have room.
use Rattle.std.specs.Prelude.{ℕ, ◌<◌, ◌^◌, List, length, All}
use Rattle.rb_log_defs.specs.File.{Binlog}
use Rattle.rb_reference.specs.declared.layout.Layout.{Layout}

-- the binlog that this layout represents
abbrev pub binlog_in : Layout → Binlog
binlog_in log = record { closed = log.closed.items; last = log.last.items; rows = log.rows }

-- a file whose positions fit 32 bits
abbrev pub IsSmall : List ℕ → Type 0
IsSmall file = length file < 2 ^ 32

-- a binlog in which the positions of every file fit 32 bits
pub record AreSmall (log : Binlog) : Type 0 where
  pub closed : All IsSmall log.closed
  pub last : IsSmall log.last
