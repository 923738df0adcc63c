use Rattle.std.proofs.Common.{◌≡◌, ◌<◌, ◌≤◌, ℕ, []}
use Rattle.rb_binlog.proofs.cut.empty_later.Given as goal

abbrev pub invariant-loop-later : goal.invariant-loop-later
invariant-loop-later g l = record {
  empty : (other : ℕ) → l.fn.file < other → other < l.later → g.D.LogDisk.seen l.disk other ≡ [];
  following : (other : ℕ) → l.later-end ≤ other → g.D.LogDisk.seen l.disk other ≡ [];
  same : (other : ℕ) → other ≤ l.fn.file → g.D.LogDisk.seen l.disk other ≡ g.D.LogDisk.seen l.initial.disk other;
  above : l.fn.file < l.later;
  cause : g.D.LogDisk.fault_count l.initial.disk ≤ g.D.LogDisk.fault_count l.disk;
}
