use Rattle.std.proofs.Common.{◌≡◌, ℕ, ◌<◌, []}
use Rattle.rb_disk.proofs.lowest.lowest_file.Given as goal

abbrev pub invariant-loop-file : goal.invariant-loop-file
invariant-loop-file g l = (lower : ℕ) → lower < l.file → g.D.LogDisk.seen l.disk lower ≡ []
