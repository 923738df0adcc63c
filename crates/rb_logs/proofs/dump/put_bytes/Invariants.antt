use Rattle.std.proofs.Common.{◌≡◌, ◌++◌}
use Rattle.std.specs.List.{flat_map}
use Rattle.rb_journal_defs.specs.Body.{numbers_below}
use Rattle.rb_logs.specs.Dump.{bytes_line}
use Rattle.rb_logs.proofs.dump.put_bytes.Given as goal

-- the lines of the numbers so far are put
abbrev pub invariant-loop-number : goal.invariant-loop-number
invariant-loop-number l = l.text.items ≡ l.fn.text.items ++ flat_map (bytes_line l.fn.bytes) (numbers_below l.number)
