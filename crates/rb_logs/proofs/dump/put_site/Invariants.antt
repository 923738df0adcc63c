use Rattle.std.proofs.Common.{◌≡◌, ◌++◌}
use Rattle.std.specs.List.{flat_map}
use Rattle.rb_disk.specs.Memory.{file_of}
use Rattle.rb_journal_defs.specs.Body.{numbers_below}
use Rattle.rb_logs.specs.Dump.{file_text}
use Rattle.rb_logs.proofs.dump.put_site.Given as goal

-- the files of the numbers so far are put
abbrev pub invariant-loop-number : goal.invariant-loop-number
invariant-loop-number l = l.text.items ≡ l.fn.text.items ++ flat_map (λ number. file_text l.fn.site number (file_of l.fn.disk number)) (numbers_below l.number)
