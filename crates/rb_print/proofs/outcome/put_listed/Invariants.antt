use Rattle.std.proofs.Common.{◌≡◌, ◌++◌, take}
use Rattle.std.specs.List.{flat_map}
use Rattle.rb_text_defs.specs.Report.{listed_text}
use Rattle.rb_print.proofs.outcome.put_listed.Given as goal

abbrev pub invariant-loop-event : goal.invariant-loop-event
invariant-loop-event l = l.text.items ≡ l.fn.text.items ++ flat_map listed_text (take l.event-index l.events)
