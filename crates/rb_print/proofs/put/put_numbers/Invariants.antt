use Rattle.std.proofs.Common.{◌≡◌, ◌++◌, take, map}
use Rattle.std.specs.List.{concat}
use Rattle.rb_text_defs.specs.Report.{labelled}
use Rattle.rb_print.proofs.put.put_numbers.Given as goal

abbrev pub invariant-loop-number : goal.invariant-loop-number
invariant-loop-number l = l.text.items ≡ l.fn.text.items ++ concat (map (λ number. labelled number.0.now number.1) (take l.number-index l.numbers))
