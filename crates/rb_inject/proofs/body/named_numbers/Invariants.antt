use Rattle.std.proofs.Common.{◌≡◌, ℕ}
use Rattle.std.specs.Prelude.{◌==◌, take}
use Rattle.std.specs.List.{list_any}
use Rattle.std.specs.Ordering.{nat_cmp}
use Rattle.std.specs.BTreeSet.{contains}
use Rattle.rb_inject.proofs.body.named_numbers.Given as goal

-- the numbers of the changes so far, each once
abbrev pub invariant-loop-change : goal.invariant-loop-change
invariant-loop-change l = record {
  numbers : (number : ℕ) → contains nat_cmp l.numbers number ≡ list_any (λ change. change.table == number) (take l.change-index l.changes);
}
