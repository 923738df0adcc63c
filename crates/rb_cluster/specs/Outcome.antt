-- The outcome of a refused transaction.
use Rattle.rb_base.specs.declared.outcome.Outcome.{Outcome}
use Rattle.rb_base.specs.declared.outcome.Outcome.TheVariants as outcomes
use Rattle.rb_commit.specs.declared.fault.TxFault.{TxFault}
use Rattle.rb_commit.specs.declared.fault.TxFault.TheVariants as faults

-- the outcome for each fault; `NoMemory` has no outcome of its own and gives `Nothing`
abbrev pub outcome_of_fault : TxFault → Outcome
outcome_of_fault (faults.RowTwice number) = outcomes.RowTwice number
outcome_of_fault (faults.KeyThere number) = outcomes.KeyThere number
outcome_of_fault (faults.NoKey number) = outcomes.NoKey number
outcome_of_fault faults.NoMemory = outcomes.Nothing
