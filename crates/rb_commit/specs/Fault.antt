-- The faults of a client's transaction.
use Rattle.rb_journal_defs.specs.Transaction.{Refusal, RowTwice, KeyThere, NoKey}
use Rattle.rb_commit.specs.declared.fault.TxFault.{TxFault}
use Rattle.rb_commit.specs.declared.fault.TxFault.TheVariants as faults

-- the fault for a refusal
abbrev pub fault_of : Refusal → TxFault
fault_of (RowTwice number) = faults.RowTwice number
fault_of (KeyThere number) = faults.KeyThere number
fault_of (NoKey number) = faults.NoKey number
