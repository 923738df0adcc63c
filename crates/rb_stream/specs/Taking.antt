-- What an event does to the open epoch.
use Rattle.std.specs.Prelude.{◌≡◌, ℕ, true, false, List, ◌∷◌, Option, Some, Result, Ok, Err, option_to_list}
use Rattle.rb_base.specs.declared.faults.Field.TheVariants.{Status}
use Rattle.rb_base.specs.declared.epoch.Epoch.{Epoch}
use Rattle.rb_base.specs.declared.schema.Mapped.{Mapped}
use Rattle.rb_read_defs.specs.Stream.{Known, open_epoch, has_statuses, step_of}
use Rattle.rb_read_defs.specs.declared.answers.Step.{Step}
use Rattle.rb_read_defs.specs.declared.answers.StatusRow.{StatusRow}
use Rattle.rb_stream.specs.declared.fault.StreamFault.{StreamFault}
use Rattle.rb_stream.specs.declared.fault.StreamFault.TheVariants as faults
use Rattle.rb_stream.specs.declared.epoch.OpenEpoch.{OpenEpoch}
use Rattle.rb_stream.specs.Epoch.{IsOpen, named_tables}

-- the result of taking the event at this position after these known events: its step, if it has
-- one, and the open epoch after it; or a fault, if the epoch's apply-status rows do not allow it,
-- or `NoMemory`; both leave the open epoch unchanged
abbrev pub Takes : (at : ℕ) → (known : List Known) → Known → Result (Option Step) StreamFault → Option OpenEpoch → Type 0
Takes at known event (Ok given) current = (has_statuses known event.server event.says ≡ true) × IsOpen current (open_epoch (event ∷ known)) × (option_to_list given ≡ step_of known event)
Takes at known event (Err (faults.BadEvent place field)) current = (has_statuses known event.server event.says ≡ false) × (place ≡ at) × (field ≡ Status) × IsOpen current (open_epoch known)
Takes at known event (Err faults.NoMemory) current = IsOpen current (open_epoch known)

-- the number and the tables of an epoch that this server ends, the number as its own apply-status
-- row gives it; or a fault, if there is no such row; or `NoMemory`
abbrev pub Closes : OpenEpoch → (at server : ℕ) → Result (Epoch × List Mapped) StreamFault → Type 0
Closes epoch at server (Ok closing) = (row : StatusRow) × (epoch.epoch_status.own ≡ Some row) × (row.server ≡ server) × (closing.0 ≡ row.epoch) × (closing.1 ≡ named_tables epoch)
Closes epoch at server (Err (faults.BadEvent place field)) = (place ≡ at) × (field ≡ Status) × ((row : StatusRow) → epoch.epoch_status.own ≡ Some row → row.server ≡ server → ⊥)
Closes epoch at server (Err faults.NoMemory) = Unit {0}
