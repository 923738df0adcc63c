-- The apply-status rows of an epoch so far.
use Rattle.std.specs.Prelude.{◌≡◌, ℕ, false, if◌then◌else◌, List, Option, Some, None, is_some, option_to_list}
use Rattle.rb_read_defs.specs.Stream.{is_own, own_rows, other_rows, is_single}
use Rattle.rb_read_defs.specs.declared.answers.StatusRow.{StatusRow}
use Rattle.rb_stream.specs.declared.epoch_status.EpochStatus.{EpochStatus}

-- the own row and the other row among these rows, each of which has the server of its event
pub record HoldsStatus (epoch_status : EpochStatus) (rows : List (ℕ × StatusRow)) : Type 0 where
  pub own : option_to_list epoch_status.own ≡ own_rows rows
  pub other : option_to_list epoch_status.other ≡ other_rows rows

-- the same, or among the rows there are two own rows or two others
abbrev pub HoldsStatusOrRepeats : Option EpochStatus → List (ℕ × StatusRow) → Type 0
HoldsStatusOrRepeats (Some epoch_status) rows = HoldsStatus epoch_status rows
HoldsStatusOrRepeats None rows = is_single rows ≡ false

-- these rows and one more, unless a row of its kind is already there
abbrev pub status_with : EpochStatus → ℕ × StatusRow → Option EpochStatus
status_with epoch_status pair =
    if is_own pair then (if is_some epoch_status.own then None else Some (record { own = Some pair.1; other = epoch_status.other }))
    else (if is_some epoch_status.other then None else Some (record { own = epoch_status.own; other = Some pair.1 }))
