-- The invariants of the loop that reads a log, and its result.
use Rattle.std.specs.Prelude.{◌≡◌, ◌≤◌, ℕ, ⊤, Bool, true, false, List, ◌++◌, length, Option, None}
use Rattle.std.specs.List.{flat_map}
use Rattle.std.specs.Io.KnownBytes.{Appends, Consumes}
use Rattle.rb_base.specs.declared.faults.Field.{Field}
use Rattle.rb_base.specs.declared.faults.OutFault.{OutFault}
use Rattle.rb_base.specs.declared.faults.OutFault.TheVariants as outs
use Rattle.rb_read_defs.specs.Stream.{Known, seen_of, steps_of}
use Rattle.rb_read_defs.specs.declared.answers.Step.{Step}
use Rattle.rb_read_defs.specs.declared.answers.Step.TheVariants as steps
use Rattle.rb_stream.specs.Decoder.{StandsFor}
use Rattle.rb_stream.specs.declared.decoder.Decoder.{Decoder}
use Rattle.rb_text_defs.specs.LogText.{Ascend}
use Rattle.rb_top.specs.ReadLog.{step_text, printed_text_of, HasMetBadEvent, HasReadPrefix}
use Rattle.rb_top.specs.declared.fault.ReadLogFault.{ReadLogFault}
use Rattle.rb_top.specs.declared.fault.ReadLogFault.TheVariants as faults

-- the fault of a reading for each fault of the sink
abbrev pub read_fault_of : OutFault → ReadLogFault
read_fault_of outs.Failed = faults.WriteFault
read_fault_of outs.NoMemory = faults.NoMemory

-- what a reading that ended with a fault leaves
abbrev pub LeavesReadingFault : (most : ℕ) → (left_old left_new held_old held_new : Option (List ℕ)) → ReadLogFault → Type 0
LeavesReadingFault most left_old left_new held_old held_new (faults.BadLog position field) = HasMetBadEvent most position field left_old left_new held_old held_new
LeavesReadingFault most left_old left_new held_old held_new fault = HasReadPrefix most left_old left_new held_old held_new

-- a step other than `NeedMore`
abbrev pub is_taken : Step → Bool
is_taken steps.NeedMore = false
is_taken step = true

-- the tables of an epoch ascend by id, so they can be searched
abbrev pub IsPrintable : Step → Type 0
IsPrintable (steps.Epoch body end) = Ascend body.tables
IsPrintable step = ⊤

-- a decoder that was fed the first `fed` bytes of a log
abbrev pub IsFed : Decoder → (fed : ℕ) → Type 0
IsFed decoder fed = (bytes : List ℕ) × (passed : List Known) × StandsFor decoder 0 bytes passed × (length bytes ≡ fed)

-- after the events `passed` a decoder of these bytes returned the steps `taken`, and the text grew
-- by what they print; the decoder has now decoded at least `turns` events
pub record HasTaken (decoder : Decoder) (bytes : List ℕ) (passed : List Known) (text_old text_new : List ℕ) (turns : ℕ) : Type 0 where
  pub now : List Known
  pub stands : StandsFor decoder 0 bytes now
  pub taken : List Step
  pub steps : steps_of now ≡ steps_of passed ++ taken
  pub text : text_new ≡ text_old ++ flat_map step_text taken
  pub counted : turns ≤ length now

-- after the events `passed` a decoder returned all remaining steps of these bytes and met this bad
-- event, or none
pub record HasTakenAll (decoder : Decoder) (bytes : List ℕ) (passed : List Known) (text_old text_new : List ℕ) (bad : Option (ℕ × Field)) : Type 0 where
  pub stands : StandsFor decoder 0 bytes (seen_of 0 bytes).known
  pub taken : List Step
  pub steps : steps_of (seen_of 0 bytes).known ≡ steps_of passed ++ taken
  pub text : text_new ≡ text_old ++ flat_map step_text taken
  pub fault : (seen_of 0 bytes).fault ≡ bad

-- `count` bytes of a log were read, at most `most`; none of their events is bad, and the sink grew
-- by what their steps print
pub record HasPrintedSoFar (most count : ℕ) (decoder : Decoder) (left_old left_new held_old held_new : Option (List ℕ)) : Type 0 where
  pub bytes : List ℕ
  pub read : Consumes left_old left_new bytes
  pub count_is : length bytes ≡ count
  pub within : count ≤ most
  pub stands : StandsFor decoder 0 bytes (seen_of 0 bytes).known
  pub sound : (seen_of 0 bytes).fault ≡ None
  pub text : Appends held_old held_new (printed_text_of bytes)
