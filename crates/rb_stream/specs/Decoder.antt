-- What a decoder represents, and what its next step is.
use Rattle.std.specs.Prelude.{◌≡◌, ◌+◌, ◌++◌, ℕ, List, [], ◌∷◌, length, Option, Some, None, Result, Ok, Err}
use Rattle.rb_base.specs.declared.faults.Field.{Field}
use Rattle.rb_read_defs.specs.Stream.{Known, seen_of, steps_of, step_of, settled_at}
use Rattle.rb_read_defs.specs.declared.answers.Step.{Step}
use Rattle.rb_read_defs.specs.declared.answers.Step.TheVariants as steps
use Rattle.rb_stream.specs.Ready.{IsReady}
use Rattle.rb_stream.specs.declared.fault.StreamFault.{StreamFault}
use Rattle.rb_stream.specs.declared.fault.StreamFault.TheVariants as faults
use Rattle.rb_stream.specs.declared.decoder.Decoder.{Decoder}

-- the position after all bytes that a decoder was fed
abbrev pub fed_to : Decoder → ℕ
fed_to decoder = decoder.at + length decoder.unread

-- the end of the last event that a decoder counts as outside an open epoch
abbrev pub settled_to : Decoder → ℕ
settled_to decoder = decoder.settled

-- these events, the newest first, are the first of these
abbrev pub AreFirstOf : (passed all : List Known) → Type 0
AreFirstOf passed all = (later : List Known) × (all ≡ later ++ passed)

-- a decoder began at this position, was fed these bytes, and has returned the steps of these
-- events, the newest first: the bytes fed so far are these; the events passed so far are the first
-- of the log fed so far; the end that counts is that of the last event outside an open epoch; and
-- the decoder is ready to go on
pub record StandsFor (decoder : Decoder) (position : ℕ) (bytes : List ℕ) (passed : List Known) : Type 0 where
  pub fed : fed_to decoder ≡ position + length bytes
  pub seen : AreFirstOf passed (seen_of position bytes).known
  pub settled : settled_to decoder ≡ settled_at position passed
  pub ready : IsReady decoder position bytes passed

-- a step that follows these events: some events give no step, and then an event gives this one
pub record GivesStep (passed : List Known) (step : Step) (now : List Known) : Type 0 where
  pub quiet : List Known
  pub silent : steps_of (quiet ++ passed) ≡ steps_of passed
  pub event : Known
  pub events : now ≡ event ∷ (quiet ++ passed)
  pub given : step_of (quiet ++ passed) event ≡ step ∷ []

-- after these events no further event of the bytes gives a step, and the reading of the bytes ends
-- with this fault, or with none
pub record GivesNoStep (position : ℕ) (bytes : List ℕ) (passed : List Known) (bad : Option (ℕ × Field)) : Type 0 where
  pub silent : steps_of (seen_of position bytes).known ≡ steps_of passed
  pub fault : (seen_of position bytes).fault ≡ bad

-- the result of a decoder that was fed these bytes and has returned the steps of these events, and
-- what the decoder represents afterwards
abbrev pub Answers : (position : ℕ) → (bytes : List ℕ) → (passed : List Known) → Result Step StreamFault → (decoder : Decoder) → Type 0
Answers position bytes passed (Ok steps.NeedMore) decoder = GivesNoStep position bytes passed None × StandsFor decoder position bytes (seen_of position bytes).known
Answers position bytes passed (Ok step) decoder = (now : List Known) × GivesStep passed step now × StandsFor decoder position bytes now
Answers position bytes passed (Err (faults.BadEvent at field)) decoder = GivesNoStep position bytes passed (Some (at, field)) × StandsFor decoder position bytes (seen_of position bytes).known
Answers position bytes passed (Err faults.NoMemory) decoder = StandsFor decoder position bytes passed
