-- How a decoder gets from event to event.
use Rattle.std.specs.Prelude.{◌≡◌, ℕ, ◌+◌, ◌≤◌, Bool, true, false, if◌then◌else◌, List, [], ◌∷◌, ◌++◌, length, take, drop, Option, Some, None, Result, Ok, Err, option_to_list}
use Rattle.rb_read_defs.specs.Reading.{Read}
use Rattle.rb_read_defs.specs.Events.{header}
use Rattle.rb_read_defs.specs.Stream.{Known, cuts, open_epoch, is_rotated, is_outside, has_statuses, header_fault, content_in, seen_from, seen_of, step_of, steps_of, settled_at}
use Rattle.rb_read_defs.specs.declared.answers.Content.{Content}
use Rattle.rb_read_defs.specs.declared.answers.Header.{Header}
use Rattle.rb_read_defs.specs.declared.answers.Step.{Step}
use Rattle.rb_read_defs.specs.declared.answers.Step.TheVariants as steps
use Rattle.rb_base.specs.declared.faults.Field.{Field}
use Rattle.rb_base.specs.declared.faults.Field.TheVariants.{Status}
use Rattle.rb_stream.specs.Epoch.{IsOpen}
use Rattle.rb_stream.specs.declared.fault.StreamFault.{StreamFault}
use Rattle.rb_stream.specs.declared.fault.StreamFault.TheVariants as faults
use Rattle.rb_stream.specs.declared.decoder.Decoder.{Decoder}

-- a decoder knows of these events what it needs to judge the next one
pub record Knows (decoder : Decoder) (known : List Known) : Type 0 where
  pub rotated : decoder.rotated ≡ is_rotated known
  pub current : IsOpen decoder.current (open_epoch known)

-- a decoder is unchanged and still follows these events
pub record Stays (known : List Known) (before after : Decoder) : Type 0 where
  pub knows : Knows after known
  pub at : after.at ≡ before.at
  pub unread : after.unread ≡ before.unread
  pub magic_due : after.magic_due ≡ before.magic_due
  pub counted : after.counted ≡ before.counted

-- after these events a log continues with the bytes `unread` at position `at`: whatever bytes
-- follow, the reading of the whole is the reading from there; if the magic number comes next, no
-- byte of the log is decoded yet
abbrev pub GoesOn : (magic_due : Bool) → (position : ℕ) → (bytes : List ℕ) → (known : List Known) → (at : ℕ) → (unread : List ℕ) → Type 0
GoesOn true position bytes known at unread = (position ≡ 0) × (at ≡ 0) × (bytes ≡ unread) × (known ≡ [])
GoesOn false position bytes known at unread = (more : List ℕ) → seen_of position (bytes ++ more) ≡ seen_from known (cuts at (unread ++ more))

-- a decoder that began at this position and was fed these bytes has decoded these events
pub record StandsAt (decoder : Decoder) (position : ℕ) (bytes : List ℕ) (known : List Known) : Type 0 where
  pub fed : decoder.at + length decoder.unread ≡ position + length bytes
  pub on : GoesOn decoder.magic_due position bytes known decoder.at decoder.unread
  pub counted : decoder.counted ≡ settled_at position known
  pub knows : Knows decoder known

-- a decoder has returned the steps of these events, and may have decoded further events that give
-- no step
pub record IsAheadOf (decoder : Decoder) (position : ℕ) (bytes : List ℕ) (passed : List Known) : Type 0 where
  pub quiet : List Known
  pub silent : steps_of (quiet ++ passed) ≡ steps_of passed
  pub stands : StandsAt decoder position bytes (quiet ++ passed)

-- the first event of these bytes, which start at this position after these known events, is
-- complete, is good, and has this header and content
pub record Reads (at : ℕ) (unread : List ℕ) (known : List Known) (head : Header) (says : Content) : Type 0 where
  pub long : 19 ≤ length unread
  pub whole : head.size ≤ length unread
  pub after : ℕ
  pub head_read : header at unread 0 ≡ Read head after
  pub good : header_fault at known head ≡ None
  pub place : ℕ
  pub content_read : content_in at known head (drop 19 (take head.size unread)) 0 ≡ Read says place

-- what the bytes begin with: a good event, no complete event, or a bad event
abbrev pub Meets : (at : ℕ) → (unread : List ℕ) → (known : List Known) → Result (Option (Header × Content)) StreamFault → Type 0
Meets at unread known (Ok (Some event)) = Reads at unread known event.0 event.1
Meets at unread known (Ok None) = seen_from known (cuts at unread) ≡ record { known = known; fault = None }
Meets at unread known (Err (faults.BadEvent place field)) = seen_from known (cuts at unread) ≡ record { known = known; fault = Some (place, field) }
Meets at unread known (Err faults.NoMemory) = Unit {0}

-- what the bytes begin with: the header of a good event, no complete event, or a bad header
abbrev pub MeetsHeader : (at : ℕ) → (unread : List ℕ) → (known : List Known) → Result (Option Header) StreamFault → Type 0
MeetsHeader at unread known (Ok (Some head)) = (19 ≤ length unread) × (header_fault at known head ≡ None) × ((after : ℕ) × (header at unread 0 ≡ Read head after))
MeetsHeader at unread known (Ok None) = seen_from known (cuts at unread) ≡ record { known = known; fault = None }
MeetsHeader at unread known (Err (faults.BadEvent place field)) = seen_from known (cuts at unread) ≡ record { known = known; fault = Some (place, field) }
MeetsHeader at unread known (Err faults.NoMemory) = Unit {0}

-- what a decoder does with the magic number: it skips it, it waits for more bytes, or it finds
-- other bytes
abbrev pub PassesMagic : (position : ℕ) → (bytes : List ℕ) → Result Bool StreamFault → Decoder → Type 0
PassesMagic position bytes (Ok true) decoder = (decoder.magic_due ≡ false) × StandsAt decoder position bytes []
PassesMagic position bytes (Ok false) decoder = (seen_of position bytes ≡ record { known = []; fault = None }) × StandsAt decoder position bytes []
PassesMagic position bytes (Err (faults.BadEvent at field)) decoder = (seen_of position bytes ≡ record { known = []; fault = Some (at, field) }) × StandsAt decoder position bytes []
PassesMagic position bytes (Err faults.NoMemory) decoder = ⊥

-- what a decoder does with a complete event of this header and content: it takes the event and
-- returns its step; or it stays, since the event's apply-status rows make it bad or memory
-- allocation failed
abbrev pub GoesPast : (known : List Known) → Header → Content → Result (Option Step) StreamFault → (before after : Decoder) → Type 0
GoesPast known head says (Ok given) before after =
    let event : Known = record { end = before.at + head.size; server = head.server; says = says } in
    (has_statuses known head.server says ≡ true) × (option_to_list given ≡ step_of known event) × Knows after (event ∷ known)
    × (after.at ≡ before.at + head.size) × (after.unread ≡ drop head.size before.unread) × (after.magic_due ≡ before.magic_due)
    × (after.counted ≡ (if is_outside known event then before.at + head.size else before.counted))
GoesPast known head says (Err (faults.BadEvent place field)) before after =
    (has_statuses known head.server says ≡ false) × (place ≡ before.at) × (field ≡ Status) × Stays known before after
GoesPast known head says (Err faults.NoMemory) before after = Stays known before after

-- a decoder has decoded all events that can be read of the bytes, none of them after `passed` gives
-- a step, and the reading ends with this fault, or with none
pub record EndsQuiet (position : ℕ) (bytes : List ℕ) (passed : List Known) (bad : Option (ℕ × Field)) (decoder : Decoder) : Type 0 where
  pub silent : steps_of (seen_of position bytes).known ≡ steps_of passed
  pub fault : (seen_of position bytes).fault ≡ bad
  pub stands : StandsAt decoder position bytes (seen_of position bytes).known

-- the result of a decoder and the events that it has decoded, before it counts the step as returned
abbrev pub AnswersAhead : (position : ℕ) → (bytes : List ℕ) → (passed : List Known) → Result Step StreamFault → Decoder → Type 0
AnswersAhead position bytes passed (Ok steps.NeedMore) decoder = EndsQuiet position bytes passed None decoder
AnswersAhead position bytes passed (Ok step) decoder =
    (quiet : List Known) × (event : Known) × (steps_of (quiet ++ passed) ≡ steps_of passed) × (step_of (quiet ++ passed) event ≡ step ∷ []) × StandsAt decoder position bytes (event ∷ (quiet ++ passed))
AnswersAhead position bytes passed (Err (faults.BadEvent at field)) decoder = EndsQuiet position bytes passed (Some (at, field)) decoder
AnswersAhead position bytes passed (Err faults.NoMemory) decoder = IsAheadOf decoder position bytes passed
