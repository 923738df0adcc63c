-- What the word `read` prints of a log, and what a reading leaves.
use Rattle.std.specs.Prelude.{◌≡◌, ◌⊎◌, ℕ, List, [], ◌∷◌, ◌++◌, length, take, codes, nat_lt, if◌then◌else◌, Option, Some, None}
use Rattle.std.specs.List.{flat_map}
use Rattle.std.specs.Option.{option_or}
use Rattle.std.specs.Io.KnownBytes.{Appends, Consumes, IsAtEnd}
use Rattle.rb_base.specs.declared.faults.Field.{Field}
use Rattle.rb_base.specs.declared.faults.Field.TheVariants as fields
use Rattle.rb_io.specs.Prefix.{GrowsByPrefix}
use Rattle.rb_read_defs.specs.Stream.{seen_of, steps_of, rest_of}
use Rattle.rb_read_defs.specs.declared.answers.Step.{Step}
use Rattle.rb_read_defs.specs.declared.answers.Step.TheVariants as steps
use Rattle.rb_text_defs.specs.LogText.{body_text, rotate_line, rest_line}

-- the most bytes of a log that are read
abbrev pub most_log_bytes : ℕ
most_log_bytes = 1073741824

-- the title
abbrev pub title_line : List ℕ
title_line = codes "ndb binlog read" ++ 10 ∷ []

-- what a step prints: an epoch its lines, a rotation its line, any other step nothing
unfoldable pub step_text : Step → List ℕ
step_text (steps.Epoch body end) = body_text body end
step_text (steps.Rotate position name) = rotate_line position name ++ 10 ∷ []
step_text steps.Format = []
step_text steps.NeedMore = []

-- the text up to the end of these steps: the title, then what each step prints
unfoldable pub printed_steps : List Step → List ℕ
printed_steps steps = title_line ++ flat_map step_text steps

-- the title, and what the steps of these bytes of a log print
abbrev pub printed_text_of : List ℕ → List ℕ
printed_text_of bytes = printed_steps (steps_of (seen_of 0 bytes).known)

-- the text of a log that is read to its end: what its steps print, and the number of bytes after
-- the last event outside an epoch or at an epoch's end
unfoldable pub read_text_of : List ℕ → List ℕ
read_text_of bytes = printed_text_of bytes ++ (rest_line (rest_of 0 bytes) ++ 10 ∷ [])

-- the first bad event within the first `most` bytes of a log, by its position and field; if these
-- have none and the log is longer, the field `Limit` at their end
unfoldable pub bad_within : (most : ℕ) → List ℕ → Option (ℕ × Field)
bad_within most bytes = option_or (seen_of 0 (take most bytes)).fault (if nat_lt most (length bytes) then Some (most, fields.Limit) else None)

-- the first bad event of a log, or the limit if it has more bytes than are read
abbrev pub bad_event_of : List ℕ → Option (ℕ × Field)
bad_event_of bytes = bad_within most_log_bytes bytes

-- a log was read to its end: it has no bad event, and the sink grew by its text
pub record HasReadLog (most : ℕ) (left_old left_new held_old held_new : Option (List ℕ)) : Type 0 where
  pub bytes : List ℕ
  pub read : Consumes left_old left_new bytes
  pub end : IsAtEnd left_new
  pub sound : bad_within most bytes ≡ None
  pub text : Appends held_old held_new (read_text_of bytes)

-- the reading of a log ended at its first bad event: the sink grew by the text of everything before
-- it
pub record HasMetBadEvent (most : ℕ) (position : ℕ) (field : Field) (left_old left_new held_old held_new : Option (List ℕ)) : Type 0 where
  pub bytes : List ℕ
  pub read : Consumes left_old left_new bytes
  pub bad : bad_within most bytes ≡ Some (position, field)
  pub text : Appends held_old held_new (printed_text_of (take most bytes))

-- the reading of a log stopped early: the sink grew by a prefix of the text of what was read, up to
-- the limit. The last line was begun only if the log was read to its end and has no bad event.
pub record HasReadPrefix (most : ℕ) (left_old left_new held_old held_new : Option (List ℕ)) : Type 0 where
  pub bytes : List ℕ
  pub read : Consumes left_old left_new bytes
  pub text : GrowsByPrefix held_old held_new (read_text_of (take most bytes))
  pub last : (IsAtEnd left_new × (bad_within most bytes ≡ None)) ⊎ GrowsByPrefix held_old held_new (printed_text_of (take most bytes))
