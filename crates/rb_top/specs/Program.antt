-- What the program's call promises at each status.
use Rattle.std.specs.Prelude.{◌≡◌, ℕ, ◌⊎◌, Bool, false, List, [], ◌∷◌, Option, Ok, IfSome, codes}
use Rattle.std.specs.Str.{bytes_eq}
use Rattle.std.specs.Io.KnownBytes.{Appends, Keeps, IsAtEnd}
use Rattle.rb_io.specs.Prefix.{GrowsByPrefix}
use Rattle.rb_text_defs.specs.declared.script.Script.{Script}
use Rattle.rb_text_defs.specs.Script.{script_of}
use Rattle.rb_base.specs.declared.site.SiteId.TheVariants.{A}
use Rattle.rb_play_defs.specs.Play.{log_of, report_of, HoldsLogOf}
use Rattle.rb_play_defs.specs.UnfinishedLog.{HoldsUnfinishedLog}
use Rattle.rb_top.specs.declared.status.Status.{Status}
use Rattle.rb_top.specs.declared.status.Status.TheVariants as statuses

-- the words are the one word `run`
abbrev pub are_run : List (List ℕ) → Bool
are_run (word ∷ []) = bytes_eq word (codes "run")
are_run words = false

-- the words are the one word `read`
abbrev pub are_read : List (List ℕ) → Bool
are_read (word ∷ []) = bytes_eq word (codes "read")
are_read words = false

-- a device failed
abbrev pub IsDiskFault : Status → Type 0
IsDiskFault (statuses.DiskFault site) = Unit {0}
IsDiskFault status = ⊥

-- a device was not empty
abbrev pub IsNotEmpty : Status → Type 0
IsNotEmpty (statuses.NotEmpty site file size) = Unit {0}
IsNotEmpty status = ⊥

-- the run did not begin
abbrev pub IsBeforeRun : Status → Type 0
IsBeforeRun statuses.Usage = Unit {0}
IsBeforeRun (statuses.NotEmpty site file size) = Unit {0}
IsBeforeRun (statuses.BadScript line kind) = Unit {0}
IsBeforeRun statuses.ReadFault = Unit {0}
IsBeforeRun status = ⊥

-- a fault ended the run
abbrev pub IsRunFault : Status → Type 0
IsRunFault (statuses.DiskFault site) = Unit {0}
IsRunFault statuses.WriteFault = Unit {0}
IsRunFault status = ⊥

-- the log has a bad event
abbrev pub IsBadLog : Status → Type 0
IsBadLog (statuses.BadLog position field) = Unit {0}
IsBadLog status = ⊥

-- the statuses with which the reading of a log ends
abbrev pub IsReadingEnd : Status → Type 0
IsReadingEnd statuses.Done = Unit {0}
IsReadingEnd (statuses.BadLog position field) = Unit {0}
IsReadingEnd statuses.ReadFault = Unit {0}
IsReadingEnd statuses.WriteFault = Unit {0}
IsReadingEnd statuses.NoMemory = Unit {0}
IsReadingEnd status = ⊥

-- the reading of a log stopped early
abbrev pub IsReadingFault : Status → Type 0
IsReadingFault statuses.ReadFault = Unit {0}
IsReadingFault statuses.WriteFault = Unit {0}
IsReadingFault statuses.NoMemory = Unit {0}
IsReadingFault status = ⊥

-- these bytes are the text of this script, if the source names its bytes
abbrev pub IsReadFrom : Option (List ℕ) → Script → Type 0
IsReadFrom left script = IfSome left (λ bytes. script_of bytes ≡ Ok script)

-- the whole script was read and run: the sink grew by the report, and the device holds the whole
-- log
pub record HasRun (left_old left_new held_old held_new : Option (List ℕ)) (seen : ℕ → List ℕ) : Type 0 where
  pub script : Script
  pub read : IsReadFrom left_old script
  pub end : IsAtEnd left_new
  pub report : Appends held_old held_new (report_of script)
  pub log : HoldsLogOf script seen

-- the run of a script began and stopped with this status. The script was read to its end. The sink
-- grew by a prefix of the report, and the device can be recovered with the log of the script's
-- first epochs. Nothing is printed at a fault of the device, nor before the log is whole; at a
-- fault of the sink the log is whole.
pub record HasStopped (left_old left_new held_old held_new : Option (List ℕ)) (seen : ℕ → List ℕ) (status : Status) : Type 0 where
  pub script : Script
  pub read : IsReadFrom left_old script
  pub end : IsAtEnd left_new
  pub report : GrowsByPrefix held_old held_new (report_of script)
  pub log : HoldsUnfinishedLog A script.setup.a.limit 0 (log_of script) seen
  pub silent : IsDiskFault status → Keeps held_old held_new
  pub printed : Keeps held_old held_new ⊎ HoldsLogOf script seen
  pub whole : status ≡ statuses.WriteFault → HoldsLogOf script seen

-- the sink and the files of site A's device are unchanged; the source may have been read
pub record IsUntouched (held_old held_new : Option (List ℕ)) (files_old files_new : ℕ → List ℕ) : Type 0 where
  pub report : Keeps held_old held_new
  pub files : (file : ℕ) → files_new file ≡ files_old file
