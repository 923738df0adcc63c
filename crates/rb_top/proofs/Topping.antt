-- What the program's call says, from what its parts say.
use Rattle.std.proofs.Common.{◌≡◌, ◌<◌, ℕ, List, [], length, ◌++◌, ◌≤◌, refl, sym, ap, ap₂, subst, ◌∙◌, ◌⊎◌, arith, inl, inr}
use Rattle.std.specs.Prelude.{Option, Some, None, IfSome, Result, Ok, Err}
use Rattle.std.specs.Io.KnownBytes.{Consumes, Appends, Keeps, IsAtEnd}
use Rattle.std.proofs.lemmas.Bool.{lt-ltb, cases_lt}
use Rattle.std.proofs.lemmas.List.{append-nil}
use Rattle.rb_io.specs.Prefix.{GrowsByPrefix}
use Rattle.rb_text_defs.specs.declared.script.Script.{Script}
use Rattle.rb_text_defs.specs.declared.script.BadLine.{BadLine}
use Rattle.rb_text_defs.specs.declared.script.ScriptKind.{ScriptKind}
use Rattle.rb_text_defs.specs.declared.script.ScriptKind.TheVariants as kinds
use Rattle.rb_text_defs.specs.declared.script.Limit.TheVariants as limits
use Rattle.rb_text_defs.specs.Script.{most_bytes, bad_line, script_of}
use Rattle.rb_play_defs.specs.Play.{log_of, report_of, HoldsLogOf}
use Rattle.rb_script.specs.Refused.{IfBad}
use Rattle.rb_script.specs.declared.fault.ParseFault.{ParseFault}
use Rattle.rb_script.specs.declared.fault.ParseFault.TheVariants as parsing
use Rattle.rb_base.specs.declared.site.SiteId.{SiteId}
use Rattle.rb_base.specs.declared.site.SiteId.TheVariants.{A, B}
use Rattle.rb_disk.specs.Disk.{IsLowestFile}
use Rattle.rb_play_defs.specs.UnfinishedLog.{HoldsUnfinishedLog}
use Rattle.rb_top.proofs.Running.{whole_log}
use Rattle.rb_top.specs.declared.status.Status.{Status}
use Rattle.rb_pair.specs.Held.{AreEmpty, IsFirstHeld}
use Rattle.rb_top.specs.Program.{IsReadFrom, IsDiskFault, HasStopped}
use Rattle.rb_top.specs.declared.status.Status.TheVariants as statuses

-- a text of too many bytes is refused as a whole
pub too_long : (bytes : List ℕ) → most_bytes < length bytes → script_of bytes ≡ Err (bad_line 0 (kinds.Limit limits.Bytes))
unfolding script_of
too_long bytes long = rw (lt-ltb most_bytes (length bytes) long) refl

pub too_long_if : (left : Option (List ℕ)) → IfSome left (λ bytes. most_bytes < length bytes) → IfSome left (λ bytes. script_of bytes ≡ Err (bad_line 0 (kinds.Limit limits.Bytes)))
too_long_if None long = tt
too_long_if (Some bytes) long = too_long bytes long

pub long_is_bad : (left : Option (List ℕ)) (bytes : List ℕ) → IfSome left (λ bytes. most_bytes < length bytes) → left ≡ Some bytes → script_of bytes ≡ Err (bad_line 0 (kinds.Limit limits.Bytes))
long_is_bad left bytes long is = too_long bytes (subst (λ (o : Option (List ℕ)). IfSome o (λ bytes. most_bytes < length bytes)) is long)

-- a script is legal, or refused for one line
pub not_both : (result : Result Script BadLine) (script : Script) (bad : BadLine) → result ≡ Ok script → result ≡ Err bad → ⊥
not_both result script bad ok err = let both : Ok script ≡ Err bad = sym ok ∙ err in absurd cc

-- the bytes that were consumed up to the end are those that were left
pub read_whole : (old new : Option (List ℕ)) (bytes : List ℕ) (script : Script) → Consumes old new bytes → IsAtEnd new → script_of bytes ≡ Ok script → IsReadFrom old script
read_whole None new bytes script consumed end is = tt
read_whole (Some xs) None bytes script consumed end is = absurd consumed
read_whole (Some xs) (Some ys) bytes script consumed end is = ap script_of (consumed ∙ ap (λ (rest : List ℕ). bytes ++ rest) end ∙ append-nil bytes) ∙ is

-- the same of a script that is refused
pub bad_whole : (old new : Option (List ℕ)) (bytes : List ℕ) (bad : BadLine) → Consumes old new bytes → IsAtEnd new → script_of bytes ≡ Err bad → IfSome old (λ bytes. script_of bytes ≡ Err bad)
bad_whole None new bytes bad consumed end is = tt
bad_whole (Some xs) None bytes bad consumed end is = absurd consumed
bad_whole (Some xs) (Some ys) bytes bad consumed end is = ap script_of (consumed ∙ ap (λ (rest : List ℕ). bytes ++ rest) end ∙ append-nil bytes) ∙ is

-- what is said of a source's bytes holds of these
pub of_bytes : (P : List ℕ → Type 0) (left : Option (List ℕ)) (bytes : List ℕ) → IfSome left P → left ≡ Some bytes → P bytes
of_bytes P left bytes reported is = subst (λ (o : Option (List ℕ)). IfSome o P) is reported

-- the causes of a parser's faults
pub bad_is : (bytes : List ℕ) (fault : ParseFault) (line : ℕ) (kind : ScriptKind) → fault ≡ parsing.Bad line kind → IfBad {T = Script} (Err fault) (λ line kind. script_of bytes ≡ Err (record { line = line; kind = kind })) → script_of bytes ≡ Err (bad_line line kind)
bad_is bytes fault line kind is reported = subst (λ (f : ParseFault). IfBad {T = Script} (Err f) (λ line kind. script_of bytes ≡ Err (record { line = line; kind = kind }))) is reported

-- the bad line that a status names
bad_in : Status → BadLine
bad_in (statuses.BadScript line kind) = bad_line line kind
bad_in status = bad_line 0 kinds.Syntax

-- a status that names a line names the first bad one
pub named_bad : (left : Option (List ℕ)) (bad : BadLine) (line : ℕ) (kind : ScriptKind) → statuses.BadScript bad.line bad.kind ≡ statuses.BadScript line kind → IfSome left (λ bytes. script_of bytes ≡ Err bad) → IfSome left (λ bytes. script_of bytes ≡ Err (record { line = line; kind = kind }))
unfolding bad_in
named_bad left bad line kind is reported = subst (λ (b : BadLine). IfSome left (λ bytes. script_of bytes ≡ Err b)) (ap bad_in is) reported

bad_or : BadLine → Result Script BadLine → BadLine
bad_or default (Ok script) = default
bad_or default (Err bad) = bad

-- a script has one first bad line, and its status names it
pub is_named : (result : Result Script BadLine) (bad other : BadLine) → result ≡ Err bad → result ≡ Err other → statuses.BadScript bad.line bad.kind ≡ statuses.BadScript other.line other.kind
unfolding bad_or
is_named result bad other first second = ap (λ (b : BadLine). statuses.BadScript b.line b.kind) (ap (bad_or bad) (sym first ∙ second))

-- a sink that nothing was written to
keeps_self : (held : Option (List ℕ)) → Keeps held held
keeps_self None = tt
keeps_self (Some held) = refl

appends_nothing : (held : Option (List ℕ)) → Appends held held []
appends_nothing None = tt
appends_nothing (Some held) = sym (append-nil held)

nothing_printed : (held : Option (List ℕ)) (report : List ℕ) → GrowsByPrefix held held report
nothing_printed held report = (0, omega arith, appends_nothing held)

-- a run that stopped, by what it left of the log
pub stopped : (left_old left_new held_old held_new : Option (List ℕ)) (seen : ℕ → List ℕ) (script : Script) (status : Status) → IsReadFrom left_old script → IsAtEnd left_new → GrowsByPrefix held_old held_new (report_of script) → (IsDiskFault status → Keeps held_old held_new) → (status ≡ statuses.WriteFault → HoldsLogOf script seen) → (Keeps held_old held_new ⊎ HoldsLogOf script seen) → HoldsUnfinishedLog A script.setup.a.limit 0 (log_of script) seen → HasStopped left_old left_new held_old held_new seen status
stopped left_old left_new held_old held_new seen script status read end report silent whole printed part =
    record { script = script; read = read; end = end; report = report; log = part; silent = silent; printed = printed; whole = whole }

-- by a fault of the device, or `NoMemory` within the run: nothing was printed
pub stopped_running : (left_old left_new held : Option (List ℕ)) (seen : ℕ → List ℕ) (script : Script) (status : Status) → (status ≡ statuses.WriteFault → ⊥) → IsReadFrom left_old script → IsAtEnd left_new → HoldsUnfinishedLog A script.setup.a.limit 0 (log_of script) seen → HasStopped left_old left_new held held seen status
stopped_running left_old left_new held seen script status not_printing read end left =
    stopped left_old left_new held held seen script status read end (nothing_printed held (report_of script)) (λ _. keeps_self held) (λ same. absurd (not_printing same)) (inl (keeps_self held)) left

-- within the printing: the log is whole
pub stopped_printing : (left_old left_new held_old held_new : Option (List ℕ)) (seen : ℕ → List ℕ) (script : Script) (status : Status) → (IsDiskFault status → ⊥) → IsReadFrom left_old script → IsAtEnd left_new → GrowsByPrefix held_old held_new (report_of script) → HoldsLogOf script seen → HasStopped left_old left_new held_old held_new seen status
stopped_printing left_old left_new held_old held_new seen script status not_disk read end report log =
    stopped left_old left_new held_old held_new seen script status read end report (λ disk. absurd (not_disk disk)) (λ _. log) (inr log) (whole_log script seen log)

-- a device has one lowest file that is not empty
lowest_is : (file other size length_of : ℕ) (seen : ℕ → List ℕ) → IsLowestFile file size seen → IsLowestFile other length_of seen → (file ≡ other) × (size ≡ length_of)
lowest_is file other size length_of seen one two = go (cases_lt file other) (cases_lt other file)
  where
    go : (file < other) ⊎ (other ≤ file) → (other < file) ⊎ (file ≤ other) → (file ≡ other) × (size ≡ length_of)
    go (inl below) after = absurd (omega (arith, ap length (two.lower file below), one.there, one.some))
    go (inr above) (inl below) = absurd (omega (arith, ap length (one.lower other below), two.there, two.some))
    go (inr above) (inr under) = let same : file ≡ other = omega arith in (same, sym one.there ∙ ap (λ (f : ℕ). length (seen f)) same ∙ two.there)

-- no file of an empty device is the lowest that is not empty
pub none_lowest : (file size : ℕ) (seen : ℕ → List ℕ) → ((other : ℕ) → seen other ≡ []) → IsLowestFile file size seen → ⊥
none_lowest file size seen empty held = omega (arith, ap length (empty file), held.there, held.some)

-- two devices have one first file that is not empty
pub first_is : (site other : SiteId) (file number size length_of : ℕ) (seen_a seen_b : ℕ → List ℕ) → IsFirstHeld site file size seen_a seen_b → IsFirstHeld other number length_of seen_a seen_b → statuses.NotEmpty site file size ≡ statuses.NotEmpty other number length_of
first_is A A file number size length_of seen_a seen_b one two = let same = lowest_is file number size length_of seen_a one two in ap₂ (λ (f n : ℕ). statuses.NotEmpty A f n) same.0 same.1
first_is A B file number size length_of seen_a seen_b one two = absurd (none_lowest file size seen_a two.0 one)
first_is B A file number size length_of seen_a seen_b one two = absurd (none_lowest number length_of seen_a one.0 two)
first_is B B file number size length_of seen_a seen_b one two = let same = lowest_is file number size length_of seen_b one.1 two.1 in ap₂ (λ (f n : ℕ). statuses.NotEmpty B f n) same.0 same.1

-- and two empty devices none
pub none_first : (site : SiteId) (file size : ℕ) (seen_a seen_b : ℕ → List ℕ) → AreEmpty seen_a seen_b → IsFirstHeld site file size seen_a seen_b → ⊥
none_first A file size seen_a seen_b empty held = none_lowest file size seen_a empty.0 held
none_first B file size seen_a seen_b empty held = none_lowest file size seen_b empty.1 held.1
