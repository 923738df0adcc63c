-- The exit number of the process, and the line that it writes to standard error.
use Rattle.std.specs.Prelude.{ℕ, List, [], ◌∷◌, ◌++◌, codes}
use Rattle.std.specs.Fmt.{decimal}
use Rattle.rb_base.specs.declared.site.SiteId.{SiteId}
use Rattle.rb_base.specs.declared.site.SiteId.TheVariants.{A, B}
use Rattle.rb_text_defs.specs.Report.{letter_of}
use Rattle.rb_base.specs.declared.faults.Field.{Field}
use Rattle.rb_base.specs.declared.faults.Field.TheVariants as fields
use Rattle.rb_text_defs.specs.declared.script.Limit.{Limit}
use Rattle.rb_text_defs.specs.declared.script.Limit.TheVariants as limits
use Rattle.rb_text_defs.specs.declared.script.ScriptKind.{ScriptKind}
use Rattle.rb_text_defs.specs.declared.script.ScriptKind.TheVariants as kinds
use Rattle.rb_top.specs.declared.status.Status.{Status}
use Rattle.rb_top.specs.declared.status.Status.TheVariants as statuses

-- the exit number that a shell sees
abbrev pub exit_number_of : Status → ℕ
exit_number_of statuses.Done = 0
exit_number_of statuses.Usage = 2
exit_number_of (statuses.BadScript line kind) = 3
exit_number_of statuses.ReadFault = 4
exit_number_of statuses.WriteFault = 5
exit_number_of (statuses.DiskFault site) = 6
exit_number_of statuses.NoMemory = 7
exit_number_of (statuses.NotEmpty site file size) = 8
exit_number_of (statuses.BadLog position field) = 9

-- a text, and the line feed that ends its line
abbrev pub line_of : List ℕ → List ℕ
line_of text = text ++ 10 ∷ []

-- the line for a device that is not empty
abbrev pub not_empty_line : SiteId → (file size : ℕ) → List ℕ
not_empty_line site file size =
    line_of (codes "not empty: site " ++ (letter_of site ++ (codes " file " ++ (decimal file ++ (codes " length " ++ decimal size)))))

-- the name of a limit
abbrev pub name_of_limit : Limit → List ℕ
name_of_limit limits.Bytes = codes "Bytes"
name_of_limit limits.Lines = codes "Lines"
name_of_limit limits.Tables = codes "Tables"
name_of_limit limits.Columns = codes "Columns"
name_of_limit limits.RowBytes = codes "RowBytes"
name_of_limit limits.Groups = codes "Groups"
name_of_limit limits.Replicas = codes "Replicas"
name_of_limit limits.LogLimit = codes "LogLimit"
name_of_limit limits.TxChanges = codes "TxChanges"
name_of_limit limits.Changes = codes "Changes"
name_of_limit limits.Work = codes "Work"

-- the kind of a refusal
abbrev pub kind_of : ScriptKind → List ℕ
kind_of kinds.Syntax = codes "syntax"
kind_of kinds.Setup = codes "setup"
kind_of (kinds.Limit limit) = codes "limit " ++ name_of_limit limit

-- the line for a script that is not legal
abbrev pub bad_script_line : (line : ℕ) → ScriptKind → List ℕ
bad_script_line line kind = line_of (codes "bad script: line " ++ (decimal line ++ (codes " " ++ kind_of kind)))

-- the name of a field
abbrev pub name_of_field : Field → List ℕ
name_of_field fields.Magic = codes "Magic"
name_of_field fields.EventType = codes "EventType"
name_of_field fields.EventSize = codes "EventSize"
name_of_field fields.EndPosition = codes "EndPosition"
name_of_field fields.Order = codes "Order"
name_of_field fields.Version = codes "Version"
name_of_field fields.HeaderLength = codes "HeaderLength"
name_of_field fields.PostHeader = codes "PostHeader"
name_of_field fields.QueryText = codes "QueryText"
name_of_field fields.TableId = codes "TableId"
name_of_field fields.Columns = codes "Columns"
name_of_field fields.ColumnType = codes "ColumnType"
name_of_field fields.Metadata = codes "Metadata"
name_of_field fields.Extra = codes "Extra"
name_of_field fields.Width = codes "Width"
name_of_field fields.Present = codes "Present"
name_of_field fields.Null = codes "Null"
name_of_field fields.Length = codes "Length"
name_of_field fields.Key = codes "Key"
name_of_field fields.Status = codes "Status"
name_of_field fields.AfterRotate = codes "AfterRotate"
name_of_field fields.Limit = codes "Limit"

-- the line for a log with a bad event
abbrev pub bad_log_line : (position : ℕ) → Field → List ℕ
bad_log_line position field = line_of (codes "bad log: position " ++ (decimal position ++ (codes " field " ++ name_of_field field)))

-- the line for words outside the grammar: all words of the program
unfoldable pub usage_line : List ℕ
usage_line = line_of (codes "usage: run [--brief] | read | make SEED COUNT | live")

-- the line that names a status; empty if nothing failed
abbrev pub fault_line_of : Status → List ℕ
fault_line_of statuses.Done = []
fault_line_of statuses.Usage = usage_line
fault_line_of (statuses.NotEmpty site file size) = not_empty_line site file size
fault_line_of (statuses.BadScript line kind) = bad_script_line line kind
fault_line_of (statuses.BadLog position field) = bad_log_line position field
fault_line_of statuses.ReadFault = line_of (codes "read fault")
fault_line_of statuses.WriteFault = line_of (codes "write fault")
fault_line_of (statuses.DiskFault A) = line_of (codes "disk fault A")
fault_line_of (statuses.DiskFault B) = line_of (codes "disk fault B")
fault_line_of statuses.NoMemory = line_of (codes "no memory")
