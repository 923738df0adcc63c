-- The report: a title, a line for each event with its outcome, the log, the tables, and an end
-- line. Each line ends with a line feed.
use Rattle.std.specs.Prelude.{ℕ, ◌+◌, ◌/◌, ◌%◌, ◌==◌, nat_le, nat_lt, ◌&&◌, not, if◌then◌else◌, List, [], ◌∷◌, ◌++◌, length, map, codes, Option, Some, None}
use Rattle.std.specs.List.{concat, flat_map, last_or}
use Rattle.std.specs.Option.{option_map_or}
use Rattle.std.specs.Fmt.{decimal}
use Rattle.rb_base.specs.declared.site.SiteId.{SiteId}
use Rattle.rb_base.specs.declared.site.SiteId.TheVariants.{A, B}
use Rattle.rb_base.specs.declared.epoch.Epoch.{Epoch}
use Rattle.rb_base.specs.declared.body.IndexRow.{IndexRow}
use Rattle.rb_base.specs.declared.row.Value.{Value}
use Rattle.rb_base.specs.declared.row.Value.TheVariants.{Num, Text}
use Rattle.rb_base.specs.declared.row.Row.{Row}
use Rattle.rb_base.specs.declared.outcome.Listed.{Listed}
use Rattle.rb_base.specs.declared.outcome.Outcome.{Outcome}
use Rattle.rb_base.specs.declared.outcome.Outcome.TheVariants as outcomes

-- the text of these lines
abbrev pub text_of_lines : List (List ℕ) → List ℕ
text_of_lines lines = flat_map (λ line. line ++ 10 ∷ []) lines

-- the letter of a site
abbrev pub letter_of : SiteId → List ℕ
letter_of A = codes "A"
letter_of B = codes "B"

-- a number after its label
abbrev pub labelled : (label : List ℕ) → (number : ℕ) → List ℕ
labelled label number = label ++ decimal number

-- the first message that the next epoch lacks: a bucket's Part, by its place, or its Done
abbrev pub missing_text : (bucket : ℕ) → (place : Option ℕ) → List ℕ
missing_text bucket None = concat (labelled (codes " missing=") bucket ∷ codes ":done" ∷ [])
missing_text bucket (Some place) = concat (labelled (codes " missing=") bucket ∷ labelled (codes ":") place ∷ [])

-- the outcome of a `deliver` event with `all`
abbrev pub delivered_text : (kept known old : ℕ) → List ℕ
delivered_text kept known old =
    concat (labelled (codes "delivered kept=") kept ∷ labelled (codes " known=") known ∷ labelled (codes " old=") old ∷ [])

-- the outcome of an `inject` event: how many epochs it logged, the last logged epoch, and the first
-- message that is missing
abbrev pub wrote_text : (count : ℕ) → (written : Epoch) → (bucket : ℕ) → (place : Option ℕ) → List ℕ
wrote_text count written bucket place =
    concat (labelled (codes "wrote ") count ∷ labelled (codes " written=") written.0 ∷ missing_text bucket place ∷ [])

-- an event of a binlog file, as a script's `dump` lists it
abbrev pub listed_text : Listed → List ℕ
listed_text event =
    concat (labelled (10 ∷ codes "event file=") event.file ∷ labelled (codes " pos=") event.position ∷ labelled (codes " type=") event.kind
    ∷ labelled (codes " size=") event.size ∷ labelled (codes " end=") event.end ∷ [])

-- the outcome of an event
unfoldable pub outcome_text : Outcome → List ℕ
outcome_text (outcomes.Committed transid epoch sent) =
    concat (labelled (codes "ok transid=") transid ∷ labelled (codes " epoch=") epoch.0 ∷ labelled (codes " sent=") sent ∷ [])
outcome_text (outcomes.RowTwice number) = labelled (codes "row twice ") number
outcome_text (outcomes.KeyThere number) = labelled (codes "key there ") number
outcome_text (outcomes.NoKey number) = labelled (codes "no key ") number
outcome_text (outcomes.Closed epoch sent) = concat (labelled (codes "closed ") epoch.0 ∷ labelled (codes " sent=") sent ∷ [])
outcome_text outcomes.Kept = codes "kept"
outcome_text outcomes.Known = codes "known"
outcome_text outcomes.Old = codes "old"
outcome_text (outcomes.NoMessage place sent) = concat (labelled (codes "no message ") place ∷ labelled (codes " ") sent ∷ [])
outcome_text (outcomes.Delivered kept known old) = delivered_text kept known old
outcome_text (outcomes.Wrote count written bucket place) = wrote_text count written bucket place
outcome_text (outcomes.Logged kept known old count written bucket place) =
    concat (delivered_text kept known old ∷ codes " " ∷ wrote_text count written bucket place ∷ [])
outcome_text (outcomes.Failed takeover sent) = concat (labelled (codes "failed takeover=") takeover ∷ labelled (codes " sent=") sent ∷ [])
outcome_text (outcomes.Lost group epoch) = concat (labelled (codes "lost ") group ∷ labelled (codes " ") epoch.0 ∷ [])
outcome_text (outcomes.NodeDown node) = labelled (codes "node down ") node
outcome_text (outcomes.Restarted since) = labelled (codes "restarted since=") since.0
outcome_text (outcomes.NodeUp node) = labelled (codes "node up ") node
outcome_text (outcomes.Resent sent) = labelled (codes "resent sent=") sent
outcome_text (outcomes.Recovered written sent) = concat (labelled (codes "recovered written=") written.0 ∷ labelled (codes " sent=") sent ∷ [])
outcome_text (outcomes.Taken file position) = concat (labelled (codes "taken file=") file ∷ labelled (codes " pos=") position ∷ [])
outcome_text (outcomes.NotNext file position) = concat (labelled (codes "not next file=") file ∷ labelled (codes " pos=") position ∷ [])
outcome_text (outcomes.Applied epoch accepted rejected refreshed sent) =
    concat (labelled (codes "applied ") epoch.0 ∷ labelled (codes " accepted=") accepted ∷ labelled (codes " rejected=") rejected
    ∷ labelled (codes " refreshed=") refreshed ∷ labelled (codes " sent=") sent ∷ [])
outcome_text outcomes.Nothing = codes "nothing"
outcome_text (outcomes.Flowed count file position) =
    concat (labelled (codes "flowed ") count ∷ labelled (codes " file=") file ∷ labelled (codes " pos=") position ∷ [])
outcome_text (outcomes.ApplierAt file position) = concat (labelled (codes "restarted file=") file ∷ labelled (codes " pos=") position ∷ [])
outcome_text (outcomes.Dumped files events) = labelled (codes "dumped files=") files ++ flat_map listed_text events
outcome_text outcomes.Drained = codes "drained"
outcome_text (outcomes.DrainLost site group epoch) =
    concat (codes "lost " ∷ letter_of site ∷ labelled (codes " ") group ∷ labelled (codes " ") epoch.0 ∷ [])
outcome_text (outcomes.SiteLost group epoch) = concat (labelled (codes "site lost ") group ∷ labelled (codes " ") epoch.0 ∷ [])

-- the line of an event: the number of its line in the script, and its outcome
abbrev pub outcome_line : (number : ℕ) → Outcome → List ℕ
outcome_line number outcome = concat (decimal number ∷ codes " " ∷ outcome_text outcome ∷ [])

-- the line of a site's log: the number of its files, the number of its epochs, and the last logged
-- epoch, or 0
abbrev pub log_line : SiteId → (files epochs written : ℕ) → List ℕ
log_line site files epochs written =
    concat (codes "log " ∷ letter_of site ∷ labelled (codes " files=") files ∷ labelled (codes " epochs=") epochs
    ∷ labelled (codes " written=") written ∷ [])

-- a hexadecimal digit, in lower case
abbrev pub hex_digit : ℕ → ℕ
hex_digit digit = if nat_lt digit 10 then digit + 48 else digit + 87

-- a byte of a text: the byte itself if it is printable and not a double quote or a backslash,
-- otherwise `\x` and its two hexadecimal digits
abbrev pub text_byte : ℕ → List ℕ
text_byte byte =
    if nat_le 32 byte && nat_le byte 126 && not (byte == 34) && not (byte == 92) then byte ∷ []
    else 92 ∷ 120 ∷ hex_digit (byte / 16) ∷ hex_digit (byte % 16) ∷ []

-- a value: a number, or a text in quotes
abbrev pub value_text : Value → List ℕ
value_text (Num number) = decimal number
value_text (Text text) = 34 ∷ (flat_map text_byte text ++ 34 ∷ [])

-- a row, the key first
unfoldable pub row_line : Row → List ℕ
row_line row = codes "row" ++ flat_map (λ value. 32 ∷ value_text value) row.values

-- the name and the rows of a table
pub record NamedRows : Type 0 where
  pub name : List ℕ
  pub rows : List Row

-- the lines of a table
abbrev pub table_lines : SiteId → NamedRows → List (List ℕ)
table_lines site table =
    concat (codes "table " ∷ letter_of site ∷ codes " " ∷ table.name ∷ labelled (codes " rows=") (length table.rows) ∷ [])
    ∷ map row_line table.rows

-- a log: the number of its files, and the index row of each epoch
pub record LogRows : Type 0 where
  pub files : ℕ
  pub rows : List IndexRow

-- the epoch of the last row, or 0 if there is no row
abbrev pub last_in : List IndexRow → ℕ
last_in rows = option_map_or (λ row. row.epoch.0) (last_or None rows) 0

-- an epoch in the index: its number, its GCI, its place in the binlog, and how many changes of each
-- kind it has
unfoldable pub index_line : IndexRow → List ℕ
index_line row =
    concat (labelled (codes "epoch ") row.epoch.0 ∷ labelled (codes " gci=") row.gci ∷ labelled (codes " file=") row.file
    ∷ labelled (codes " pos=") row.position ∷ labelled (codes " next=") row.next_position ∷ labelled (codes " ins=") row.inserts
    ∷ labelled (codes " upd=") row.updates ∷ labelled (codes " del=") row.deletes ∷ [])

-- the lines of a log
abbrev pub log_lines : SiteId → LogRows → List (List ℕ)
log_lines site log = log_line site log.files (length log.rows) (last_in log.rows) ∷ map index_line log.rows

-- the lines of the report of a run at site A, from the outcomes of its events, its log and its
-- tables
abbrev pub report_lines : List (ℕ × Outcome) → LogRows → List NamedRows → List (List ℕ)
report_lines outcomes log tables =
    codes "ndb replication report"
    ∷ (map (λ lined. outcome_line lined.0 lined.1) outcomes
    ++ (log_lines A log ++ (flat_map (table_lines A) tables ++ codes "end" ∷ [])))

-- the report of a run at site A
unfoldable pub report_text : List (ℕ × Outcome) → LogRows → List NamedRows → List ℕ
report_text outcomes log tables = text_of_lines (report_lines outcomes log tables)
