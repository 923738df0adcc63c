-- A log as it is read: its bytes cut into events by their lengths, each event judged by the events
-- before it, and the steps that they give.
use Rattle.std.specs.Prelude.{ℕ, zero, suc, ◌+◌, ◌-◌, ◌==◌, nat_le, nat_lt, ◌&&◌, not, Bool, true, false, if◌then◌else◌, List, [], ◌∷◌, ◌++◌, length, map, filter, max, take, drop, find, Option, Some, None, unwrap_or, is_some}
use Rattle.std.specs.List.{flat_map, list_any}
use Rattle.std.specs.Option.{option_map, option_map_or, option_and_then}
use Rattle.std.specs.Str.{bytes_eq}
use Rattle.rb_base.specs.declared.faults.Field.{Field}
use Rattle.rb_base.specs.declared.faults.Field.TheVariants as fields
use Rattle.rb_base.specs.declared.schema.Mapped.{Mapped}
use Rattle.rb_base.specs.declared.change.Kind.{Kind}
use Rattle.rb_base.specs.declared.change.Kind.TheVariants.{Insert, Update, Remove}
use Rattle.rb_base.specs.declared.change.Change.{Change}
use Rattle.rb_base.specs.declared.epoch.Epoch.{Epoch}
use Rattle.rb_base.specs.declared.body.EpochBody.{EpochBody}
use Rattle.rb_log_defs.specs.Types.{query_type, rotate_type, format_type, xid_type, table_map_type, write_rows_type, update_rows_type, rows_types, is_one_of}
use Rattle.rb_read_defs.specs.Reading.{Reading, Reader, Read, Short, Wrong, ◌>>=◌, give, number, that}
use Rattle.rb_read_defs.specs.Events.{header, format, query, xid, rotate, table_map, is_known, is_status}
use Rattle.rb_read_defs.specs.Rows.{changes, statuses}
use Rattle.rb_read_defs.specs.declared.answers.Content.{Content}
use Rattle.rb_read_defs.specs.declared.answers.Content.TheVariants.{Formats, Begins, Ends, Rotates, Maps, Changes, Statuses, Skipped}
use Rattle.rb_read_defs.specs.declared.answers.Header.{Header}
use Rattle.rb_read_defs.specs.declared.answers.QueryText.{QueryText}
use Rattle.rb_read_defs.specs.declared.answers.QueryText.TheVariants.{Begin, Commit}
use Rattle.rb_read_defs.specs.declared.answers.StatusRow.{StatusRow}
use Rattle.rb_read_defs.specs.declared.answers.Step.{Step}
use Rattle.rb_read_defs.specs.declared.answers.Step.TheVariants as steps

-- an event as cut out of the bytes: its position, its header as it is read, and its payload if the
-- event is complete
pub record Cut : Type 0 where
  pub at : ℕ
  pub head : Reading Header
  pub payload : Option (List ℕ)

-- the first event of some bytes, and then the events after it; an event with a wrong header, and an
-- event that is not complete, is the last one
abbrev pub cut_by : (at : ℕ) → (bytes : List ℕ) → Reading Header → (later : ℕ → List Cut) → List Cut
cut_by at bytes (Read head after) later =
    if nat_le head.size (length bytes)
    then record { at = at; head = Read head after; payload = Some (drop 19 (take head.size bytes)) } ∷ later head.size
    else record { at = at; head = Read head after; payload = None } ∷ []
cut_by at bytes (Short place) later = []
cut_by at bytes (Wrong place field) later = record { at = at; head = Wrong place field; payload = None } ∷ []

-- the first `most` events of some bytes that start at position `at`; the header of each gives its
-- length
unfoldable pub cut_from : (most at : ℕ) → List ℕ → List Cut
cut_from zero at bytes = []
cut_from (suc most) at bytes =
    if nat_lt (length bytes) 19 then []
    else cut_by at bytes (header at bytes 0) (λ size. cut_from most (at + size) (drop size bytes))

-- all events of some bytes that start at this position
abbrev pub cuts : (at : ℕ) → List ℕ → List Cut
cuts at bytes = cut_from (length bytes) at bytes

-- an event that was read: the position after it, its server, and its content
pub record Known : Type 0 where
  pub end : ℕ
  pub server : ℕ
  pub says : Content

-- the events of the open epoch, the newest first: those after the last BEGIN, if no event after it
-- ends the epoch
unfoldable pub open_epoch : (earlier : List Known) → Option (List Known)
open_epoch [] = None
open_epoch (event ∷ earlier) = by_content event.says (open_epoch earlier)
  where
    by_content : Content → Option (List Known) → Option (List Known)
    by_content Begins before = Some []
    by_content Ends before = None
    by_content other before = option_map (λ events. event ∷ events) before

-- an epoch is open
abbrev pub is_open : (earlier : List Known) → Bool
is_open earlier = is_some (open_epoch earlier)

-- the table maps among these events, the newest first
abbrev pub maps_of : List Known → List Mapped
maps_of events = flat_map (λ event. mapped event.says) events
  where
    mapped : Content → List Mapped
    mapped (Maps table) = table ∷ []
    mapped other = []

-- the table map that is in force for an id: the last one for it since BEGIN in the open epoch
abbrev pub map_in_force : (earlier : List Known) → (id : ℕ) → Option Mapped
map_in_force earlier id = option_and_then (λ events. find (λ table. table.id == id) (maps_of events)) (open_epoch earlier)

-- the apply-status rows of these events, the newest event first, each with the server of its event
abbrev pub statuses_of : List Known → List (ℕ × StatusRow)
statuses_of events = flat_map (λ event. rows event.server event.says) events
  where
    rows : ℕ → Content → List (ℕ × StatusRow)
    rows server (Statuses all) = map (λ row. (server, row)) all
    rows server other = []

-- the own rows of these events: those whose server is the server of their event
abbrev pub is_own : ℕ × StatusRow → Bool
is_own (server, row) = row.server == server

abbrev pub own_rows : List (ℕ × StatusRow) → List StatusRow
own_rows rows = map (λ pair. pair.1) (filter is_own rows)

abbrev pub other_rows : List (ℕ × StatusRow) → List StatusRow
other_rows rows = map (λ pair. pair.1) (filter (λ pair. not (is_own pair)) rows)

-- at most one of these rows is an own row, and at most one is another's
abbrev pub is_single : List (ℕ × StatusRow) → Bool
is_single rows = nat_le (length (own_rows rows)) 1 && nat_le (length (other_rows rows)) 1

-- the last event is a rotation
abbrev pub is_rotated : (earlier : List Known) → Bool
is_rotated [] = false
is_rotated (event ∷ earlier) = rotates event.says
  where
    rotates : Content → Bool
    rotates (Rotates to) = true
    rotates other = false

-- the types of events that are allowed only inside an epoch: XID, table maps and rows events
abbrev pub inside_types : List ℕ
inside_types = xid_type ∷ table_map_type ∷ rows_types

-- the types of events that are allowed only outside an epoch: rotations and format descriptions
abbrev pub outside_types : List ℕ
outside_types = rotate_type ∷ format_type ∷ []

-- an event of this type is allowed here: at position 4 only a format description, and after that by
-- the two lists; a query event is allowed by its text, and other events are always allowed
abbrev pub is_in_order : (at : ℕ) → (earlier : List Known) → (kind : ℕ) → Bool
is_in_order at earlier kind =
    if kind == query_type then true
    else (if at == 4 then kind == format_type
    else (if is_one_of inside_types kind then is_open earlier
    else (if is_one_of outside_types kind then not (is_open earlier) else true)))

-- the fault of an event's header after these earlier events, if it has one
abbrev pub header_fault : (at : ℕ) → (earlier : List Known) → Header → Option Field
header_fault at earlier head =
    if is_rotated earlier then Some fields.AfterRotate
    else (if is_in_order at earlier head.kind then None else Some fields.Order)

-- the kind of the changes in a rows event of this type
abbrev pub kind_of : (type : ℕ) → Kind
kind_of type = if type == write_rows_type then Insert else (if type == update_rows_type then Update else Remove)

-- the content of a query event: BEGIN is allowed outside an epoch, COMMIT within one, and neither
-- at position 4
abbrev pub query_in : (at : ℕ) → (earlier : List Known) → Reader Content
query_in at earlier = that fields.Order (λ says. not (at == 4) && allowed says) (query >>= (λ text. give (said text)))
  where
    said : QueryText → Content
    said Begin = Begins
    said Commit = Ends

    allowed : Content → Bool
    allowed Begins = not (is_open earlier)
    allowed other = is_open earlier

-- the content of a rows event: its table is the last one mapped to its id since BEGIN; the
-- apply-status table allows only writes
abbrev pub rows_in : (earlier : List Known) → Header → Reader Content
rows_in earlier head = do
  id ← number 6
  of_table (map_in_force earlier id)
  where
    at_start : {X : Type 0} → Reader X → Reader X
    at_start read = λ bytes at. read bytes 0

    of_table : Option Mapped → Reader Content
    of_table None = λ bytes at. Wrong 0 fields.TableId
    of_table (Some table) =
        if is_status table.schema table.name
        then (if head.kind == write_rows_type
        then at_start (statuses table) >>= (λ rows. give (Statuses rows))
        else (λ bytes at. Wrong 0 fields.Status))
        else at_start (changes (kind_of head.kind) head.server table) >>= (λ all. give (Changes all))

-- the content of an event, by its type; an event of any other type is skipped
unfoldable pub content_in : (at : ℕ) → (earlier : List Known) → Header → Reader Content
content_in at earlier head =
    if head.kind == query_type then query_in at earlier
    else (if head.kind == rotate_type then rotate >>= (λ to. give (Rotates to))
    else (if head.kind == format_type then format >>= (λ unit. give Formats)
    else (if head.kind == xid_type then xid >>= (λ number. give Ends)
    else (if head.kind == table_map_type then table_map >>= (λ table. give (Maps table))
    else (if is_known head.kind then rows_in earlier head else give Skipped)))))

-- the apply-status rows of the open epoch so far
abbrev pub statuses_so_far : (earlier : List Known) → List (ℕ × StatusRow)
statuses_so_far earlier = option_map_or statuses_of (open_epoch earlier) []

-- with this event the epoch still has at most one own apply-status row and at most one other; an
-- event that ends the epoch needs an own row of the same server
abbrev pub has_statuses : (earlier : List Known) → (server : ℕ) → Content → Bool
has_statuses earlier server (Statuses rows) = is_single (map (λ row. (server, row)) rows ++ statuses_so_far earlier)
has_statuses earlier server Ends = list_any (λ row. row.server == server) (own_rows (statuses_so_far earlier))
has_statuses earlier server other = true

-- the judgement of an event after the events before it: it is good, or bad in this field, or not
-- complete
pub data Judged : Type 0 where
  Good : (event : Known) → Judged
  Bad : (field : Field) → Judged
  Unfinished : Judged

-- the judgement of a complete event by its payload; if a field does not end within the payload, the
-- event's size is wrong
unfoldable pub judge_payload : (earlier : List Known) → (at : ℕ) → Header → List ℕ → Judged
judge_payload earlier at head payload = by_reading (content_in at earlier head payload 0)
  where
    by_reading : Reading Content → Judged
    by_reading (Read says after) = if has_statuses earlier head.server says then Good (record { end = at + head.size; server = head.server; says = says }) else Bad fields.Status
    by_reading (Short place) = Bad fields.EventSize
    by_reading (Wrong place field) = Bad field

-- the judgement of an event by its header, then by its place among the events, then by its payload
abbrev pub judge_head : (earlier : List Known) → (at : ℕ) → Reading Header → (payload : Option (List ℕ)) → Judged
judge_head earlier at (Read head after) payload = unless (header_fault at earlier head) (option_map_or (judge_payload earlier at head) payload Unfinished)
  where
    unless : Option Field → Judged → Judged
    unless (Some field) judged = Bad field
    unless None judged = judged
judge_head earlier at (Short place) payload = Unfinished
judge_head earlier at (Wrong place field) payload = Bad field

-- the judgement of an event as cut out of the bytes
unfoldable pub judge : (earlier : List Known) → Cut → Judged
judge earlier cut = judge_head earlier cut.at cut.head cut.payload

-- the events that were read of a log, the newest first, and the position and field of the first bad
-- event, if there is one
pub record Seen : Type 0 where
  pub known : List Known
  pub fault : Option (ℕ × Field)

-- the reading from an event on, given the event's judgement: a good event is followed by the later
-- ones; a bad or an incomplete one ends the reading
abbrev pub seen_by : (at : ℕ) → (earlier : List Known) → Judged → (later : Known → Seen) → Seen
seen_by at earlier (Good event) later = later event
seen_by at earlier (Bad field) later = record { known = earlier; fault = Some (at, field) }
seen_by at earlier Unfinished later = record { known = earlier; fault = None }

-- the reading of these cut events after the events before them
unfoldable pub seen_from : (earlier : List Known) → List Cut → Seen
seen_from earlier [] = record { known = earlier; fault = None }
seen_from earlier (cut ∷ cuts) = seen_by cut.at earlier (judge earlier cut) (λ event. seen_from (event ∷ earlier) cuts)

-- the magic number of a binlog file
abbrev pub magic : List ℕ
magic = 254 ∷ 98 ∷ 105 ∷ 110 ∷ []

-- the reading of a log's bytes, which start at this position of its file; at position 0 the magic
-- number comes first
unfoldable pub seen_of : (position : ℕ) → List ℕ → Seen
seen_of position bytes =
    if position == 0 then
    (if nat_lt (length bytes) 4 then record { known = []; fault = None }
    else (if bytes_eq (take 4 bytes) magic then seen_from [] (cuts 4 (drop 4 bytes))
    else record { known = []; fault = Some (0, fields.Magic) }))
    else seen_from [] (cuts position bytes)

-- the changes of an epoch in the order of its events, which are listed the newest first
abbrev pub changes_read : List Known → List Change
changes_read [] = []
changes_read (event ∷ earlier) = changes_read earlier ++ made event.says
  where
    made : Content → List Change
    made (Changes all) = all
    made other = []

-- one of these changes is of the table with this id
abbrev pub names : List Change → (id : ℕ) → Bool
names changes id = list_any (λ change. change.table == id) changes

-- the greatest table id of these changes, or 0 if there is no change
abbrev pub greatest_id : List Change → ℕ
greatest_id [] = 0
greatest_id (change ∷ changes) = max change.table (greatest_id changes)

-- the ids from 0 to `last`, in ascending order
abbrev pub ids_to : (last : ℕ) → List ℕ
ids_to zero = 0 ∷ []
ids_to (suc last) = ids_to last ++ suc last ∷ []

-- the ids of the tables that these changes name, in ascending order, each once
abbrev pub tables_named : List Change → List ℕ
tables_named changes = filter (names changes) (ids_to (greatest_id changes))

-- the tables that these changes name, each by the last map of its id
abbrev pub tables_read : List Known → List Change → List Mapped
tables_read events changes = flat_map (λ id. option_map_or (λ table. table ∷ []) (find (λ table. table.id == id) (maps_of events)) []) (tables_named changes)

-- the epoch of the first row, if there is a row
abbrev pub first_epoch_of : List StatusRow → Option Epoch
first_epoch_of [] = None
first_epoch_of (row ∷ rows) = Some row.epoch

-- the body of an epoch with these events, ended by an event of this server
abbrev pub body_read : List Known → (server : ℕ) → EpochBody
body_read events server = record {
  server = server;
  epoch = unwrap_or (first_epoch_of (own_rows (statuses_of events))) (record { 0 = 0 });
  reflected = first_epoch_of (other_rows (statuses_of events));
  tables = tables_read events (changes_read events);
  changes = changes_read events;
}

-- the step of an event after these earlier ones, if it gives a step
abbrev pub step_of : (earlier : List Known) → Known → List Step
step_of earlier event = by_content event.says
  where
    by_content : Content → List Step
    by_content Formats = steps.Format ∷ []
    by_content (Rotates to) = steps.Rotate to.position to.name ∷ []
    by_content Ends = option_map_or (λ events. steps.Epoch (body_read events event.server) event.end ∷ []) (open_epoch earlier) []
    by_content other = []

-- the steps of these events, in their order
unfoldable pub steps_of : List Known → List Step
steps_of [] = []
steps_of (event ∷ earlier) = steps_of earlier ++ step_of earlier event

-- no epoch is open after this event
abbrev pub is_outside : (earlier : List Known) → Known → Bool
is_outside earlier event = by_content event.says
  where
    by_content : Content → Bool
    by_content Begins = false
    by_content Ends = true
    by_content other = not (is_open earlier)

-- the end of the last event after which no epoch is open, or the start of the bytes if there is
-- none
abbrev pub settled_at : (start : ℕ) → List Known → ℕ
settled_at start [] = start
settled_at start (event ∷ earlier) = if is_outside earlier event then event.end else settled_at start earlier

-- the number of bytes after that end, given the events that a reader has decoded
abbrev pub rest_after : (position : ℕ) → List ℕ → (passed : List Known) → ℕ
rest_after position bytes passed = position + length bytes - settled_at position passed

-- the number of bytes after that end, given all events that can be read
abbrev pub rest_of : (position : ℕ) → List ℕ → ℕ
rest_of position bytes = rest_after position bytes (seen_of position bytes).known
