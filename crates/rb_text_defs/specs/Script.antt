-- The script that the lines of a text give, or its first refused line.
use Rattle.std.specs.Prelude.{ℕ, ◌+◌, ◌*◌, nat_le, nat_lt, ◌&&◌, ◌||◌, not, Bool, true, false, if◌then◌else◌, List, [], ◌∷◌, ◌++◌, length, map, filter_map, take, sum_by, Option, Some, None, is_some, Result, Ok, Err}
use Rattle.std.specs.Str.{bytes_eq}
use Rattle.std.specs.List.{find, list_any, list_all, enumerate_from, position}
use Rattle.std.specs.Option.{option_map, option_map_or, option_and_then}
use Rattle.rb_base.specs.declared.schema.Column.{Column}
use Rattle.rb_base.specs.declared.schema.Column.TheVariants as columns
use Rattle.rb_base.specs.declared.schema.Schema.{Schema}
use Rattle.rb_base.specs.declared.row.Value.{Value}
use Rattle.rb_base.specs.declared.row.Value.TheVariants as values
use Rattle.rb_base.specs.declared.row.Row.{Row}
use Rattle.rb_base.specs.declared.script.Op.{Op}
use Rattle.rb_base.specs.declared.script.Op.TheVariants.{Ins, Upd, Put, Del}
use Rattle.rb_base.specs.declared.script.ClientOp.{ClientOp}
use Rattle.rb_base.specs.declared.script.Event.{Event}
use Rattle.rb_base.specs.declared.script.Event.TheVariants as events
use Rattle.rb_base.specs.declared.script.Mode.TheVariants.{EpochTrans}
use Rattle.rb_base.specs.declared.script.SiteSetup.{SiteSetup}
use Rattle.rb_base.specs.declared.script.Setup.{Setup}
use Rattle.rb_text_defs.specs.declared.script.Limit.{Limit}
use Rattle.rb_text_defs.specs.declared.script.Limit.TheVariants as limits
use Rattle.rb_text_defs.specs.declared.script.ScriptKind.{ScriptKind}
use Rattle.rb_text_defs.specs.declared.script.ScriptKind.TheVariants as kinds
use Rattle.rb_text_defs.specs.declared.script.BadLine.{BadLine}
use Rattle.rb_text_defs.specs.declared.script.LinedEvent.{LinedEvent}
use Rattle.rb_text_defs.specs.declared.script.Script.{Script}
use Rattle.rb_text_defs.specs.Words.{lines_of}
use Rattle.rb_text_defs.specs.Form.{Operation, Form, SiteLine, TableLine, TxLine, EventLine, LineMeaning, Wrong, Skipped, Says, reading_of}

-- the greatest length of a script in bytes
abbrev pub most_bytes : ℕ
most_bytes = 33554432

-- the greatest number of lines
abbrev pub most_lines : ℕ
most_lines = 100000

-- the greatest number of tables
abbrev pub most_tables : ℕ
most_tables = 32

-- the greatest number of columns of a table, without its key
abbrev pub most_columns : ℕ
most_columns = 15

-- the greatest length of a row in bytes
abbrev pub most_row_bytes : ℕ
most_row_bytes = 1000

-- the greatest number of node groups of a site, and of nodes in a group
abbrev pub most_groups : ℕ
most_groups = 8

abbrev pub most_replicas : ℕ
most_replicas = 4

-- the length in bytes from which a site's files are rotated, if no line gives it
abbrev pub default_limit : ℕ
default_limit = 1048576

-- the least and the greatest value that a line may give for that length
abbrev pub least_limit : ℕ
least_limit = 512

abbrev pub most_limit : ℕ
most_limit = 67108864

-- the greatest number of changes of one transaction
abbrev pub most_tx_changes : ℕ
most_tx_changes = 4096

-- the greatest number of changes of all transactions
abbrev pub most_changes : ℕ
most_changes = 100000

-- the greatest amount of work of a script
abbrev pub most_work : ℕ
most_work = 4000000

-- the first item of a list, if it has one
abbrev pub first_of : {X : Type 0} → List X → Option X
first_of [] = None
first_of (item ∷ items) = Some item

-- the table that a form declares, if any
abbrev pub table_in : Form → Option Schema
table_in (SiteLine site groups replicas limit) = None
table_in (TableLine name columns) = Some (record { name = name; columns = columns })
table_in (TxLine site operations) = None
table_in (EventLine event) = None

-- the tables that forms declare, in order
abbrev pub tables_in : List Form → List Schema
tables_in forms = filter_map table_in forms

-- the setup of site A that a form gives, if any
abbrev pub shape_in : Form → Option SiteSetup
shape_in (SiteLine site groups replicas limit) = Some (record { groups = groups; replicas = replicas; limit = limit })
shape_in (TableLine name columns) = None
shape_in (TxLine site operations) = None
shape_in (EventLine event) = None

-- a form is an event and not part of the setup
abbrev pub is_event : Form → Bool
is_event (SiteLine site groups replicas limit) = false
is_event (TableLine name columns) = false
is_event (TxLine site operations) = true
is_event (EventLine event) = true

-- a value has the column's type, and a text is within the column's maximum length; no value suits a
-- LONG column
abbrev pub suits_column : Column → Value → Bool
suits_column columns.Num (values.Num number) = true
suits_column columns.Num (values.Text text) = false
suits_column columns.Long value = false
suits_column (columns.Text most) (values.Num number) = false
suits_column (columns.Text most) (values.Text text) = nat_le (length text) most

-- each column has exactly one value, and it suits the column
abbrev pub suits_columns : List Column → List Value → Bool
suits_columns [] [] = true
suits_columns [] (value ∷ values) = false
suits_columns (column ∷ columns) [] = false
suits_columns (column ∷ columns) (value ∷ values) = suits_column column value && suits_columns columns values

-- an operation has a value for each of these columns, unless it is a `del`
abbrev pub has_values : Op → List Column → List Value → Bool
has_values Ins columns values = suits_columns columns values
has_values Upd columns values = suits_columns columns values
has_values Put columns values = suits_columns columns values
has_values Del columns values = true

-- an operation has values that suit this table
abbrev pub suits_table : Operation → Schema → Bool
suits_table operation table = has_values operation.op table.columns operation.values

-- a table has this name
abbrev pub is_named : (name : List ℕ) → Schema → Bool
is_named name table = bytes_eq table.name name

-- an operation names a declared table and suits it
abbrev pub suits_tables : List Schema → Operation → Bool
suits_tables tables operation = option_map_or (suits_table operation) (find (is_named operation.table) tables) false

-- the node that an event names, if any
abbrev pub node_in : Event → Option ℕ
node_in (events.Fail site node) = Some node
node_in (events.Restart site node) = Some node
node_in event = None

-- the number of nodes of the site that these forms set up
abbrev pub nodes_in : List Form → ℕ
nodes_in forms = option_map_or (λ (shape : SiteSetup). shape.groups * shape.replicas) (first_of (filter_map shape_in forms)) 1

-- a line does not fit the lines before it
abbrev pub is_misplaced : (earlier : List Form) → Form → Bool
is_misplaced earlier (SiteLine site groups replicas limit) = list_any is_event earlier || list_any (λ form. is_some (shape_in form)) earlier
is_misplaced earlier (TableLine name columns) = list_any is_event earlier || list_any (is_named name) (tables_in earlier)
is_misplaced earlier (TxLine site operations) = not (list_all (suits_tables (tables_in earlier)) operations)
is_misplaced earlier (EventLine event) = option_map_or (nat_le (nodes_in earlier)) (node_in event) false

-- the greatest length in bytes of a column's value in a row; a text comes after its length
abbrev pub column_bytes : Column → ℕ
column_bytes columns.Num = 8
column_bytes columns.Long = 4
column_bytes (columns.Text most) = most + (if nat_le most 255 then 1 else 2)

-- the greatest length in bytes of a row with a key and these columns
abbrev pub row_bytes : List Column → ℕ
row_bytes columns = 8 + sum_by column_bytes columns

-- the number of changes of a form
abbrev pub changes_in_form : Form → ℕ
changes_in_form (SiteLine site groups replicas limit) = 0
changes_in_form (TableLine name columns) = 0
changes_in_form (TxLine site operations) = length operations
changes_in_form (EventLine event) = 0

-- the number of epochs that a form closes
abbrev pub closes_in_form : Form → ℕ
closes_in_form (EventLine (events.Close site gci)) = 1
closes_in_form form = 0

-- how often a form may make nodes resend everything: once if a node fails or restarts, if the
-- owners resend, or if the injector restarts
abbrev pub restarts_in_form : Form → ℕ
restarts_in_form (EventLine (events.Fail site node)) = 1
restarts_in_form (EventLine (events.Restart site node)) = 1
restarts_in_form (EventLine (events.Resend site)) = 1
restarts_in_form (EventLine (events.Injector site)) = 1
restarts_in_form form = 0

-- the work of these forms: the number of changes plus 32 for each close, all multiplied by 1 plus
-- the number of restarts and resends
abbrev pub work_of : List Form → ℕ
work_of forms = (1 + sum_by restarts_in_form forms) * (sum_by changes_in_form forms + 32 * sum_by closes_in_form forms)

-- the limits of a form, in the order of the checks; each has a flag that is true if the form
-- exceeds it after these earlier forms
abbrev pub limits_of_form : (earlier : List Form) → Form → List (Bool × Limit)
limits_of_form earlier (SiteLine site groups replicas limit) =
    (not (nat_le 1 groups && nat_le groups most_groups), limits.Groups)
    ∷ (not (nat_le 1 replicas && nat_le replicas most_replicas), limits.Replicas)
    ∷ (not (nat_le least_limit limit && nat_le limit most_limit), limits.LogLimit) ∷ []
limits_of_form earlier (TableLine name columns) =
    (nat_lt most_tables (length (tables_in earlier) + 1), limits.Tables)
    ∷ (nat_lt most_columns (length columns), limits.Columns)
    ∷ (nat_lt most_row_bytes (row_bytes columns), limits.RowBytes) ∷ []
limits_of_form earlier (TxLine site operations) =
    (nat_lt most_tx_changes (length operations), limits.TxChanges)
    ∷ (nat_lt most_changes (sum_by changes_in_form earlier + length operations), limits.Changes)
    ∷ (nat_lt most_work (work_of (earlier ++ TxLine site operations ∷ [])), limits.Work) ∷ []
limits_of_form earlier (EventLine event) =
    (nat_lt most_work (work_of (earlier ++ EventLine event ∷ [])), limits.Work) ∷ []

-- the first limit that the line with this number exceeds
abbrev pub limit_passed : (earlier : List Form) → (number : ℕ) → Form → Option Limit
limit_passed earlier number form =
    option_map (λ judged. judged.1) (find (λ judged. judged.0) ((nat_lt most_lines number, limits.Lines) ∷ limits_of_form earlier form))

-- the refusal of a line by its number and the reason
abbrev pub bad_line : (number : ℕ) → ScriptKind → BadLine
bad_line number kind = record { line = number; kind = kind }

-- the refusal of a line, if it is refused, given its meaning and the forms of the lines before it
abbrev pub refusal_of_line : (earlier : List Form) → (number : ℕ) → LineMeaning → Option BadLine
refusal_of_line earlier number Wrong = Some (bad_line number kinds.Syntax)
refusal_of_line earlier number Skipped = if nat_lt most_lines number then Some (bad_line number (kinds.Limit limits.Lines)) else None
refusal_of_line earlier number (Says form) =
    if is_misplaced earlier form then Some (bad_line number kinds.Setup)
    else option_map (λ limit. bad_line number (kinds.Limit limit)) (limit_passed earlier number form)

-- the form of a line, if it has one
abbrev pub form_in : LineMeaning → Option Form
form_in Wrong = None
form_in Skipped = None
form_in (Says form) = Some form

-- the refusals of all refused lines, in order; each line is judged after those before it
abbrev pub refused_lines : List LineMeaning → List BadLine
refused_lines readings =
    filter_map (λ numbered. refusal_of_line (filter_map form_in (take numbered.0 readings)) (numbered.0 + 1) numbered.1)
    (enumerate_from 0 readings)

-- the number of the table with this name, counted from 1; 0 if no table has it
abbrev pub table_number : List Schema → (name : List ℕ) → ℕ
table_number tables name = option_map_or (λ place. place + 1) (position (is_named name) tables) 0

-- the row of an operation: the key, and then the values; a `del` has none
abbrev pub row_for : Op → (key : ℕ) → List Value → Option Row
row_for Ins key others = Some (record { values = values.Num key ∷ others })
row_for Upd key others = Some (record { values = values.Num key ∷ others })
row_for Put key others = Some (record { values = values.Num key ∷ others })
row_for Del key others = None

-- an operation as an event has it, with its table by number
abbrev pub client_op : List Schema → Operation → ClientOp
client_op tables operation = record {
  op = operation.op;
  table = table_number tables operation.table;
  key = operation.key;
  row = row_for operation.op operation.key operation.values;
}

-- the event of a form over these tables, if the form is an event
abbrev pub event_in : List Schema → Form → Option Event
event_in tables (SiteLine site groups replicas limit) = None
event_in tables (TableLine name columns) = None
event_in tables (TxLine site operations) = Some (events.Tx site (map (client_op tables) operations))
event_in tables (EventLine event) = Some event

-- the setup of a site for which no line gives one
abbrev pub default_site : SiteSetup
default_site = record { groups = 1; replicas = 1; limit = default_limit }

-- the setup that these forms give: the setup of site A and the tables; that of site B and the mode
-- are fixed
abbrev pub setup_of : List Form → Setup
setup_of forms = record {
  mode = EpochTrans;
  a = option_map_or (λ shape. shape) (first_of (filter_map shape_in forms)) default_site;
  b = default_site;
  tables = tables_in forms;
}

-- the event of a line with the line's number, if the line has one
abbrev pub lined_event : List Schema → (number : ℕ) → LineMeaning → Option LinedEvent
lined_event tables number reading =
    option_map (λ event. record { line = number; event = event }) (option_and_then (event_in tables) (form_in reading))

-- the events of these lines, in order, over these tables
abbrev pub events_of : List Schema → List LineMeaning → List LinedEvent
events_of tables readings = filter_map (λ numbered. lined_event tables (numbered.0 + 1) numbered.1) (enumerate_from 0 readings)

-- the script that these lines give if none is refused
abbrev pub script_in : List LineMeaning → Script
script_in readings =
    let setup = setup_of (filter_map form_in readings) in record { setup = setup; events = events_of setup.tables readings }

-- the script that these lines give, or the refusal of the first refused line
unfoldable pub script_of_readings : List LineMeaning → Result Script BadLine
script_of_readings readings = option_map_or (λ bad. Err bad) (first_of (refused_lines readings)) (Ok (script_in readings))

-- the script whose text these bytes are, or its first bad line; line 0 if the text is too long
unfoldable pub script_of : List ℕ → Result Script BadLine
script_of bytes =
    if nat_lt most_bytes (length bytes) then Err (bad_line 0 (kinds.Limit limits.Bytes))
    else script_of_readings (map reading_of (lines_of bytes))
