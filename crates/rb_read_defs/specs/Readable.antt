-- What is read as it was written: tables, changes and epochs that have room in the fields of the
-- log and a form that a reader accepts.
use Rattle.std.specs.Prelude.{◌≡◌, ◌<◌, ◌≤◌, ◌+◌, ◌^◌, ℕ, false, List, [], ◌∷◌, ◌++◌, length, map, get_or, All, Option, Some, None, IsNone}
use Rattle.rb_base.specs.declared.schema.Column.{Column}
use Rattle.rb_base.specs.declared.schema.Column.TheVariants as columns
use Rattle.rb_base.specs.declared.schema.Mapped.{Mapped}
use Rattle.rb_base.specs.declared.row.Value.{Value}
use Rattle.rb_base.specs.declared.row.Value.TheVariants as values
use Rattle.rb_base.specs.declared.row.Row.{Row}
use Rattle.rb_base.specs.declared.change.Change.{Change}
use Rattle.rb_base.specs.declared.epoch.Epoch.{Epoch}
use Rattle.rb_base.specs.declared.body.EpochBody.{EpochBody}
use Rattle.rb_log_defs.specs.Table.{columns_of}
use Rattle.rb_log_defs.specs.Epoch.{epoch_events, epoch_bytes}
use Rattle.rb_log_defs.specs.Fits.{CanBeMapped, Fits}
use Rattle.rb_read_defs.specs.Events.{is_status}
use Rattle.rb_read_defs.specs.Rows.{number_in}
use Rattle.rb_read_defs.specs.Stream.{Known, cuts, is_open, is_rotated, seen_from, tables_named, steps_of, settled_at}
use Rattle.rb_read_defs.specs.declared.answers.StatusRow.{StatusRow}
use Rattle.rb_read_defs.specs.declared.answers.Step.TheVariants.{Epoch as EpochStep}

-- a column whose maximum length, if it has one, has room in the metadata
abbrev pub IsColumn : Column → Type 0
IsColumn columns.Num = Unit {0}
IsColumn columns.Long = Unit {0}
IsColumn (columns.Text most) = most < 65536

-- a data table: a table other than mysql.ndb_apply_status that a table map event can name and whose
-- first column is the key
pub record IsReadableTable (table : Mapped) : Type 0 where
  pub mapped : CanBeMapped table
  pub id : table.id < 65536
  pub data_table : is_status table.schema table.name ≡ false
  pub key : get_or table.columns 0 columns.Long ≡ columns.Num
  pub columns : All IsColumn table.columns

-- a text, or a number of 64 bits
abbrev pub IsValue : Value → Type 0
IsValue (values.Num n) = n < 2 ^ 64
IsValue (values.Text text) = Unit {0}

-- a row image, if there is one, has this key
abbrev pub HasKey : (key : ℕ) → Option Row → Type 0
HasKey key None = Unit {0}
HasKey key (Some row) = number_in row 0 ≡ key

-- the values of a row image, if there is one, have room in their fields
abbrev pub HasValues : Option Row → Type 0
HasValues None = Unit {0}
HasValues (Some row) = All IsValue row.values

-- a change of a data table by the server that writes it, with the change's key in each row image
pub record IsReadableChange (server : ℕ) (columns : List Column) (change : Change) : Type 0 where
  pub fits : Fits columns change
  pub before : HasValues change.before
  pub after : HasValues change.after
  pub key_before : HasKey change.key change.before
  pub key_after : HasKey change.key change.after
  pub author : change.author ≡ server
  pub transid : change.transid < 2 ^ 64

-- the reflected epoch, if there is one, has 64 bits
abbrev pub IsReflected : Option Epoch → Type 0
IsReflected None = Unit {0}
IsReflected (Some epoch) = epoch.0 < 2 ^ 64

-- the apply-status rows of an epoch as they are read: the row of its own server, and a row of
-- server 1 if the epoch reflects one of that server's epochs
abbrev pub status_rows_of : EpochBody → List StatusRow
status_rows_of body = record { server = body.server; epoch = body.epoch } ∷ reflected body.reflected
  where
    reflected : Option Epoch → List StatusRow
    reflected None = []
    reflected (Some epoch) = record { server = 1; epoch = epoch } ∷ []

-- an epoch that is read as it was written: its numbers have room; server 1 reflects no epoch; its
-- tables are those that its changes name, in the order of their ids, without id 0, the apply-status
-- table's; each change fits its table; and no event is longer than a reader accepts
pub record IsReadable (body : EpochBody) : Type 0 where
  pub server : body.server < 2 ^ 32
  pub epoch : body.epoch.0 < 2 ^ 64
  pub reflected : IsReflected body.reflected
  pub own : body.server ≡ 1 → IsNone body.reflected
  pub named : map (λ table. table.id) body.tables ≡ tables_named body.changes
  pub tables : All IsReadableTable body.tables
  pub above : All (λ table. 0 < table.id) body.tables
  pub changes : All (λ change. IsReadableChange body.server (columns_of body.tables change.table) change) body.changes
  pub sizes : All (λ event. length (event 0) ≤ 2147483647) (epoch_events body)

-- an epoch that starts at this position is read as it was written, after these earlier events: its
-- bytes give events whose only step is this epoch and after which no epoch is open; the bytes after
-- it are read as if they stood alone
pub record IsReadBack (body : EpochBody) (start : ℕ) (earlier : List Known) : Type 0 where
  pub events : List Known
  pub steps : steps_of (events ++ earlier) ≡ steps_of earlier ++ EpochStep body (start + length (epoch_bytes body start)) ∷ []
  pub closed : is_open (events ++ earlier) ≡ false
  pub goes_on : is_rotated (events ++ earlier) ≡ false
  pub settled : (first : ℕ) → settled_at first (events ++ earlier) ≡ start + length (epoch_bytes body start)
  pub seen : (more : List ℕ) → seen_from earlier (cuts start (epoch_bytes body start ++ more)) ≡ seen_from (events ++ earlier) (cuts (start + length (epoch_bytes body start)) more)
