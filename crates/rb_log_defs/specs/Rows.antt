-- WRITE_ROWS, UPDATE_ROWS and DELETE_ROWS events, version 2, as in the binlog format. The extra
-- data, which carries the transaction's number, is this project's own.
use Rattle.std.specs.Prelude.{ℕ, ◌+◌, ◌-◌, ◌^◌, nat_le, Bool, true, false, if◌then◌else◌, List, [], ◌∷◌, ◌++◌, length, Option, Some, None}
use Rattle.std.specs.List.{flat_map, zip}
use Rattle.byteorder.specs.Endian.{little_bytes}
use Rattle.rb_base.specs.Length.{length_bytes}
use Rattle.rb_base.specs.declared.schema.Column.{Column}
use Rattle.rb_base.specs.declared.schema.Column.TheVariants as columns
use Rattle.rb_base.specs.declared.row.Value.{Value}
use Rattle.rb_base.specs.declared.row.Value.TheVariants as values
use Rattle.rb_base.specs.declared.row.Row.{Row}
use Rattle.rb_base.specs.declared.change.Kind.{Kind}
use Rattle.rb_base.specs.declared.change.Kind.TheVariants.{Insert, Update, Remove}
use Rattle.rb_base.specs.declared.change.Change.{Change}
use Rattle.rb_base.specs.declared.epoch.Epoch.{Epoch}
use Rattle.rb_base.specs.declared.body.EpochBody.{EpochBody}
use Rattle.rb_log_defs.specs.Types.{write_rows_type, update_rows_type, delete_rows_type}
use Rattle.rb_log_defs.specs.Event.{Placed, zeros, event_bytes}
use Rattle.rb_log_defs.specs.Table.{bitmap_size, status_columns}

-- a text after its length, which takes 1 byte if the column's maximum is at most 255 and otherwise
-- 2
unfoldable pub text_bytes : (most : ℕ) → List ℕ → List ℕ
text_bytes most text = little_bytes (if nat_le most 255 then 1 else 2) (length text) ++ text

-- the bytes of a value in a column of its type
abbrev pub value_bytes : Column → Value → List ℕ
value_bytes columns.Num (values.Num n) = little_bytes 8 n
value_bytes columns.Long (values.Num n) = little_bytes 4 n
value_bytes (columns.Text most) (values.Text text) = text_bytes most text
value_bytes columns.Num (values.Text text) = []
value_bytes columns.Long (values.Text text) = []
value_bytes (columns.Text most) (values.Num n) = []

-- the values of a row, column by column
abbrev pub values_bytes : List Column → List Value → List ℕ
values_bytes columns values = flat_map (λ (pair : Column × Value). value_bytes pair.0 pair.1) (zip columns values)

-- a row image: a bitmap of the NULL values, which is all zero, and then the values
unfoldable pub row_image : List Column → Row → List ℕ
row_image columns row = zeros (bitmap_size (length columns)) ++ values_bytes columns row.values

-- the row image of a row, or no bytes if there is no row
abbrev pub image_of : List Column → Option Row → List ℕ
image_of columns None = []
image_of columns (Some row) = row_image columns row

-- the row images of a change: the after image of an insert, the before image of a remove, and both
-- of an update
abbrev pub images_of : Kind → List Column → (before after : Option Row) → List ℕ
images_of Insert columns before after = image_of columns after
images_of Update columns before after = image_of columns before ++ image_of columns after
images_of Remove columns before after = image_of columns before

-- a bitmap in which every column is present
abbrev pub present_bitmap : (columns : ℕ) → List ℕ
present_bitmap columns = little_bytes (bitmap_size columns) (2 ^ columns - 1)

-- the present bitmaps of a rows event: one for each row image, so an update has two
abbrev pub present_bitmaps : Kind → (columns : ℕ) → List ℕ
present_bitmaps Insert columns = present_bitmap columns
present_bitmaps Update columns = present_bitmap columns ++ present_bitmap columns
present_bitmaps Remove columns = present_bitmap columns

-- the payload of a rows event: table id, flags, the extra data after its length, number of columns,
-- present bitmaps, row images
unfoldable pub rows_payload : (table flags : ℕ) (extra : List ℕ) (columns : ℕ) (present rows : List ℕ) → List ℕ
rows_payload table flags extra columns present rows =
    little_bytes 6 table ++ (little_bytes 2 flags ++ (little_bytes 2 (2 + length extra) ++ (extra
    ++ (length_bytes columns ++ (present ++ rows)))))

-- the event type of each kind of change
abbrev pub rows_type : Kind → ℕ
rows_type Insert = write_rows_type
rows_type Update = update_rows_type
rows_type Remove = delete_rows_type

-- the flags of a rows event: STMT_END_F if the event ends its statement
abbrev pub end_flag : (last : Bool) → ℕ
end_flag last = if last then 1 else 0

-- a rows event ends its statement if no change follows it
abbrev pub ends_statement : (later : List Change) → Bool
ends_statement [] = true
ends_statement (change ∷ later) = false

-- the extra data of a change's rows event: the byte `52` and the transaction's number
abbrev pub transid_extra : ℕ → List ℕ
transid_extra transid = 82 ∷ little_bytes 8 transid

-- the payload of the rows event of these changes of a table, which have the same kind and
-- transaction; their row images follow each other
abbrev pub rows_written : (table : ℕ) → List Column → List Change → (flags : ℕ) → List ℕ
rows_written table columns [] flags = []
rows_written table columns (first ∷ later) flags =
    rows_payload table flags (transid_extra first.transid) (length columns) (present_bitmaps first.kind (length columns))
    (flat_map (λ (change : Change). images_of change.kind columns change.before change.after) (first ∷ later))

-- the payload of the rows event of one change
unfoldable pub change_payload : List Column → Change → (flags : ℕ) → List ℕ
change_payload columns change flags = rows_written change.table columns (change ∷ []) flags

-- the rows event of one change
abbrev pub change_event : (server : ℕ) → List Column → Change → (flags : ℕ) → Placed
change_event server columns change flags = event_bytes (rows_type change.kind) server (change_payload columns change flags)

-- a row of mysql.ndb_apply_status: a server id, and the last epoch of that server whose rows are
-- applied
abbrev pub status_row : (server epoch : ℕ) → Row
status_row server epoch =
    record { values = values.Num server ∷ values.Num epoch ∷ values.Text [] ∷ values.Num 0 ∷ values.Num 0 ∷ [] }

-- the apply-status row of the primary, in an epoch that reflects one of the primary's epochs
abbrev pub reflected_row : Option Epoch → List ℕ
reflected_row None = []
reflected_row (Some epoch) = row_image status_columns (status_row 1 epoch.0)

-- the apply-status rows of an epoch: the site's own row, and then the row of the reflected epoch
abbrev pub status_rows : EpochBody → List ℕ
status_rows body = row_image status_columns (status_row body.server body.epoch.0) ++ reflected_row body.reflected

-- the payload of the rows event of the apply-status rows of an epoch
abbrev pub status_written : EpochBody → (flags : ℕ) → List ℕ
status_written body flags = rows_payload 0 flags [] (length status_columns) (present_bitmap (length status_columns)) (status_rows body)

-- that payload in its epoch: it ends the statement if the epoch has no change
unfoldable pub status_payload : EpochBody → List ℕ
status_payload body = status_written body (end_flag (ends_statement body.changes))

-- the rows event of the apply-status rows, which is a write
abbrev pub status_event : EpochBody → Placed
status_event body = event_bytes write_rows_type body.server (status_payload body)
