-- A written rows event is read as its rows.
use Rattle.std.proofs.Common.{◌≡◌, ℕ, ◌+◌, ◌-◌, ◌*◌, ◌%◌, ◌^◌, ◌<◌, ◌≤◌, true, false, List, [], ◌∷◌, ◌++◌, length, get_or, refl, sym, ap, ◌∙◌, arith, inl, inr, append_assoc, length-append}
use Rattle.std.specs.Prelude.{◌==◌, nat_le, Bool, if◌then◌else◌, Option, Some, None}
use Rattle.std.proofs.lemmas.Bool.{le-leb, lt-leb, cases_lt}
use Rattle.std.proofs.lemmas.Bool.Decides.{nat_tests}
use Rattle.std.specs.List.{AllByRecursion}
use Rattle.std.proofs.Math.Nat.{pow-le-pow_right, mod-eq_of_lt}
use Rattle.std.proofs.lemmas.List.{append-nil, length-replicate}
use Rattle.std.proofs.lemmas.List.Elements.{recursion_from_All}
use Rattle.byteorder.specs.Endian.{little_bytes, little_from}
use Rattle.byteorder.specs.Numbers.{little_number-reads_back, length-bytes_low_first}
use Rattle.byteorder.proofs.Bytes.{pow256}
use Rattle.rb_base.specs.Length.{length_bytes}
use Rattle.rb_base.specs.declared.faults.Field.TheVariants as fields
use Rattle.rb_base.specs.declared.schema.Column.{Column}
use Rattle.rb_base.specs.declared.schema.Column.TheVariants as columns
use Rattle.rb_base.specs.declared.schema.Mapped.{Mapped}
use Rattle.rb_base.specs.declared.row.Value.{Value}
use Rattle.rb_base.specs.declared.row.Value.TheVariants as values
use Rattle.rb_base.specs.declared.row.Row.{Row}
use Rattle.rb_base.specs.declared.change.Kind.{Kind}
use Rattle.rb_base.specs.declared.change.Kind.TheVariants.{Insert, Update, Remove}
use Rattle.rb_base.specs.declared.change.Change.{Change}
use Rattle.rb_base.specs.declared.epoch.Epoch.{Epoch}
use Rattle.rb_base.specs.declared.body.EpochBody.{EpochBody}
use Rattle.rb_log_defs.specs.Event.{zeros}
use Rattle.rb_log_defs.specs.Table.{bitmap_size, status_columns, status_table}
use Rattle.rb_log_defs.specs.Rows.{text_bytes, value_bytes, values_bytes, row_image, images_of, present_bitmap, present_bitmaps, rows_payload, transid_extra, end_flag, ends_statement, change_payload, status_row, reflected_row, status_rows, status_payload}
use Rattle.rb_log_defs.specs.Fits.{FitsColumn, FitsColumns, FitsKind}
use Rattle.rb_log_defs.proofs.Bounds.{change_payload_is}
use Rattle.rb_read_defs.specs.Reading.{Read, ◌>>=◌, give, number}
use Rattle.rb_read_defs.specs.Events.{all_set, used_bits}
use Rattle.rb_read_defs.specs.Rows.{value_in, is_key, values_in, image, number_in, images, key_of, many, transid_in, present, presents, rows_head, changes, statuses}
use Rattle.rb_read_defs.specs.Readable.{IsColumn, IsValue, HasKey, HasValues, IsReadableTable, IsReadableChange, IsReflected, status_rows_of}
use Rattle.rb_read_defs.proofs.Fields.{Gives, Ends, gives_at_start, then_gives, then_ends, give_gives, made_gives, that_gives, bytes_give, number_gives, length_gives, one_ends, two_end}
use Rattle.rb_read_defs.proofs.EventsRead.{zeros_clear}

-- a value of a column
value_gives : (column : Column) (value : Value) → IsColumn column → FitsColumn column value → IsValue value → Gives (value_in column) (value_bytes column value) value
unfolding text_bytes
value_gives columns.Num (values.Num n) room fits small = made_gives (λ (n : ℕ). values.Num n) (number_gives 8 n (omega arith)) refl
value_gives columns.Long (values.Num n) room fits small = made_gives (λ (n : ℕ). values.Num n) (number_gives 4 n (omega arith)) refl
value_gives (columns.Text most) (values.Text text) room fits small =
    then_gives _ (that_gives fields.Length _ (le-leb (length text) most fits) (number_gives (if nat_le most 255 then 1 else 2) (length text) long))
    (made_gives (λ (text : List ℕ). values.Text text) (bytes_give (length text) text refl) refl)
  where
    long : length text < 256 ^ (if nat_le most 255 then 1 else 2)
    long = elim (cases_lt 255 most) [
      | inl two ↦ rw (lt-leb most 255 two) (omega arith)
      | inr one ↦ rw (le-leb most 255 one) (omega arith)
    ]
value_gives columns.Num (values.Text text) room fits small = absurd fits
value_gives columns.Long (values.Text text) room fits small = absurd fits
value_gives (columns.Text most) (values.Num n) room fits small = absurd fits

-- the first value of a row passes the test of its key
IsFirst : Option ℕ → List Value → Type 0
IsFirst key [] = Unit {0}
IsFirst key (value ∷ values) = is_key key value ≡ true

no_key : (values : List Value) → IsFirst None values
unfolding IsFirst
no_key [] = tt
no_key (value ∷ values) = refl

-- the values of a row
values_give : (columns : List Column) (values : List Value) (key : Option ℕ) → AllByRecursion IsColumn columns → FitsColumns columns values → AllByRecursion IsValue values → IsFirst key values →
    Gives (values_in columns key) (values_bytes columns values) values
unfolding IsFirst
values_give [] [] key room fits small first = give_gives []
values_give (column ∷ columns) (value ∷ values) key room fits small first =
    then_gives _ (that_gives fields.Key (is_key key) first (value_gives column value room.0 fits.0 small.0))
    (made_gives (λ (values : List Value). value ∷ values) (values_give columns values None room.1 fits.1 small.1 (no_key values)) refl)
values_give [] (value ∷ values) key room fits small first = absurd fits
values_give (column ∷ columns) [] key room fits small first = absurd fits

-- the image of a row
image_gives : (columns : List Column) (row : Row) (key : Option ℕ) → AllByRecursion IsColumn columns → FitsColumns columns row.values → AllByRecursion IsValue row.values → IsFirst key row.values →
    Gives (image columns key) (row_image columns row) row
unfolding image row_image
image_gives columns row key room fits small first =
    then_gives _ (that_gives fields.Null _ (zeros_clear (length columns) (bitmap_size (length columns))) (bytes_give (bitmap_size (length columns)) (zeros (bitmap_size (length columns))) (length-replicate (bitmap_size (length columns)) 0)))
    (made_gives (λ (values : List Value). record { values = values }) (values_give columns row.values key room fits small first) refl)

image_some : (columns : List Column) (row : Row) → 0 < length columns → 0 < length (row_image columns row)
unfolding row_image
image_some columns row some =
    let l = length-append (zeros (bitmap_size (length columns))) (values_bytes columns row.values) in
    let z : length (zeros (bitmap_size (length columns))) ≡ bitmap_size (length columns) = length-replicate (bitmap_size (length columns)) 0 in
    omega arith

-- the key of a row whose first column is a number
key_there : (rest : List Column) (values : List Value) (key : ℕ) → FitsColumns (columns.Num ∷ rest) values → number_in (record { values = values }) 0 ≡ key → IsFirst (Some key) values
unfolding IsFirst
key_there rest [] key fits is = absurd fits
key_there rest (values.Num n ∷ values) key fits is = let same : n ≡ key = is in grind (arith, nat_tests)
key_there rest (values.Text text ∷ values) key fits is = absurd fits.0

-- the row images of a change
images_give : (kind : Kind) (rest : List Column) (before after : Option Row) (key : ℕ) → AllByRecursion IsColumn (columns.Num ∷ rest) → FitsKind kind (columns.Num ∷ rest) before after →
    HasValues before → HasValues after → HasKey key before → HasKey key after → Gives (images kind (columns.Num ∷ rest)) (images_of kind (columns.Num ∷ rest) before after) (before, after)
images_give Insert rest None (Some row) key room fits earlier later key_before key_after =
    made_gives (λ (after : Row). (None, Some after)) (image_gives (columns.Num ∷ rest) row None room fits.1 (recursion_from_All IsValue row.values later) (no_key row.values)) refl
images_give Update rest (Some old) (Some new) key room fits earlier later key_before key_after =
    then_gives _ (image_gives (columns.Num ∷ rest) old None room fits.0 (recursion_from_All IsValue old.values earlier) (no_key old.values))
    (made_gives (λ (after : Row). (Some old, Some after)) (image_gives (columns.Num ∷ rest) new (Some (number_in old 0)) room fits.1 (recursion_from_All IsValue new.values later) (key_there rest new.values (number_in old 0) fits.1 (key_after ∙ sym key_before))) refl)
images_give Remove rest (Some row) None key room fits earlier later key_before key_after =
    made_gives (λ (before : Row). (Some before, None)) (image_gives (columns.Num ∷ rest) row None room fits.0 (recursion_from_All IsValue row.values earlier) (no_key row.values)) refl
images_give Insert rest None None key room fits earlier later key_before key_after = absurd fits.1
images_give Insert rest (Some row) after key room fits earlier later key_before key_after = absurd (let no : true ≡ false = fits.0 in cc)
images_give Update rest None after key room fits earlier later key_before key_after = absurd fits.0
images_give Update rest (Some row) None key room fits earlier later key_before key_after = absurd fits.1
images_give Remove rest None after key room fits earlier later key_before key_after = absurd fits.0
images_give Remove rest (Some row) (Some new) key room fits earlier later key_before key_after = absurd (let no : true ≡ false = fits.1 in cc)

-- a present bitmap in which all columns are present is accepted
present_set : (columns : ℕ) → all_set columns (present_bitmap columns) ≡ true
present_set columns =
    let size : ℕ = bitmap_size columns in
    let long : length (present_bitmap columns) ≡ size = length-bytes_low_first 0 size (2 ^ columns - 1) in
    let wide : 2 ^ columns ≤ 2 ^ (8 * size) = pow-le-pow_right {n = 2} (omega arith) {i = columns} {j = 8 * size} (omega arith) in
    let one : 2 ^ 0 ≤ 2 ^ columns = pow-le-pow_right {n = 2} (omega arith) {i = 0} {j = columns} (omega arith) in
    let room : 2 ^ columns - 1 < 256 ^ size = rw (pow256 size) (omega arith) in
    let whole : little_from 0 size (present_bitmap columns) ≡ 2 ^ columns - 1 = ap (little_from 0 size) (sym (append-nil (present_bitmap columns))) ∙ little_number-reads_back size (2 ^ columns - 1) [] room in
    let used : used_bits columns (present_bitmap columns) ≡ 2 ^ columns - 1 =
    ap (λ (n : ℕ). little_from 0 n (present_bitmap columns) % 2 ^ columns) long ∙ ap (λ (n : ℕ). n % 2 ^ columns) whole ∙ mod-eq_of_lt (omega arith) in
    rw used (let same : (2 ^ columns - 1 == 2 ^ columns - 1) ≡ true = grind (arith, nat_tests) in same)

present_gives : (columns : ℕ) → Gives (present columns) (present_bitmap columns) (present_bitmap columns)
present_gives columns = that_gives fields.Present (all_set columns) (present_set columns) (bytes_give (bitmap_size columns) (present_bitmap columns) (length-bytes_low_first 0 (bitmap_size columns) (2 ^ columns - 1)))

presents_give : (kind : Kind) (columns : ℕ) → Gives (presents kind columns) (present_bitmaps kind columns) (present_bitmap columns)
presents_give Insert columns = present_gives columns
presents_give Update columns = then_gives (λ before. present columns) (present_gives columns) (present_gives columns)
presents_give Remove columns = present_gives columns

-- the part of the payload before the rows
head_bytes : (table flags : ℕ) (extra : List ℕ) (columns : ℕ) (present : List ℕ) → List ℕ
head_bytes table flags extra columns present = little_bytes 6 table ++ (little_bytes 2 flags ++ (little_bytes 2 (2 + length extra) ++ (extra ++ (length_bytes columns ++ present))))

payload_parts : (table flags : ℕ) (extra : List ℕ) (columns : ℕ) (present rows : List ℕ) → rows_payload table flags extra columns present rows ≡ head_bytes table flags extra columns present ++ rows
unfolding rows_payload head_bytes
payload_parts table flags extra columns present rows =
    let inner : extra ++ (length_bytes columns ++ (present ++ rows)) ≡ (extra ++ (length_bytes columns ++ present)) ++ rows =
    ap (λ (xs : List ℕ). extra ++ xs) (sym (append_assoc (length_bytes columns) present rows)) ∙ sym (append_assoc extra (length_bytes columns ++ present) rows) in
    ap (λ (xs : List ℕ). little_bytes 6 table ++ (little_bytes 2 flags ++ (little_bytes 2 (2 + length extra) ++ xs))) inner

head_gives : (kind : Kind) (table : Mapped) (flags : ℕ) (extra : List ℕ) → table.id < 65536 → length table.columns ≤ 64 → flags < 2 ^ 16 → length extra < 1000 →
    Gives (rows_head kind table) (head_bytes table.id flags extra (length table.columns) (present_bitmaps kind (length table.columns))) (transid_in extra)
unfolding rows_head head_bytes
head_gives kind table flags extra id few two short =
    let size : 2 + length extra - 2 ≡ length extra = omega arith in
    then_gives _ (that_gives fields.TableId _ (let same : (table.id == table.id) ≡ true = grind (arith, nat_tests) in same) (number_gives 6 table.id (omega arith)))
    (then_gives _ (number_gives 2 flags (omega arith))
    (then_gives _ (that_gives fields.Extra _ (le-leb 2 (2 + length extra) (omega arith)) (number_gives 2 (2 + length extra) (omega arith)))
    (then_gives _ (bytes_give (2 + length extra - 2) extra (sym size))
    (then_gives _ (that_gives fields.Width _ (let same : (length table.columns == length table.columns) ≡ true = grind (arith, nat_tests) in same) (length_gives fields.Width (length table.columns) (omega arith)))
    (made_gives _ (presents_give kind (length table.columns)) refl)))))

-- the transaction's number in the extra data
transid_back : (transid : ℕ) → transid < 2 ^ 64 → transid_in (transid_extra transid) ≡ transid
transid_back transid small = little_number-reads_back 8 transid [] (omega arith)

images_some : (kind : Kind) (columns : List Column) (before after : Option Row) → FitsKind kind columns before after → 0 < length columns → 0 < length (images_of kind columns before after)
images_some Insert columns before None fits some = absurd fits.1
images_some Insert columns before (Some row) fits some = image_some columns row some
images_some Update columns None after fits some = absurd fits.0
images_some Update columns (Some old) None fits some = absurd fits.1
images_some Update columns (Some old) (Some new) fits some =
    let l = length-append (row_image columns old) (row_image columns new) in
    let first = image_some columns old some in
    omega arith
images_some Remove columns None after fits some = absurd fits.0
images_some Remove columns (Some row) after fits some = image_some columns row some

-- the key in the row images of a change
key_back : (kind : Kind) (columns : List Column) (before after : Option Row) (key : ℕ) → FitsKind kind columns before after → HasKey key before → HasKey key after → key_of (before, after) ≡ key
key_back kind columns (Some old) after key fits earlier later = earlier
key_back kind columns None (Some new) key fits earlier later = later
key_back Insert columns None None key fits earlier later = absurd fits.1
key_back Update columns None None key fits earlier later = absurd fits.0
key_back Remove columns None None key fits earlier later = absurd fits.0

-- the rows event of a change of a table whose first column is a number
pub changes_end : (table : Mapped) (server flags : ℕ) (change : Change) (rest : List Column) → table.columns ≡ columns.Num ∷ rest → AllByRecursion IsColumn table.columns → table.id < 65536 → length table.columns ≤ 64 →
    IsReadableChange server table.columns change → change.table ≡ table.id → flags < 2 ^ 16 → Ends (changes change.kind server table) (change_payload table.columns change flags) (change ∷ [])
unfolding changes
changes_end table server flags change rest first room id few readable same two =
    let read : Gives (images change.kind table.columns) (images_of change.kind table.columns change.before change.after) (change.before, change.after) =
    rw first (images_give change.kind rest change.before change.after change.key (rw first at room) (rw first at readable.fits) readable.before readable.after readable.key_before readable.key_after) in
    let some : 0 < length table.columns = rw first (omega arith) in
    let made : ◌≡◌ {A = Change} (record { table = table.id; key = key_of (change.before, change.after); kind = change.kind; before = change.before; after = change.after; author = server; transid = transid_in (transid_extra change.transid) }) change =
    rw (← same, key_back change.kind table.columns change.before change.after change.key readable.fits readable.key_before readable.key_after, ← readable.author, transid_back change.transid readable.transid) refl in
    let rows : List ℕ = images_of change.kind table.columns change.before change.after in
    let whole : rows_payload change.table flags (transid_extra change.transid) (length table.columns) (present_bitmaps change.kind (length table.columns)) rows ≡ head_bytes table.id flags (transid_extra change.transid) (length table.columns) (present_bitmaps change.kind (length table.columns)) ++ rows =
    payload_parts change.table flags (transid_extra change.transid) (length table.columns) (present_bitmaps change.kind (length table.columns)) rows
    ∙ ap (λ (id : ℕ). head_bytes id flags (transid_extra change.transid) (length table.columns) (present_bitmaps change.kind (length table.columns)) ++ rows) same in
    rw (change_payload_is table.columns change flags, whole)
    (then_ends _ (head_gives change.kind table flags (transid_extra change.transid) id few two (omega arith))
    (one_ends (made_gives _ read made) (images_some change.kind table.columns change.before change.after readable.fits some)))

-- the apply-status rows
status_image : (server epoch : ℕ) → server < 2 ^ 32 → epoch < 2 ^ 64 → Gives (image status_columns None) (row_image status_columns (status_row server epoch)) (status_row server epoch)
status_image server epoch one two =
    image_gives status_columns (status_row server epoch) None (tt, (tt, (omega arith, (tt, (tt, tt))))) (one, (tt, (omega arith, (tt, (tt, tt))))) (omega arith, (two, (tt, (omega arith, (omega arith, tt))))) (no_key (status_row server epoch).values)

pub end_flag_small : (last : Bool) → end_flag last < 2 ^ 16
end_flag_small true = omega arith
end_flag_small false = omega arith

pub statuses_end : (body : EpochBody) → body.server < 2 ^ 32 → body.epoch.0 < 2 ^ 64 → IsReflected body.reflected → Ends (statuses status_table) (status_payload body) (status_rows_of body)
unfolding statuses status_payload
statuses_end body server epoch reflected =
    rw (payload_parts 0 (end_flag (ends_statement body.changes)) [] (length status_columns) (present_bitmap (length status_columns)) (status_rows body))
    (then_ends _ (head_gives Insert status_table (end_flag (ends_statement body.changes)) [] (omega arith) (omega arith) (end_flag_small (ends_statement body.changes)) (omega arith)) (by_reflected body.reflected reflected))
  where
    by_reflected : (other : Option Epoch) → IsReflected other →
        Ends (many (image status_columns None >>= (λ row. give (record { server = number_in row 0; epoch = record { 0 = number_in row 1 } }))))
        (row_image status_columns (status_row body.server body.epoch.0) ++ reflected_row other) (status_rows_of (record { server = body.server; epoch = body.epoch; reflected = other; tables = []; changes = [] }))
    by_reflected None small = rw (append-nil (row_image status_columns (status_row body.server body.epoch.0))) (one_ends (made_gives _ (status_image body.server body.epoch.0 server epoch) refl) (image_some status_columns (status_row body.server body.epoch.0) (omega arith)))
    by_reflected (Some other) small =
        two_end (made_gives _ (status_image body.server body.epoch.0 server epoch) refl) (image_some status_columns (status_row body.server body.epoch.0) (omega arith))
        (made_gives _ (status_image 1 other.0 (omega arith) small) refl) (image_some status_columns (status_row 1 other.0) (omega arith))

-- the first column of a data table is a number
pub key_first : (all : List Column) → get_or all 0 columns.Long ≡ columns.Num → (rest : List Column) × (all ≡ columns.Num ∷ rest)
key_first [] key = absurd (let no : columns.Long ≡ columns.Num = key in cc)
key_first (column ∷ rest) key = (rest, ap (λ (first : Column). first ∷ rest) key)

-- the rows event of a change of a data table
pub change_ends : (table : Mapped) (server flags : ℕ) (change : Change) → IsReadableTable table → IsReadableChange server table.columns change → change.table ≡ table.id → flags < 2 ^ 16 →
    Ends (changes change.kind server table) (change_payload table.columns change flags) (change ∷ [])
change_ends table server flags change readable fits same two =
    let (rest, first) = key_first table.columns readable.key in
    changes_end table server flags change rest first (recursion_from_All IsColumn table.columns readable.columns) readable.id readable.mapped.few fits same two

-- a rows event begins with the id of its table
pub table_first : (table flags : ℕ) (extra : List ℕ) (columns : ℕ) (present rows : List ℕ) → table < 2 ^ 48 → number 6 (rows_payload table flags extra columns present rows) 0 ≡ Read table 6
unfolding rows_payload
table_first table flags extra columns present rows small =
    gives_at_start (number_gives 6 table (omega arith)) (little_bytes 2 flags ++ (little_bytes 2 (2 + length extra) ++ (extra ++ (length_bytes columns ++ (present ++ rows)))))

pub change_table_first : (columns : List Column) (change : Change) (flags : ℕ) → change.table < 2 ^ 48 → number 6 (change_payload columns change flags) 0 ≡ Read change.table 6
change_table_first columns change flags small =
    rw (change_payload_is columns change flags)
    (table_first change.table flags (transid_extra change.transid) (length columns) (present_bitmaps change.kind (length columns)) (images_of change.kind columns change.before change.after) small)

pub status_table_first : (body : EpochBody) → number 6 (status_payload body) 0 ≡ Read 0 6
unfolding status_payload
status_table_first body = table_first 0 (end_flag (ends_statement body.changes)) [] (length status_columns) (present_bitmap (length status_columns)) (status_rows body) (omega arith)
