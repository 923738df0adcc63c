-- The row images of a rows event, and the values of a row image, column by column.
use Rattle.std.proofs.Common.{◌≡◌, ◌<◌, ◌≤◌, ◌+◌, ◌-◌, ◌^◌, ◌*◌, ℕ, Bool, zero, suc, List, [], ◌∷◌, ◌++◌, length, get_or, take, drop, refl, ap, sym, subst, ◌∙◌, append-nil, append_assoc, length-append, add-one, arith}
use Rattle.std.specs.Io.{StartsWith}
use Rattle.std.proofs.Math.Seq.{take-append_seam}
use Rattle.std.proofs.lemmas.List.{take-replicate, take-take, take-append-drop}
use Rattle.std.proofs.lemmas.Grind.{common_steps}
use Rattle.byteorder.specs.Numbers.{length-bytes_low_first}
use Rattle.rb_base.specs.Length.{length_bytes}
use Rattle.rb_base.specs.declared.schema.Mapped.{Mapped}
use Rattle.rb_base.specs.declared.change.Change.{Change}
use Rattle.byteorder.specs.Endian.{little_bytes}
use Rattle.byteorder.proofs.Bytes.{take-bytes_low_first}
use Rattle.rb_base.specs.declared.schema.Column.{Column}
use Rattle.rb_base.specs.declared.row.Value.{Value}
use Rattle.rb_log_defs.specs.Table.{bitmap_size}
use Rattle.rb_log_defs.specs.Event.{zeros}
use Rattle.rb_log_defs.specs.Rows.{value_bytes, values_bytes, images_of, present_bitmap, present_bitmaps, rows_payload, transid_extra, end_flag, rows_written}
use Rattle.rb_log_defs.specs.Fits.{FitsColumn, FitsColumns}

-- a row that fits has a value for each column
pub fits_same_length : (columns : List Column) (values : List Value) → FitsColumns columns values → length columns ≡ length values
fits_same_length [] [] fits = refl
fits_same_length [] (value ∷ values) fits = absurd fits
fits_same_length (column ∷ columns) [] fits = absurd fits
fits_same_length (column ∷ columns) (value ∷ values) fits = ap suc (fits_same_length columns values fits.1)

-- each value of a row that fits does fit its column
pub fits_at : (columns : List Column) (values : List Value) (i : ℕ) (column : Column) (value : Value) →
    i < length columns → FitsColumns columns values → FitsColumn (get_or columns i column) (get_or values i value)
fits_at [] values i column value inside fits = absurd (omega arith)
fits_at (first ∷ columns) [] i column value inside fits = absurd fits
fits_at (first ∷ columns) (head ∷ values) zero column value inside fits = fits.0
fits_at (first ∷ columns) (head ∷ values) (suc i) column value inside fits = fits_at columns values i column value (omega arith) fits.1

-- the bytes of the values from `i` on are those of the value `i` and of the values after it
pub values_at : (columns : List Column) (values : List Value) (i : ℕ) (column : Column) (value : Value) →
    i < length columns → FitsColumns columns values →
    values_bytes (drop i columns) (drop i values) ≡ value_bytes (get_or columns i column) (get_or values i value) ++ values_bytes (drop (suc i) columns) (drop (suc i) values)
values_at [] values i column value inside fits = absurd (omega arith)
values_at (first ∷ columns) [] i column value inside fits = absurd fits
values_at (first ∷ columns) (head ∷ values) zero column value inside fits = refl
values_at (first ∷ columns) (head ∷ values) (suc i) column value inside fits = values_at columns values i column value (omega arith) fits.1

-- the length of the values from `i` on is that of the value `i` and of the values after it
pub length_at : (columns : List Column) (values : List Value) (i : ℕ) (column : Column) (value : Value) →
    i < length columns → value ≡ get_or values i value → FitsColumns columns values →
    length (values_bytes (drop i columns) (drop i values)) ≡ length (value_bytes (get_or columns i column) value) + length (values_bytes (drop (i + 1) columns) (drop (i + 1) values))
length_at columns values i column value inside is fits =
    let step : values_bytes (drop i columns) (drop i values) ≡ value_bytes (get_or columns i column) value ++ values_bytes (drop (suc i) columns) (drop (suc i) values)
    = subst (λ (v : Value). values_bytes (drop i columns) (drop i values) ≡ value_bytes (get_or columns i column) v ++ values_bytes (drop (suc i) columns) (drop (suc i) values)) (sym is) (values_at columns values i column value inside fits) in
    rw (add-one, step) (length-append (value_bytes (get_or columns i column) value) (values_bytes (drop (suc i) columns) (drop (suc i) values)))

-- bytes that start with the later of two outputs start with the earlier one
pub still_starts : (old new later more : List ℕ) → later ≡ old ++ more → StartsWith new later → StartsWith new old
still_starts old new later more is starts =
    let whole : take (length (old ++ more)) new ≡ old ++ more = subst (λ (xs : List ℕ). StartsWith new xs) is starts in
    let few : length old ≤ length (old ++ more) = omega (arith, length-append old more) in
    sym (take-take (length old) (length (old ++ more)) new few) ∙ ap (take (length old)) whole ∙ take-append_seam old more

-- an output with more bytes after it starts with the same bytes
pub starts_more : (old later new more : List ℕ) → new ≡ later ++ more → StartsWith later old → StartsWith new old
starts_more old later new more is starts =
    let parts : later ≡ old ++ drop (length old) later = sym (take-append-drop (length old) later) ∙ ap (λ (xs : List ℕ). xs ++ drop (length old) later) starts in
    ap (take (length old)) (is ∙ ap (λ (xs : List ℕ). xs ++ more) parts ∙ append_assoc old (drop (length old) later) more) ∙ take-append_seam old (drop (length old) later ++ more)

-- the first bytes of 8 are a bitmap of at most 64 columns
pub bitmap_cut : (columns n : ℕ) → columns ≤ 64 → take (bitmap_size columns) (little_bytes 8 n) ≡ little_bytes (bitmap_size columns) n
bitmap_cut columns n few = take-bytes_low_first 0 8 (bitmap_size columns) n (omega arith)

-- the first bytes of 8 zero bytes are a null bitmap without NULL values
pub zeros_cut : (columns : ℕ) → columns ≤ 64 → take (bitmap_size columns) (zeros 8) ≡ zeros (bitmap_size columns)
zeros_cut columns few = let byte : ℕ = 0 in take-replicate (bitmap_size columns) 8 byte (omega arith)

pub bitmap_length : (columns : ℕ) → length (present_bitmap columns) ≡ bitmap_size columns
bitmap_length columns = length-bytes_low_first 0 (bitmap_size columns) (2 ^ columns - 1)

-- an update has two present bitmaps
pub two_bitmaps : (columns : ℕ) → length (present_bitmap columns ++ present_bitmap columns) ≡ 2 * bitmap_size columns
two_bitmaps columns = omega (arith, length-append (present_bitmap columns) (present_bitmap columns), bitmap_length columns)

-- the payload of one change
pub one_change : (table : Mapped) (changes : List Change) (change : Change) (last : Bool) → length changes ≡ 1 → change ≡ get_or changes 0 change →
    rows_written table.id table.columns changes (end_flag last) ≡ rows_payload table.id (end_flag last) (transid_extra change.transid) (length table.columns) (present_bitmaps change.kind (length table.columns)) (images_of change.kind table.columns change.before change.after)
one_change table [] change last one is = absurd (omega arith)
one_change table (first ∷ []) change last one is =
    subst (λ (c : Change). rows_written table.id table.columns (first ∷ []) (end_flag last) ≡ rows_payload table.id (end_flag last) (transid_extra c.transid) (length table.columns) (present_bitmaps c.kind (length table.columns)) (images_of c.kind table.columns c.before c.after)) (sym is)
    (ap (rows_payload table.id (end_flag last) (transid_extra first.transid) (length table.columns) (present_bitmaps first.kind (length table.columns))) (append-nil (images_of first.kind table.columns first.before first.after)))
one_change table (first ∷ second ∷ later) change last one is = absurd (omega arith)

-- the payload of one change is appended part by part
pub parts_appended : (table : Mapped) (changes : List Change) (change : Change) (last : Bool) (old one two three four head : List ℕ) → length changes ≡ 1 → change ≡ get_or changes 0 change →
    head ≡ little_bytes 6 table.id ++ (little_bytes 2 (end_flag last) ++ (little_bytes 2 11 ++ transid_extra change.transid)) →
    one ≡ old ++ head → two ≡ one ++ length_bytes (length table.columns) → three ≡ two ++ present_bitmaps change.kind (length table.columns) → four ≡ three ++ images_of change.kind table.columns change.before change.after →
    four ≡ old ++ rows_written table.id table.columns changes (end_flag last)
unfolding rows_payload
parts_appended table changes change last old one two three four head single is made first second third fourth =
    rw (one_change table changes change last single is, fourth, third, second, first, made)
    (in_one_row old (little_bytes 6 table.id) (little_bytes 2 (end_flag last)) (little_bytes 2 11) (transid_extra change.transid) (length_bytes (length table.columns)) (present_bitmaps change.kind (length table.columns)) (images_of change.kind table.columns change.before change.after))
  where
    in_one_row : (old a b d e f g h : List ℕ) → (((old ++ (a ++ (b ++ (d ++ e)))) ++ f) ++ g) ++ h ≡ old ++ (a ++ (b ++ (d ++ (e ++ (f ++ (g ++ h))))))
    in_one_row old a b d e f g h = simp append_assoc refl

pub payload_length : (table flags : ℕ) (extra : List ℕ) (columns : ℕ) (present rows : List ℕ) → length (rows_payload table flags extra columns present rows) ≡ 10 + length extra + length (length_bytes columns) + length present + length rows
unfolding rows_payload
payload_length table flags extra columns present rows = simp length-append (omega arith)

-- a number up to 250 takes one byte
pub length_one : (n : ℕ) → n ≤ 250 → length (length_bytes n) ≡ 1
unfolding length_bytes
length_one n few = grind (arith, common_steps)

-- the length of the payload of one change
pub one_length : (table : Mapped) (changes : List Change) (change : Change) (last : Bool) → length table.columns ≤ 64 → length changes ≡ 1 → change ≡ get_or changes 0 change →
    length (rows_written table.id table.columns changes (end_flag last)) ≡ 20 + length (present_bitmaps change.kind (length table.columns)) + length (images_of change.kind table.columns change.before change.after)
one_length table changes change last few one is =
    rw (one_change table changes change last one is)
    (omega (arith, payload_length table.id (end_flag last) (transid_extra change.transid) (length table.columns) (present_bitmaps change.kind (length table.columns)) (images_of change.kind table.columns change.before change.after), length_one (length table.columns) (omega arith)))
