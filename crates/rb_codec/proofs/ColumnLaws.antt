-- The columns of a table map, one after another.
use Rattle.std.proofs.Common.{◌≡◌, ◌+◌, ◌*◌, ◌≤◌, ◌<◌, ℕ, suc, Bool, true, false, cond, if◌then◌else◌, ◌==◌, List, [], ◌∷◌, ◌++◌, length, drop, get_or, refl, sym, ap, subst, ◌∙◌, append_assoc, arith, drop-cons, length-drop}
use Rattle.std.specs.Prelude.{nat_le, ◌&&◌}
use Rattle.std.specs.List.{count_by, list_all}
use Rattle.std.specs.Str.{bytes_eq}
use Rattle.std.proofs.lemmas.Bool.{leb-true}
use Rattle.std.proofs.lemmas.Slice.Eq.{bytes_eq-Decides}
use Rattle.std.proofs.lemmas.List.Sums.{sum_by-cons}
use Rattle.byteorder.specs.Endian.{little_number}
use Rattle.rb_base.specs.declared.schema.Column.{Column}
use Rattle.rb_base.specs.declared.schema.Column.TheVariants.{Num, Long, Text}
use Rattle.rb_base.specs.declared.schema.Mapped.{Mapped}
use Rattle.rb_log_defs.specs.Table.{type_of, metadata_of}
use Rattle.rb_read_defs.specs.Events.{metadata_size, columns_from, is_status, is_type, are_types}
use Rattle.rb_codec.specs.Columns.{HasColumns, column_from, width_of}

columns_cons : (kind : ℕ) (types metadata : List ℕ) → columns_from (kind ∷ types) metadata ≡ column_from kind metadata ∷ columns_from types (drop (width_of kind) metadata)
columns_cons kind types metadata = by_test (kind == 15)
  where
    by_test : (b : Bool) → (if b then Text (little_number 2 metadata) ∷ columns_from types (drop 2 metadata) else (if kind == 3 then Long else Num) ∷ columns_from types metadata)
        ≡ (if b then Text (little_number 2 metadata) else (if kind == 3 then Long else Num)) ∷ columns_from types (drop (if b then 2 else 0) metadata)
    by_test true = refl
    by_test false = refl

size_cons : (kind : ℕ) (types : List ℕ) → metadata_size (kind ∷ types) ≡ width_of kind + metadata_size types
size_cons kind types = by_test (kind == 15) (metadata_size (kind ∷ types)) (metadata_size types) (ap (λ (n : ℕ). 2 * n) (sum_by-cons (λ (x : ℕ). cond (x == 15) 1 0) kind types)) refl
  where
    by_test : (b : Bool) (all left : ℕ) → all ≡ 2 * (cond b 1 0 + count_by (λ kind. kind == 15) types) → left ≡ 2 * count_by (λ kind. kind == 15) types → all ≡ cond b 2 0 + left
    by_test true all left e l = omega (arith, e, l)
    by_test false all left e l = omega (arith, e, l)

-- the metadata of a column has the length that its type code gives
pub metadata_width_is : (column : Column) → width_of (type_of column) ≡ length (metadata_of column)
metadata_width_is Num = refl
metadata_width_is Long = refl
metadata_width_is (Text most) = refl

-- the length so far and that of the metadata of the types from here on are the whole length
pub next_size : (types : List ℕ) (i kind size width : ℕ) → i < length types → kind ≡ get_or types i 0 → width ≡ width_of kind
    → size + metadata_size (drop i types) ≡ metadata_size types → (size + width) + metadata_size (drop (suc i) types) ≡ metadata_size types
next_size types i kind size width lt is same part =
    let here : drop i types ≡ kind ∷ drop (suc i) types = drop-cons types i 0 lt ∙ ap (λ (k : ℕ). k ∷ drop (suc i) types) (sym is) in
    let part = subst (λ (l : List ℕ). size + metadata_size l ≡ metadata_size types) here part in
    omega (arith, part, same, size_cons kind (drop (suc i) types))

-- the columns so far, and the types and the metadata of the other columns
pub record IsPart (types metadata : List ℕ) (columns : List Column) (left rest : List ℕ) : Type 0 where
  pub all : columns ++ columns_from left rest ≡ columns_from types metadata
  pub room : metadata_size left ≤ length rest

-- the metadata of the next column is there
pub has_room : (types metadata : List ℕ) (columns : List Column) (xs : List ℕ) (i kind : ℕ) (rest : List ℕ) → i < length xs → kind ≡ get_or xs i 0
    → IsPart types metadata columns (drop i xs) rest → width_of kind ≤ length rest
has_room types metadata columns xs i kind rest lt is part =
    let here : drop i xs ≡ kind ∷ drop (suc i) xs = drop-cons xs i 0 lt ∙ ap (λ (k : ℕ). k ∷ drop (suc i) xs) (sym is) in
    let room = subst (λ (l : List ℕ). metadata_size l ≤ length rest) here part.room in
    omega (arith, room, size_cons kind (drop (suc i) xs))

-- the next column is read from that metadata
pub next_part : (types metadata : List ℕ) (columns : List Column) (xs : List ℕ) (i kind : ℕ) (rest : List ℕ) → i < length xs → kind ≡ get_or xs i 0
    → IsPart types metadata columns (drop i xs) rest → IsPart types metadata (columns ++ column_from kind rest ∷ []) (drop (suc i) xs) (drop (width_of kind) rest)
next_part types metadata columns xs i kind rest lt is part =
    let left = drop (suc i) xs in
    let here : drop i xs ≡ kind ∷ left = drop-cons xs i 0 lt ∙ ap (λ (k : ℕ). k ∷ left) (sym is) in
    let room = subst (λ (l : List ℕ). metadata_size l ≤ length rest) here part.room in
    let all = subst (λ (l : List ℕ). columns ++ columns_from l rest ≡ columns_from types metadata) here part.all in
    record {
      all = append_assoc columns (column_from kind rest ∷ []) (columns_from left (drop (width_of kind) rest)) ∙ ap (λ (l : List Column). columns ++ l) (sym (columns_cons kind left rest)) ∙ all;
      room = omega (arith, room, size_cons kind left, length-drop (width_of kind) rest);
    }

-- there is a column for each type
columns_length : (types metadata : List ℕ) → length (columns_from types metadata) ≡ length types
columns_length [] metadata = refl
columns_length (kind ∷ types) metadata =
    ap length (columns_cons kind types metadata) ∙ ap suc (columns_length types (drop (width_of kind) metadata))

-- the first column of the apply-status table
status_first : (schema name types metadata : List ℕ) → are_types schema name types ≡ true → is_status schema name ≡ true → get_or (columns_from types metadata) 0 Num ≡ Long
status_first schema name types metadata are status = by_test (is_status schema name) status are
  where
    by_test : (b : Bool) → b ≡ true → (if b then bytes_eq types (3 ∷ 8 ∷ 15 ∷ 8 ∷ 8 ∷ []) else list_all is_type types && (get_or types 0 0 == 8)) ≡ true → get_or (columns_from types metadata) 0 Num ≡ Long
    by_test true is same = subst (λ (kinds : List ℕ). get_or (columns_from kinds metadata) 0 Num ≡ Long) (sym ((bytes_eq-Decides types (3 ∷ 8 ∷ 15 ∷ 8 ∷ 8 ∷ [])).0 same)) refl
    by_test false is same = absurd (let no : false ≡ true = is in cc)

-- a table that was read has columns that are enough to read its rows events
pub has_columns : (table : Mapped) (types metadata : List ℕ) → table.columns ≡ columns_from types metadata → (nat_le 1 (length types) && nat_le (length types) 64) ≡ true → are_types table.schema table.name types ≡ true → HasColumns table
has_columns table types metadata is count are =
    let l = ap length is ∙ columns_length types metadata in
    let (some, few) = both (nat_le 1 (length types)) (nat_le (length types) 64) count in
    let low = leb-true 1 (length types) some in
    let high = leb-true (length types) 64 few in record {
      some = omega (arith, l, low);
      few = omega (arith, l, high);
      server = λ status. ap (λ (columns : List Column). get_or columns 0 Num) is ∙ status_first table.schema table.name types metadata are status;
    }
  where
    both : (x y : Bool) → (x && y) ≡ true → (x ≡ true) × (y ≡ true)
    both true y is = (refl, is)
    both false y is = absurd (let no : false ≡ true = is in cc)
