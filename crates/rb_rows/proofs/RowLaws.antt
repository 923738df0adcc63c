-- Reading item by item gives what the definitions read as a list, and reading after a head gives
-- what they read as a whole.
use Rattle.std.proofs.Common.{◌≡◌, ℕ, zero, suc, ◌+◌, ◌^◌, ◌<◌, ◌≤◌, true, false, List, [], ◌∷◌, ◌++◌, length, drop, get_or, refl, sym, ap, subst, ◌∙◌, arith, append_assoc, drop-cons, Option, None}
use Rattle.std.specs.Prelude.{◌==◌, Result, Ok, Err}
use Rattle.std.proofs.lemmas.List.{append-nil}
use Rattle.rb_base.specs.declared.faults.CodecFault.{CodecFault}
use Rattle.rb_base.specs.declared.faults.CodecFault.TheVariants as faults
use Rattle.rb_base.specs.declared.faults.Field.TheVariants.{Key}
use Rattle.rb_base.specs.declared.schema.Column.{Column}
use Rattle.rb_base.specs.declared.schema.Column.TheVariants.{Num, Long}
use Rattle.rb_base.specs.declared.schema.Mapped.{Mapped}
use Rattle.rb_base.specs.declared.row.Value.{Value}
use Rattle.rb_base.specs.declared.row.Value.TheVariants as values
use Rattle.rb_base.specs.declared.row.Row.{Row}
use Rattle.rb_base.specs.declared.change.Kind.{Kind}
use Rattle.rb_base.specs.declared.change.Kind.TheVariants.{Insert}
use Rattle.rb_read_defs.specs.Reading.{Reading, Reader, Read, Short, Wrong, read_next, ◌>>=◌, give, that, answer_of}
use Rattle.rb_read_defs.specs.Rows.{value_in, values_in, is_key, number_in, up_to_the_end, many, rows_head, changes, statuses}
use Rattle.rb_codec.specs.Columns.{IsSmall, IsLong}
use Rattle.rb_codec.specs.Fields.{Fails, Gives}
use Rattle.rb_rows.specs.Rows.{change_in, status, IsFirstLong}

-- a reading of further items, after these items
abbrev pub prepend : {X : Type 0} → List X → Reading (List X) → Reading (List X)
prepend items (Read more after) = Read (items ++ more) after
prepend items (Short at) = Short at
prepend items (Wrong at field) = Wrong at field

pub prepend_nothing : {X : Type 0} (r : Reading (List X)) → prepend [] r ≡ r
prepend_nothing (Read more after) = refl
prepend_nothing (Short at) = refl
prepend_nothing (Wrong at field) = refl

-- one more item was read
pub prepend_one : {X : Type 0} (items : List X) (item : X) (bytes : List ℕ) (r : Reading (List X)) → prepend (items ++ item ∷ []) r ≡ prepend items (read_next (λ more. give (item ∷ more)) bytes r)
prepend_one {X} items item bytes (Read more after) = ap (λ (xs : List X). Read xs after) (append_assoc items (item ∷ []) more)
prepend_one items item bytes (Short at) = refl
prepend_one items item bytes (Wrong at field) = refl

-- a fault of one item is a fault of the list
pub fault_handed_on : {X Y : Type 0} (items : List Y) (next : X → Reader (List Y)) (bytes : List ℕ) (fault : CodecFault) (r : Reading X) → Fails fault r → Fails fault (prepend items (read_next next bytes r))
fault_handed_on items next bytes (faults.Short at) r is = ap (λ r. prepend items (read_next next bytes r)) is
fault_handed_on items next bytes (faults.BadField at field) r is = ap (λ r. prepend items (read_next next bytes r)) is
fault_handed_on items next bytes faults.NoMemory r is = absurd is

-- the values so far, and the reading of the remaining columns
pub record IsValues (columns : List Column) (key : Option ℕ) (bytes : List ℕ) (start : ℕ) (values : List Value) (left : List Column) (wanted : Option ℕ) (at : ℕ) : Type 0 where
  pub all : prepend values (values_in left wanted bytes at) ≡ values_in columns key bytes start

pub values_here : (columns : List Column) (key : Option ℕ) (bytes : List ℕ) (start : ℕ) (values : List Value) (xs : List Column) (i : ℕ) (column : Column) (wanted : Option ℕ) (at : ℕ) → i < length xs → column ≡ get_or xs i Num
    → IsValues columns key bytes start values (drop i xs) wanted at → IsValues columns key bytes start values (column ∷ drop (suc i) xs) wanted at
values_here columns key bytes start values xs i column wanted at lt is part =
    let here : drop i xs ≡ column ∷ drop (suc i) xs = drop-cons xs i Num lt ∙ ap (λ (c : Column). c ∷ drop (suc i) xs) (sym is) in
    subst (λ (left : List Column). IsValues columns key bytes start values left wanted at) here part

-- one more value is read
pub next_value : (columns : List Column) (key : Option ℕ) (bytes : List ℕ) (start : ℕ) (values : List Value) (column : Column) (left : List Column) (wanted : Option ℕ) (at after : ℕ) (value : Value) → that Key (is_key wanted) (value_in column) bytes at ≡ Read value after
    → IsValues columns key bytes start values (column ∷ left) wanted at → IsValues columns key bytes start (values ++ value ∷ []) left None after
next_value columns key bytes start values column left wanted at after value read part =
    record { all = prepend_one values value bytes (values_in left None bytes after) ∙ sym (ap (λ (r : Reading Value). prepend values (read_next (λ value. values_in left None >>= (λ values. give (value ∷ values))) bytes r)) read) ∙ part.all }

-- a value that cannot be read
pub no_value : (columns : List Column) (key : Option ℕ) (bytes : List ℕ) (start : ℕ) (values : List Value) (column : Column) (left : List Column) (wanted : Option ℕ) (at : ℕ) (fault : CodecFault) → Fails fault (that Key (is_key wanted) (value_in column) bytes at)
    → IsValues columns key bytes start values (column ∷ left) wanted at → Fails fault (values_in columns key bytes start)
no_value columns key bytes start values column left wanted at fault fails part =
    subst (λ (r : Reading (List Value)). Fails fault r) part.all (fault_handed_on values (λ value. values_in left None >>= (λ values. give (value ∷ values))) bytes fault (that Key (is_key wanted) (value_in column) bytes at) fails)

-- the items so far, and the reading of at most `most` further items
pub record IsItems {X : Type 0} (read : Reader X) (bytes : List ℕ) (start : ℕ) (items : List X) (at : ℕ) : Type 0 where
  pub most : ℕ
  pub room : length bytes ≤ at + most
  pub all : prepend items (up_to_the_end most read bytes at) ≡ many read bytes start

pub no_items : {X : Type 0} (read : Reader X) (bytes : List ℕ) (start : ℕ) (items : List X) → items ≡ [] → IsItems read bytes start items start
no_items {X} read bytes start items none =
    record { most = length bytes; room = omega arith; all = ap (λ (xs : List X). prepend xs (up_to_the_end (length bytes) read bytes start)) none ∙ prepend_nothing (up_to_the_end (length bytes) read bytes start) }

-- there is one more item, since the bytes do not end here
item_here : {X : Type 0} (read : Reader X) (bytes : List ℕ) (at most : ℕ) → at < length bytes → up_to_the_end (suc most) read bytes at ≡ read_next (λ item. up_to_the_end most read >>= (λ items. give (item ∷ items))) bytes (read bytes at)
item_here {X} read bytes at most lt =
    let not : (at == length bytes) ≡ false = grind arith in
    rw not refl

one_item : {X : Type 0} (read : Reader X) (bytes : List ℕ) (start : ℕ) (items : List X) (at after : ℕ) (item : X) → at < length bytes → at < after → read bytes at ≡ Read item after
    → IsItems read bytes start items at → IsItems read bytes start (items ++ item ∷ []) after
one_item {X} read bytes start items at after item lt on is part = by_most part.most part.room part.all
  where
    by_most : (most : ℕ) → length bytes ≤ at + most → prepend items (up_to_the_end most read bytes at) ≡ many read bytes start → IsItems read bytes start (items ++ item ∷ []) after
    by_most zero room all = absurd (omega (arith, room, lt))
    by_most (suc most) room all = record {
      most = most;
      room = omega (arith, room, on);
      all = prepend_one items item bytes (up_to_the_end most read bytes after)
          ∙ sym (ap (λ (r : Reading X). prepend items (read_next (λ item. up_to_the_end most read >>= (λ items. give (item ∷ items))) bytes r)) is)
          ∙ sym (ap (prepend items) (item_here read bytes at most lt)) ∙ all;
    }

-- one more item is read from the same bytes
pub next_item : {X : Type 0} (read : Reader X) (bytes other : List ℕ) (start : ℕ) (items more : List X) (at after : ℕ) (item : X) → other ≡ bytes → at < length bytes → at < after → read other at ≡ Read item after → more ≡ items ++ item ∷ []
    → IsItems read bytes start items at → IsItems read bytes start more after
next_item {X} read bytes other start items more at after item same lt on is pushed part =
    subst (λ (xs : List X). IsItems read bytes start xs after) (sym pushed) (one_item read bytes start items at after item lt on (ap (λ (xs : List ℕ). read xs at) (sym same) ∙ is) part)

pub no_item : {X : Type 0} (read : Reader X) (bytes : List ℕ) (start : ℕ) (items : List X) (at : ℕ) (fault : CodecFault) → at < length bytes → Fails fault (read bytes at)
    → IsItems read bytes start items at → Fails fault (many read bytes start)
no_item {X} read bytes start items at fault lt fails part = by_most part.most part.room part.all
  where
    by_most : (most : ℕ) → length bytes ≤ at + most → prepend items (up_to_the_end most read bytes at) ≡ many read bytes start → Fails fault (many read bytes start)
    by_most zero room all = absurd (omega (arith, room, lt))
    by_most (suc most) room all =
        subst (λ (r : Reading (List X)). Fails fault r) (sym (ap (prepend items) (item_here read bytes at most lt)) ∙ all)
        (fault_handed_on items (λ item. up_to_the_end most read >>= (λ items. give (item ∷ items))) bytes fault (read bytes at) fails)

-- the bytes end here
pub all_items : {X : Type 0} (read : Reader X) (bytes : List ℕ) (start : ℕ) (items : List X) (at : ℕ) → at ≡ length bytes → IsItems read bytes start items at → many read bytes start ≡ Read items at
all_items {X} read bytes start items at is part = sym part.all ∙ by_most part.most
  where
    by_most : (most : ℕ) → prepend items (up_to_the_end most read bytes at) ≡ Read items at
    by_most zero = ap (λ (xs : List X). Read xs at) (append-nil items)
    by_most (suc most) =
        let here : (at == length bytes) ≡ true = grind arith in
        rw here (ap (λ (xs : List X). Read xs at) (append-nil items))

-- the first value is unchanged by later ones
pub first_more : (columns : List Column) (items : List Value) (i : ℕ) (column : Column) (value : Value) → length items ≡ i → column ≡ get_or columns i Num → IsLong column value → IsFirstLong columns items → IsFirstLong columns (items ++ value ∷ [])
first_more columns [] i column value count is one before = subst (λ (c : Column). IsLong c value) (is ∙ ap (λ (i : ℕ). get_or columns i Num) (sym count)) one
first_more columns (first ∷ items) i column value count is one before = before

-- the first value as a number
pub first_number : (columns : List Column) (row : Row) → IsFirstLong columns row.values → get_or columns 0 Num ≡ Long → number_in row 0 < 2 ^ 32
first_number columns row first is = by_value (get_or row.values 0 (values.Num 0)) refl (first is)
  where
    by_value : (value : Value) → get_or row.values 0 (values.Num 0) ≡ value → IsSmall (get_or row.values 0 (values.Num 0)) → number_in row 0 < 2 ^ 32
    by_value (values.Num n) there small = rw there (subst IsSmall there small)
    by_value (values.Text text) there small = rw there (omega arith)

-- the result of a call is that of the reading that it reports
answer_given : {X : Type 0} (result : Result X CodecFault) (after : ℕ) (r : Reading X) → Gives (λ x. x) result after r → result ≡ answer_of r
answer_given (Ok value) after r is = sym (ap answer_of is)
answer_given (Err (faults.Short at)) after r is = sym (ap answer_of is)
answer_given (Err (faults.BadField at field)) after r is = sym (ap answer_of is)
answer_given (Err faults.NoMemory) after r is = absurd is

fault_given : {X Y : Type 0} (next : X → Reader Y) (bytes : List ℕ) (r : Reading X) (fault : CodecFault) → Fails fault r → ◌≡◌ {A = Result Y CodecFault} (Err fault) (answer_of (read_next next bytes r))
fault_given next bytes r (faults.Short at) is = sym (ap (λ r. answer_of (read_next next bytes r)) is)
fault_given next bytes r (faults.BadField at field) is = sym (ap (λ r. answer_of (read_next next bytes r)) is)
fault_given next bytes r faults.NoMemory is = absurd is

-- a fault of the head is the fault of the whole
pub head_fails : {X Y : Type 0} (head : Reader X) (next : X → Reader Y) (bytes other : List ℕ) (start at : ℕ) (fault : CodecFault) (result : Result Y CodecFault) → other ≡ bytes → at ≡ start → result ≡ Err fault → Fails fault (head other at)
    → result ≡ answer_of ((head >>= next) bytes start)
head_fails {X} {Y} head next bytes other start at fault result same place is fails =
    is ∙ fault_given next bytes (head bytes start) fault (subst (λ (xs : List ℕ). Fails fault (head xs start)) same (subst (λ (n : ℕ). Fails fault (head other n)) place fails))

-- the items after a head are the result of the whole
pub items_given : {X Y : Type 0} (head : Reader X) (next : X → Reader Y) (bytes other after_head : List ℕ) (start at later after : ℕ) (value : X) (result : Result Y CodecFault) → other ≡ bytes → after_head ≡ other → at ≡ start → head other at ≡ Read value later
    → Gives (λ x. x) result after (next value after_head later) → result ≡ answer_of ((head >>= next) bytes start)
items_given {X} {Y} head next bytes other after_head start at later after value result same still place is gives =
    let here : head bytes start ≡ Read value later = subst (λ (xs : List ℕ). head xs start ≡ Read value later) same (subst (λ (n : ℕ). head other n ≡ Read value later) place is) in
    answer_given result after (next value bytes later) (subst (λ (xs : List ℕ). Gives (λ x. x) result after (next value xs later)) (still ∙ same) gives)
    ∙ sym (ap (λ (r : Reading X). answer_of (read_next next bytes r)) here)

pub changes_parts : (kind : Kind) (server : ℕ) (table : Mapped) (bytes : List ℕ) → changes kind server table bytes 0 ≡ (rows_head kind table >>= (λ transid. many (change_in kind server table transid))) bytes 0
unfolding changes change_in
changes_parts kind server table bytes = refl

pub statuses_parts : (table : Mapped) (bytes : List ℕ) → statuses table bytes 0 ≡ (rows_head Insert table >>= (λ transid. many (status table))) bytes 0
unfolding statuses status
statuses_parts table bytes = refl
