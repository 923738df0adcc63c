-- A written field is read as its value.
use Rattle.std.proofs.Common.{◌≡◌, ℕ, zero, suc, ◌+◌, ◌^◌, ◌<◌, ◌≤◌, Bool, true, false, List, [], ◌∷◌, ◌++◌, length, take, drop, inl, inr, refl, sym, ap, subst, ◌∙◌, arith, length-append, append_assoc}
use Rattle.std.specs.Prelude.{◌==◌, ◌||◌, nat_le, nat_lt, if◌then◌else◌, Some}
use Rattle.std.specs.Int.{byte_at}
use Rattle.std.specs.List.{slice_get}
use Rattle.std.proofs.lemmas.Option.{slice_get-get_or}
use Rattle.std.proofs.Math.Seq.{get_or-append_seam}
use Rattle.std.proofs.lemmas.Bool.Decides.{nat_tests}
use Rattle.std.proofs.lemmas.Bool.{le-leb, lt-ltb, le-ltb, cases_lt}
use Rattle.std.proofs.lemmas.List.{append-nil, drop_at, take_at}
use Rattle.byteorder.specs.Endian.{little_bytes, little_number}
use Rattle.byteorder.specs.Numbers.{little_number-reads_back, length-bytes_low_first}
use Rattle.rb_base.specs.Length.{length_bytes, length_read, width_after}
use Rattle.rb_base.specs.declared.faults.Field.{Field}
use Rattle.rb_read_defs.specs.Reading.{Reader, Read, Short, read_next, ◌>>=◌, give, some_bytes, number, length_number, the_rest, the_end, that}
use Rattle.rb_read_defs.specs.Rows.{up_to_the_end, many}

-- a reader reads these bytes as this value, whatever comes before them and after them
pub record Gives {X : Type 0} (read : Reader X) (field : List ℕ) (value : X) : Type 0 where
  pub reads : (before after : List ℕ) → read (before ++ (field ++ after)) (length before) ≡ Read value (length before + length field)

-- a reader reads these bytes as this value if they are the last ones
pub record Ends {X : Type 0} (read : Reader X) (field : List ℕ) (value : X) : Type 0 where
  pub reads : (before : List ℕ) → read (before ++ field) (length before) ≡ Read value (length before + length field)

-- a field that can be followed by others can also be the last one
pub gives_ends : {X : Type 0} {read : Reader X} {field : List ℕ} {value : X} → Gives read field value → Ends read field value
gives_ends {X} {read} {field} {value} gives =
    record { reads = λ before. subst (λ (xs : List ℕ). read (before ++ xs) (length before) ≡ Read value (length before + length field)) (append-nil field) (gives.reads before []) }

-- a field at the start of the bytes
pub gives_at_start : {X : Type 0} {read : Reader X} {field : List ℕ} {value : X} → Gives read field value → (more : List ℕ) → read (field ++ more) 0 ≡ Read value (length field)
gives_at_start {X} {read} {field} {value} gives more = gives.reads [] more ∙ ap (Read value) (let same : 0 + length field ≡ length field = omega arith in same)

pub ends_at_start : {X : Type 0} {read : Reader X} {field : List ℕ} {value : X} → Ends read field value → read field 0 ≡ Read value (length field)
ends_at_start {X} {read} {field} {value} ends = ends.reads [] ∙ ap (Read value) (let same : 0 + length field ≡ length field = omega arith in same)

-- one field and then the next
pub then_gives : {X Y : Type 0} {first : Reader X} {field rest : List ℕ} {x : X} {y : Y} (next : X → Reader Y) →
    Gives first field x → Gives (next x) rest y → Gives (first >>= next) (field ++ rest) y
then_gives {X} {Y} {first} {field} {rest} {x} {y} next one two = record { reads = go }
  where
    go : (before after : List ℕ) → (first >>= next) (before ++ ((field ++ rest) ++ after)) (length before) ≡ Read y (length before + length (field ++ rest))
    go before after =
        let whole : before ++ (field ++ (rest ++ after)) ≡ (before ++ field) ++ (rest ++ after) = sym (append_assoc before field (rest ++ after)) in
        let place : length (before ++ field) ≡ length before + length field = length-append before field in
        let l = length-append field rest in
        let second : next x (before ++ (field ++ (rest ++ after))) (length before + length field) ≡ Read y (length before + length field + length rest) = rw (whole, ← place) (two.reads (before ++ field) after) in
        let end : length before + length field + length rest ≡ length before + length (field ++ rest) = omega arith in
        ap (λ (xs : List ℕ). (first >>= next) (before ++ xs) (length before)) (append_assoc field rest after)
        ∙ ap (read_next next (before ++ (field ++ (rest ++ after)))) (one.reads before (rest ++ after))
        ∙ second ∙ ap (Read y) end

pub then_ends : {X Y : Type 0} {first : Reader X} {field rest : List ℕ} {x : X} {y : Y} (next : X → Reader Y) →
    Gives first field x → Ends (next x) rest y → Ends (first >>= next) (field ++ rest) y
then_ends {X} {Y} {first} {field} {rest} {x} {y} next one two = record { reads = go }
  where
    go : (before : List ℕ) → (first >>= next) (before ++ (field ++ rest)) (length before) ≡ Read y (length before + length (field ++ rest))
    go before =
        let whole : before ++ (field ++ rest) ≡ (before ++ field) ++ rest = sym (append_assoc before field rest) in
        let place : length (before ++ field) ≡ length before + length field = length-append before field in
        let l = length-append field rest in
        let second : next x (before ++ (field ++ rest)) (length before + length field) ≡ Read y (length before + length field + length rest) = rw (whole, ← place) (two.reads (before ++ field)) in
        let end : length before + length field + length rest ≡ length before + length (field ++ rest) = omega arith in
        ap (read_next next (before ++ (field ++ rest))) (one.reads before rest) ∙ second ∙ ap (Read y) end

-- a value made of the last bytes
pub made_ends : {X Y : Type 0} {read : Reader X} {field : List ℕ} {x : X} (make : X → Y) → Ends read field x → Ends (read >>= (λ x. give (make x))) field (make x)
made_ends {X} {Y} {read} {field} {x} make ends = record { reads = λ before. ap (read_next (λ x. give (make x)) (before ++ field)) (ends.reads before) }

-- a value for which no byte is read
pub give_gives : {X : Type 0} (value : X) → Gives (give value) [] value
give_gives value = record { reads = λ before after. ap (Read value) (let same : length before ≡ length before + 0 = omega arith in same) }

pub give_ends : {X : Type 0} (value : X) → Ends (give value) [] value
give_ends value = gives_ends (give_gives value)

-- a value made of a field
pub made_gives : {X Y : Type 0} {read : Reader X} {field : List ℕ} {x : X} {y : Y} (make : X → Y) → Gives read field x → make x ≡ y → Gives (read >>= (λ x. give (make x))) field y
made_gives {X} {Y} {read} {field} {x} {y} make gives is = record { reads = λ before after. ap (read_next (λ x. give (make x)) (before ++ (field ++ after))) (gives.reads before after) ∙ ap (λ (value : Y). Read value (length before + length field)) is }

-- a field whose value passes its test
pub that_gives : {X : Type 0} {read : Reader X} {bytes : List ℕ} {value : X} (field : Field) (passes : X → Bool) → passes value ≡ true → Gives read bytes value → Gives (that field passes read) bytes value
that_gives {X} {read} {bytes} {value} field passes passed gives = record { reads = λ before after. rw (gives.reads before after, passed) refl }

pub that_ends : {X : Type 0} {read : Reader X} {bytes : List ℕ} {value : X} (field : Field) (passes : X → Bool) → passes value ≡ true → Ends read bytes value → Ends (that field passes read) bytes value
that_ends {X} {read} {bytes} {value} field passes passed ends = record { reads = λ before. rw (ends.reads before, passed) refl }

-- a field of `count` bytes
pub bytes_give : (count : ℕ) (field : List ℕ) → length field ≡ count → Gives (some_bytes count) field field
unfolding some_bytes
bytes_give count field long = record { reads = go }
  where
    go : (before after : List ℕ) → (if nat_le (length before + count) (length (before ++ (field ++ after))) then Read (take count (drop (length before) (before ++ (field ++ after)))) (length before + count) else Short (length before)) ≡ Read field (length before + length field)
    go before after =
        let outer = length-append before (field ++ after) in
        let inner = length-append field after in
        rw (le-leb (length before + count) (length (before ++ (field ++ after))) (omega arith), drop_at before (field ++ after) (length before) refl, take_at field after count long, long) refl

-- a number of `width` bytes
pub number_gives : (width n : ℕ) → n < 256 ^ width → Gives (number width) (little_bytes width n) n
unfolding number
number_gives width n small = record { reads = go }
  where
    go : (before after : List ℕ) → (if nat_le (length before + width) (length (before ++ (little_bytes width n ++ after))) then Read (little_number width (drop (length before) (before ++ (little_bytes width n ++ after)))) (length before + width) else Short (length before)) ≡ Read n (length before + length (little_bytes width n))
    go before after =
        let outer = length-append before (little_bytes width n ++ after) in
        let inner = length-append (little_bytes width n) after in
        let long : length (little_bytes width n) ≡ width = length-bytes_low_first 0 width n in
        rw (le-leb (length before + width) (length (before ++ (little_bytes width n ++ after))) (omega arith), drop_at before (little_bytes width n ++ after) (length before) refl, little_number-reads_back width n after small, long) refl

-- all bytes that remain
pub rest_ends : (field : List ℕ) → Ends the_rest field field
rest_ends field = record { reads = λ before. rw (drop_at before field (length before) refl, length-append before field) refl }

-- the end of the bytes
pub end_ends : Ends the_end [] tt
end_ends = record { reads = λ before. rw (append-nil before) (rw (let same : (length before == length before) ≡ true = grind arith in same) (ap (Read tt) (let same : length before ≡ length before + 0 = omega arith in same))) }

-- the byte at a place
byte_there : (before rest : List ℕ) (byte : ℕ) → slice_get (before ++ byte ∷ rest) (length before) ≡ Some byte
byte_there before rest byte =
    let l = length-append before (byte ∷ rest) in
    slice_get-get_or (before ++ byte ∷ rest) (length before) 0 (omega arith) ∙ ap Some (get_or-append_seam before byte rest 0)

-- a length-encoded number of one byte
short_gives : (field : Field) (n : ℕ) → n < 251 → Gives (length_number field) (n ∷ []) n
unfolding length_number length_read
short_gives field n small = record {
  reads = λ before after.
      let own : ((n == 251) || (n == 255)) ≡ false = grind (arith, nat_tests) in
      rw (byte_there before after n, own, lt-ltb n 251 small) refl;
}

-- a length-encoded number whose first byte gives its width
wide_gives : (field : Field) (first width n : ℕ) → ((first == 251) || (first == 255)) ≡ false → nat_lt first 251 ≡ false → width_after first ≡ width → n < 256 ^ width →
    Gives (length_number field) (first ∷ little_bytes width n) n
unfolding length_number length_read
wide_gives field first width n other wide size small = record {
  reads = λ before after.
      let rest : List ℕ = little_bytes width n ++ after in
      let outer = length-append before (first ∷ rest) in
      let inner = length-append (little_bytes width n) after in
      let long : length (little_bytes width n) ≡ width = length-bytes_low_first 0 width n in
      let whole : before ++ first ∷ rest ≡ (before ++ first ∷ []) ++ rest = sym (append_assoc before (first ∷ []) rest) in
      let place : length (before ++ first ∷ []) ≡ length before + 1 = length-append before (first ∷ []) in
      let left : drop (length before + 1) (before ++ first ∷ rest) ≡ rest = rw whole (drop_at (before ++ first ∷ []) rest (length before + 1) place) in
      let end : length before + 1 + width ≡ length before + length (first ∷ little_bytes width n) = omega arith in
      rw (byte_there before rest first, other, wide, size, le-leb (length before + 1 + width) (length (before ++ first ∷ rest)) (omega arith), left, little_number-reads_back width n after small, end) refl;
}

-- a length-encoded number
pub length_gives : (field : Field) (n : ℕ) → n < 2 ^ 64 → Gives (length_number field) (length_bytes n) n
unfolding length_bytes
length_gives field n small = elim (cases_lt n 251) [
  | inl one ↦ rw (lt-ltb n 251 one) (short_gives field n one)
  | inr more ↦ elim (cases_lt n 65536) [
    | inl two ↦ rw (le-ltb n 251 more, lt-ltb n 65536 two) (wide_gives field 252 2 n refl refl refl (omega arith))
    | inr many ↦ elim (cases_lt n 16777216) [
      | inl three ↦ rw (le-ltb n 251 more, le-ltb n 65536 many, lt-ltb n 16777216 three) (wide_gives field 253 3 n refl refl refl (omega arith))
      | inr most ↦ rw (le-ltb n 251 more, le-ltb n 65536 many, le-ltb n 16777216 most) (wide_gives field 254 8 n refl refl refl (omega arith))
    ]
  ]
]

-- a list of no items
pub none_ends : {X : Type 0} (read : Reader X) (most : ℕ) → Ends (up_to_the_end most read) [] []
none_ends read zero = gives_ends (give_gives [])
none_ends read (suc most) = record { reads = λ before. rw (append-nil before) (rw (let same : (length before == length before) ≡ true = grind (arith, nat_tests) in same) (ap (Read []) (let end : length before ≡ length before + 0 = omega arith in end))) }

pub more_ends : {X : Type 0} (read : Reader X) (most : ℕ) (field rest : List ℕ) (item : X) (items : List X) → Gives read field item → 0 < length field →
    Ends (up_to_the_end most read) rest items → Ends (up_to_the_end (suc most) read) (field ++ rest) (item ∷ items)
more_ends read most field rest item items one some others = record {
  reads = λ before.
      let outer = length-append before (field ++ rest) in
      let inner = length-append field rest in
      let left : Ends (up_to_the_end most read >>= (λ items. give (item ∷ items))) rest (item ∷ items) = made_ends (λ items. item ∷ items) others in
      rw (let no : (length before == length (before ++ (field ++ rest))) ≡ false = grind (arith, nat_tests) in no) ((then_ends (λ item. up_to_the_end most read >>= (λ items. give (item ∷ items))) one left).reads before);
}

-- the number of bytes is enough as the number of rounds
pub all_end : {X : Type 0} (read : Reader X) (count : ℕ) (field : List ℕ) (items : List X) → count ≤ length field → ((most : ℕ) → count ≤ most → Ends (up_to_the_end most read) field items) → Ends (many read) field items
all_end read count field items few ends = record { reads = λ before. let l = length-append before field in (ends (length (before ++ field)) (omega arith)).reads before }

-- a list of one item, and of two
pub one_ends : {X : Type 0} {read : Reader X} {field : List ℕ} {item : X} → Gives read field item → 0 < length field → Ends (many read) field (item ∷ [])
one_ends {X} {read} {field} {item} one some = all_end read 1 field (item ∷ []) (omega arith) go
  where
    go : (most : ℕ) → 1 ≤ most → Ends (up_to_the_end most read) field (item ∷ [])
    go zero few = absurd (omega arith)
    go (suc most) few = subst (λ (xs : List ℕ). Ends (up_to_the_end (suc most) read) xs (item ∷ [])) (append-nil field) (more_ends read most field [] item [] one some (none_ends read most))

pub two_end : {X : Type 0} {read : Reader X} {field other : List ℕ} {item next : X} → Gives read field item → 0 < length field → Gives read other next → 0 < length other → Ends (many read) (field ++ other) (item ∷ next ∷ [])
two_end {X} {read} {field} {other} {item} {next} one some two more = all_end read 2 (field ++ other) (item ∷ next ∷ []) (let l = length-append field other in omega arith) go
  where
    last : (most : ℕ) → Ends (up_to_the_end (suc most) read) other (next ∷ [])
    last most = subst (λ (xs : List ℕ). Ends (up_to_the_end (suc most) read) xs (next ∷ [])) (append-nil other) (more_ends read most other [] next [] two more (none_ends read most))

    go : (most : ℕ) → 2 ≤ most → Ends (up_to_the_end most read) (field ++ other) (item ∷ next ∷ [])
    go zero few = absurd (omega arith)
    go (suc zero) few = absurd (omega arith)
    go (suc (suc most)) few = more_ends read (suc most) field other item (next ∷ []) one some (last most)

-- a number of one byte
pub byte_gives : (n : ℕ) → n < 256 → Gives (number 1) (n ∷ []) n
byte_gives n small =
    let same : little_bytes 1 n ≡ n ∷ [] = ap (λ (byte : ℕ). byte ∷ []) (let one : byte_at 0 n ≡ n = omega arith in one) in
    subst (λ (field : List ℕ). Gives (number 1) field n) same (number_gives 1 n (omega arith))
