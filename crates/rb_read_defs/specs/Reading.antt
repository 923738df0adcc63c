-- The reading of an event's bytes, field by field, in the order of the fields.
use Rattle.std.specs.Prelude.{ℕ, ◌+◌, ◌==◌, nat_le, Bool, if◌then◌else◌, List, length, take, drop, Result, Ok, Err}
use Rattle.byteorder.specs.Endian.{little_number}
use Rattle.rb_base.specs.Length.{length_read}
use Rattle.rb_base.specs.declared.faults.Field.{Field}
use Rattle.rb_base.specs.declared.faults.Field.TheVariants as fields
use Rattle.rb_base.specs.declared.faults.CodecFault.{CodecFault}
use Rattle.rb_base.specs.declared.faults.CodecFault.TheVariants as faults
use Rattle.rb_base.specs.declared.faults.LengthRead.{LengthRead}
use Rattle.rb_base.specs.declared.faults.LengthRead.TheVariants as lengths

-- the value that was read and the place after it; or the place of a field that does not end within
-- the bytes; or the place of a complete field that is wrong, and which field it is
pub data Reading (X : Type 0) : Type 0 where
  Read : (value : X) → (after : ℕ) → Reading X
  Short : (at : ℕ) → Reading X
  Wrong : (at : ℕ) → (field : Field) → Reading X

-- the reading of a value from a place of some bytes
abbrev pub Reader : Type 0 → Type 0
Reader X = (bytes : List ℕ) → (at : ℕ) → Reading X

-- the reading that follows a value that was read
abbrev pub read_next : {X Y : Type 0} → (X → Reader Y) → (bytes : List ℕ) → Reading X → Reading Y
read_next next bytes (Read value after) = next value bytes after
read_next next bytes (Short at) = Short at
read_next next bytes (Wrong at field) = Wrong at field

-- one field and then the next
infixl 10 ◌>>=◌
abbrev pub ◌>>=◌ : {X Y : Type 0} → Reader X → (X → Reader Y) → Reader Y
first >>= next = λ bytes at. read_next next bytes (first bytes at)

-- a value for which no byte is read
abbrev pub give : {X : Type 0} → X → Reader X
give value = λ bytes at. Read value at

-- the next `count` bytes
unfoldable pub some_bytes : (count : ℕ) → Reader (List ℕ)
some_bytes count = λ bytes at. if nat_le (at + count) (length bytes) then Read (take count (drop at bytes)) (at + count) else Short at

-- a number of `width` bytes, the lowest byte first
unfoldable pub number : (width : ℕ) → Reader ℕ
number width = λ bytes at. if nat_le (at + width) (length bytes) then Read (little_number width (drop at bytes)) (at + width) else Short at

-- all bytes that remain
abbrev pub the_rest : Reader (List ℕ)
the_rest = λ bytes at. Read (drop at bytes) (length bytes)

-- a field that is wrong if its value does not pass this test
abbrev pub that : {X : Type 0} → Field → (X → Bool) → Reader X → Reader X
that field passes read = λ bytes at. judged field passes at (read bytes at)
  where
    judged : {X : Type 0} → Field → (X → Bool) → ℕ → Reading X → Reading X
    judged field passes at (Read value after) = if passes value then Read value after else Wrong at field
    judged field passes at (Short place) = Short place
    judged field passes at (Wrong place other) = Wrong place other

-- a length-encoded number, as the value of this field
unfoldable pub length_number : Field → Reader ℕ
length_number field = λ bytes at. as_reading field at (length_read bytes at)
  where
    as_reading : Field → (at : ℕ) → LengthRead → Reading ℕ
    as_reading field at (lengths.Number value after) = Read value after
    as_reading field at lengths.Short = Short at
    as_reading field at lengths.Wrong = Wrong at field

-- no byte remains
abbrev pub the_end : Reader (Unit {0})
the_end = λ bytes at. if at == length bytes then Read tt at else Wrong at fields.EventSize

-- the result of a call that reads this
abbrev pub answer_of : {X : Type 0} → Reading X → Result X CodecFault
answer_of (Read value after) = Ok value
answer_of (Short at) = Err (faults.Short at)
answer_of (Wrong at field) = Err (faults.BadField at field)
