-- Images of the index file of the worked example.
use Rattle.std.proofs.Common.{◌≡◌, ◌<◌, ℕ, true, false, List, [], ◌∷◌, length, refl, ap, sym, ◌∙◌, arith, length-append}
use Rattle.rb_base.specs.declared.body.IndexRow.{IndexRow}
use Rattle.rb_log_defs.specs.Index.{index_record}
use Rattle.rb_device_defs.specs.Index.{open_records, begins_with_record, IsIndexImage}

length_record : (row : IndexRow) → length (index_record row) ≡ 64
unfolding index_record
length_record row = refl

-- an image of two rows has more than 130 bytes
pub no_two_rows : (file : List ℕ) (first second : IndexRow) → length file < 130 → IsIndexImage (first ∷ second ∷ []) file → ⊥
no_two_rows file first second short image =
    omega (
      arith,
      short,
      ap length image.bytes,
      length-append (open_records (first ∷ second ∷ [])) image.following,
      length-append (index_record first) (open_records (second ∷ [])),
      length-append (index_record second) [],
      length_record first,
      length_record second,
    )

-- bytes that begin with a record that recovery accepts are no image without a row
pub not_without_row : (file : List ℕ) → begins_with_record file ≡ true → IsIndexImage [] file → ⊥
not_without_row file begins image =
    let no : true ≡ false = sym begins ∙ ap begins_with_record image.bytes ∙ image.ended in
    absurd (let same : true ≡ false = no in cc)

-- an image of one row has more than 65 bytes
pub not_one_row : (file : List ℕ) (row : IndexRow) → length file < 66 → IsIndexImage (row ∷ []) file → ⊥
not_one_row file row short image =
    let some : 0 < length image.following = image.more (λ none. let no : row ∷ [] ≡ [] = none in cc) in
    omega (
      arith,
      short,
      some,
      ap length image.bytes,
      length-append (open_records (row ∷ [])) image.following,
      length-append (index_record row) [],
      length_record row,
    )
