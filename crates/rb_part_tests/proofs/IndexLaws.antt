-- The indexes that the tests recover.
use Rattle.std.proofs.Common.{◌≡◌, ◌⊎◌, inl, inr, ℕ, ◌≤◌, List, [], ◌∷◌, ◌++◌, length, refl, ap, subst, arith}
use Rattle.std.specs.Prelude.{All}
use Rattle.std.proofs.lemmas.List.Elements.{All-nil, All-cons}
use Rattle.std.proofs.lemmas.List.Sorted.{IsNonDecreasingBy-short}
use Rattle.rb_base.specs.declared.body.IndexRow.{IndexRow}
use Rattle.rb_log_defs.specs.Index.{index_file}
use Rattle.rb_device_defs.specs.Index.{HasRoom, IsIndexImage, NeverFall}
use Rattle.rb_index.proofs.ImageLaws.{short_ends, whole_size, length_open}

abbrev pub CanOpen : List ℕ → Type 0
CanOpen file = (rows : List IndexRow) × IsIndexImage rows file × All HasRoom rows × NeverFall rows

pub no_row : (file : List ℕ) → IsIndexImage [] file → CanOpen file
no_row file image = ([], image, All-nil HasRoom, IsNonDecreasingBy-short (λ row. row.epoch.0) [] (omega arith))

pub one_row : (row : IndexRow) (file : List ℕ) → HasRoom row → IsIndexImage (row ∷ []) file → CanOpen file
one_row row file room image = (row ∷ [], image, All-cons HasRoom row [] room (All-nil HasRoom), IsNonDecreasingBy-short (λ row. row.epoch.0) (row ∷ []) (omega arith))

-- a first row is there, or perhaps
pub first_row : (rows : List IndexRow) (row : IndexRow) (file : List ℕ) → rows ≡ [] → HasRoom row → IsIndexImage (rows ++ row ∷ []) file → CanOpen file
first_row rows row file none room image = one_row row file room (subst (λ (rows : List IndexRow). IsIndexImage (rows ++ row ∷ []) file) none image)

pub perhaps_a_row : (rows : List IndexRow) (row : IndexRow) (file : List ℕ) → rows ≡ [] → HasRoom row → IsIndexImage rows file ⊎ IsIndexImage (rows ++ row ∷ []) file → CanOpen file
perhaps_a_row rows row file none room (inl image) = no_row file (subst (λ (rows : List IndexRow). IsIndexImage rows file) none image)
perhaps_a_row rows row file none room (inr image) = first_row rows row file none room image

-- few bytes hold no row
pub few_bytes : (file : List ℕ) → length file ≤ 65 → CanOpen file
few_bytes file few = no_row file (record {
  following = file;
  bytes = refl;
  more = λ some. absurd (some refl);
  ended = short_ends file few;
})

-- a file of one row
pub size_of_one : (rows : List IndexRow) (row : IndexRow) (file : List ℕ) → rows ≡ row ∷ [] → file ≡ index_file rows → length file ≡ 66
size_of_one rows row file one is = omega (arith, whole_size rows file is, length_open rows, ap length one)
