-- What was received of a bucket in an epoch.
use Rattle.std.specs.Prelude.{◌≡◌, ℕ, ◌==◌, if◌then◌else◌, length, List, filter_map, Option, Some, None, is_none}
use Rattle.std.specs.List.{slice_get, find}
use Rattle.std.specs.Option.{option_or, option_map, option_map_or}
use Rattle.std.specs.Ordering.{nat_cmp}
use Rattle.std.specs.BTreeMap as tree
use Rattle.rb_base.specs.declared.change.Change.{Change}
use Rattle.rb_journal_defs.specs.Body.{numbers_below}
use Rattle.rb_message_defs.specs.declared.answers.Missing.{Missing}
use Rattle.rb_evbuf.specs.declared.gathered.Gathered.{Gathered}

-- the change at a place
abbrev pub place_in : Gathered → (place : ℕ) → Option Change
place_in gathered place = option_or (slice_get gathered.front.items place) (tree.get nat_cmp gathered.ahead place)

-- these places, with a change for one that had none
abbrev pub with_place : (place : ℕ) → Change → (held : ℕ → Option Change) → ℕ → Option Change
with_place place change held other = option_or (held other) (if place == other then Some change else None)

-- the place after `front` is missing
abbrev pub IsGapless : Gathered → Type 0
IsGapless gathered = tree.get nat_cmp gathered.ahead (length gathered.front.items) ≡ None

-- the first thing that is missing of a bucket with these places: its Done, or else the lowest place
-- below the count
abbrev pub missing_under : (bucket : ℕ) → (held : ℕ → Option Change) → (count : Option ℕ) → Option Missing
missing_under bucket held None = Some (record { bucket = bucket; place = None })
missing_under bucket held (Some count) =
    option_map (λ place. record { bucket = bucket; place = Some place }) (find (λ place. is_none (held place)) (numbers_below count))

-- the changes of the places below the count
abbrev pub part_under : (held : ℕ → Option Change) → (count : Option ℕ) → List Change
part_under held count = filter_map held (numbers_below (option_map_or (λ count. count) count 0))

-- nothing was received
pub record IsBlank (gathered : Gathered) : Type 0 where
  pub places : (place : ℕ) → place_in gathered place ≡ None
  pub gapless : IsGapless gathered
  pub count : gathered.count ≡ None
