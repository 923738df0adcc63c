-- What was received of the buckets in an epoch.
use Rattle.std.specs.Prelude.{◌≡◌, ℕ, length, List, map, filter_map, Option}
use Rattle.std.specs.List.{slice_get, All}
use Rattle.std.specs.Option.{option_and_then}
use Rattle.rb_base.specs.declared.change.Change.{Change}
use Rattle.rb_journal_defs.specs.Body.{numbers_below}
use Rattle.rb_journal_defs.specs.Transaction.{first_of}
use Rattle.rb_message_defs.specs.declared.answers.Missing.{Missing}
use Rattle.rb_evbuf.specs.Gathered.{place_in, IsGapless, missing_under, part_under}
use Rattle.rb_evbuf.specs.declared.epoch.GatheredEpoch.{GatheredEpoch}

-- the change at a place of a bucket
abbrev pub place_at : GatheredEpoch → (bucket place : ℕ) → Option Change
place_at epoch bucket place = option_and_then (λ gathered. place_in gathered place) (slice_get epoch.buckets.items bucket)

-- the count of a bucket
abbrev pub count_at : GatheredEpoch → (bucket : ℕ) → Option ℕ
count_at epoch bucket = option_and_then (λ gathered. gathered.count) (slice_get epoch.buckets.items bucket)

-- it has this many buckets, each without a gap, and room for their parts
pub record IsSound (epoch : GatheredEpoch) (buckets : ℕ) : Type 0 where
  pub width : length epoch.buckets.items ≡ buckets
  pub room : length epoch.parts.items ≡ buckets
  pub gapless : All IsGapless epoch.buckets.items

-- the first thing that is missing, the lowest bucket's
abbrev pub missing_in : GatheredEpoch → (buckets : ℕ) → Option Missing
missing_in epoch buckets = first_of (filter_map (λ bucket. missing_under bucket (place_at epoch bucket) (count_at epoch bucket)) (numbers_below buckets))

-- the parts of the buckets
abbrev pub parts_in : GatheredEpoch → (buckets : ℕ) → List (List Change)
parts_in epoch buckets = map (λ bucket. part_under (place_at epoch bucket) (count_at epoch bucket)) (numbers_below buckets)
