-- What a data node has buffered of its group's buckets.
use Rattle.std.specs.Prelude.{ℕ, ◌+◌, ◌-◌, ◌<◌, ◌≤◌, ◌==◌, ◌&&◌, nat_le, if◌then◌else◌, length, List, [], ◌∷◌, ◌++◌, map, Option}
use Rattle.std.specs.List.{AllByRecursion, slice_get, flat_map, enumerate_from}
use Rattle.std.specs.Option.{option_and_then, option_map, option_map_or, unwrap_or}
use Rattle.std.specs.Ordering.{nat_cmp}
use Rattle.std.specs.BTreeMap.{BTreeMap}
use Rattle.std.specs.BTreeMap as tree
use Rattle.rb_base.specs.declared.change.Change.{Change}
use Rattle.rb_base.specs.declared.epoch.Epoch.{Epoch}
use Rattle.rb_base.specs.declared.message.Message.{Message}
use Rattle.rb_base.specs.declared.message.Message.TheVariants.{Part, Done}
use Rattle.rb_bucket.specs.declared.bucket.Close.{Close}
use Rattle.rb_bucket.specs.declared.bucket.BucketBuffer.{BucketBuffer}

-- the changes of an epoch, in order
abbrev pub changes_in : BTreeMap ℕ (List Change) → (epoch : ℕ) → List Change
changes_in epochs epoch = unwrap_or (tree.get nat_cmp epochs epoch) []

-- the changes of an epoch in the bucket at a place, in order
abbrev pub changes_at : List (BTreeMap ℕ (List Change)) → (place epoch : ℕ) → List Change
changes_at buckets place epoch = unwrap_or (option_and_then (λ epochs. tree.get nat_cmp epochs epoch) (slice_get buckets place)) []

-- what a buffer holds of a bucket in an epoch, in order
abbrev pub changes_kept : BucketBuffer → (epoch bucket : ℕ) → List Change
changes_kept buffer epoch bucket =
    if nat_le buffer.first bucket
    then changes_at buffer.buckets.items (bucket - buffer.first) epoch else []

-- closed epochs, each with the one closed before it
abbrev pub close_pairs : List Close → List (ℕ × ℕ)
close_pairs closes = map (λ (close : Close). (close.epoch.0, close.prev.0)) closes

-- the closed epochs, each with the one closed before it, the oldest first
abbrev pub closes_kept : BucketBuffer → List (ℕ × ℕ)
closes_kept buffer = close_pairs buffer.closes.items

-- the open epoch, if it has a change
abbrev pub open_of : BucketBuffer → Option ℕ
open_of buffer = option_map (λ epoch. epoch.0) buffer.open_epoch

-- the first epoch that it buffers
abbrev pub since_of : BucketBuffer → ℕ
since_of buffer = buffer.since.0

-- these numbers rise, and all are below `top`
abbrev pub Rising : (top : ℕ) → List ℕ → Type 0
Rising top [] = Unit {0}
Rising top (x ∷ xs) = (x < top) × AllByRecursion (λ y. x < y) xs × Rising top xs

-- a bucket is one of its group's
abbrev pub IsBucketOf : BucketBuffer → (bucket : ℕ) → Type 0
IsBucketOf buffer bucket = (buffer.first ≤ bucket) × (bucket < buffer.first + length buffer.buckets.items)

-- these changes, with one more at the end of a bucket's in an epoch
abbrev pub with_change : (epoch bucket : ℕ) → Change → (kept : ℕ → ℕ → List Change) → ℕ → ℕ → List Change
with_change epoch bucket change kept e b = if (epoch == e) && (bucket == b) then kept e b ++ change ∷ [] else kept e b

-- the Parts of these changes of a bucket in an epoch, from a place on
abbrev pub parts_from : (bucket : ℕ) → Epoch → (place : ℕ) → List Change → List Message
parts_from bucket epoch place changes = map (λ numbered. Part bucket epoch numbered.0 numbered.1) (enumerate_from place changes)

-- the Parts of all changes of a bucket in an epoch, by place
abbrev pub parts_of : (bucket : ℕ) → Epoch → List Change → List Message
parts_of bucket epoch changes = parts_from bucket epoch 0 changes

-- the Parts of a bucket in an epoch that a buffer holds, by place
abbrev pub parts_kept : BucketBuffer → (bucket epoch : ℕ) → List Message
parts_kept buffer bucket epoch = parts_of bucket (record { 0 = epoch }) (changes_kept buffer epoch bucket)

-- the Done of a bucket in a closed epoch
abbrev pub done_kept : BucketBuffer → (bucket : ℕ) → (close : ℕ × ℕ) → Message
done_kept buffer bucket close = Done bucket (record { 0 = close.0 }) (record { 0 = close.1 }) (length (changes_kept buffer close.0 bucket))

-- the Parts of a bucket in the open epoch that a buffer holds, by place
abbrev pub open_parts_kept : BucketBuffer → (bucket : ℕ) → List Message
open_parts_kept buffer bucket = option_map_or (parts_kept buffer bucket) (open_of buffer) []

-- the messages of a bucket that a buffer holds: for each closed epoch, the oldest first, its Parts
-- and its Done; then the Parts of the open epoch
unfoldable pub messages_kept : BucketBuffer → (bucket : ℕ) → List Message
messages_kept buffer bucket =
    flat_map (λ close. parts_kept buffer bucket close.0 ++ done_kept buffer bucket close ∷ []) (closes_kept buffer) ++ open_parts_kept buffer bucket
