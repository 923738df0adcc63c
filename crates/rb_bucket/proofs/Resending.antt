-- The messages of a bucket, one closed epoch after the other.
use Rattle.std.proofs.Common.{◌≡◌, ℕ, ◌+◌, ◌-◌, ◌<◌, ◌≤◌, List, [], ◌∷◌, ◌++◌, length, get_or, take, refl, ap, sym, ◌∙◌, arith}
use Rattle.std.specs.List.{flat_map}
use Rattle.std.specs.Prelude.{Option, Some, None}
use Rattle.std.specs.Option.{option_map, option_map_or}
use Rattle.std.specs.BTreeMap.{BTreeMap}
use Rattle.std.proofs.lemmas.List.{take_more, take_all, map-append, append-nil}
use Rattle.std.proofs.lemmas.Grind.{flat_map-append}
use Rattle.rb_base.specs.declared.change.Change.{Change}
use Rattle.rb_base.specs.declared.epoch.Epoch.{Epoch}
use Rattle.rb_base.specs.declared.message.Message.{Message}
use Rattle.rb_base.specs.declared.message.Message.TheVariants.{Done}
use Rattle.rb_bucket.specs.declared.bucket.Close.{Close}
use Rattle.rb_bucket.specs.declared.bucket.BucketBuffer.{BucketBuffer}
use Rattle.rb_bucket.proofs.Keeping.{held_there}
use Rattle.rb_bucket.specs.Bucket.{IsBucketOf, changes_in, changes_kept, close_pairs, closes_kept, parts_of, parts_kept, done_kept, messages_kept}

-- the messages of a closed epoch
abbrev pub closed_kept : BucketBuffer → (bucket : ℕ) → (close : ℕ × ℕ) → List Message
closed_kept buffer bucket close = parts_kept buffer bucket close.0 ++ done_kept buffer bucket close ∷ []

-- the messages of the first `count` closed epochs
abbrev pub first_kept : BucketBuffer → (bucket count : ℕ) → List Message
first_kept buffer bucket count = flat_map (closed_kept buffer bucket) (close_pairs (take count buffer.closes.items))

-- a bucket's map holds `changes_kept`
pub found : (buffer : BucketBuffer) (bucket epoch : ℕ) (epochs : BTreeMap ℕ (List Change)) (changes : List Change) → IsBucketOf buffer bucket →
    epochs ≡ get_or buffer.buckets.items (bucket - buffer.first) epochs → changes ≡ changes_in epochs epoch → changes ≡ changes_kept buffer epoch bucket
found buffer bucket epoch epochs changes there is read =
    read ∙ sym (held_there buffer.first buffer.buckets.items epochs bucket epoch there.0 (omega (arith, there)) is)

-- one more closed epoch
pub one_closed : (buffer : BucketBuffer) (bucket index : ℕ) (close : Close) (changes : List Change) (before after : List Message) →
    index < length buffer.closes.items → close ≡ get_or buffer.closes.items index close → changes ≡ changes_kept buffer close.epoch.0 bucket →
    before ≡ first_kept buffer bucket index → after ≡ before ++ (parts_of bucket close.epoch changes ++ Done bucket close.epoch close.prev (length changes) ∷ []) →
    after ≡ first_kept buffer bucket (index + 1)
one_closed buffer bucket index close changes before after within is kept so_far one =
    one ∙ ap (λ (cs : List Change). before ++ (parts_of bucket close.epoch cs ++ Done bucket close.epoch close.prev (length cs) ∷ [])) kept
    ∙ ap (λ (ms : List Message). ms ++ closed_kept buffer bucket (close.epoch.0, close.prev.0)) so_far ∙ sym step
  where
    step : first_kept buffer bucket (index + 1) ≡ first_kept buffer bucket index ++ closed_kept buffer bucket (close.epoch.0, close.prev.0)
    step = rw (
      take_more buffer.closes.items index close within,
      sym is,
      map-append {B = ℕ × ℕ} (λ (c : Close). (c.epoch.0, c.prev.0)) (take index buffer.closes.items) (close ∷ []),
      flat_map-append (closed_kept buffer bucket) (close_pairs (take index buffer.closes.items)) ((close.epoch.0, close.prev.0) ∷ []),
      append-nil (closed_kept buffer bucket (close.epoch.0, close.prev.0)),
    ) refl

-- all closed epochs
pub all_closed : (buffer : BucketBuffer) (bucket index : ℕ) → length buffer.closes.items ≤ index → first_kept buffer bucket index ≡ flat_map (closed_kept buffer bucket) (closes_kept buffer)
all_closed buffer bucket index end = ap (λ (closes : List Close). flat_map (closed_kept buffer bucket) (close_pairs closes)) (take_all index buffer.closes.items end)

-- all closed epochs, and an open one without changes
pub none_open : (buffer : BucketBuffer) (bucket index : ℕ) (messages : List Message) → length buffer.closes.items ≤ index → ((epoch : Epoch) → buffer.open_epoch ≡ Some epoch → ⊥) → messages ≡ first_kept buffer bucket index →
    messages ≡ messages_kept buffer bucket
unfolding messages_kept
none_open buffer bucket index messages end none so_far =
    so_far ∙ all_closed buffer bucket index end ∙ sym (append-nil (flat_map (closed_kept buffer bucket) (closes_kept buffer)))
    ∙ ap (λ (o : Option Epoch). flat_map (closed_kept buffer bucket) (closes_kept buffer) ++ option_map_or (parts_kept buffer bucket) (option_map (λ (e : Epoch). e.0) o) []) (sym (absent buffer.open_epoch none))
  where
    absent : (o : Option Epoch) → ((epoch : Epoch) → o ≡ Some epoch → ⊥) → o ≡ None
    absent None none = refl
    absent (Some epoch) none = absurd (none epoch refl)

-- all closed epochs, and the open one
pub one_open : (buffer : BucketBuffer) (bucket index : ℕ) (opened : Epoch) (changes : List Change) (before after : List Message) →
    length buffer.closes.items ≤ index → buffer.open_epoch ≡ Some opened → changes ≡ changes_kept buffer opened.0 bucket → before ≡ first_kept buffer bucket index →
    after ≡ before ++ parts_of bucket opened changes → after ≡ messages_kept buffer bucket
unfolding messages_kept
one_open buffer bucket index opened changes before after end is kept so_far one =
    one ∙ ap (λ (cs : List Change). before ++ parts_of bucket opened cs) kept ∙ ap (λ (ms : List Message). ms ++ parts_kept buffer bucket opened.0) (so_far ∙ all_closed buffer bucket index end)
    ∙ ap (λ (o : Option Epoch). flat_map (closed_kept buffer bucket) (closes_kept buffer) ++ option_map_or (parts_kept buffer bucket) (option_map (λ (e : Epoch). e.0) o) []) (sym is)
