-- What an event buffer represents.
use Rattle.std.specs.Prelude.{◌≡◌, ℕ, ◌≤◌, ◌<◌, [], filter_map, Option, IfSome, None}
use Rattle.std.specs.Option.{option_and_then, option_map}
use Rattle.std.specs.Ordering.{nat_cmp}
use Rattle.std.specs.BTreeMap as tree
use Rattle.rb_base.specs.declared.epoch.Epoch.{Epoch}
use Rattle.rb_base.specs.declared.change.Change.{Change}
use Rattle.rb_journal_defs.specs.Transaction.{first_of}
use Rattle.rb_message_defs.specs.Received.{Fed, part_in, count_in, epoch_following, AreChained}
use Rattle.rb_evbuf.specs.Epoch.{place_at, count_at, IsSound}
use Rattle.rb_evbuf.specs.declared.buffer.EventBuffer.{EventBuffer}

-- the number of a buffer's buckets
abbrev pub buckets_of : EventBuffer → ℕ
buckets_of buffer = buffer.buckets

-- the last taken epoch, or the one with which it began
abbrev pub last_of : EventBuffer → ℕ
last_of buffer = buffer.last.0

-- the change at a place of a bucket in an epoch
abbrev pub place_of : EventBuffer → (epoch bucket place : ℕ) → Option Change
place_of buffer epoch bucket place = option_and_then (λ gathered. place_at gathered bucket place) (tree.get nat_cmp buffer.epochs epoch)

-- the count of a bucket in an epoch
abbrev pub count_of : EventBuffer → (epoch bucket : ℕ) → Option ℕ
count_of buffer epoch bucket = option_and_then (λ gathered. count_at gathered bucket) (tree.get nat_cmp buffer.epochs epoch)

-- the epoch that a Done named as the one after this
abbrev pub following_of : EventBuffer → (epoch : ℕ) → Option ℕ
following_of buffer epoch = option_map (λ (next : Epoch). next.0) (tree.get nat_cmp buffer.following epoch)

-- each epoch that it keeps has its buckets, without gaps
abbrev pub AreSound : EventBuffer → Type 0
AreSound buffer = (epoch : ℕ) → IfSome (tree.get nat_cmp buffer.epochs epoch) (λ gathered. IsSound gathered buffer.buckets)

-- a buffer represents what it was fed: it knows the places and counts of the epochs that were not
-- taken, and which of them is next; it keeps nothing of epochs at or below the last taken one
pub record StandsFor (buffer : EventBuffer) (fed : Fed) : Type 0 where
  pub buckets : buffer.buckets ≡ fed.buckets
  pub last : buffer.last.0 ≡ fed.last
  pub some : fed.buckets ≡ 0 → fed.received ≡ []
  pub sound : AreSound buffer
  pub places : (epoch bucket place : ℕ) → fed.last < epoch → place_of buffer epoch bucket place ≡ part_in fed.received epoch bucket place
  pub counts : (epoch bucket : ℕ) → fed.last < epoch → count_of buffer epoch bucket ≡ count_in fed.received epoch bucket
  pub gone_places : (epoch bucket place : ℕ) → epoch ≤ fed.last → place_of buffer epoch bucket place ≡ None
  pub gone_counts : (epoch bucket : ℕ) → epoch ≤ fed.last → count_of buffer epoch bucket ≡ None
  pub following : AreChained fed.received → (epoch : ℕ) → fed.last ≤ epoch → following_of buffer epoch ≡ first_of (filter_map (epoch_following epoch) fed.received)
