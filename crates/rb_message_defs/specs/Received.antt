-- The messages that an event buffer has received, and the epoch that it can assemble from them.
-- Each test is a test on the list of messages, the newest first. The buckets and their messages are
-- this project's own.
use Rattle.std.specs.Prelude.{ℕ, ◌==◌, nat_le, ◌&&◌, Bool, if◌then◌else◌, List, [], ◌∷◌, map, filter_map, Option, Some, None, is_some, is_none}
use Rattle.std.specs.Prelude.{◌<◌, ◌≤◌, Contains}
use Rattle.std.specs.List.{find, list_all}
use Rattle.std.specs.Option.{option_map, option_map_or, option_and_then, option_or}
use Rattle.rb_base.specs.declared.epoch.Epoch.{Epoch}
use Rattle.rb_base.specs.declared.change.Change.{Change}
use Rattle.rb_base.specs.declared.message.Message.{Message}
use Rattle.rb_base.specs.declared.message.Message.TheVariants.{Part, Done}
use Rattle.rb_journal_defs.specs.Body.{numbers_below}
use Rattle.rb_journal_defs.specs.Transaction.{first_of}
use Rattle.rb_message_defs.specs.Message.{epoch_in}
use Rattle.rb_message_defs.specs.declared.answers.Received.{Received}
use Rattle.rb_message_defs.specs.declared.answers.Received.TheVariants as answers
use Rattle.rb_message_defs.specs.declared.answers.Missing.{Missing}
use Rattle.rb_message_defs.specs.declared.answers.Assembled.{Assembled}

-- the history of an event buffer: the number of its buckets, the last epoch that was taken from it,
-- and the messages that it received
pub record Fed : Type 0 where
  pub buckets : ℕ
  pub last : ℕ
  pub received : List Message

-- the change that a message has for this place, if it has one
abbrev pub change_for : (epoch bucket place : ℕ) → Message → Option Change
change_for e b p (Part bucket epoch place change) = if (epoch.0 == e) && (bucket == b) && (place == p) then Some change else None
change_for e b p (Done bucket epoch prev count) = None

-- the number of changes that a message gives for a bucket in an epoch, if it is that bucket's Done
abbrev pub count_for : (epoch bucket : ℕ) → Message → Option ℕ
count_for e b (Part bucket epoch place change) = None
count_for e b (Done bucket epoch prev count) = if (epoch.0 == e) && (bucket == b) then Some count else None

-- the change at a place of a bucket in an epoch, from the first message for that place
abbrev pub part_in : List Message → (epoch bucket place : ℕ) → Option Change
part_in [] epoch bucket place = None
part_in (message ∷ older) epoch bucket place = option_or (part_in older epoch bucket place) (change_for epoch bucket place message)

-- the number of changes of a bucket in an epoch, from its first Done
abbrev pub count_in : List Message → (epoch bucket : ℕ) → Option ℕ
count_in [] epoch bucket = None
count_in (message ∷ older) epoch bucket = option_or (count_in older epoch bucket) (count_for epoch bucket message)

-- an earlier message has the same bucket, epoch and place, or is the same Done
abbrev pub is_known : List Message → Message → Bool
is_known received (Part bucket epoch place change) = is_some (part_in received epoch.0 bucket place)
is_known received (Done bucket epoch prev count) = is_some (count_in received epoch.0 bucket)

-- `Old` if the message's epoch is at or below the last taken one; otherwise `Known` if the place of
-- the message is known, and `Kept` if it is not
abbrev pub answer_to : Fed → Message → Received
answer_to fed message =
    if nat_le (epoch_in message) fed.last then answers.Old
    else (if is_known fed.received message then answers.Known else answers.Kept)

-- the event buffer's history with one more message
abbrev pub with_received : Message → Fed → Fed
with_received message fed = record fed { received = message ∷ fed.received }

-- the answer to each of these messages, received one after the other
abbrev pub answers_to : Fed → List Message → List Received
answers_to fed [] = []
answers_to fed (message ∷ later) = answer_to fed message ∷ answers_to (with_received message fed) later

-- the first message that is missing of a bucket in an epoch, given its number of changes: the Done
-- if the number is unknown, otherwise the lowest place without a change
abbrev pub missing_below : List Message → (epoch bucket : ℕ) → (count : Option ℕ) → Option Missing
missing_below received epoch bucket None = Some (record { bucket = bucket; place = None })
missing_below received epoch bucket (Some count) =
    option_map (λ place. record { bucket = bucket; place = Some place })
    (find (λ place. is_none (part_in received epoch bucket place)) (numbers_below count))

-- the first message that is missing of a bucket in an epoch, if any is
abbrev pub missing_of_bucket : List Message → (epoch bucket : ℕ) → Option Missing
missing_of_bucket received epoch bucket = missing_below received epoch bucket (count_in received epoch bucket)

-- an epoch is whole: each bucket's Done was received, and so was each of its changes
abbrev pub is_whole : Fed → (epoch : ℕ) → Bool
is_whole fed epoch = list_all (λ bucket. is_none (missing_of_bucket fed.received epoch bucket)) (numbers_below fed.buckets)

-- the epoch of this message, if it is a Done whose previous epoch is `last`
abbrev pub epoch_following : (last : ℕ) → Message → Option ℕ
epoch_following last (Part bucket epoch place change) = None
epoch_following last (Done bucket epoch prev count) = if prev.0 == last then Some epoch.0 else None

-- the next epoch to take, if it is known: the epoch of a Done whose previous epoch is the last
-- taken one
abbrev pub next_epoch : Fed → Option ℕ
next_epoch fed = first_of (filter_map (epoch_following fed.last) fed.received)

-- the first message that is missing of the next epoch, from the lowest bucket that lacks one; the
-- Done of bucket 0 if the next epoch is unknown
unfoldable pub missing_of : Fed → Option Missing
missing_of fed =
    option_map_or (λ epoch. first_of (filter_map (missing_of_bucket fed.received epoch) (numbers_below fed.buckets)))
    (next_epoch fed) (Some (record { bucket = 0; place = None }))

-- the part of a bucket in an epoch, as received, in the order of the places
abbrev pub part_received : List Message → (epoch bucket : ℕ) → List Change
part_received received epoch bucket =
    filter_map (part_in received epoch bucket) (numbers_below (option_map_or (λ count. count) (count_in received epoch bucket) 0))

-- an epoch as assembled from the messages that were received
abbrev pub assembly : Fed → (epoch : ℕ) → Assembled
assembly fed epoch = record {
  epoch = record { 0 = epoch };
  prev = record { 0 = fed.last };
  parts = map (part_received fed.received epoch) (numbers_below fed.buckets);
}

-- the next epoch, assembled, if it is whole
unfoldable pub assembled_of : Fed → Option Assembled
assembled_of fed = option_and_then (λ epoch. if is_whole fed epoch then Some (assembly fed epoch) else None) (next_epoch fed)

-- the event buffer after the next epoch was taken; unchanged if that epoch is not whole
abbrev pub taken_from : Fed → Fed
taken_from fed = record fed { last = option_map_or (λ assembled. assembled.epoch.0) (assembled_of fed) fed.last }

-- no message has an epoch between a closed epoch and the one that was closed before it
abbrev pub AreChained : List Message → Type 0
AreChained received =
    (bucket : ℕ) (epoch prev : Epoch) (count : ℕ) → Contains received (Done bucket epoch prev count) →
    (prev.0 < epoch.0) × ((message : Message) → Contains received message → prev.0 < epoch_in message → epoch.0 ≤ epoch_in message)
