-- The messages of a journal, the messages that data nodes send at a commit, and the Done of a
-- bucket in an epoch. The buckets and their messages are this project's own.
use Rattle.std.specs.Prelude.{◌≡◌, ℕ, List, ◌++◌, length, map, take, Some}
use Rattle.std.specs.List.{enumerate_from, slice_get}
use Rattle.rb_base.specs.Bucket.{bucket_number}
use Rattle.rb_base.specs.declared.change.Change.{Change}
use Rattle.rb_base.specs.declared.message.Message.{Message}
use Rattle.rb_base.specs.declared.message.Message.TheVariants.{Part, Done}
use Rattle.rb_base.specs.declared.message.Sent.{Sent}
use Rattle.rb_journal_defs.specs.Journal.{Journal, previous_closed}
use Rattle.rb_journal_defs.specs.Order.{IsClosed}
use Rattle.rb_journal_defs.specs.Body.{Shape, in_bucket, part_of}

-- the bucket of a message
abbrev pub bucket_in : Message → ℕ
bucket_in (Part bucket epoch place change) = bucket
bucket_in (Done bucket epoch prev count) = bucket

-- the epoch of a message
abbrev pub epoch_in : Message → ℕ
epoch_in (Part bucket epoch place change) = epoch.0
epoch_in (Done bucket epoch prev count) = epoch.0

-- the Done of a bucket in an epoch, which ends the bucket's part
abbrev pub done_message : Shape → (epoch bucket : ℕ) → Journal → Message
done_message shape epoch bucket journal =
    Done bucket (record { 0 = epoch }) (record { 0 = previous_closed epoch journal }) (length (part_of shape epoch bucket journal))

-- a message of a journal: the change at its place in the part of its bucket, or the Done of its
-- bucket in a closed epoch
abbrev pub IsMessageOf : Shape → Journal → Message → Type 0
IsMessageOf shape journal (Part bucket epoch place change) = slice_get (part_of shape epoch.0 bucket journal) place ≡ Some change
IsMessageOf shape journal (Done bucket epoch prev count) =
    IsClosed epoch.0 journal × (prev.0 ≡ previous_closed epoch.0 journal) × (count ≡ length (part_of shape epoch.0 bucket journal))

-- the message of a change, given the earlier changes of its epoch
abbrev pub part_message : (buckets epoch : ℕ) → (earlier : List Change) → Change → Message
part_message buckets epoch earlier change =
    let bucket = bucket_number change.table change.key buckets in
    Part bucket (record { 0 = epoch }) (length (in_bucket buckets bucket earlier)) change

-- the messages that a commit of these changes sends, given the earlier changes of its epoch: one
-- for each change, in their order
unfoldable pub parts_sent : (buckets epoch : ℕ) → (earlier : List Change) → List Change → List Message
parts_sent buckets epoch earlier changes =
    map (λ numbered. part_message buckets epoch (earlier ++ take numbered.0 changes) numbered.1) (enumerate_from 0 changes)

-- the home node of a bucket, which has the bucket's number
abbrev pub home_node : (bucket : ℕ) → ℕ
home_node bucket = bucket

-- a message as the owner of its bucket sends it
abbrev pub sent_by : (owner : ℕ → ℕ) → Message → Sent
sent_by owner message = record { sender = owner (bucket_in message); message = message }
