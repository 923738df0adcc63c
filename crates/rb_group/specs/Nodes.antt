-- What a group's own functions return, in terms of its value, and what they need.
use Rattle.std.specs.Prelude.{◌≡◌, ℕ, ◌+◌, ◌-◌, ◌==◌, ◌<◌, ◌≤◌, ◌^◌, nat_le, nat_lt, ◌++◌, not, ◌&&◌, Bool, false, if◌then◌else◌, List, [], map, filter, length, Option, Some, None, unwrap_or}
use Rattle.std.specs.List.{slice_get, flat_map}
use Rattle.std.specs.Option.{option_map_or}
use Rattle.rb_base.specs.declared.epoch.Epoch.{Epoch}
use Rattle.rb_base.specs.declared.message.Message.TheVariants.{Done}
use Rattle.rb_base.specs.declared.message.Sent.{Sent}
use Rattle.rb_journal_defs.specs.Body.{numbers_below}
use Rattle.rb_message_defs.specs.Nodes.{sent_from}
use Rattle.rb_bucket.specs.Bucket as node
use Rattle.rb_bucket.specs.declared.bucket.BucketBuffer.{BucketBuffer}
use Rattle.rb_group.specs.Kept.{Kept, HoldsNode, successor_in}
use Rattle.rb_group.specs.Group.{Keeps, IsOrdered, IsNumberOf, AllFit}
use Rattle.rb_group.specs.declared.group.Group.{Group}

-- the buffers of a group's nodes hold their shares
abbrev pub AllHold : List (Option BucketBuffer) → Kept → Type 0
AllHold buffers kept = (k : ℕ) (buffer : Option BucketBuffer) (since : Option ℕ) → slice_get buffers k ≡ Some buffer → slice_get kept.nodes k ≡ Some since → HoldsNode buffer since kept

-- the numbers of epochs
abbrev pub epoch_numbers : List Epoch → List ℕ
epoch_numbers epochs = map (λ (e : Epoch). e.0) epochs

-- `count` numbers from `first` on, ascending
abbrev pub numbers_from : (first count : ℕ) → List ℕ
numbers_from first count = map (λ step. first + step) (numbers_below count)

-- the numbers of a group's buckets
abbrev pub numbers_in : Group → List ℕ
numbers_in group = numbers_from group.first (length group.owners.items)

-- a number is one of its nodes and buckets
abbrev pub IsIn : Group → (number : ℕ) → Type 0
IsIn group number = (group.first ≤ number) × (number < group.first + length group.owners.items) × (length group.owners.items ≡ length group.buffers.items)

-- its needed epoch
abbrev pub needed_of : Group → ℕ
needed_of group = unwrap_or (slice_get (epoch_numbers group.closed.items) 0) group.opened.0

-- the buffer of a node that is up
abbrev pub buffer_of : Group → (number : ℕ) → Option BucketBuffer
buffer_of group number = unwrap_or (slice_get group.buffers.items (number - group.first)) None

-- a node covers
abbrev pub covers_of : Group → (number : ℕ) → Bool
covers_of group number = option_map_or (λ buffer. nat_le (node.since_of buffer) (needed_of group)) (buffer_of group number) false

-- the owner of a bucket
abbrev pub owner_of : Group → (bucket : ℕ) → ℕ
owner_of group bucket = unwrap_or (slice_get group.owners.items (bucket - group.first)) bucket

-- a bucket that returns to its home node at a close
abbrev pub returns_of : Group → (bucket : ℕ) → Bool
returns_of group bucket = not (owner_of group bucket == bucket) && covers_of group bucket

-- the number of changes that a node holds of a bucket in the open epoch
abbrev pub count_of : Group → (number bucket : ℕ) → ℕ
count_of group number bucket = option_map_or (λ buffer. length (node.changes_kept buffer group.opened.0 bucket)) (buffer_of group number) 0

-- what a node resends of a bucket
abbrev pub again_of : Group → (sender bucket : ℕ) → List Sent
again_of group sender bucket = option_map_or (λ buffer. sent_from sender (node.messages_kept buffer bucket)) (buffer_of group sender) []

-- the Done of a bucket that its owner sends
abbrev pub done_of : Group → (prev : Epoch) → (bucket : ℕ) → Sent
done_of group prev bucket =
    record { sender = owner_of group bucket; message = Done bucket group.opened prev (count_of group (owner_of group bucket) bucket) }

-- the buckets that a node owns
abbrev pub owned_of : Group → (number : ℕ) → List ℕ
owned_of group number = filter (λ bucket. owner_of group bucket == number) (numbers_in group)

-- what a successor sends
abbrev pub taken_of : Group → (number successor : ℕ) → List Sent
taken_of group number successor = flat_map (again_of group successor) (owned_of group number)

-- what the home nodes resend that get their buckets back
abbrev pub returned_of : Group → List Sent
returned_of group = flat_map (λ bucket. again_of group bucket bucket) (filter (returns_of group) (numbers_in group))

-- a group represents something that can be counted
abbrev pub HasCountableBuffers : Group → Type 0
HasCountableBuffers group = (kept : Kept) × Keeps group kept × AllFit kept

-- a group represents something
abbrev pub KeepsSome : Group → Type 0
KeepsSome group = (kept : Kept) × Keeps group kept

-- a node of these buffers can take a change of a bucket
abbrev pub CanAdd : List (Option BucketBuffer) → (epoch bucket : ℕ) → Type 0
CanAdd buffers epoch bucket =
    (kept : Kept) × AllHold buffers kept × (length buffers ≡ length kept.nodes) × (kept.opened ≡ epoch) × IsNumberOf kept bucket × (length (kept.changes kept.opened bucket) < 2 ^ 32 - 1)

-- one node's buffer can
abbrev pub CanAddOne : Option BucketBuffer → (epoch bucket : ℕ) → Type 0
CanAddOne buffer epoch bucket =
    (kept : Kept) × (since : Option ℕ) × HoldsNode buffer since kept × (kept.opened ≡ epoch) × IsNumberOf kept bucket × (length (kept.changes kept.opened bucket) < 2 ^ 32 - 1)

-- these buffers can release what is acknowledged, because the closed epochs rise
abbrev pub CanRelease : List (Option BucketBuffer) → Type 0
CanRelease buffers = (kept : Kept) × AllHold buffers kept × (length buffers ≡ length kept.nodes) × IsOrdered kept

-- one node's buffer can
abbrev pub CanReleaseOne : Option BucketBuffer → Type 0
CanReleaseOne buffer = (kept : Kept) × (since : Option ℕ) × HoldsNode buffer since kept × IsOrdered kept

-- what counting a node's changes of a bucket needs
abbrev pub CanCount : Group → (number bucket : ℕ) → Type 0
CanCount group number bucket =
    (kept : Kept) × Keeps group kept × IsNumberOf kept number × IsNumberOf kept bucket × (length (kept.changes kept.opened bucket) < 2 ^ 32)

-- what resending a bucket needs
abbrev pub CanSend : Group → (sender bucket : ℕ) → Type 0
CanSend group sender bucket = (kept : Kept) × Keeps group kept × IsNumberOf kept sender × IsNumberOf kept bucket × AllFit kept

-- the owner of a bucket after a close
abbrev pub owner_after : Group → (bucket : ℕ) → ℕ
owner_after group bucket = if returns_of group bucket then bucket else owner_of group bucket

-- the other nodes, in cyclic order after one
abbrev pub others_of : Group → (number : ℕ) → List ℕ
others_of group number = filter (nat_lt number) (numbers_in group) ++ filter (λ other. nat_lt other number) (numbers_in group)

-- what a search for a covering node needs
abbrev pub CanSeek : Group → (from until : ℕ) → Type 0
CanSeek group from until = KeepsSome group × (from ≤ until) × (until ≤ length group.owners.items)

-- what a takeover needs
abbrev pub CanTakeOver : Group → (number successor : ℕ) → Type 0
CanTakeOver group number successor = (kept : Kept) × Keeps group kept × IsNumberOf kept number × (successor_in kept number ≡ Some successor) × AllFit kept
