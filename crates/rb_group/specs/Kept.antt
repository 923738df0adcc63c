-- What a group represents: what was done in it, which of its nodes are up, and what each has
-- buffered.
use Rattle.std.specs.Prelude.{◌≡◌, ℕ, ◌+◌, ◌-◌, ◌==◌, ◌<◌, ◌≤◌, nat_le, nat_lt, ◌&&◌, not, max, Bool, true, false, if◌then◌else◌, List, [], ◌∷◌, ◌++◌, length, map, filter, replicate, Option, Some, None, unwrap_or}
use Rattle.std.specs.List.{enumerate_from, find, flat_map, slice_get}
use Rattle.std.specs.Option.{option_map_or}
use Rattle.rb_base.specs.declared.change.Change.{Change}
use Rattle.rb_base.specs.declared.message.Message.{Message}
use Rattle.rb_base.specs.declared.message.Message.TheVariants.{Part, Done}
use Rattle.rb_base.specs.declared.message.Sent.{Sent}
use Rattle.rb_journal_defs.specs.Body.{numbers_below}
use Rattle.rb_message_defs.specs.Message.{home_node}
use Rattle.rb_message_defs.specs.Nodes.{sent_from}
use Rattle.rb_bucket.specs.Bucket as node
use Rattle.rb_bucket.specs.declared.bucket.BucketBuffer.{BucketBuffer}

-- the lowest bucket, which is also the lowest node; the open epoch; the last acknowledged one, if
-- any is; the changes of each bucket in each epoch, in order; the closed epochs, each with the one
-- closed before it, the oldest first; for each node that is up, the first epoch that it buffers;
-- and the owner of each bucket
pub record Kept : Type 0 where
  pub first : ℕ
  pub opened : ℕ
  pub acknowledged : Option ℕ
  pub changes : (epoch bucket : ℕ) → List Change
  pub closes : List (ℕ × ℕ)
  pub nodes : List (Option ℕ)
  pub owners : List ℕ

-- the numbers of its buckets, and so of its nodes
abbrev pub numbers_of : Kept → List ℕ
numbers_of kept = map (λ step. kept.first + step) (numbers_below (length kept.nodes))

-- a new group of `nodes` nodes: all are up, and each owns the bucket of its number
abbrev pub new_group : (first nodes opened : ℕ) → Kept
new_group first nodes opened = record {
  first = first;
  opened = opened;
  acknowledged = None;
  changes = λ epoch bucket. [];
  closes = [];
  nodes = replicate nodes (Some opened);
  owners = map (λ step. first + step) (numbers_below nodes);
}

-- the first epoch that a node buffers, if it is up
abbrev pub since_in : Kept → (number : ℕ) → Option ℕ
since_in kept number = unwrap_or (slice_get kept.nodes (number - kept.first)) None

-- the owner of a bucket
abbrev pub owner_in : Kept → (bucket : ℕ) → ℕ
owner_in kept bucket = unwrap_or (slice_get kept.owners (bucket - kept.first)) (home_node bucket)

-- an epoch is after the acknowledged ones
abbrev pub is_after : (acknowledged : Option ℕ) → (epoch : ℕ) → Bool
is_after acknowledged epoch = option_map_or (λ last. nat_lt last epoch) acknowledged true

-- the needed epoch, the oldest that may have to be resent: the first unacknowledged closed epoch,
-- or else the open one
abbrev pub needed_in : Kept → ℕ
needed_in kept = unwrap_or (find (is_after kept.acknowledged) (map (λ close. close.0) kept.closes)) kept.opened

-- a node covers: it is up, and buffers the needed epoch
abbrev pub covers_in : Kept → (number : ℕ) → Bool
covers_in kept number = option_map_or (λ since. nat_le since (needed_in kept)) (since_in kept number) false

-- the open epoch that a buffer gives while `opened` is open: none, if the buffer has no change of
-- `opened`; else `opened`, which it buffers
abbrev pub IsOpenOf : Option ℕ → (since opened : ℕ) → BucketBuffer → Type 0
IsOpenOf None since opened buffer = (b : ℕ) → node.changes_kept buffer opened b ≡ []
IsOpenOf (Some epoch) since opened buffer = (epoch ≡ opened) × (since ≤ epoch)

-- a node that buffers from an epoch on holds everything unacknowledged from that epoch on
pub record HoldsFrom (since : ℕ) (buffer : BucketBuffer) (kept : Kept) : Type 0 where
  pub changes : (e b : ℕ) → node.changes_kept buffer e b ≡ (if nat_le since e && is_after kept.acknowledged e then kept.changes e b else [])
  pub closes : node.closes_kept buffer ≡ filter (λ close. nat_le since close.0 && is_after kept.acknowledged close.0) kept.closes
  pub opened : IsOpenOf (node.open_of buffer) since kept.opened buffer
  pub since_is : node.since_of buffer ≡ since
  pub buckets : (b : ℕ) → kept.first ≤ b → b < kept.first + length kept.nodes → node.IsBucketOf buffer b

-- a node has a buffer if it is up
abbrev pub HoldsNode : Option BucketBuffer → Option ℕ → Kept → Type 0
HoldsNode None None kept = Unit {0}
HoldsNode (Some buffer) (Some since) kept = HoldsFrom since buffer kept
HoldsNode None (Some since) kept = ⊥
HoldsNode (Some buffer) None kept = ⊥

-- the Parts of a bucket in an epoch, by place
abbrev pub parts_in : Kept → (bucket epoch : ℕ) → List Message
parts_in kept bucket epoch = map (λ numbered. Part bucket (record { 0 = epoch }) numbered.0 numbered.1) (enumerate_from 0 (kept.changes epoch bucket))

-- the Done of a bucket in a closed epoch
abbrev pub done_in : Kept → (bucket : ℕ) → (close : ℕ × ℕ) → Message
done_in kept bucket close = Done bucket (record { 0 = close.0 }) (record { 0 = close.1 }) (length (kept.changes close.0 bucket))

-- the unacknowledged messages of a bucket
abbrev pub unacknowledged_in : Kept → (bucket : ℕ) → List Message
unacknowledged_in kept bucket =
    flat_map (λ close. parts_in kept bucket close.0 ++ done_in kept bucket close ∷ []) (filter (λ close. is_after kept.acknowledged close.0) kept.closes)
    ++ parts_in kept bucket kept.opened

-- what a node resends of a bucket
abbrev pub again_in : Kept → (sender bucket : ℕ) → List Sent
again_in kept sender bucket = sent_from sender (unacknowledged_in kept bucket)

-- a bucket that returns to its home node at a close
abbrev pub returns_in : Kept → (bucket : ℕ) → Bool
returns_in kept bucket = not (owner_in kept bucket == home_node bucket) && covers_in kept (home_node bucket)

-- after one more change of a bucket in the open epoch
abbrev pub with_part : (bucket : ℕ) → Change → Kept → Kept
with_part bucket change kept = record kept { changes = node.with_change kept.opened bucket change kept.changes }

-- after the close of the open epoch, before which `prev` was closed; `next` opens
abbrev pub only_closed : (prev next : ℕ) → Kept → Kept
only_closed prev next kept = record kept { opened = next; closes = kept.closes ++ (kept.opened, prev) ∷ [] }

-- the same, with the buckets that return to their home nodes
abbrev pub with_close : (prev next : ℕ) → Kept → Kept
with_close prev next kept =
    let after = only_closed prev next kept in
    record after { owners = map (λ bucket. if returns_in after bucket then home_node bucket else owner_in kept bucket) (numbers_of kept) }

-- what a close sends: the owners' Dones, then the resends of the home nodes that get their buckets
-- back
abbrev pub sent_at_close : (prev next : ℕ) → Kept → List Sent
sent_at_close prev next kept =
    let after = only_closed prev next kept in
    map (λ bucket. record { sender = owner_in kept bucket; message = done_in kept bucket (kept.opened, prev) }) (numbers_of kept)
    ++ flat_map (λ bucket. again_in after bucket bucket) (filter (returns_in after) (numbers_of kept))

-- the other nodes, in cyclic order after one
abbrev pub others_after : Kept → (number : ℕ) → List ℕ
others_after kept number = filter (nat_lt number) (numbers_of kept) ++ filter (λ other. nat_lt other number) (numbers_of kept)

-- the node that takes over a failed one's buckets
abbrev pub successor_in : Kept → (number : ℕ) → Option ℕ
successor_in kept number = find (covers_in kept) (others_after kept number)

-- the buckets that a node owns, ascending
abbrev pub owned_in : Kept → (number : ℕ) → List ℕ
owned_in kept number = filter (λ bucket. owner_in kept bucket == number) (numbers_of kept)

-- after a node goes down, or comes up with an empty buffer
abbrev pub with_since : (number : ℕ) → Option ℕ → Kept → Kept
with_since number since kept =
    record kept { nodes = map (λ numbered. if kept.first + numbered.0 == number then since else numbered.1) (enumerate_from 0 kept.nodes) }

-- after a node's buckets went to its successor
abbrev pub with_takeover : (number successor : ℕ) → Kept → Kept
with_takeover number successor kept =
    record (with_since number None kept) { owners = map (λ owner. if owner == number then successor else owner) kept.owners }

-- what the successor sends
abbrev pub sent_at_takeover : (number successor : ℕ) → Kept → List Sent
sent_at_takeover number successor kept = flat_map (again_in kept successor) (owned_in kept number)

-- what the owners resend, the lowest bucket first
abbrev pub sent_at_resend : Kept → List Sent
sent_at_resend kept = flat_map (λ bucket. again_in kept (owner_in kept bucket) bucket) (numbers_of kept)

-- the last acknowledged epoch after all epochs up to one are acknowledged
abbrev pub acknowledged_after : (acknowledged : Option ℕ) → (through : ℕ) → ℕ
acknowledged_after acknowledged through = option_map_or (λ last. max last through) acknowledged through

-- after all epochs up to one are acknowledged, and at least those that already were
abbrev pub with_acknowledged : (through : ℕ) → Kept → Kept
with_acknowledged through kept = record kept { acknowledged = Some (acknowledged_after kept.acknowledged through) }
