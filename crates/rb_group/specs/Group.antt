-- What a group's value represents, and what its calls need and return.
use Rattle.std.specs.Prelude.{◌≡◌, ℕ, ◌+◌, ◌-◌, ◌/◌, ◌<◌, ◌≤◌, ◌^◌, true, [], map, filter, length, Option, Some, None, is_some}
use Rattle.std.specs.List.{AllByRecursion, slice_get}
use Rattle.std.specs.Option.{option_map}
use Rattle.rb_base.specs.declared.epoch.Epoch.{Epoch}
use Rattle.rb_base.specs.declared.message.Sent.{Sent}
use Rattle.rb_base.specs.declared.message.Message.TheVariants.{Part}
use Rattle.rb_base.specs.declared.change.Change.{Change}
use Rattle.rb_bucket.specs.Bucket.{Rising}
use Rattle.rb_bucket.specs.declared.bucket.BucketBuffer.{BucketBuffer}
use Rattle.rb_group.specs.Kept.{Kept, HoldsNode, is_after, since_in, owner_in, needed_in, covers_in, with_since, with_takeover, sent_at_takeover, successor_in, owned_in}
use Rattle.rb_group.specs.declared.group.Group.{Group}
use Rattle.rb_group.specs.declared.answers.FailOutcome.{FailOutcome}
use Rattle.rb_group.specs.declared.answers.FailOutcome.TheVariants as outcomes
use Rattle.rb_group.specs.declared.answers.GroupFault.{GroupFault}
use Rattle.rb_group.specs.declared.answers.GroupFault.TheVariants as faults

-- closed epochs rise and are below the open one; the open one is not acknowledged; nothing was done
-- in a later epoch
pub record IsOrdered (kept : Kept) : Type 0 where
  pub closes : Rising kept.opened (map (λ close. close.0) kept.closes)
  pub acknowledged : is_after kept.acknowledged kept.opened ≡ true
  pub later : (epoch bucket : ℕ) → kept.opened < epoch → kept.changes epoch bucket ≡ []

-- a number is one of the group's nodes and buckets
abbrev pub IsNumberOf : Kept → (number : ℕ) → Type 0
IsNumberOf kept number = (kept.first ≤ number) × (number < kept.first + length kept.nodes)

-- the last acknowledged epoch, if any is
abbrev pub acknowledged_of : Group → Option ℕ
acknowledged_of group = option_map (λ (e : Epoch). e.0) group.acknowledged

-- a group represents this: each node that is up has buffered its share
pub record Keeps (group : Group) (kept : Kept) : Type 0 where
  pub first : group.first ≡ kept.first
  pub opened : group.opened.0 ≡ kept.opened
  pub acknowledged : acknowledged_of group ≡ kept.acknowledged
  pub count : length group.buffers.items ≡ length kept.nodes
  pub nodes : (k : ℕ) (buffer : Option BucketBuffer) (since : Option ℕ) → slice_get group.buffers.items k ≡ Some buffer → slice_get kept.nodes k ≡ Some since → HoldsNode buffer since kept
  pub owners : group.owners.items ≡ kept.owners
  pub owner_count : length kept.owners ≡ length kept.nodes
  pub owners_in : AllByRecursion (IsNumberOf kept) kept.owners
  pub some : 1 ≤ length kept.nodes
  pub fits : kept.first + length kept.nodes ≤ 2 ^ 32
  pub order : IsOrdered kept
  -- the closed epochs after the acknowledged ones, oldest first
  pub closed : map (λ (e : Epoch). e.0) group.closed.items ≡ filter (is_after kept.acknowledged) (map (λ close. close.0) kept.closes)
  -- the buckets can be counted in 32 bits
  pub countable : length group.owners.items < 2 ^ 32

-- each bucket's owner covers
abbrev pub AllCover : Kept → Type 0
AllCover kept = (bucket : ℕ) → IsNumberOf kept bucket → covers_in kept (owner_in kept bucket) ≡ true

-- the changes of each bucket in each epoch can be counted in 32 bits
abbrev pub AllFit : Kept → Type 0
AllFit kept = (epoch bucket : ℕ) → length (kept.changes epoch bucket) < 2 ^ 32

-- what the commit of a change of a bucket needs
abbrev pub CanCommit : Group → (bucket : ℕ) → Type 0
CanCommit group bucket =
    (kept : Kept) × Keeps group kept × IsNumberOf kept bucket × (covers_in kept (owner_in kept bucket) ≡ true) × (length (kept.changes kept.opened bucket) < 2 ^ 32 - 1)

-- the message that it sends
abbrev pub part_sent : Kept → (bucket : ℕ) → Change → Sent
part_sent kept bucket change = record { sender = owner_in kept bucket; message = Part bucket (record { 0 = kept.opened }) (length (kept.changes kept.opened bucket)) change }

-- what a close needs
abbrev pub CanClose : Group → (next : ℕ) → Type 0
CanClose group next = (kept : Kept) × Keeps group kept × AllCover kept × AllFit kept × (kept.opened < next)

-- what a resend needs
abbrev pub CanResend : Group → Type 0
CanResend group = (kept : Kept) × Keeps group kept × AllCover kept × AllFit kept

-- what the failure of a node needs
abbrev pub CanFail : Group → (number : ℕ) → Type 0
CanFail group number = (kept : Kept) × Keeps group kept × IsNumberOf kept number × AllFit kept

-- what the restart of a node needs
abbrev pub CanRestart : Group → (number : ℕ) → Type 0
CanRestart group number = (kept : Kept) × Keeps group kept × IsNumberOf kept number × (kept.opened < 2 ^ 64 - 1)

-- what an acknowledgement needs
abbrev pub CanAcknowledge : Group → (through : ℕ) → Type 0
CanAcknowledge group through = (kept : Kept) × Keeps group kept × (through < kept.opened)

-- what a failure leaves: the next node that covers took over, or none covers and the group is lost
abbrev pub FailsTo : Kept → (number : ℕ) → FailOutcome → (new : Group) → Type 0
FailsTo kept number (outcomes.Takeover count sent) new =
    (successor : ℕ) × (successor_in kept number ≡ Some successor) × (count ≡ length (owned_in kept number)) × (sent ≡ sent_at_takeover number successor kept)
    × Keeps new (with_takeover number successor kept)
FailsTo kept number (outcomes.Lost group epoch) new =
    (successor_in kept number ≡ None) × (group ≡ kept.first / length kept.nodes) × (epoch.0 ≡ needed_in kept) × Keeps new (with_since number None kept)

-- why a node does not fail
abbrev pub FailFault : Kept → (number : ℕ) → GroupFault → Type 0
FailFault kept number (faults.NodeDown other) = (other ≡ number) × (since_in kept number ≡ None)
FailFault kept number (faults.NodeUp other) = ⊥
FailFault kept number faults.NoMemory = Unit {0}

-- why a node does not restart
abbrev pub RestartFault : Kept → (number : ℕ) → GroupFault → Type 0
RestartFault kept number (faults.NodeDown other) = ⊥
RestartFault kept number (faults.NodeUp other) = (other ≡ number) × (is_some (since_in kept number) ≡ true)
RestartFault kept number faults.NoMemory = Unit {0}
