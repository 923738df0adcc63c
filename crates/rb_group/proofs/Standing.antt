-- What a group represents: read off its value, and kept from one value to the next.
use Rattle.std.proofs.Common.{◌≡◌, ◌⊎◌, inl, inr, ℕ, ◌+◌, ◌-◌, ◌<◌, ◌≤◌, zero, suc, Bool, true, false, List, [], ◌∷◌, length, map, set, refl, subst, sym, ap, ◌∙◌, arith}
use Rattle.std.specs.Prelude.{◌==◌, if◌then◌else◌, nat_le, nat_lt, Option, Some, None, filter, unwrap_or, is_some}
use Rattle.std.specs.List.{slice_get, AllByRecursion, enumerate_from}
use Rattle.std.specs.Option.{option_map, option_map_or}
use Rattle.std.proofs.lemmas.Bool.{cases_eq, ne_eqb, eq-eqb, lt-ltb}
use Rattle.std.proofs.lemmas.List.{length-set}
use Rattle.rb_base.specs.declared.epoch.Epoch.{Epoch}
use Rattle.rb_bucket.specs.Bucket as node
use Rattle.rb_bucket.specs.declared.bucket.BucketBuffer.{BucketBuffer}
use Rattle.rb_group.specs.declared.group.Group.{Group}
use Rattle.rb_group.specs.Kept.{Kept, is_after, HoldsNode, since_in, owner_in, needed_in, covers_in, with_since, with_acknowledged}
use Rattle.rb_group.specs.Group.{Keeps, IsNumberOf, acknowledged_of}
use Rattle.rb_group.specs.Nodes.{AllHold, IsIn, epoch_numbers, needed_of, buffer_of, covers_of, owner_of}
use Rattle.rb_group.proofs.After.{after_both, after_same, after_new}
use Rattle.rb_group.proofs.Lists.{there, find_first, some_is, slice_get_set, following}
use Rattle.rb_group.proofs.Holding.{since_same}

-- a number of what it keeps is one of the group
pub is_in : (group : Group) (kept : Kept) (number : ℕ) → Keeps group kept → IsNumberOf kept number → IsIn group number
is_in group kept number keeps is =
    let same : length group.owners.items ≡ length kept.nodes = ap length keeps.owners ∙ keeps.owner_count in
    let a = keeps.first in
    (omega (arith, is.0), omega (arith, is.1), same ∙ sym keeps.count)

pub needed_same : (group : Group) (kept : Kept) → Keeps group kept → needed_in kept ≡ needed_of group
needed_same group kept keeps =
    ap (λ (o : Option ℕ). unwrap_or o kept.opened) (find_first (is_after kept.acknowledged) (map (λ close. close.0) kept.closes))
    ∙ ap (λ (xs : List ℕ). unwrap_or (slice_get xs 0) kept.opened) (sym keeps.closed)
    ∙ ap (λ (n : ℕ). unwrap_or (slice_get (epoch_numbers group.closed.items) 0) n) (sym keeps.opened)

-- a node's buffer
pub held_node : (group : Group) (kept : Kept) (number : ℕ) → Keeps group kept → IsNumberOf kept number → HoldsNode (buffer_of group number) (since_in kept number) kept
held_node group kept number keeps is =
    keeps.nodes (number - kept.first) (buffer_of group number) (since_in kept number)
    (ap (λ (f : ℕ). slice_get group.buffers.items (number - f)) (sym keeps.first) ∙ there group.buffers.items (number - group.first) None (let a = keeps.first in omega (arith, is, keeps.count)))
    (there kept.nodes (number - kept.first) None (omega (arith, is)))

pub up_same : (group : Group) (kept : Kept) (number : ℕ) → Keeps group kept → IsNumberOf kept number → since_in kept number ≡ option_map node.since_of (buffer_of group number)
up_same group kept number keeps is = since_same (buffer_of group number) (since_in kept number) kept (held_node group kept number keeps is)

pub is_up_same : (group : Group) (kept : Kept) (number : ℕ) → Keeps group kept → IsNumberOf kept number → is_some (since_in kept number) ≡ is_some (buffer_of group number)
is_up_same group kept number keeps is = ap is_some (up_same group kept number keeps is) ∙ go (buffer_of group number)
  where
    go : (b : Option BucketBuffer) → is_some (option_map node.since_of b) ≡ is_some b
    go None = refl
    go (Some b) = refl

pub covers_same : (group : Group) (kept : Kept) (number : ℕ) → Keeps group kept → IsNumberOf kept number → covers_in kept number ≡ covers_of group number
covers_same group kept number keeps is =
    ap (λ (o : Option ℕ). option_map_or (λ since. nat_le since (needed_in kept)) o false) (up_same group kept number keeps is)
    ∙ ap (λ (n : ℕ). option_map_or (λ since. nat_le since n) (option_map node.since_of (buffer_of group number)) false) (needed_same group kept keeps)
    ∙ go (buffer_of group number)
  where
    go : (b : Option BucketBuffer) → option_map_or (λ since. nat_le since (needed_of group)) (option_map node.since_of b) false ≡ option_map_or (λ buffer. nat_le (node.since_of buffer) (needed_of group)) b false
    go None = refl
    go (Some b) = refl

pub owner_same : (group : Group) (kept : Kept) (bucket : ℕ) → Keeps group kept → owner_in kept bucket ≡ owner_of group bucket
owner_same group kept bucket keeps =
    ap (λ (xs : List ℕ). unwrap_or (slice_get xs (bucket - kept.first)) bucket) (sym keeps.owners) ∙ ap (λ (f : ℕ). unwrap_or (slice_get group.owners.items (bucket - f)) bucket) (sym keeps.first)

-- what all items have, one has
pub at_place : {X : Type 0} → (P : X → Type 0) (xs : List X) (k : ℕ) (d : X) → AllByRecursion P xs → k < length xs → P (unwrap_or (slice_get xs k) d)
at_place P [] k d all within = absurd (omega arith)
at_place P (x ∷ xs) zero d all within = all.0
at_place P (x ∷ xs) (suc k) d all within = at_place P xs k d all.1 (omega arith)

-- an owner is one of the nodes
pub owner_is_in : (group : Group) (kept : Kept) (bucket : ℕ) → Keeps group kept → IsNumberOf kept bucket → IsNumberOf kept (owner_in kept bucket)
owner_is_in group kept bucket keeps is = at_place (IsNumberOf kept) kept.owners (bucket - kept.first) bucket keeps.owners_in (omega (arith, is, keeps.owner_count))

-- a group that keeps the same but for nodes and owners
pub moved_nodes : (b : Option BucketBuffer) (s : Option ℕ) (kept : Kept) (nodes : List (Option ℕ)) (owners : List ℕ) → length nodes ≡ length kept.nodes → HoldsNode b s kept → HoldsNode b s (record kept { nodes = nodes; owners = owners })
moved_nodes None None kept nodes owners same holds = tt
moved_nodes (Some b) (Some s) kept nodes owners same holds = record {
  changes = holds.changes;
  closes = holds.closes;
  opened = holds.opened;
  since_is = holds.since_is;
  buckets = λ b low high. holds.buckets b low (omega arith);
}
moved_nodes None (Some s) kept nodes owners same holds = absurd holds
moved_nodes (Some b) None kept nodes owners same holds = absurd holds

pub keeps_moved : (old new : Group) (kept : Kept) (nodes : List (Option ℕ)) (owners : List ℕ) → Keeps old kept → new.first ≡ old.first → new.opened ≡ old.opened → new.acknowledged ≡ old.acknowledged → new.closed ≡ old.closed →
    new.owners.items ≡ owners → length owners ≡ length kept.owners → AllByRecursion (IsNumberOf kept) owners → length nodes ≡ length kept.nodes → length new.buffers.items ≡ length old.buffers.items →
    AllHold new.buffers.items (record kept { nodes = nodes; owners = owners }) → Keeps new (record kept { nodes = nodes; owners = owners })
keeps_moved old new kept nodes owners keeps first opened acknowledged closed own own_count own_in count buffers hold = record {
  first = first ∙ keeps.first;
  opened = ap (λ (e : Epoch). e.0) opened ∙ keeps.opened;
  acknowledged = ap (option_map (λ (e : Epoch). e.0)) acknowledged ∙ keeps.acknowledged;
  count = buffers ∙ keeps.count ∙ sym count;
  nodes = hold;
  owners = own;
  owner_count = own_count ∙ keeps.owner_count ∙ sym count;
  owners_in = subst (λ (n : ℕ). AllByRecursion (λ (x : ℕ). (kept.first ≤ x) × (x < kept.first + n)) owners) (sym count) own_in;
  some = (let h = keeps.some in omega arith);
  fits = (let h = keeps.fits in omega arith);
  order = record { closes = keeps.order.closes; acknowledged = keeps.order.acknowledged; later = keeps.order.later };
  closed = ap (λ c. map (λ (e : Epoch). e.0) c.items) closed ∙ keeps.closed;
  countable = (let h = keeps.countable in let a = ap length keeps.owners in let b = ap length own in omega arith);
}

-- the nodes when one goes down, or comes up
pub since_at : (first number start : ℕ) (since : Option ℕ) (nodes : List (Option ℕ)) (k : ℕ) →
    slice_get (map (λ numbered. if first + numbered.0 == number then since else numbered.1) (enumerate_from start nodes)) k ≡ option_map (λ (x : Option ℕ). if first + (start + k) == number then since else x) (slice_get nodes k)
since_at first number start since [] k = refl
since_at first number start since (x ∷ xs) zero = let e : start + 0 ≡ start = omega arith in rw e refl
since_at first number start since (x ∷ xs) (suc k) = let e : start + suc k ≡ start + 1 + k = omega arith in rw e (since_at first number (start + 1) since xs k)

-- there are as many
pub nodes_count : (first number start : ℕ) (since : Option ℕ) (nodes : List (Option ℕ)) → length (map (λ numbered. if first + numbered.0 == number then since else numbered.1) (enumerate_from start nodes)) ≡ length nodes
nodes_count first number start since [] = refl
nodes_count first number start since (x ∷ xs) = ap suc (nodes_count first number (start + 1) since xs)

-- one node is another, and all hold their shares
pub set_holds : (buffers : List (Option BucketBuffer)) (kept : Kept) (number : ℕ) (since : Option ℕ) (buffer : Option BucketBuffer) → AllHold buffers kept → IsNumberOf kept number → length buffers ≡ length kept.nodes →
    HoldsNode buffer since kept → AllHold (set buffers (number - kept.first) buffer) (with_since number since kept)
set_holds buffers kept number since buffer hold is count holds k b s at_b at_s =
    moved_nodes b s kept _ kept.owners (nodes_count kept.first number 0 since kept.nodes)
    (go (slice_get kept.nodes k) refl (cases_eq (number - kept.first) k) (sym (slice_get_set buffers (number - kept.first) buffer k (omega (arith, is))) ∙ at_b) (sym (since_at kept.first number 0 since kept.nodes k) ∙ at_s))
  where
    go : (o : Option (Option ℕ)) → slice_get kept.nodes k ≡ o → (number - kept.first ≡ k) ⊎ (number - kept.first ≡ k → ⊥) →
        (if number - kept.first == k then Some buffer else slice_get buffers k) ≡ Some b → option_map (λ (x : Option ℕ). if kept.first + (0 + k) == number then since else x) o ≡ Some s → HoldsNode b s kept
    go None at which found up = absurd (let h : None ≡ Some s = up in cc)
    go (Some x) at (inl same) found up =
        let here : buffer ≡ b = some_is buffer b (sym (ap (λ (t : Bool). if t then Some buffer else slice_get buffers k) (eq-eqb (number - kept.first) k same)) ∙ found) in
        let from : since ≡ s = some_is since s (ap (λ (t : Bool). Some (if t then since else x)) (sym (eq-eqb (kept.first + (0 + k)) number (omega (arith, is)))) ∙ up) in
        subst (λ (o : Option BucketBuffer). HoldsNode o s kept) here (subst (λ (o : Option ℕ). HoldsNode buffer o kept) from holds)
    go (Some x) at (inr differs) found up =
        hold k b s (sym (ap (λ (t : Bool). if t then Some buffer else slice_get buffers k) (ne_eqb (number - kept.first) k differs)) ∙ found)
        (at ∙ ap (λ (t : Bool). Some (if t then since else x)) (sym (ne_eqb (kept.first + (0 + k)) number (λ (e : kept.first + (0 + k) ≡ number). differs (omega (arith, is))))) ∙ up)

-- more is acknowledged
pub keeps_acknowledged : (old new : Group) (kept : Kept) (through : ℕ) → Keeps old kept → is_after kept.acknowledged through ≡ true → through < kept.opened → new.first ≡ old.first → new.opened ≡ old.opened → acknowledged_of new ≡ Some through →
    new.owners ≡ old.owners → length new.buffers.items ≡ length old.buffers.items → epoch_numbers new.closed.items ≡ filter (nat_lt through) (epoch_numbers old.closed.items) →
    AllHold new.buffers.items (with_acknowledged through kept) → Keeps new (with_acknowledged through kept)
keeps_acknowledged old new kept through keeps later below first opened acknowledged owners count closed hold = record {
  first = first ∙ keeps.first;
  opened = ap (λ (e : Epoch). e.0) opened ∙ keeps.opened;
  acknowledged = acknowledged ∙ after_new kept.acknowledged through later;
  count = count ∙ keeps.count;
  nodes = hold;
  owners = ap (λ v. v.items) owners ∙ keeps.owners;
  owner_count = keeps.owner_count;
  owners_in = keeps.owners_in;
  some = keeps.some;
  fits = keeps.fits;
  order = record { closes = keeps.order.closes; acknowledged = after_both kept.acknowledged through kept.opened ∙ rw (keeps.order.acknowledged, lt-ltb through kept.opened below) refl; later = keeps.order.later };
  closed = closed ∙ ap (filter (nat_lt through)) keeps.closed ∙ following kept.acknowledged through (map (λ close. close.0) kept.closes);
  countable = (let h = keeps.countable in let size : length new.owners.items ≡ length old.owners.items = ap (λ v. length v.items) owners in omega arith);
}

-- a number of the group is one of all that it keeps
pub number_is : (group : Group) (kept : Kept) (number : ℕ) → Keeps group kept → IsIn group number → IsNumberOf kept number
number_is group kept number keeps is =
    let same : length group.owners.items ≡ length kept.nodes = ap length keeps.owners ∙ keeps.owner_count in
    let a = keeps.first in
    (omega (arith, is.0), omega (arith, is.1))

-- what it keeps once, it keeps always
pub also_is : (group : Group) (one kept : Kept) (number : ℕ) → Keeps group one → IsNumberOf one number → Keeps group kept → IsNumberOf kept number
also_is group one kept number k1 is keeps = number_is group kept number keeps (is_in group one number k1 is)

-- a node comes up, or goes down
pub keeps_since : (old new : Group) (kept : Kept) (number : ℕ) (since : Option ℕ) (buffer : Option BucketBuffer) → Keeps old kept → IsNumberOf kept number → new.first ≡ old.first → new.opened ≡ old.opened → new.acknowledged ≡ old.acknowledged → new.closed ≡ old.closed → new.owners ≡ old.owners →
    new.buffers.items ≡ set old.buffers.items (number - old.first) buffer → HoldsNode buffer since kept → Keeps new (with_since number since kept)
keeps_since old new kept number since buffer keeps is first opened acknowledged closed owners buffers holds =
    keeps_moved old new kept _ kept.owners keeps first opened acknowledged closed (ap (λ v. v.items) owners ∙ keeps.owners) refl keeps.owners_in
    (nodes_count kept.first number 0 since kept.nodes) (ap length buffers ∙ length-set _ _ _)
    (subst (λ (bs : List (Option BucketBuffer)). AllHold bs (with_since number since kept)) (sym (buffers ∙ ap (λ (f : ℕ). set old.buffers.items (number - f) buffer) keeps.first))
    (set_holds old.buffers.items kept number since buffer keeps.nodes is keeps.count holds))

-- an owner that is up
pub owner_up : (group : Group) (kept : Kept) (bucket owner : ℕ) (up : Bool) → Keeps group kept → IsNumberOf kept bucket → owner ≡ owner_of group bucket → is_some (buffer_of group owner) ≡ up →
    (if up then Some owner else None) ≡ (if is_some (since_in kept (owner_in kept bucket)) then Some (owner_in kept bucket) else None)
owner_up group kept bucket owner up keeps is at found =
    let same : owner ≡ owner_in kept bucket = at ∙ sym (owner_same group kept bucket keeps) in
    let test : up ≡ is_some (since_in kept (owner_in kept bucket)) = sym found ∙ ap (λ (n : ℕ). is_some (buffer_of group n)) same ∙ sym (is_up_same group kept (owner_in kept bucket) keeps (owner_is_in group kept bucket keeps is)) in
    ap (λ (t : Bool). if t then Some owner else None) test ∙ ap (λ (n : ℕ). if is_some (since_in kept (owner_in kept bucket)) then Some n else None) same

-- a node that is down
pub down_is : (group : Group) (kept : Kept) (number : ℕ) → Keeps group kept → IsNumberOf kept number → is_some (buffer_of group number) ≡ false → since_in kept number ≡ None
down_is group kept number keeps is none = go (since_in kept number) (is_up_same group kept number keeps is ∙ none)
  where
    go : (o : Option ℕ) → is_some o ≡ false → o ≡ None
    go None h = refl
    go (Some x) h = absurd (let f : true ≡ false = h in cc)

-- an acknowledgement of what was acknowledged before
pub known_already : (group : Group) (kept : Kept) (through : ℕ) → is_after kept.acknowledged through ≡ false → Keeps group kept → Keeps group (with_acknowledged through kept)
known_already group kept through before keeps = subst (λ (last : Option ℕ). Keeps group (record kept { acknowledged = last })) (sym (after_same kept.acknowledged through before)) keeps
