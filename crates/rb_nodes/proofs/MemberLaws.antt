-- The nodes and the owners of a site after a failure, a takeover, a restart or a return, and what
-- the groups' shares say of them.
use Rattle.std.proofs.Common.{◌≡◌, ℕ, ◌+◌, ◌*◌, ◌/◌, ◌<◌, ◌≤◌, Bool, true, false, List, [], ◌∷◌, ◌++◌, length, map, filter, refl, sym, ap, subst, ◌∙◌, arith, ne_eqb}
use Rattle.std.specs.Prelude.{◌==◌, if◌then◌else◌, nat_lt, Option, Some}
use Rattle.std.specs.List.{enumerate_from, find, slice_get}
use Rattle.std.specs.Option.{option_map, option_or}
use Rattle.std.proofs.lemmas.List.Folds.{find-append}
use Rattle.rb_journal_defs.specs.Body.{numbers_below}
use Rattle.rb_message_defs.specs.Nodes as members
use Rattle.rb_message_defs.specs.Nodes.{Node, down, node_at, owner_in, numbers_in, successor_of, owned_by, covers, with_node, with_owner, with_returns, returns}
use Rattle.rb_message_defs.proofs.Numbers.{numbered_get}
use Rattle.rb_message_defs.proofs.Places.{numbered_count, same_items}
use Rattle.rb_message_defs.proofs.Ranges.{at_step, numbers_long, filtered_within}
use Rattle.rb_message_defs.proofs.Groups.{IsIn, group_of_bucket, group_fits, one_group}
use Rattle.rb_message_defs.proofs.Members.{node_changed, owner_moved}
use Rattle.rb_group.specs.Kept as group
use Rattle.rb_group.specs.Kept.{Kept, with_since, owned_in, successor_in, covers_in}
use Rattle.rb_group.specs.Group.{Keeps}
use Rattle.rb_group.specs.Nodes.{numbers_from}
use Rattle.rb_group.specs.declared.group.Group.{Group}
use Rattle.rb_group.proofs.Lists.{find_same_in}
use Rattle.rb_group.proofs.Covering.{map_same, filter_same}
use Rattle.rb_nodes.specs.Nodes.{Buffered, needed_by, since_of, share_of, with_members, GroupHolds, HoldsNodes}
use Rattle.rb_nodes.specs.declared.nodes.Nodes.{Nodes}
use Rattle.rb_nodes.proofs.ShareLaws.{owner_share, covers_share}
use Rattle.rb_nodes.proofs.NodeLaws.{share_count, owner_number}

-- a group's nodes with one changed are those of the site with one changed
pub share_changed : (buckets : ℕ) (site : Buffered) (number node : ℕ) (to : Node) → number * site.members.replicas + site.members.replicas ≤ length site.members.nodes →
    (with_since node (since_of to) (share_of buckets site number)).nodes ≡ (share_of buckets (with_members (with_node node to site.members) site) number).nodes
share_changed buckets site number node to fits =
    same_items _ _
    (numbered_count (λ numbered. if first + numbered.0 == node then since_of to else numbered.1) 0 (map old (numbers_from first r)) ∙ numbers_long old first r ∙ sym (numbers_long new first r))
    (λ k within. one k (let n = numbered_count (λ numbered. if first + numbered.0 == node then since_of to else numbered.1) 0 (map old (numbers_from first r)) ∙ numbers_long old first r in omega (arith, n, within)))
  where
    r : ℕ
    r = site.members.replicas

    first : ℕ
    first = number * site.members.replicas

    old : ℕ → Option ℕ
    old other = since_of (node_at site.members other)

    new : ℕ → Option ℕ
    new other = since_of (node_at (with_node node to site.members) other)

    one : (k : ℕ) → k < r → slice_get (map (λ numbered. if first + numbered.0 == node then since_of to else numbered.1) (enumerate_from 0 (map old (numbers_from first r)))) k ≡ slice_get (map new (numbers_from first r)) k
    one k below =
        numbered_get (λ numbered. if first + numbered.0 == node then since_of to else numbered.1) 0 k (map old (numbers_from first r))
        ∙ ap (option_map (λ x. if first + (0 + k) == node then since_of to else x)) (at_step old first r k below)
        ∙ ap (λ (n : ℕ). Some (if first + n == node then since_of to else old (first + k))) (let same : 0 + k ≡ k = omega arith in same)
        ∙ ap Some (by_same (first + k == node))
        ∙ ap (λ (n : Node). Some (since_of n)) (sym (node_changed site.members node to (first + k) (λ same. omega arith)))
        ∙ sym (at_step new first r k below)
      where
        by_same : (b : Bool) → (if b then since_of to else old (first + k)) ≡ since_of (if b then to else node_at site.members (first + k))
        by_same true = refl
        by_same false = refl

-- the owners of a group after a takeover
pub owners_moved : (old new : ℕ) (site : members.Nodes) (first n : ℕ) → first + n ≤ length site.owners →
    map (λ owner. if owner == old then new else owner) (map (owner_in site) (numbers_from first n)) ≡ map (owner_in (with_owner old new site)) (numbers_from first n)
owners_moved old new site first n fits =
    map_twice (λ owner. if owner == old then new else owner) (owner_in site) (numbers_from first n)
    ∙ map_same (λ bucket. if owner_in site bucket == old then new else owner_in site bucket) (owner_in (with_owner old new site)) first n (λ k below. sym (owner_moved old new (first + k) site (omega arith)))
  where
    map_twice : (f g : ℕ → ℕ) (xs : List ℕ) → map f (map g xs) ≡ map (λ x. f (g x)) xs
    map_twice f g [] = refl
    map_twice f g (x ∷ xs) = ap (λ (ys : List ℕ). f (g x) ∷ ys) (map_twice f g xs)

-- the site with other nodes and owners
abbrev pub otherwise : Buffered → List Node → List ℕ → Buffered
otherwise site nodes owners = with_members (record site.members { nodes = nodes; owners = owners }) site

-- a group that keeps the nodes and owners of its new share
pub keeps_otherwise : (group : Group) (buckets : ℕ) (site : Buffered) (number : ℕ) (nodes : List Node) (owners : List ℕ) (sinces : List (Option ℕ)) (owned : List ℕ) →
    sinces ≡ (share_of buckets (otherwise site nodes owners) number).nodes → owned ≡ (share_of buckets (otherwise site nodes owners) number).owners →
    Keeps group (record (share_of buckets site number) { nodes = sinces; owners = owned }) → GroupHolds buckets (otherwise site nodes owners) number group
keeps_otherwise group buckets site number nodes owners sinces owned same_nodes same_owners keeps =
    subst (λ (os : List ℕ). Keeps group (record (share_of buckets site number) { nodes = (share_of buckets (otherwise site nodes owners) number).nodes; owners = os })) same_owners
    (subst (λ (ns : List (Option ℕ)). Keeps group (record (share_of buckets site number) { nodes = ns; owners = owned })) same_nodes keeps)

-- the numbers of a group are numbers of the site
pub fits_in : (nodes : Nodes) (buckets : ℕ) (site : Buffered) (number : ℕ) → HoldsNodes nodes buckets site → number < length nodes.groups.items → number * site.members.replicas + site.members.replicas ≤ buckets
fits_in nodes buckets site number held within =
    group_fits number site.members.replicas (length nodes.groups.items) buckets within (ap (λ (r : ℕ). length nodes.groups.items * r) (sym held.replicas) ∙ held.count)

pub in_group : (nodes : Nodes) (buckets : ℕ) (site : Buffered) (x : ℕ) → HoldsNodes nodes buckets site → x < buckets → IsIn x (x / site.members.replicas) site.members.replicas (length nodes.groups.items)
in_group nodes buckets site x held below =
    let same = held.replicas in
    let some = held.some in
    group_of_bucket x site.members.replicas (length nodes.groups.items) buckets (omega arith)
    (ap (λ (r : ℕ). length nodes.groups.items * r) (sym same) ∙ held.count) below

-- the owner of a bucket is of the bucket's group
pub owner_in_group : (nodes : Nodes) (buckets : ℕ) (site : Buffered) (bucket number : ℕ) (d : Group) → HoldsNodes nodes buckets site → IsIn bucket number site.members.replicas (length nodes.groups.items) →
    IsIn (owner_in site.members bucket) number site.members.replicas (length nodes.groups.items)
owner_in_group nodes buckets site bucket number d held is =
    let its = owner_number buckets site number bucket (length nodes.groups.items) _ (held.groups number d is.within) is in
    let count = share_count buckets site number in
    record { within = is.within; from = its.0; below = (let l = its.1 in omega arith) }

-- the buckets that a node owns are of its group
pub owned_share : (nodes : Nodes) (buckets : ℕ) (site : Buffered) (node number : ℕ) (d : Group) → HoldsNodes nodes buckets site → IsIn node number site.members.replicas (length nodes.groups.items) →
    owned_in (share_of buckets site number) node ≡ owned_by site.members node
owned_share nodes buckets site node number d held is =
    ap (λ (n : ℕ). filter (λ bucket. group.owner_in (share_of buckets site number) bucket == node) (numbers_from first n)) (share_count buckets site number)
    ∙ filter_same (λ bucket. group.owner_in (share_of buckets site number) bucket == node) mine first r (λ k below. ap (λ (o : ℕ). o == node) (owner_share buckets site number (first + k) (omega arith) (omega arith)))
    ∙ sym (filtered_within mine first r buckets fits (λ k below. others k (let f = fits in omega arith) (λ its. let a = its.from in omega arith)) (λ k above below. others k below (λ its. let a = its.below in omega arith)))
    ∙ ap (λ (n : ℕ). filter mine (numbers_below n)) (sym held.owners)
  where
    r : ℕ
    r = site.members.replicas

    first : ℕ
    first = number * r

    mine : ℕ → Bool
    mine bucket = owner_in site.members bucket == node

    fits : first + r ≤ buckets
    fits = fits_in nodes buckets site number held is.within

    others : (bucket : ℕ) → bucket < buckets → (IsIn bucket number r (length nodes.groups.items) → ⊥) → mine bucket ≡ false
    others bucket below out = ne_eqb (owner_in site.members bucket) node (λ same.
        let own = in_group nodes buckets site bucket held below in
        let its = owner_in_group nodes buckets site bucket (bucket / r) d held own in
        let one : bucket / r ≡ number = one_group node (bucket / r) number r (length nodes.groups.items) (subst (λ (x : ℕ). IsIn x (bucket / r) r (length nodes.groups.items)) same its) is in
        out (subst (λ (g : ℕ). IsIn bucket g r (length nodes.groups.items)) one own))

-- a node's successor in its group is its successor at the site
pub successor_share : (buckets : ℕ) (site : Buffered) (node number : ℕ) → number ≡ node / site.members.replicas → successor_in (share_of buckets site number) node ≡ successor_of site.members (needed_by site) node
successor_share buckets site node number is =
    ap (λ (n : ℕ). find (covers_in share) (filter (nat_lt node) (numbers_from first n) ++ filter (λ other. nat_lt other node) (numbers_from first n))) (share_count buckets site number)
    ∙ find-append (covers_in share) (filter (nat_lt node) (numbers_from first r)) (filter (λ other. nat_lt other node) (numbers_from first r))
    ∙ ap (λ (o : Option ℕ). option_or o (find (covers_in share) (filter (λ other. nat_lt other node) (numbers_from first r)))) (find_same_in (covers_in share) covering (nat_lt node) first r same)
    ∙ ap (λ (o : Option ℕ). option_or (find covering (filter (nat_lt node) (numbers_from first r))) o) (find_same_in (covers_in share) covering (λ other. nat_lt other node) first r same)
    ∙ sym (find-append covering (filter (nat_lt node) (numbers_from first r)) (filter (λ other. nat_lt other node) (numbers_from first r)))
    ∙ ap (λ (g : ℕ). find covering (filter (nat_lt node) (numbers_in site.members g) ++ filter (λ other. nat_lt other node) (numbers_in site.members g))) is
  where
    share : Kept
    share = share_of buckets site number

    r : ℕ
    r = site.members.replicas

    first : ℕ
    first = number * r

    covering : ℕ → Bool
    covering other = covers (needed_by site) (node_at site.members other)

    same : (k : ℕ) → k < r → covers_in share (first + k) ≡ covering (first + k)
    same k below = covers_share buckets site number (first + k) (omega arith) (omega arith)
