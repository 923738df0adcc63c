-- Which numbers are nodes and buckets of a group, and who owns a bucket.
use Rattle.std.proofs.Common.{◌≡◌, ℕ, ◌/◌, ◌<◌, List, [], ◌∷◌, length, filter, sym, ap, subst, ◌∙◌, arith}
use Rattle.std.specs.Prelude.{nat_lt, Some}
use Rattle.std.specs.List.{AllByRecursion}
use Rattle.std.proofs.Math.Nat.{mul-div_cancel}
use Rattle.rb_message_defs.specs.Nodes.{node_at, owner_in, covers, numbers_in, group_of, others_after, successor_of}
use Rattle.rb_message_defs.proofs.Messages.{all_joined, all_more}
use Rattle.rb_message_defs.proofs.Numbers.{found_in}
use Rattle.rb_message_defs.proofs.Places.{filtered_below}
use Rattle.rb_message_defs.proofs.Groups.{IsIn, IsOf, group_of_bucket, group_is, numbers_are}
use Rattle.rb_group.specs.declared.group.Group.{Group}
use Rattle.rb_nodes.specs.Nodes.{Buffered, HoldsNodes}
use Rattle.rb_nodes.specs.declared.nodes.Nodes.{Nodes}
use Rattle.rb_nodes.proofs.MemberLaws.{fits_in, in_group, owner_in_group}

-- there are the same number of groups as the buckets fill
pub groups_are : (nodes : Nodes) (buckets : ℕ) (site : Buffered) → HoldsNodes nodes buckets site → length nodes.groups.items ≡ buckets / site.members.replicas
groups_are nodes buckets site held =
    let some = held.some in
    sym (mul-div_cancel (length nodes.groups.items) {n = nodes.replicas} (omega arith))
    ∙ ap (λ (all : ℕ). all / nodes.replicas) held.count
    ∙ ap (λ (replicas : ℕ). buckets / replicas) held.replicas

-- the numbers of a group are below the number of all
pub numbers_below_all : (nodes : Nodes) (buckets : ℕ) (site : Buffered) (group : ℕ) → HoldsNodes nodes buckets site → group < length nodes.groups.items → AllByRecursion (λ number. number < buckets) (numbers_in site.members group)
numbers_below_all nodes buckets site group held within =
    let fits = fits_in nodes buckets site group held within in
    all_more (IsOf site.members.replicas group) (λ number. number < buckets) (numbers_in site.members group) (λ number is. (let below = is.1 in omega arith)) (numbers_are site.members group)

some_group : (groups : List Group) → 0 < length groups → Group
some_group [] some = absurd (omega arith)
some_group (group ∷ groups) some = group

-- a bucket is of its group, and so is its owner
pub owner_is_of : (nodes : Nodes) (buckets : ℕ) (site : Buffered) (bucket : ℕ) → HoldsNodes nodes buckets site → bucket < buckets →
    IsIn bucket (bucket / nodes.replicas) site.members.replicas (length nodes.groups.items) × IsOf site.members.replicas (bucket / nodes.replicas) (owner_in site.members bucket)
owner_is_of nodes buckets site bucket held below =
    let is : IsIn bucket (bucket / nodes.replicas) site.members.replicas (length nodes.groups.items) =
    subst (λ (replicas : ℕ). IsIn bucket (bucket / replicas) site.members.replicas (length nodes.groups.items)) (sym held.replicas) (in_group nodes buckets site bucket held below) in
    let within = is.within in
    let its = owner_in_group nodes buckets site bucket (bucket / nodes.replicas) (some_group nodes.groups.items (omega arith)) held is in
    (is, (its.from, its.below))

-- so an owner is one of the nodes
pub owner_below : (nodes : Nodes) (buckets : ℕ) (site : Buffered) (bucket : ℕ) → HoldsNodes nodes buckets site → bucket < buckets → owner_in site.members bucket < buckets
owner_below nodes buckets site bucket held below =
    let own = owner_is_of nodes buckets site bucket held below in
    let fits = fits_in nodes buckets site (bucket / nodes.replicas) held own.0.within in
    let most = own.1.1 in
    omega arith

-- a bucket is of the group of the node that owns it
pub owned_is_of : (nodes : Nodes) (buckets : ℕ) (site : Buffered) (bucket node : ℕ) → HoldsNodes nodes buckets site → bucket < buckets → owner_in site.members bucket ≡ node → IsOf site.members.replicas (group_of site.members node) bucket
owned_is_of nodes buckets site bucket node held below owns =
    let own = owner_is_of nodes buckets site bucket held below in
    let same : group_of site.members node ≡ bucket / nodes.replicas = ap (group_of site.members) (sym owns) ∙ group_is site.members.replicas (bucket / nodes.replicas) (owner_in site.members bucket) own.1 in
    subst (λ (group : ℕ). IsOf site.members.replicas group bucket) (sym same) (own.0.from, own.0.below)

-- the successor of a node is one of the nodes
pub successor_below : (nodes : Nodes) (buckets : ℕ) (site : Buffered) (needed node successor : ℕ) → HoldsNodes nodes buckets site → node < buckets → successor_of site.members needed node ≡ Some successor → successor < buckets
successor_below nodes buckets site needed node successor held below is =
    let group = group_of site.members node in
    let there : IsIn node (node / nodes.replicas) nodes.replicas (length nodes.groups.items) = group_of_bucket node nodes.replicas (length nodes.groups.items) buckets held.some held.count below in
    let numbers = numbers_below_all nodes buckets site group held (subst (λ (replicas : ℕ). node / replicas < length nodes.groups.items) held.replicas there.within) in
    (found_in (λ number. number < buckets) (λ other. covers needed (node_at site.members other)) successor (others_after site.members node)
    (all_joined (λ number. number < buckets) (filter (nat_lt node) (numbers_in site.members group)) (filter (λ other. nat_lt other node) (numbers_in site.members group))
    (filtered_below buckets (nat_lt node) (numbers_in site.members group) numbers)
    (filtered_below buckets (λ other. nat_lt other node) (numbers_in site.members group) numbers)) is).0
