-- What the nodes of a site represent after an event of one group: a node that fails or restarts.
use Rattle.std.proofs.Common.{◌≡◌, ◌≢◌, ℕ, ◌+◌, ◌*◌, ◌/◌, ◌<◌, Bool, true, false, List, [], length, set, get_or, refl, sym, ap, subst, ◌∙◌, inl, inr, arith, length-set, get_or-set_same, get_or-set_other, ne_eqb}
use Rattle.std.specs.Prelude.{◌⊎◌, ◌==◌, ◌^◌, if◌then◌else◌, Option, Some, None, is_some, Result, Ok, Err, IfOk, IfErr, OnOk}
use Rattle.rb_base.specs.declared.epoch.Epoch.{Epoch}
use Rattle.std.specs.List.{flat_map}
use Rattle.std.proofs.lemmas.List.{length-map}
use Rattle.std.proofs.Math.Nat.{mul-div_cancel}
use Rattle.rb_base.specs.Bucket.{bucket_number}
use Rattle.rb_journal_defs.specs.Body.{in_bucket}
use Rattle.rb_journal_defs.proofs.Order.{eq_or_ne}
use Rattle.rb_journal_defs.proofs.Counts.{filter_length}
use Rattle.rb_message_defs.specs.Nodes.{Node, node_at, owner_in, group_of, owned_by, with_node, with_owner, with_failure, with_restart}
use Rattle.rb_message_defs.proofs.Places.{numbered_count}
use Rattle.rb_message_defs.proofs.Groups.{IsIn, one_group, apart}
use Rattle.rb_message_defs.proofs.Members.{node_changed, owner_moved}
use Rattle.rb_group.specs.Kept.{Kept, with_since, with_takeover, since_in, again_in, owned_in}
use Rattle.rb_group.specs.Group as called
use Rattle.rb_group.specs.Group.{Keeps, IsNumberOf, AllFit}
use Rattle.rb_group.specs.declared.group.Group.{Group}
use Rattle.rb_group.specs.declared.answers.FailOutcome.{FailOutcome}
use Rattle.rb_group.specs.declared.answers.FailOutcome.TheVariants as outcomes
use Rattle.rb_group.specs.declared.answers.GroupFault.{GroupFault}
use Rattle.rb_group.specs.declared.answers.GroupFault.TheVariants as faults
use Rattle.rb_group.proofs.Covering.{map_same}
use Rattle.rb_nodes.specs.Nodes.{Buffered, since_of, share_of, with_members, GroupHolds, GroupsHold, HoldsNodes, CanCount, CanFail, CanRestart, FailsTo, FailFault, RestartFault}
use Rattle.rb_nodes.specs.declared.nodes.Nodes.{Nodes}
use Rattle.rb_nodes.proofs.ShareLaws.{since_share}
use Rattle.rb_nodes.proofs.CommitLaws.{is_of_group}
use Rattle.rb_nodes.proofs.NodeLaws.{share_count}
use Rattle.rb_nodes.proofs.MemberLaws.{owners_moved, share_changed, otherwise, keeps_otherwise, fits_in, in_group, owner_in_group, owned_share, successor_share}

-- the groups with one of them in other words
groups_set : (buckets : ℕ) (new : Buffered) (groups : List Group) (number : ℕ) (group : Group) → number < length groups → GroupHolds buckets new number group →
    ((k : ℕ) (d : Group) → k < length groups → k ≢ number → GroupHolds buckets new k (get_or groups k d)) → GroupsHold buckets new (set groups number group)
groups_set buckets new groups number group within held others = λ k d below. go k d (let n = length-set groups number group in omega arith) (eq_or_ne k number)
  where
    go : (k : ℕ) (d : Group) → k < length groups → (k ≡ number) ⊎ (k ≢ number) → GroupHolds buckets new k (get_or (set groups number group) k d)
    go k d below (inl same) =
        subst (λ (n : ℕ). GroupHolds buckets new n (get_or (set groups number group) n d)) (sym same)
        (subst (GroupHolds buckets new number) (sym (get_or-set_same groups number group d within)) held)
    go k d below (inr differs) = subst (GroupHolds buckets new k) (sym (get_or-set_other groups number k group d differs)) (others k d below differs)

-- the nodes with one group in other words
pub nodes_set : (nodes next : Nodes) (buckets : ℕ) (site : Buffered) (sites : List Node) (owners : List ℕ) (number : ℕ) (group : Group) → HoldsNodes nodes buckets site → number < length nodes.groups.items →
    length sites ≡ buckets → length owners ≡ buckets → next.buckets ≡ nodes.buckets → next.replicas ≡ nodes.replicas → next.groups.items ≡ set nodes.groups.items number group →
    GroupHolds buckets (otherwise site sites owners) number group → ((k : ℕ) (d : Group) → k < length nodes.groups.items → k ≢ number → GroupHolds buckets (otherwise site sites owners) k (get_or nodes.groups.items k d)) →
    HoldsNodes next buckets (otherwise site sites owners)
nodes_set nodes next buckets site sites owners number group held within as_many owned same_buckets same_replicas items here others = record {
  buckets_are = same_buckets ∙ held.buckets_are;
  replicas = same_replicas ∙ held.replicas;
  some = (let s = held.some in omega arith);
  count = ap (λ (gs : List Group). length gs * next.replicas) items
      ∙ ap (λ (n : ℕ). n * next.replicas) (length-set nodes.groups.items number group)
      ∙ ap (λ (r : ℕ). length nodes.groups.items * r) same_replicas ∙ held.count;
  members = as_many;
  owners = owned;
  groups = subst (GroupsHold buckets (otherwise site sites owners)) (sym items) (groups_set buckets (otherwise site sites owners) nodes.groups.items number group within here others);
}

-- the group of a node
pub node_in : (nodes : Nodes) (buckets : ℕ) (site : Buffered) (node number : ℕ) → HoldsNodes nodes buckets site → node < buckets → number ≡ node / nodes.replicas → IsIn node number site.members.replicas (length nodes.groups.items)
node_in nodes buckets site node number held below at =
    subst (λ (n : ℕ). IsIn node n site.members.replicas (length nodes.groups.items)) (sym (at ∙ ap (λ (r : ℕ). node / r) held.replicas)) (in_group nodes buckets site node held below)

pub group_at : (nodes : Nodes) (buckets : ℕ) (site : Buffered) (node number : ℕ) (group : Group) → HoldsNodes nodes buckets site → node < buckets → number ≡ node / nodes.replicas → group ≡ get_or nodes.groups.items number group →
    GroupHolds buckets site number group
group_at nodes buckets site node number group held below at there =
    let is = node_in nodes buckets site node number held below at in
    subst (GroupHolds buckets site number) (sym there) (held.groups number group is.within)

-- the changes that a group keeps can be counted
pub share_fits : (buckets : ℕ) (site : Buffered) (number : ℕ) → CanCount site → AllFit (share_of buckets site number)
share_fits buckets site number count epoch bucket = go (is_of_group site number bucket)
  where
    go : (here : Bool) → length (if here then in_bucket buckets bucket (site.changes epoch) else []) < 2 ^ 32
    go true = let few = filter_length (λ change. bucket_number change.table change.key buckets == bucket) (site.changes epoch) in let all = count epoch in omega arith
    go false = omega arith

number_of : (buckets : ℕ) (site : Buffered) (node number groups : ℕ) → IsIn node number site.members.replicas groups → IsNumberOf (share_of buckets site number) node
number_of buckets site node number groups is = let count = share_count buckets site number in (is.from, (let l = is.below in omega arith))

-- the group of a node can lose it
pub can_fail : (nodes : Nodes) (node number : ℕ) (group : Group) → CanFail nodes node → number ≡ node / nodes.replicas → group ≡ get_or nodes.groups.items number group → called.CanFail group node
can_fail nodes node number group (buckets, site, held, below, count) at there = (
  share_of buckets site number,
  group_at nodes buckets site node number group held below at there,
  number_of buckets site node number (length nodes.groups.items) (node_in nodes buckets site node number held below at),
  share_fits buckets site number count,
)

-- and restart it
pub can_restart : (nodes : Nodes) (node number : ℕ) (group : Group) → CanRestart nodes node → number ≡ node / nodes.replicas → group ≡ get_or nodes.groups.items number group → called.CanRestart group node
can_restart nodes node number group (buckets, site, held, below, room) at there = (
  share_of buckets site number,
  group_at nodes buckets site node number group held below at there,
  number_of buckets site node number (length nodes.groups.items) (node_in nodes buckets site node number held below at),
  room,
)

-- the nodes of another group are unchanged
others_nodes : (nodes : Nodes) (buckets : ℕ) (site : Buffered) (node number k : ℕ) (to : Node) → HoldsNodes nodes buckets site → IsIn node number site.members.replicas (length nodes.groups.items) → k < length nodes.groups.items → k ≢ number →
    (share_of buckets site k).nodes ≡ (share_of buckets (with_members (with_node node to site.members) site) k).nodes
others_nodes nodes buckets site node number k to held is within differs =
    map_same (λ other. since_of (node_at site.members other)) (λ other. since_of (node_at (with_node node to site.members) other)) (k * site.members.replicas) site.members.replicas one
  where
    one : (step : ℕ) → step < site.members.replicas → since_of (node_at site.members (k * site.members.replicas + step)) ≡ since_of (node_at (with_node node to site.members) (k * site.members.replicas + step))
    one step below =
        let other = k * site.members.replicas + step in
        let many = held.members in
        let room = fits_in nodes buckets site k held within in
        ap since_of (sym (node_changed site.members node to other (λ same. omega arith)
        ∙ ap (λ (b : Bool). if b then to else node_at site.members other) (ne_eqb other node (apart node number k step site.members.replicas (length nodes.groups.items) is within differs below))))

-- and so are its owners
others_owners : (nodes : Nodes) (buckets : ℕ) (site : Buffered) (node number k successor : ℕ) (d : Group) → HoldsNodes nodes buckets site → IsIn node number site.members.replicas (length nodes.groups.items) → k < length nodes.groups.items → k ≢ number →
    (share_of buckets site k).owners ≡ (share_of buckets (with_members (with_owner node successor site.members) site) k).owners
others_owners nodes buckets site node number k successor d held is within differs =
    map_same (owner_in site.members) (owner_in (with_owner node successor site.members)) (k * site.members.replicas) site.members.replicas one
  where
    one : (step : ℕ) → step < site.members.replicas → owner_in site.members (k * site.members.replicas + step) ≡ owner_in (with_owner node successor site.members) (k * site.members.replicas + step)
    one step below =
        let bucket = k * site.members.replicas + step in
        let many = held.owners in
        let room = fits_in nodes buckets site k held within in
        let its = owner_in_group nodes buckets site bucket k d held (record { within = within; from = omega arith; below = omega arith }) in
        sym (owner_moved node successor bucket site.members (omega arith)
        ∙ ap (λ (b : Bool). if b then successor else owner_in site.members bucket) (ne_eqb (owner_in site.members bucket) node (λ same.
        differs (one_group node k number site.members.replicas (length nodes.groups.items) (subst (λ (x : ℕ). IsIn x k site.members.replicas (length nodes.groups.items)) same its) is))))

-- the nodes after a change of one node
pub node_set : (nodes next : Nodes) (buckets : ℕ) (site : Buffered) (node number : ℕ) (to : Node) (new : Group) → HoldsNodes nodes buckets site → IsIn node number site.members.replicas (length nodes.groups.items) →
    next.buckets ≡ nodes.buckets → next.replicas ≡ nodes.replicas → next.groups.items ≡ set nodes.groups.items number new →
    Keeps new (with_since node (since_of to) (share_of buckets site number)) → HoldsNodes next buckets (with_members (with_node node to site.members) site)
node_set nodes next buckets site node number to new held is same_buckets same_replicas items keeps =
    nodes_set nodes next buckets site changed site.members.owners number new held is.within (numbered_count (λ numbered. if numbered.0 == node then to else numbered.1) 0 site.members.nodes ∙ held.members) held.owners same_buckets same_replicas items
    (keeps_otherwise new buckets site number changed site.members.owners (with_since node (since_of to) (share_of buckets site number)).nodes (share_of buckets site number).owners
    (share_changed buckets site number node to (let f = fits_in nodes buckets site number held is.within in let m = held.members in omega arith)) refl keeps)
    (λ k d within differs. keeps_otherwise (get_or nodes.groups.items k d) buckets site k changed site.members.owners (share_of buckets site k).nodes (share_of buckets site k).owners
    (others_nodes nodes buckets site node number k to held is within differs) refl (held.groups k d within))
  where
    changed : List Node
    changed = (with_node node to site.members).nodes

-- the nodes after a takeover
pub takeover_set : (nodes next : Nodes) (buckets : ℕ) (site : Buffered) (node number successor sent : ℕ) (new : Group) → HoldsNodes nodes buckets site → IsIn node number site.members.replicas (length nodes.groups.items) →
    next.buckets ≡ nodes.buckets → next.replicas ≡ nodes.replicas → next.groups.items ≡ set nodes.groups.items number new →
    Keeps new (with_takeover node successor (share_of buckets site number)) → HoldsNodes next buckets (with_members (with_owner node successor (with_failure node sent site.members)) site)
takeover_set nodes next buckets site node number successor sent new held is same_buckets same_replicas items keeps =
    nodes_set nodes next buckets site changed moved number new held is.within (numbered_count (λ numbered. if numbered.0 == node then to else numbered.1) 0 site.members.nodes ∙ held.members)
    (length-map site.members.owners (λ owner. if owner == node then successor else owner) ∙ held.owners) same_buckets same_replicas items
    (keeps_otherwise new buckets site number changed moved (with_since node None (share_of buckets site number)).nodes (with_takeover node successor (share_of buckets site number)).owners
    (share_changed buckets site number node to (let f = fits_in nodes buckets site number held is.within in let m = held.members in omega arith))
    (owners_moved node successor site.members (number * site.members.replicas) site.members.replicas (let f = fits_in nodes buckets site number held is.within in let m = held.owners in omega arith)) keeps)
    (λ k d within differs. keeps_otherwise (get_or nodes.groups.items k d) buckets site k changed moved (share_of buckets site k).nodes (share_of buckets site k).owners
    (others_nodes nodes buckets site node number k to held is within differs) (others_owners nodes buckets site node number k successor d held is within differs) (held.groups k d within))
  where
    to : Node
    to = record { up = false; since = 0; failed_at = sent }

    changed : List Node
    changed = (with_failure node sent site.members).nodes

    moved : List ℕ
    moved = (with_owner node successor site.members).owners

-- what a group's failure is at the site
pub fails_to : (nodes next : Nodes) (buckets : ℕ) (site : Buffered) (node number sent : ℕ) (old new : Group) (outcome : FailOutcome) → HoldsNodes nodes buckets site → node < buckets → number ≡ node / nodes.replicas →
    old ≡ get_or nodes.groups.items number old → next.buckets ≡ nodes.buckets → next.replicas ≡ nodes.replicas → next.groups.items ≡ set nodes.groups.items number new →
    ((kept : Kept) → Keeps old kept → called.FailsTo kept node outcome new) → FailsTo buckets site node sent outcome next
fails_to nodes next buckets site node number sent old new outcome held below at there same_buckets same_replicas items fails =
    go outcome (fails (share_of buckets site number) (group_at nodes buckets site node number old held below at there))
  where
    is : IsIn node number site.members.replicas (length nodes.groups.items)
    is = node_in nodes buckets site node number held below at

    group_is : number ≡ group_of site.members node
    group_is = at ∙ ap (λ (r : ℕ). node / r) held.replicas

    owned : owned_in (share_of buckets site number) node ≡ owned_by site.members node
    owned = owned_share nodes buckets site node number old held is

    go : (outcome : FailOutcome) → called.FailsTo (share_of buckets site number) node outcome new → FailsTo buckets site node sent outcome next
    go (outcomes.Takeover count messages) (successor, found, counted, told, keeps) = (
      successor,
      sym (successor_share buckets site node number group_is) ∙ found,
      counted ∙ ap length owned,
      told ∙ ap (flat_map (again_in (share_of buckets site number) successor)) owned ∙ ap (λ (g : ℕ). flat_map (again_in (share_of buckets site g) successor) (owned_by site.members node)) group_is,
      takeover_set nodes next buckets site node number successor sent new held is same_buckets same_replicas items keeps,
    )
    go (outcomes.Lost lost epoch) (none, which, needed, keeps) = (
      sym (successor_share buckets site node number group_is) ∙ none,
      which ∙ ap (λ (r : ℕ). number * site.members.replicas / r) (share_count buckets site number) ∙ whole ∙ group_is,
      needed,
      node_set nodes next buckets site node number (record { up = false; since = 0; failed_at = sent }) new held is same_buckets same_replicas items keeps,
    )
      where
        whole : number * site.members.replicas / site.members.replicas ≡ number
        whole = let some = held.some in let same = held.replicas in mul-div_cancel number {n = site.members.replicas} (omega arith)

-- a node that is up in its group is up at the site
since_up : (node : Node) → is_some (since_of node) ≡ node.up
since_up node = go node.up
  where
    go : (up : Bool) → is_some (if up then Some node.since else None) ≡ up
    go true = refl
    go false = refl

up_share : (buckets : ℕ) (site : Buffered) (node number groups : ℕ) → IsIn node number site.members.replicas groups → is_some (since_in (share_of buckets site number) node) ≡ (node_at site.members node).up
up_share buckets site node number groups is = ap (λ (s : Option ℕ). is_some s) (since_share buckets site number node is.from is.below) ∙ since_up (node_at site.members node)

pub was_up : (nodes : Nodes) (buckets : ℕ) (site : Buffered) (node number : ℕ) (old : Group) → HoldsNodes nodes buckets site → node < buckets → number ≡ node / nodes.replicas → old ≡ get_or nodes.groups.items number old →
    ((kept : Kept) → Keeps old kept → is_some (since_in kept node) ≡ true) → (node_at site.members node).up ≡ true
was_up nodes buckets site node number old held below at there up =
    sym (up_share buckets site node number (length nodes.groups.items) (node_in nodes buckets site node number held below at)) ∙ up (share_of buckets site number) (group_at nodes buckets site node number old held below at there)

-- nothing changed if a group refused
pub refused_set : (nodes next : Nodes) (buckets : ℕ) (site : Buffered) (node number : ℕ) (new : Group) → HoldsNodes nodes buckets site → IsIn node number site.members.replicas (length nodes.groups.items) →
    next.buckets ≡ nodes.buckets → next.replicas ≡ nodes.replicas → next.groups.items ≡ set nodes.groups.items number new → GroupHolds buckets site number new → HoldsNodes next buckets site
refused_set nodes next buckets site node number new held is same_buckets same_replicas items keeps =
    nodes_set nodes next buckets site site.members.nodes site.members.owners number new held is.within held.members held.owners same_buckets same_replicas items keeps (λ k d within differs. held.groups k d within)

pub fail_refused : (nodes next : Nodes) (buckets : ℕ) (site : Buffered) (node number : ℕ) (old new : Group) (fault : GroupFault) → HoldsNodes nodes buckets site → node < buckets → number ≡ node / nodes.replicas →
    old ≡ get_or nodes.groups.items number old → next.buckets ≡ nodes.buckets → next.replicas ≡ nodes.replicas → next.groups.items ≡ set nodes.groups.items number new →
    ((kept : Kept) → Keeps old kept → Keeps new kept × called.FailFault kept node fault) → HoldsNodes next buckets site × FailFault site node fault
fail_refused nodes next buckets site node number old new fault held below at there same_buckets same_replicas items refused =
    let is = node_in nodes buckets site node number held below at in
    let (keeps, cause) = refused (share_of buckets site number) (group_at nodes buckets site node number old held below at there) in
    (refused_set nodes next buckets site node number new held is same_buckets same_replicas items keeps, go fault cause)
  where
    go : (fault : GroupFault) → called.FailFault (share_of buckets site number) node fault → FailFault site node fault
    go (faults.NodeDown other) (same, down) =
        (same, sym (up_share buckets site node number (length nodes.groups.items) (node_in nodes buckets site node number held below at)) ∙ ap (λ (s : Option ℕ). is_some s) down)
    go (faults.NodeUp other) cause = cause
    go faults.NoMemory cause = tt

pub restart_refused : (nodes next : Nodes) (buckets : ℕ) (site : Buffered) (node number : ℕ) (old new : Group) (fault : GroupFault) → HoldsNodes nodes buckets site → node < buckets → number ≡ node / nodes.replicas →
    old ≡ get_or nodes.groups.items number old → next.buckets ≡ nodes.buckets → next.replicas ≡ nodes.replicas → next.groups.items ≡ set nodes.groups.items number new →
    ((kept : Kept) → Keeps old kept → Keeps new kept × called.RestartFault kept node fault) → HoldsNodes next buckets site × RestartFault site node fault
restart_refused nodes next buckets site node number old new fault held below at there same_buckets same_replicas items refused =
    let is = node_in nodes buckets site node number held below at in
    let (keeps, cause) = refused (share_of buckets site number) (group_at nodes buckets site node number old held below at there) in
    (refused_set nodes next buckets site node number new held is same_buckets same_replicas items keeps, go fault cause)
  where
    go : (fault : GroupFault) → called.RestartFault (share_of buckets site number) node fault → RestartFault site node fault
    go (faults.NodeDown other) cause = cause
    go (faults.NodeUp other) (same, up) = (same, sym (up_share buckets site node number (length nodes.groups.items) (node_in nodes buckets site node number held below at)) ∙ up)
    go faults.NoMemory cause = tt

-- what a group's restart is at the site
pub restarts_to : (nodes next : Nodes) (buckets : ℕ) (site : Buffered) (node number since : ℕ) (old new : Group) → HoldsNodes nodes buckets site → node < buckets → number ≡ node / nodes.replicas →
    old ≡ get_or nodes.groups.items number old → next.buckets ≡ nodes.buckets → next.replicas ≡ nodes.replicas → next.groups.items ≡ set nodes.groups.items number new →
    ((kept : Kept) → Keeps old kept → (since ≡ kept.opened + 1) × (since_in kept node ≡ None) × Keeps new (with_since node (Some (kept.opened + 1)) kept)) →
    (since ≡ site.opened + 1) × ((node_at site.members node).up ≡ false) × HoldsNodes next buckets (with_members (with_restart node site.opened site.members) site)
restarts_to nodes next buckets site node number since old new held below at there same_buckets same_replicas items restarts =
    let is = node_in nodes buckets site node number held below at in
    let (from, down, keeps) = restarts (share_of buckets site number) (group_at nodes buckets site node number old held below at there) in (
      from,
      sym (up_share buckets site node number (length nodes.groups.items) is) ∙ ap (λ (s : Option ℕ). is_some s) down,
      node_set nodes next buckets site node number (record { up = true; since = site.opened + 1; failed_at = (node_at site.members node).failed_at }) new held is same_buckets same_replicas items keeps,
    )

node_below : (nodes : Nodes) (buckets : ℕ) (site : Buffered) (node : ℕ) → HoldsNodes nodes buckets site → node < nodes.buckets → node < buckets
node_below nodes buckets site node held below = let same = held.buckets_are in omega arith

pub fail_below : (nodes : Nodes) (node : ℕ) → CanFail nodes node → node < nodes.buckets
fail_below nodes node (buckets, site, held, below, count) = let same = held.buckets_are in omega arith

pub restart_below : (nodes : Nodes) (node : ℕ) → CanRestart nodes node → node < nodes.buckets
restart_below nodes node (buckets, site, held, below, room) = let same = held.buckets_are in omega arith

-- the outcomes of a failure
pub fail_answered : (result : Result FailOutcome GroupFault) (nodes next : Nodes) (node number : ℕ) (old new : Group) → node < nodes.buckets → number ≡ node / nodes.replicas →
    old ≡ get_or nodes.groups.items number old → next.buckets ≡ nodes.buckets → next.replicas ≡ nodes.replicas → next.groups.items ≡ set nodes.groups.items number new →
    IfOk result (λ outcome. (kept : Kept) → Keeps old kept → called.FailsTo kept node outcome new) → OnOk result ((kept : Kept) → Keeps old kept → is_some (since_in kept node) ≡ true) →
    IfOk result (λ outcome. (buckets : ℕ) (site : Buffered) (sent : ℕ) → HoldsNodes nodes buckets site → ((node_at site.members node).up ≡ true) × FailsTo buckets site node sent outcome next)
fail_answered (Ok outcome) nodes next node number old new below at there same_buckets same_replicas items fails up =
    λ buckets site sent held. (
      was_up nodes buckets site node number old held (node_below nodes buckets site node held below) at there up,
      fails_to nodes next buckets site node number sent old new outcome held (node_below nodes buckets site node held below) at there same_buckets same_replicas items fails,
    )
fail_answered (Err fault) nodes next node number old new below at there same_buckets same_replicas items fails up = tt

pub fail_refusal : (result : Result FailOutcome GroupFault) (nodes next : Nodes) (node number : ℕ) (old new : Group) → node < nodes.buckets → number ≡ node / nodes.replicas →
    old ≡ get_or nodes.groups.items number old → next.buckets ≡ nodes.buckets → next.replicas ≡ nodes.replicas → next.groups.items ≡ set nodes.groups.items number new →
    IfErr result (λ fault. (kept : Kept) → Keeps old kept → Keeps new kept × called.FailFault kept node fault) →
    IfErr result (λ fault. (buckets : ℕ) (site : Buffered) → HoldsNodes nodes buckets site → HoldsNodes next buckets site × FailFault site node fault)
fail_refusal (Ok outcome) nodes next node number old new below at there same_buckets same_replicas items refused = tt
fail_refusal (Err fault) nodes next node number old new below at there same_buckets same_replicas items refused =
    λ buckets site held. fail_refused nodes next buckets site node number old new fault held (node_below nodes buckets site node held below) at there same_buckets same_replicas items refused

-- and of a restart
pub restart_answered : (result : Result Epoch GroupFault) (nodes next : Nodes) (node number : ℕ) (old new : Group) → node < nodes.buckets → number ≡ node / nodes.replicas →
    old ≡ get_or nodes.groups.items number old → next.buckets ≡ nodes.buckets → next.replicas ≡ nodes.replicas → next.groups.items ≡ set nodes.groups.items number new →
    IfOk result (λ since. (kept : Kept) → Keeps old kept → (since.0 ≡ kept.opened + 1) × (since_in kept node ≡ None) × Keeps new (with_since node (Some (kept.opened + 1)) kept)) →
    IfOk result (λ since. (buckets : ℕ) (site : Buffered) → HoldsNodes nodes buckets site →
    (since.0 ≡ site.opened + 1) × ((node_at site.members node).up ≡ false) × HoldsNodes next buckets (with_members (with_restart node site.opened site.members) site))
restart_answered (Ok since) nodes next node number old new below at there same_buckets same_replicas items restarts =
    λ buckets site held. restarts_to nodes next buckets site node number since.0 old new held (node_below nodes buckets site node held below) at there same_buckets same_replicas items restarts
restart_answered (Err fault) nodes next node number old new below at there same_buckets same_replicas items restarts = tt

pub restart_refusal : (result : Result Epoch GroupFault) (nodes next : Nodes) (node number : ℕ) (old new : Group) → node < nodes.buckets → number ≡ node / nodes.replicas →
    old ≡ get_or nodes.groups.items number old → next.buckets ≡ nodes.buckets → next.replicas ≡ nodes.replicas → next.groups.items ≡ set nodes.groups.items number new →
    IfErr result (λ fault. (kept : Kept) → Keeps old kept → Keeps new kept × called.RestartFault kept node fault) →
    IfErr result (λ fault. (buckets : ℕ) (site : Buffered) → HoldsNodes nodes buckets site → HoldsNodes next buckets site × RestartFault site node fault)
restart_refusal (Ok since) nodes next node number old new below at there same_buckets same_replicas items refused = tt
restart_refusal (Err fault) nodes next node number old new below at there same_buckets same_replicas items refused =
    λ buckets site held. restart_refused nodes next buckets site node number old new fault held (node_below nodes buckets site node held below) at there same_buckets same_replicas items refused
