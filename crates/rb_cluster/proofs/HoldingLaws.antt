-- The owners of the buckets hold what is not acknowledged.
use Rattle.std.proofs.Common.{◌≡◌, ℕ, ◌/◌, ◌<◌, zero, suc, List, [], ◌∷◌, length, refl, ap, subst, ◌∙◌, arith}
use Rattle.std.specs.Prelude.{Option, Some, None}
use Rattle.std.specs.List.{slice_get}
use Rattle.std.specs.Option.{option_map, option_and_then}
use Rattle.std.proofs.lemmas.Option.{get_or_from_slice_get}
use Rattle.rb_base.specs.declared.message.Message.{Message}
use Rattle.rb_bucket.specs.Bucket.{messages_kept}
use Rattle.rb_journal_defs.specs.Body.{Shape}
use Rattle.rb_message_defs.specs.Nodes.{owner_in}
use Rattle.rb_group.specs.Nodes.{buffer_of}
use Rattle.rb_group.specs.declared.group.Group.{Group}
use Rattle.rb_group.proofs.Covering.{covering_holds}
use Rattle.rb_play_defs.specs.Step.{Progress}
use Rattle.rb_nodes.specs.Nodes.{Buffered, share_of, GroupHolds}
use Rattle.rb_cluster.specs.Net.{buffered_by}
use Rattle.rb_cluster.specs.Cluster.{IsCluster, OwnerHolds}
use Rattle.rb_cluster.specs.declared.cluster.Cluster.{Cluster}
use Rattle.rb_nodes.proofs.ShareLaws.{covers_share}
use Rattle.rb_cluster.proofs.ShareLaws.{unacknowledged_share}
use Rattle.rb_cluster.proofs.PointLaws.{cover_at_nodes}
use Rattle.rb_nodes.proofs.NodeLaws.{of_its_group, share_count}
use Rattle.rb_nodes.proofs.MemberLaws.{in_group, owner_in_group}
use Rattle.rb_message_defs.proofs.Groups.{group_is}

-- what stands at a place
item_there : {X : Type 0} (xs : List X) (k : ℕ) → k < length xs → (x : X) × (slice_get xs k ≡ Some x)
item_there [] k within = absurd (omega arith)
item_there (x ∷ xs) zero within = (x, refl)
item_there (x ∷ xs) (suc k) within = item_there xs k (omega arith)

-- the owner of a bucket holds all messages of it that are not acknowledged
pub owner_holds : (cluster : Cluster) (seen : ℕ → List ℕ) (shape : Shape) (run : Progress) → IsCluster cluster seen shape run → run.lost ≡ None → (bucket : ℕ) → bucket < shape.buckets → OwnerHolds shape cluster run bucket
owner_holds cluster seen shape run held none bucket below =
    let nodes = held.rest.net.groups in
    let all : Buffered = buffered_by shape run in
    let number = bucket / run.nodes.replicas in
    let owner = owner_in run.nodes bucket in
    let its = in_group cluster.rest.nodes.nodes shape.buckets all bucket nodes below in
    let (group, there) = item_there cluster.rest.nodes.nodes.groups.items number its.within in
    let here : GroupHolds shape.buckets all number group = subst (GroupHolds shape.buckets all number) (get_or_from_slice_get cluster.rest.nodes.nodes.groups.items number group group there) (nodes.groups number group its.within) in
    let own = owner_in_group cluster.rest.nodes.nodes shape.buckets all bucket number group nodes its in
    let count = share_count shape.buckets all number in
    let from = own.from in
    let most = own.below in
    let at : owner / cluster.rest.nodes.nodes.replicas ≡ number = ap (λ (r : ℕ). owner / r) nodes.replicas ∙ group_is run.nodes.replicas number owner (from, most) in
    ap (λ (place : ℕ). option_map (λ buffer. messages_kept buffer bucket) (option_and_then (λ found. buffer_of found owner) (slice_get cluster.rest.nodes.nodes.groups.items place))) at
    ∙ ap (λ (found : Option Group). option_map (λ buffer. messages_kept buffer bucket) (option_and_then (λ other. buffer_of other owner) found)) there
    ∙ covering_holds group (share_of shape.buckets all number) owner bucket here (from, omega arith) (covers_share shape.buckets all number owner from most ∙ cover_at_nodes shape run (held.rest.point.covered.owners none) bucket below)
    ∙ ap (λ (ms : List Message). Some ms) (unacknowledged_share shape run number bucket (of_its_group all bucket number (length cluster.rest.nodes.nodes.groups.items) its))
