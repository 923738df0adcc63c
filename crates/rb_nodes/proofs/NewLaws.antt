-- A new group represents its share of a new site, once epoch 0 is acknowledged.
use Rattle.std.proofs.Common.{◌≡◌, ℕ, ◌+◌, ◌*◌, ◌<◌, ◌≤◌, Bool, true, false, List, [], length, map, refl, sym, ap, subst, ◌∙◌, arith}
use Rattle.std.specs.Prelude.{if◌then◌else◌, Option, Some, unwrap_or}
use Rattle.std.proofs.lemmas.List.{length-map}
use Rattle.rb_journal_defs.specs.Body.{in_bucket, numbers_below}
use Rattle.rb_journal_defs.specs.Clock.{first_epoch}
use Rattle.rb_message_defs.specs.Message.{home_node}
use Rattle.rb_message_defs.specs.Nodes.{Node, down, node_from, nodes_at_first, node_at, owner_in}
use Rattle.rb_message_defs.proofs.Numbers.{number_at, length_numbers}
use Rattle.rb_message_defs.proofs.Places.{get_map}
use Rattle.rb_message_defs.proofs.Ranges.{all_same, all_own}
use Rattle.rb_message_defs.proofs.Groups.{group_fits}
use Rattle.rb_group.specs.Kept.{Kept, new_group, with_acknowledged}
use Rattle.rb_group.specs.Group.{Keeps}
use Rattle.rb_group.specs.declared.group.Group.{Group}
use Rattle.rb_nodes.specs.Nodes.{Buffered, since_of, kept_in, nothing_done, share_of, GroupHolds, GroupsHold, HoldsNodes}
use Rattle.rb_nodes.specs.declared.nodes.Nodes.{Nodes}
use Rattle.rb_nodes.proofs.ShareLaws.{keeps_same}
use Rattle.rb_nodes.proofs.CommitLaws.{is_of_group}

pub new_holds : (groups replicas number opened : ℕ) (group : Group) → number < groups → opened ≡ first_epoch → Keeps group (with_acknowledged 0 (new_group (number * replicas) replicas opened)) →
    GroupHolds (groups * replicas) (nothing_done opened (nodes_at_first groups replicas)) number group
new_holds groups replicas number opened group within first_is keeps =
    keeps_same group (share (share_of all site number).nodes (share_of all site number).owners) (kept_in site all number) (λ e b. none (is_of_group site number b) b)
    (subst (λ (owners : List ℕ). Keeps group (share (share_of all site number).nodes owners)) (sym (all_own (owner_in site.members) (number * replicas) replicas all fits own))
    (subst (λ (nodes : List (Option ℕ)). Keeps group (share nodes (map (λ step. number * replicas + step) (numbers_below replicas)))) (sym (all_same (λ node. since_of (node_at site.members node)) (Some opened) (number * replicas) replicas all fits up)) keeps))
  where
    all : ℕ
    all = groups * replicas

    site : Buffered
    site = nothing_done opened (nodes_at_first groups replicas)

    share : List (Option ℕ) → List ℕ → Kept
    share nodes owners = record { first = number * replicas; opened = opened; acknowledged = Some 0; changes = λ epoch bucket. []; closes = []; nodes = nodes; owners = owners }

    fits : number * replicas + replicas ≤ groups * replicas
    fits = group_fits number replicas groups (groups * replicas) within refl

    none : (here : Bool) (b : ℕ) → [] ≡ (if here then in_bucket all b [] else [])
    none true b = refl
    none false b = refl

    own : (k : ℕ) → k < all → owner_in site.members k ≡ k
    own k l = ap (λ (o : Option ℕ). unwrap_or o (home_node k)) (number_at all k l)

    up : (k : ℕ) → k < all → since_of (node_at site.members k) ≡ Some opened
    up k l = ap (λ (o : Option Node). since_of (unwrap_or o down)) (get_map (λ number. node_from first_epoch) (numbers_below all) k k (number_at all k l)) ∙ ap (λ (e : ℕ). Some e) (sym first_is)

-- so do the nodes of a new site
pub nodes_begin : (nodes : Nodes) (groups replicas opened : ℕ) → nodes.buckets ≡ groups * replicas → nodes.replicas ≡ replicas → 1 ≤ replicas → length nodes.groups.items ≡ groups →
    GroupsHold (groups * replicas) (nothing_done opened (nodes_at_first groups replicas)) nodes.groups.items → HoldsNodes nodes (groups * replicas) (nothing_done opened (nodes_at_first groups replicas))
nodes_begin nodes groups replicas opened buckets same some count held = record {
  buckets_are = buckets;
  replicas = same;
  some = omega arith;
  count = ap (λ (n : ℕ). n * nodes.replicas) count ∙ ap (λ (r : ℕ). groups * r) same;
  members = length-map (numbers_below (groups * replicas)) (λ number. node_from first_epoch) ∙ length_numbers (groups * replicas);
  owners = length_numbers (groups * replicas);
  groups = held;
}
