-- The nodes and the owners of a site after a failure, a takeover, a restart or a return.
use Rattle.std.proofs.Common.{◌≡◌, ℕ, zero, suc, ◌+◌, ◌<◌, Bool, true, false, List, [], ◌∷◌, length, map, refl, sym, ap, ◌∙◌, arith, get_or, eqb-true, ne_eqb}
use Rattle.std.specs.Prelude.{◌==◌, if◌then◌else◌, Option, Some, None, unwrap_or}
use Rattle.std.specs.List.{slice_get}
use Rattle.std.specs.Option.{option_map}
use Rattle.std.proofs.lemmas.Option.{slice_get-get_or, unwrap_or-slice_get}
use Rattle.rb_journal_defs.specs.Clock.{first_epoch}
use Rattle.rb_message_defs.specs.Message.{home_node}
use Rattle.rb_message_defs.specs.Nodes.{Node, Nodes, down, node_from, node_at, owner_in, with_node, with_owner, with_returns, with_failure, with_restart, returns}
use Rattle.rb_message_defs.proofs.Numbers.{numbered_get}
use Rattle.rb_message_defs.proofs.Places.{get_map}

-- a node after a change of one
pub node_changed : (site : Nodes) (number : ℕ) (node : Node) (other : ℕ) → (other ≡ number → other < length site.nodes) → node_at (with_node number node site) other ≡ (if other == number then node else node_at site other)
node_changed site number node other within =
    ap (λ (o : Option Node). unwrap_or o down) (numbered_get (λ numbered. if numbered.0 == number then node else numbered.1) 0 other site.nodes) ∙ go (slice_get site.nodes other) refl
  where
    go : (found : Option Node) → slice_get site.nodes other ≡ found → unwrap_or (option_map (λ x. if 0 + other == number then node else x) found) down ≡ (if other == number then node else unwrap_or found down)
    go None is =
        let differs : other ≡ number → ⊥ = λ same. let some : Some (get_or site.nodes other down) ≡ None = sym (slice_get-get_or site.nodes other down (within same)) ∙ is in absurd cc in
        sym (ap (λ (b : Bool). if b then node else down) (ne_eqb other number differs))
    go (Some x) is = ap (λ (k : ℕ). if k == number then node else x) (let same : 0 + other ≡ other = omega arith in same)

-- the owner of a bucket is read
owner_there : (site : Nodes) (bucket : ℕ) → bucket < length site.owners → slice_get site.owners bucket ≡ Some (owner_in site bucket)
owner_there site bucket within = slice_get-get_or site.owners bucket (home_node bucket) within ∙ ap Some (sym (unwrap_or-slice_get site.owners bucket (home_node bucket)))

-- an owner after a takeover
pub owner_moved : (old new bucket : ℕ) (site : Nodes) → bucket < length site.owners → owner_in (with_owner old new site) bucket ≡ (if owner_in site bucket == old then new else owner_in site bucket)
owner_moved old new bucket site within =
    ap (λ (o : Option ℕ). unwrap_or o (home_node bucket))
    (get_map (λ owner. if owner == old then new else owner) site.owners bucket (owner_in site bucket) (owner_there site bucket within))

-- an owner after the returns of a close
pub owner_returned : (needed bucket : ℕ) (site : Nodes) → bucket < length site.owners → owner_in (with_returns needed site) bucket ≡ (if returns site needed bucket then home_node bucket else owner_in site bucket)
owner_returned needed bucket site within =
    ap (λ (o : Option ℕ). unwrap_or o (home_node bucket))
    (numbered_get (λ numbered. if returns site needed numbered.0 then home_node numbered.0 else numbered.1) 0 bucket site.owners
    ∙ ap (option_map (λ x. if returns site needed (0 + bucket) then home_node (0 + bucket) else x)) (owner_there site bucket within)
    ∙ ap (λ (n : ℕ). Some (if returns site needed n then home_node n else owner_in site bucket)) (let same : 0 + bucket ≡ bucket = omega arith in same))

-- when the nodes last failed, after a failure and after a restart
pub failed_after : (site : Nodes) (number sent : ℕ) (other : ℕ) → number < length site.nodes → (node_at (with_failure number sent site) other).failed_at ≡ (if other == number then sent else (node_at site other).failed_at)
failed_after site number sent other within = ap (λ (node : Node). node.failed_at) (node_changed site number (record { up = false; since = 0; failed_at = sent }) other (λ same. omega arith)) ∙ go (other == number)
  where
    go : (b : Bool) → (if b then record { up = false; since = 0; failed_at = sent } else node_at site other).failed_at ≡ (if b then sent else (node_at site other).failed_at)
    go true = refl
    go false = refl

pub failed_restart : (site : Nodes) (number opened : ℕ) (other : ℕ) → number < length site.nodes → (node_at (with_restart number opened site) other).failed_at ≡ (node_at site other).failed_at
failed_restart site number opened other within = ap (λ (node : Node). node.failed_at) (node_changed site number node other (λ same. omega arith)) ∙ go (other == number) refl
  where
    node : Node
    node = record { up = true; since = opened + 1; failed_at = (node_at site number).failed_at }

    go : (b : Bool) → (other == number) ≡ b → (if b then node else node_at site other).failed_at ≡ (node_at site other).failed_at
    go true is = ap (λ (k : ℕ). (node_at site k).failed_at) (sym (eqb-true other number is))
    go false is = refl

-- no node of a new site has failed
pub none_failed : (numbers : List ℕ) (node : ℕ) → (unwrap_or (slice_get (map (λ number. node_from first_epoch) numbers) node) down).failed_at ≡ 0
none_failed [] node = refl
none_failed (number ∷ numbers) zero = refl
none_failed (number ∷ numbers) (suc node) = none_failed numbers node
