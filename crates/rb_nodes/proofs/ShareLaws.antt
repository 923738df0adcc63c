-- What a share of a group says: the same owners as the site, the same nodes that are up, and the
-- same nodes that cover.
use Rattle.std.proofs.Common.{◌≡◌, ℕ, ◌+◌, ◌*◌, ◌<◌, ◌≤◌, Bool, true, false, List, [], refl, sym, ap, ◌∙◌}
use Rattle.std.specs.Prelude.{◌&&◌, nat_le, if◌then◌else◌, Option, Some, None, unwrap_or}
use Rattle.std.specs.Option.{option_map_or}
use Rattle.rb_base.specs.declared.change.Change.{Change}
use Rattle.rb_message_defs.specs.Message.{home_node}
use Rattle.rb_message_defs.specs.Nodes.{Node, node_at, owner_in, covers}
use Rattle.rb_message_defs.proofs.Ranges.{at_number}
use Rattle.rb_bucket.specs.declared.bucket.BucketBuffer.{BucketBuffer}
use Rattle.rb_group.specs.Kept as group
use Rattle.rb_group.specs.Kept.{Kept, HoldsNode, is_after}
use Rattle.rb_group.specs.Group.{Keeps}
use Rattle.rb_group.specs.declared.group.Group.{Group}
use Rattle.rb_nodes.specs.Nodes.{Buffered, needed_by, since_of, share_of}

-- the same changes, said otherwise
abbrev Same : Kept → (changes : (epoch bucket : ℕ) → List Change) → Type 0
Same kept changes = (epoch bucket : ℕ) → kept.changes epoch bucket ≡ changes epoch bucket

-- a node holds the same
same_node : (kept : Kept) (changes : (epoch bucket : ℕ) → List Change) (buffer : Option BucketBuffer) (since : Option ℕ) → Same kept changes →
    HoldsNode buffer since kept → HoldsNode buffer since (record kept { changes = changes })
same_node kept changes None None same held = held
same_node kept changes None (Some since) same held = held
same_node kept changes (Some buffer) None same held = held
same_node kept changes (Some buffer) (Some since) same held = record {
  changes = λ e b. held.changes e b ∙ ap (λ (cs : List Change). if nat_le since e && is_after kept.acknowledged e then cs else []) (same e b);
  closes = held.closes;
  opened = held.opened;
  since_is = held.since_is;
  buckets = held.buckets;
}

-- and so does a group
pub keeps_same : (group : Group) (kept : Kept) (changes : (epoch bucket : ℕ) → List Change) → Same kept changes → Keeps group kept → Keeps group (record kept { changes = changes })
keeps_same group kept changes same keeps = record {
  first = keeps.first;
  opened = keeps.opened;
  acknowledged = keeps.acknowledged;
  count = keeps.count;
  nodes = λ k buffer since is there. same_node kept changes buffer since same (keeps.nodes k buffer since is there);
  owners = keeps.owners;
  owner_count = keeps.owner_count;
  owners_in = keeps.owners_in;
  some = keeps.some;
  fits = keeps.fits;
  order = record {
    closes = keeps.order.closes;
    acknowledged = keeps.order.acknowledged;
    later = λ e b l. sym (same e b) ∙ keeps.order.later e b l;
  };
  closed = keeps.closed;
  countable = keeps.countable;
}

-- a share has the site's owners
pub owner_share : (buckets : ℕ) (site : Buffered) (number bucket : ℕ) → number * site.members.replicas ≤ bucket → bucket < number * site.members.replicas + site.members.replicas →
    group.owner_in (share_of buckets site number) bucket ≡ owner_in site.members bucket
owner_share buckets site number bucket from below =
    ap (λ (o : Option ℕ). unwrap_or o (home_node bucket)) (at_number (owner_in site.members) (number * site.members.replicas) site.members.replicas bucket from below)

-- its nodes buffer from the same epochs on
pub since_share : (buckets : ℕ) (site : Buffered) (number node : ℕ) → number * site.members.replicas ≤ node → node < number * site.members.replicas + site.members.replicas →
    group.since_in (share_of buckets site number) node ≡ since_of (node_at site.members node)
since_share buckets site number node from below =
    ap (λ (o : Option (Option ℕ)). unwrap_or o None) (at_number (λ other. since_of (node_at site.members other)) (number * site.members.replicas) site.members.replicas node from below)

-- and the same ones cover
pub covers_share : (buckets : ℕ) (site : Buffered) (number node : ℕ) → number * site.members.replicas ≤ node → node < number * site.members.replicas + site.members.replicas →
    group.covers_in (share_of buckets site number) node ≡ covers (needed_by site) (node_at site.members node)
covers_share buckets site number node from below =
    ap (λ (since : Option ℕ). option_map_or (λ since. nat_le since (needed_by site)) since false) (since_share buckets site number node from below)
    ∙ go (node_at site.members node)
  where
    go : (n : Node) → option_map_or (λ since. nat_le since (needed_by site)) (since_of n) false ≡ covers (needed_by site) n
    go n = by_up n.up
      where
        by_up : (up : Bool) → option_map_or (λ since. nat_le since (needed_by site)) (if up then Some n.since else None) false ≡ (up && nat_le n.since (needed_by site))
        by_up true = refl
        by_up false = refl
