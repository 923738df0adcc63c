-- What the groups of a site send at a close, at a takeover and at a resend is what the run sends.
use Rattle.std.proofs.Common.{◌≡◌, ℕ, zero, suc, ◌+◌, ◌*◌, ◌/◌, ◌<◌, Bool, true, List, [], ◌∷◌, ◌++◌, length, map, filter, sym, ap, ◌∙◌, arith}
use Rattle.std.specs.Prelude.{◌==◌, ◌&&◌, not, if◌then◌else◌}
use Rattle.std.specs.List.{AllByRecursion, flat_map, list_any}
use Rattle.std.proofs.Math.Nat.{mul-div_cancel, suc-mul}
use Rattle.std.proofs.lemmas.Bool.{eqb-true}
use Rattle.std.proofs.lemmas.List.{append-nil}
use Rattle.std.proofs.lemmas.Grind.{flat_map-append}
use Rattle.rb_base.specs.declared.message.Message.TheVariants.{Done}
use Rattle.rb_base.specs.declared.message.Sent.{Sent}
use Rattle.rb_journal_defs.specs.Journal.{previous_closed}
use Rattle.rb_journal_defs.specs.Body.{Shape, in_bucket, changes_in, numbers_below}
use Rattle.rb_message_defs.specs.Message.{home_node, done_message, sent_by}
use Rattle.rb_message_defs.specs.Nodes.{node_at, owner_in, covers, numbers_in, group_of, owned_by, returns, sent_from}
use Rattle.rb_message_defs.proofs.Messages.{all_below, all_more}
use Rattle.rb_group.specs.Kept as group
use Rattle.rb_group.specs.Kept.{Kept, numbers_of, done_in, again_in, returns_in, covers_in}
use Rattle.rb_play_defs.specs.Step.{Progress, needed_of, sent_again, sent_by_owners, only_closed, sent_at_close}
use Rattle.rb_play_defs.specs.Sound.{IsSound}
use Rattle.rb_play_defs.proofs.Fits.{all_filtered}
use Rattle.rb_nodes.specs.Nodes as site
use Rattle.rb_nodes.specs.Nodes.{Buffered, share_of, HoldsNodes}
use Rattle.rb_cluster.specs.Net.{buffered_by}
use Rattle.rb_nodes.specs.declared.nodes.Nodes.{Nodes}
use Rattle.rb_nodes.proofs.NodeLaws.{of_its_group}
use Rattle.rb_nodes.proofs.ShareLaws.{owner_share, covers_share}
use Rattle.rb_nodes.proofs.SenderLaws.{numbers_share}
use Rattle.rb_cluster.proofs.ShareLaws.{needed_share, unacknowledged_share}
use Rattle.rb_message_defs.proofs.Ranges.{numbers_split}
use Rattle.rb_message_defs.proofs.Groups.{IsOf, numbers_are}
use Rattle.rb_nodes.proofs.PlaceLaws.{owned_is_of}
use Rattle.rb_play_defs.proofs.Lists.{map_alike, flat_alike, filter_alike, all_passing}

-- a bucket of a group is among the group's numbers
among_own : (now : Buffered) (number bucket : ℕ) → IsOf now.members.replicas number bucket → list_any (λ other. other == bucket) (numbers_in now.members number) ≡ true
among_own now number bucket is = of_its_group now bucket number (number + 1) (record { within = omega arith; from = is.0; below = is.1 })

-- what a node resends of a bucket of its group
again_share : (shape : Shape) (run : Progress) (number sender bucket : ℕ) → IsOf run.nodes.replicas number bucket →
    again_in (share_of shape.buckets (buffered_by shape run) number) sender bucket ≡ sent_again shape run sender bucket
again_share shape run number sender bucket is = ap (sent_from sender) (unacknowledged_share shape run number bucket (among_own (buffered_by shape run) number bucket is))

-- the end of a bucket, as its owner sends it
done_share : (shape : Shape) (run : Progress) (number bucket prev : ℕ) → IsOf run.nodes.replicas number bucket → prev ≡ previous_closed run.opened run.journal →
    record { sender = group.owner_in (share_of shape.buckets (buffered_by shape run) number) bucket; message = done_in (share_of shape.buckets (buffered_by shape run) number) bucket (run.opened, prev) }
    ≡ sent_by (owner_in run.nodes) (done_message shape run.opened bucket run.journal)
done_share shape run number bucket prev is before =
    ap (λ (o : ℕ). record { sender = o; message = done_in (share_of shape.buckets (buffered_by shape run) number) bucket (run.opened, prev) }) (owner_share shape.buckets (buffered_by shape run) number bucket is.0 is.1)
    ∙ ap (λ (here : Bool). record {
      sender = owner_in run.nodes bucket;
      message = Done bucket (record { 0 = run.opened }) (record { 0 = prev }) (length (if here then in_bucket shape.buckets bucket (changes_in shape.site run.opened run.journal) else []));
    }) (among_own (buffered_by shape run) number bucket is)
    ∙ ap (λ (p : ℕ). record {
      sender = owner_in run.nodes bucket;
      message = Done bucket (record { 0 = run.opened }) (record { 0 = p }) (length (in_bucket shape.buckets bucket (changes_in shape.site run.opened run.journal)));
    }) before

-- the buckets that return at a close
returns_share : (shape : Shape) (run : Progress) (number bucket : ℕ) → IsOf run.nodes.replicas number bucket →
    returns_in (share_of shape.buckets (buffered_by shape run) number) bucket ≡ returns run.nodes (needed_of run) bucket
returns_share shape run number bucket is =
    ap (λ (o : ℕ). not (o == home_node bucket) && covers_in (share_of shape.buckets (buffered_by shape run) number) (home_node bucket)) (owner_share shape.buckets (buffered_by shape run) number bucket is.0 is.1)
    ∙ ap (λ (c : Bool). not (owner_in run.nodes bucket == home_node bucket) && c)
    (covers_share shape.buckets (buffered_by shape run) number (home_node bucket) is.0 is.1 ∙ ap (λ (n : ℕ). covers n (node_at run.nodes (home_node bucket))) (needed_share shape run number))

-- what a group sends at a close
group_closes : (shape : Shape) (gci : Bool) (run : Progress) (number prev next : ℕ) → prev ≡ previous_closed run.opened run.journal →
    site.only_closed prev next (buffered_by shape run) ≡ buffered_by shape (only_closed gci run) →
    group.sent_at_close prev next (share_of shape.buckets (buffered_by shape run) number) ≡ sent_at_close shape run (only_closed gci run) number
group_closes shape gci run number prev next before following =
    ap (λ (later : Kept). map done (numbers_of kept) ++ flat_map (λ bucket. again_in later bucket bucket) (filter (returns_in later) (numbers_of kept))) (ap (λ (all : Buffered). share_of shape.buckets all number) following)
    ∙ ap (λ (ns : List ℕ). map done ns ++ flat_map (λ bucket. again_in now bucket bucket) (filter (returns_in now) ns)) (numbers_share shape.buckets (buffered_by shape run) number)
    ∙ ap (λ (ms : List Sent). ms ++ flat_map (λ bucket. again_in now bucket bucket) (filter (returns_in now) numbers))
    (map_alike done (λ bucket. sent_by (owner_in run.nodes) (done_message shape run.opened bucket run.journal)) numbers (all_more (IsOf run.nodes.replicas number) (λ bucket. done bucket ≡ sent_by (owner_in run.nodes) (done_message shape run.opened bucket run.journal)) numbers (λ bucket is. done_share shape run number bucket prev is before) own))
    ∙ ap (λ (ns : List ℕ). map (λ bucket. sent_by (owner_in run.nodes) (done_message shape run.opened bucket run.journal)) numbers ++ flat_map (λ bucket. again_in now bucket bucket) ns)
    (filter_alike (returns_in now) (returns run.nodes (needed_of after)) numbers (all_more (IsOf run.nodes.replicas number) (λ bucket. returns_in now bucket ≡ returns run.nodes (needed_of after) bucket) numbers (λ bucket is. returns_share shape after number bucket is) own))
    ∙ ap (λ (ms : List Sent). map (λ bucket. sent_by (owner_in run.nodes) (done_message shape run.opened bucket run.journal)) numbers ++ ms)
    (flat_alike (λ bucket. again_in now bucket bucket) (λ bucket. sent_again shape after bucket bucket) (filter (returns run.nodes (needed_of after)) numbers)
    (all_filtered (λ bucket. again_in now bucket bucket ≡ sent_again shape after bucket bucket) (returns run.nodes (needed_of after)) numbers (all_more (IsOf run.nodes.replicas number) (λ bucket. again_in now bucket bucket ≡ sent_again shape after bucket bucket) numbers (λ bucket is. again_share shape after number bucket bucket is) own)))
  where
    after : Progress
    after = only_closed gci run

    kept : Kept
    kept = share_of shape.buckets (buffered_by shape run) number

    now : Kept
    now = share_of shape.buckets (buffered_by shape after) number

    numbers : List ℕ
    numbers = numbers_in run.nodes number

    own : AllByRecursion (IsOf run.nodes.replicas number) numbers
    own = numbers_are run.nodes number

    done : ℕ → Sent
    done bucket = record { sender = group.owner_in kept bucket; message = done_in kept bucket (run.opened, prev) }

-- and what all of them send
pub sent_closing : (shape : Shape) (gci : Bool) (run : Progress) (prev next groups : ℕ) → prev ≡ previous_closed run.opened run.journal → site.only_closed prev next (buffered_by shape run) ≡ buffered_by shape (only_closed gci run) →
    site.sent_at_close shape.buckets (buffered_by shape run) prev next groups ≡ flat_map (sent_at_close shape run (only_closed gci run)) (numbers_below groups)
sent_closing shape gci run prev next groups before following =
    flat_alike (λ number. group.sent_at_close prev next (share_of shape.buckets (buffered_by shape run) number)) (sent_at_close shape run (only_closed gci run)) (numbers_below groups)
    (all_below groups (λ number within. group_closes shape gci run number prev next before following))

-- what a successor sends
pub sent_taking_over : (shape : Shape) (run : Progress) (nodes : Nodes) (node successor : ℕ) → HoldsNodes nodes shape.buckets (buffered_by shape run) →
    flat_map (again_in (share_of shape.buckets (buffered_by shape run) (group_of run.nodes node)) successor) (owned_by run.nodes node) ≡ flat_map (sent_again shape run successor) (owned_by run.nodes node)
sent_taking_over shape run nodes node successor held =
    flat_alike (again_in (share_of shape.buckets (buffered_by shape run) (group_of run.nodes node)) successor) (sent_again shape run successor) (owned_by run.nodes node)
    (all_passing (λ bucket. bucket < length run.nodes.owners) (λ bucket. again_in (share_of shape.buckets (buffered_by shape run) (group_of run.nodes node)) successor bucket ≡ sent_again shape run successor bucket)
    (λ bucket. owner_in run.nodes bucket == node) (numbers_below (length run.nodes.owners))
    (λ bucket below owns. again_share shape run (group_of run.nodes node) successor bucket
    (owned_is_of nodes shape.buckets (buffered_by shape run) bucket node held (let count = held.owners in omega arith) (eqb-true (owner_in run.nodes bucket) node owns)))
    (all_below (length run.nodes.owners) (λ k below. below)))

-- group by group, or bucket by bucket
by_groups : (f : ℕ → List Sent) (replicas groups : ℕ) → flat_map (λ number. flat_map f (map (λ step. number * replicas + step) (numbers_below replicas))) (numbers_below groups) ≡ flat_map f (numbers_below (groups * replicas))
by_groups f replicas zero = ap (λ (n : ℕ). flat_map f (numbers_below n)) (let same : zero ≡ zero * replicas = grind arith in same)
by_groups f replicas (suc groups) =
    flat_map-append of_group (numbers_below groups) (groups ∷ [])
    ∙ ap (λ (ms : List Sent). ms ++ (of_group groups ++ [])) (by_groups f replicas groups)
    ∙ ap (λ (ms : List Sent). flat_map f (numbers_below (groups * replicas)) ++ ms) (append-nil (of_group groups))
    ∙ sym (flat_map-append f (numbers_below (groups * replicas)) (map (λ step. groups * replicas + step) (numbers_below replicas)))
    ∙ ap (flat_map f) (sym (numbers_split (groups * replicas) replicas))
    ∙ ap (λ (n : ℕ). flat_map f (numbers_below n)) (sym (suc-mul groups replicas))
  where
    of_group : ℕ → List Sent
    of_group number = flat_map f (map (λ step. number * replicas + step) (numbers_below replicas))

-- what a group resends
group_resends : (shape : Shape) (run : Progress) (number : ℕ) →
    group.sent_at_resend (share_of shape.buckets (buffered_by shape run) number) ≡ flat_map (λ bucket. sent_again shape run (owner_in run.nodes bucket) bucket) (numbers_in run.nodes number)
group_resends shape run number =
    let kept = share_of shape.buckets (buffered_by shape run) number in
    ap (flat_map (λ bucket. again_in kept (group.owner_in kept bucket) bucket)) (numbers_share shape.buckets (buffered_by shape run) number)
    ∙ flat_alike (λ bucket. again_in kept (group.owner_in kept bucket) bucket) (λ bucket. sent_again shape run (owner_in run.nodes bucket) bucket) (numbers_in run.nodes number)
    (all_more (IsOf run.nodes.replicas number) (λ bucket. again_in kept (group.owner_in kept bucket) bucket ≡ sent_again shape run (owner_in run.nodes bucket) bucket) (numbers_in run.nodes number)
    (λ bucket is. again_share shape run number (group.owner_in kept bucket) bucket is ∙ ap (λ (o : ℕ). sent_again shape run o bucket) (owner_share shape.buckets (buffered_by shape run) number bucket is.0 is.1))
    (numbers_are run.nodes number))

-- and what all of them do
pub sent_resending : (shape : Shape) (run : Progress) → IsSound shape run → site.sent_at_resend shape.buckets (buffered_by shape run) (shape.buckets / run.nodes.replicas) ≡ sent_by_owners shape run
sent_resending shape run sound =
    let again : ℕ → List Sent = λ bucket. sent_again shape run (owner_in run.nodes bucket) bucket in
    let groups = shape.buckets / run.nodes.replicas in
    flat_alike (λ number. group.sent_at_resend (share_of shape.buckets (buffered_by shape run) number)) (λ number. flat_map again (numbers_in run.nodes number)) (numbers_below groups)
    (all_below groups (λ number within. group_resends shape run number))
    ∙ by_groups again run.nodes.replicas groups
    ∙ ap (λ (n : ℕ). flat_map again (numbers_below n)) whole
  where
    some : 0 < run.nodes.replicas
    some = sound.nodes.some

    whole : shape.buckets / run.nodes.replicas * run.nodes.replicas ≡ shape.buckets
    whole =
        ap (λ (n : ℕ). n * run.nodes.replicas) (ap (λ (all : ℕ). all / run.nodes.replicas) (sym sound.nodes.whole) ∙ mul-div_cancel sound.nodes.groups {n = run.nodes.replicas} some)
        ∙ sound.nodes.whole
