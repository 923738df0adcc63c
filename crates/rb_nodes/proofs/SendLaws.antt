-- What is sent and buffered, one change after the other.
use Rattle.std.proofs.Common.{◌≡◌, ℕ, ◌+◌, ◌<◌, Bool, true, false, cond, List, [], ◌∷◌, ◌++◌, length, map, take, get_or, refl, sym, ap, subst, ◌∙◌, arith, append_assoc, length-append}
use Rattle.std.specs.Prelude.{◌==◌, if◌then◌else◌}
use Rattle.std.specs.List.{list_any}
use Rattle.std.proofs.lemmas.List.{append-nil, map-append, length-take-le}
use Rattle.rb_base.specs.Bucket.{bucket_number}
use Rattle.rb_base.specs.declared.change.Change.{Change}
use Rattle.rb_base.specs.declared.message.Message.{Message}
use Rattle.rb_base.specs.declared.message.Sent.{Sent}
use Rattle.rb_journal_defs.specs.Body.{in_bucket}
use Rattle.rb_message_defs.specs.Message.{part_message, parts_sent, sent_by}
use Rattle.rb_message_defs.specs.Nodes.{owner_in, numbers_in}
use Rattle.rb_message_defs.proofs.Messages.{bucket_within}
use Rattle.rb_message_defs.proofs.Parts.{both_changes, here_changes, parts_more, upto_here}
use Rattle.rb_nodes.proofs.ShareLaws.{keeps_same}
use Rattle.rb_nodes.specs.Nodes.{Buffered, share_of, kept_in, with_changes, HoldsNodes, CanSend, CanCommit}
use Rattle.rb_nodes.specs.Outbox.{HoldsSent, nodes_in, OwnersIn}
use Rattle.rb_nodes.specs.declared.nodes.Nodes.{Nodes}
use Rattle.rb_nodes.specs.declared.outbox.Outbox.{Outbox}

-- the same changes by other words
pub nodes_same : (nodes : Nodes) (buckets : ℕ) (site : Buffered) (changes : ℕ → List Change) → ((e : ℕ) → site.changes e ≡ changes e) → HoldsNodes nodes buckets site → HoldsNodes nodes buckets (record site { changes = changes })
nodes_same nodes buckets site changes same held = record {
  buckets_are = held.buckets_are;
  replicas = held.replicas;
  some = held.some;
  count = held.count;
  members = held.members;
  owners = held.owners;
  groups = λ k d within.
      keeps_same (get_or nodes.groups.items k d) (share_of buckets site k) (kept_in (record site { changes = changes }) buckets k)
      (λ e b. ap (λ (cs : List Change). if list_any (λ other. other == b) (numbers_in site.members k) then in_bucket buckets b cs else []) (same e)) (held.groups k d within);
}

-- the nodes after the change that a loop is at
pub sent_nodes : (now after : Nodes) (buckets : ℕ) (site : Buffered) (changes : List Change) (i : ℕ) (c : Change) → i < length changes → c ≡ get_or changes i c → HoldsNodes now buckets (with_changes (take i changes) site) →
    ((b : ℕ) (s : Buffered) → HoldsNodes now b s → HoldsNodes after b (with_changes (c ∷ []) s)) → HoldsNodes after buckets (with_changes (take (i + 1) changes) site)
sent_nodes now after buckets site changes i c within is held step =
    subst (λ (cs : List Change). HoldsNodes after buckets (with_changes cs site)) (upto_here changes i c within is)
    (nodes_same after buckets (with_changes (c ∷ []) (with_changes (take i changes) site)) (with_changes (take i changes ++ c ∷ []) site).changes (λ e. both_changes site.opened e (site.changes e) (take i changes) c)
    (step buckets (with_changes (take i changes) site) held))

-- the outbox after it
pub sent_outbox : (now : Nodes) (before after : Outbox) (buckets : ℕ) (site : Buffered) (sent : List Sent) (delivered : List ℕ) (failed_at : ℕ → ℕ) (changes : List Change) (i : ℕ) (c : Change) (message : Sent) → i < length changes → c ≡ get_or changes i c → HoldsNodes now buckets (with_changes (take i changes) site) →
    HoldsSent before (sent ++ map (sent_by (owner_in site.members)) (parts_sent buckets site.opened (site.changes site.opened) (take i changes))) delivered failed_at →
    ((b : ℕ) (s : Buffered) → HoldsNodes now b s → message ≡ sent_by (owner_in s.members) (part_message b s.opened (s.changes s.opened) c)) →
    ((ss : List Sent) (ds : List ℕ) (fa : ℕ → ℕ) → HoldsSent before ss ds fa → HoldsSent after (ss ++ message ∷ []) ds fa) →
    HoldsSent after (sent ++ map (sent_by (owner_in site.members)) (parts_sent buckets site.opened (site.changes site.opened) (take (i + 1) changes))) delivered failed_at
sent_outbox now before after buckets site sent delivered failed_at changes i c message within is held box is_message step =
    let o = site.opened in
    let earlier = site.changes o in
    let cs = take i changes in
    let own : message ≡ sent_by (owner_in site.members) (part_message buckets o (earlier ++ cs) c) =
    is_message buckets (with_changes cs site) held ∙ ap (λ (es : List Change). sent_by (owner_in site.members) (part_message buckets o es c)) (here_changes o earlier cs) in
    let all : (sent ++ map (sent_by (owner_in site.members)) (parts_sent buckets o earlier cs)) ++ message ∷ [] ≡ sent ++ map (sent_by (owner_in site.members)) (parts_sent buckets o earlier (take (i + 1) changes)) =
    append_assoc sent (map (sent_by (owner_in site.members)) (parts_sent buckets o earlier cs)) (message ∷ [])
    ∙ ap (λ (m : Sent). sent ++ (map (sent_by (owner_in site.members)) (parts_sent buckets o earlier cs) ++ m ∷ [])) own
    ∙ ap (λ (ms : List Sent). sent ++ ms) (sym (map-append (sent_by (owner_in site.members)) (parts_sent buckets o earlier cs) (part_message buckets o (earlier ++ cs) c ∷ [])))
    ∙ ap (λ (ms : List Message). sent ++ map (sent_by (owner_in site.members)) ms) (sym (parts_more buckets o earlier cs c))
    ∙ ap (λ (ds : List Change). sent ++ map (sent_by (owner_in site.members)) (parts_sent buckets o earlier ds)) (upto_here changes i c within is) in
    subst (λ (ss : List Sent). HoldsSent after ss delivered failed_at) all (step (sent ++ map (sent_by (owner_in site.members)) (parts_sent buckets o earlier cs)) delivered failed_at box)

-- the change that a loop is at has room
pub can_commit_here : (start now : Nodes) (changes : List Change) (i : ℕ) → i < length changes → CanSend start changes → ((buckets : ℕ) (site : Buffered) → HoldsNodes start buckets site → HoldsNodes now buckets (with_changes (take i changes) site)) → CanCommit now
can_commit_here start now changes i within (buckets, site, held, some, cover, room) goes =
    let few : length (take i changes) ≡ i = length-take-le i changes (omega arith) in
    let here : length (cond (site.opened == site.opened) (site.changes site.opened ++ take i changes) (site.changes site.opened)) ≡ length (site.changes site.opened) + length (take i changes) = ap length (here_changes site.opened (site.changes site.opened) (take i changes)) ∙ length-append (site.changes site.opened) (take i changes) in
    (buckets, with_changes (take i changes) site, goes buckets site held, some, cover, omega arith)

-- nothing sent yet
pub none_sent_nodes : (nodes : Nodes) (buckets : ℕ) (site : Buffered) → HoldsNodes nodes buckets site → HoldsNodes nodes buckets (with_changes [] site)
none_sent_nodes nodes buckets site held = nodes_same nodes buckets site (with_changes [] site).changes (λ e. go e (site.opened == e)) held
  where
    go : (e : ℕ) (b : Bool) → site.changes e ≡ cond b (site.changes e ++ []) (site.changes e)
    go e true = sym (append-nil (site.changes e))
    go e false = refl

pub none_sent_outbox : (outbox : Outbox) (buckets : ℕ) (site : Buffered) (sent : List Sent) (delivered : List ℕ) (failed_at : ℕ → ℕ) → HoldsSent outbox sent delivered failed_at → HoldsSent outbox (sent ++ map (sent_by (owner_in site.members)) (parts_sent buckets site.opened (site.changes site.opened) [])) delivered failed_at
unfolding parts_sent
none_sent_outbox outbox buckets site sent delivered failed_at held = subst (λ (ss : List Sent). HoldsSent outbox ss delivered failed_at) (sym (append-nil sent)) held

-- the owner that sends the change that a loop is at is one of the nodes that send
pub sender_here : (start now : Nodes) (outbox box : Outbox) (changes : List Change) (i : ℕ) (c : Change) (message : Sent) → CanSend start changes → OwnersIn start outbox → nodes_in box ≡ nodes_in outbox →
    ((buckets : ℕ) (site : Buffered) → HoldsNodes start buckets site → HoldsNodes now buckets (with_changes (take i changes) site)) →
    ((b : ℕ) (s : Buffered) → HoldsNodes now b s → message ≡ sent_by (owner_in s.members) (part_message b s.opened (s.changes s.opened) c)) → message.sender < nodes_in box
sender_here start now outbox box changes i c message (buckets, site, held, some, cover, room) owners same goes is =
    let bucket = bucket_number c.table c.key buckets in
    let below : owner_in site.members bucket < nodes_in outbox = owners buckets site held bucket (bucket_within c.table c.key buckets some) in
    let sender : message.sender ≡ owner_in site.members bucket = ap (λ (m : Sent). m.sender) (is buckets (with_changes (take i changes) site) (goes buckets site held)) in
    omega arith
