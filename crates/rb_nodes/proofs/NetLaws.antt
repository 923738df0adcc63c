-- What each step leaves of the nodes of a site and of the messages that they sent.
use Rattle.std.proofs.Common.{◌≡◌, ℕ, ◌+◌, ◌*◌, ◌/◌, ◌<◌, true, false, List, [], ◌++◌, length, refl, sym, ap, subst, ◌∙◌, arith}
use Rattle.std.specs.Prelude.{◌==◌, if◌then◌else◌, Option, Some, None, Result, Ok, Err, IfOk}
use Rattle.std.specs.List.{AllByRecursion}
use Rattle.std.specs.Option.{option_map_or}
use Rattle.std.proofs.Math.Path.{fun_ext}
use Rattle.rb_base.specs.declared.epoch.Epoch.{Epoch}
use Rattle.rb_base.specs.declared.change.Change.{Change}
use Rattle.rb_base.specs.declared.message.Sent.{Sent}
use Rattle.rb_journal_defs.specs.Body.{numbers_below}
use Rattle.rb_journal_defs.specs.Clock.{first_epoch}
use Rattle.rb_message_defs.specs.Nodes.{nodes_at_first, down, node_at, group_of, successor_of, owned_by, with_failure, with_restart}
use Rattle.rb_message_defs.proofs.Members.{failed_after, failed_restart, none_failed}
use Rattle.rb_group.specs.declared.answers.FailOutcome.{FailOutcome}
use Rattle.rb_group.specs.declared.answers.FailOutcome.TheVariants as outcomes
use Rattle.rb_group.specs.declared.answers.GroupFault.{GroupFault}
use Rattle.rb_nodes.specs.Nodes.{Buffered, HoldsNodes, FailsTo, nothing_done, with_close, with_members, needed_by, sent_at_close, sent_at_resend, sent_at_takeover}
use Rattle.rb_nodes.specs.Outbox.{HoldsSent, OwnersIn, nodes_in}
use Rattle.rb_nodes.specs.Net.{Net, HoldsNet, new_net, failed_in, loss_of, closed_net, failed_net, taken_over_net, lost_net, failure_of, resent_net, restarted_net, CanCommit, CanClose, CanFail, CanRestart, CanResend}
use Rattle.rb_nodes.specs.declared.answers.NodeFailure.{NodeFailure}
use Rattle.rb_nodes.specs.declared.answers.NodeFailure.TheVariants as failures
use Rattle.rb_nodes.specs.declared.nodes.Nodes.{Nodes}
use Rattle.rb_nodes.specs.declared.outbox.Outbox.{Outbox}
use Rattle.rb_nodes.specs.declared.site_nodes.SiteNodes.{SiteNodes}
use Rattle.rb_nodes.proofs.PlaceLaws.{groups_are, owner_below}
use Rattle.rb_nodes.proofs.SenderLaws.{closing_senders, resending_senders, takeover_senders}

-- nodes of these parts
pub net_held : (nodes : SiteNodes) (buckets : ℕ) (net : Net) → HoldsNodes nodes.nodes buckets net.buffered → HoldsSent nodes.outbox net.sent net.delivered (failed_in net) → nodes_in nodes.outbox ≡ buckets → loss_of nodes.lost ≡ net.lost → HoldsNet nodes buckets net
net_held nodes buckets net groups outbox senders lost = record { groups = groups; outbox = outbox; senders = senders; lost = lost }

-- the owners are among the nodes that send
pub owners_in : (all : SiteNodes) (changes : List Change) → CanCommit all changes → OwnersIn all.nodes all.outbox
owners_in all changes (buckets, net, held, some, cover, room) = λ other now stands bucket below.
    let l = owner_below all.nodes other now bucket stands below in
    let one = stands.buckets_are in
    let two = held.groups.buckets_are in
    let senders = held.senders in
    omega arith

-- messages whose senders are below the number of buckets
all_in : (all : SiteNodes) (outbox : Outbox) (buckets : ℕ) (net : Net) (messages known : List Sent) → HoldsNet all buckets net → nodes_in outbox ≡ nodes_in all.outbox → messages ≡ known → AllByRecursion (λ message. message.sender < buckets) known →
    AllByRecursion (λ message. message.sender < nodes_in outbox) messages
all_in all outbox buckets net messages known held same is below =
    subst (λ (n : ℕ). AllByRecursion (λ (message : Sent). message.sender < n) messages) (sym (same ∙ held.senders))
    (subst (AllByRecursion (λ (message : Sent). message.sender < buckets)) (sym is) below)

-- who sends at a close
pub closing_in : (all : SiteNodes) (prev next : ℕ) (messages : List Sent) → CanClose all next →
    ((b : ℕ) (s : Buffered) → HoldsNodes all.nodes b s → messages ≡ sent_at_close b s prev next (length all.nodes.groups.items)) → AllByRecursion (λ message. message.sender < nodes_in all.outbox) messages
closing_in all prev next messages (buckets, net, held, cover, count, later) sends =
    all_in all all.outbox buckets net messages (sent_at_close buckets net.buffered prev next (length all.nodes.groups.items)) held refl (sends buckets net.buffered held.groups)
    (closing_senders all.nodes buckets net.buffered prev next held.groups)

-- who resends
pub resending_in : (all : SiteNodes) (messages : List Sent) → CanResend all →
    ((b : ℕ) (s : Buffered) → HoldsNodes all.nodes b s → messages ≡ sent_at_resend b s (length all.nodes.groups.items)) → AllByRecursion (λ message. message.sender < nodes_in all.outbox) messages
resending_in all messages (buckets, net, held, cover, count) sends =
    all_in all all.outbox buckets net messages (sent_at_resend buckets net.buffered (length all.nodes.groups.items)) held refl (sends buckets net.buffered held.groups)
    (resending_senders all.nodes buckets net.buffered held.groups)

-- nodes whose failure of one had this outcome
abbrev pub Fails : (old new : Nodes) → (node : ℕ) → FailOutcome → Type 0
Fails old new node outcome = (b : ℕ) (s : Buffered) (n : ℕ) → HoldsNodes old b s → ((node_at s.members node).up ≡ true) × FailsTo b s node n outcome new

-- who sends at a takeover
pub takeover_in : (all : SiteNodes) (new : Nodes) (outbox : Outbox) (node count : ℕ) (messages : List Sent) → CanFail all node → nodes_in outbox ≡ nodes_in all.outbox → Fails all.nodes new node (outcomes.Takeover count messages) →
    AllByRecursion (λ message. message.sender < nodes_in outbox) messages
takeover_in all new outbox node count messages (buckets, net, held, below, few) same failed =
    let (up, over) = failed buckets net.buffered (length net.sent) held.groups in
    let (successor, is, owned, sends, stands) = over in
    all_in all outbox buckets net messages (sent_at_takeover buckets net.buffered node successor) held same sends
    (takeover_senders all.nodes buckets net.buffered node successor held.groups below is)

-- the outbox to which these messages were appended
appended : (old new : Outbox) (sent messages known : List Sent) (delivered : List ℕ) (failed_at : ℕ → ℕ) → HoldsSent old sent delivered failed_at → messages ≡ known →
    ((ss : List Sent) (ds : List ℕ) (fa : ℕ → ℕ) → HoldsSent old ss ds fa → HoldsSent new (ss ++ messages) ds fa) → HoldsSent new (sent ++ known) delivered failed_at
appended old new sent messages known delivered failed_at held is sends =
    subst (λ (ms : List Sent). HoldsSent new (sent ++ ms) delivered failed_at) is (sends sent delivered failed_at held)

-- the nodes after a close
pub net_closed : (old new : SiteNodes) (buckets : ℕ) (net : Net) (prev next : ℕ) (messages : List Sent) → HoldsNet old buckets net →
    ((b : ℕ) (s : Buffered) → HoldsNodes old.nodes b s → HoldsNodes new.nodes b (with_close prev next s)) →
    ((b : ℕ) (s : Buffered) → HoldsNodes old.nodes b s → messages ≡ sent_at_close b s prev next (length old.nodes.groups.items)) →
    ((ss : List Sent) (ds : List ℕ) (fa : ℕ → ℕ) → HoldsSent old.outbox ss ds fa → HoldsSent new.outbox (ss ++ messages) ds fa) →
    nodes_in new.outbox ≡ nodes_in old.outbox → new.lost ≡ old.lost → HoldsNet new buckets (closed_net buckets prev next net)
net_closed old new buckets net prev next messages held closes sends outbox senders lost = record {
  groups = closes buckets net.buffered held.groups;
  outbox = appended old.outbox new.outbox net.sent messages (sent_at_close buckets net.buffered prev next (buckets / net.buffered.members.replicas)) net.delivered (failed_in net) held.outbox
      (sends buckets net.buffered held.groups ∙ ap (sent_at_close buckets net.buffered prev next) (groups_are old.nodes buckets net.buffered held.groups)) outbox;
  senders = senders ∙ held.senders;
  lost = ap loss_of lost ∙ held.lost;
}

-- the nodes after a resend
pub net_resent : (old new : SiteNodes) (buckets : ℕ) (net : Net) (messages : List Sent) → HoldsNet old buckets net → new.nodes ≡ old.nodes →
    ((b : ℕ) (s : Buffered) → HoldsNodes old.nodes b s → messages ≡ sent_at_resend b s (length old.nodes.groups.items)) →
    ((ss : List Sent) (ds : List ℕ) (fa : ℕ → ℕ) → HoldsSent old.outbox ss ds fa → HoldsSent new.outbox (ss ++ messages) ds fa) →
    nodes_in new.outbox ≡ nodes_in old.outbox → new.lost ≡ old.lost → HoldsNet new buckets (resent_net buckets net)
net_resent old new buckets net messages held nodes sends outbox senders lost = record {
  groups = subst (λ (n : Nodes). HoldsNodes n buckets net.buffered) (sym nodes) held.groups;
  outbox = appended old.outbox new.outbox net.sent messages (sent_at_resend buckets net.buffered (buckets / net.buffered.members.replicas)) net.delivered (failed_in net) held.outbox
      (sends buckets net.buffered held.groups ∙ ap (sent_at_resend buckets net.buffered) (groups_are old.nodes buckets net.buffered held.groups)) outbox;
  senders = senders ∙ held.senders;
  lost = ap loss_of lost ∙ held.lost;
}

-- when the nodes last failed, if one fails now
abbrev failed_after_net : Net → (node other : ℕ) → ℕ
failed_after_net net node other = (node_at (with_failure node (length net.sent) net.buffered.members) other).failed_at

failed_now : (all : SiteNodes) (buckets : ℕ) (net : Net) (node : ℕ) (sent : List Sent) (outbox : Outbox) → HoldsNet all buckets net → node < buckets →
    HoldsSent outbox sent net.delivered (λ other. if other == node then length net.sent else failed_in net other) → HoldsSent outbox sent net.delivered (failed_after_net net node)
failed_now all buckets net node sent outbox held below box =
    subst (HoldsSent outbox sent net.delivered) (fun_ext (λ other. sym (failed_after net.buffered.members node (length net.sent) other (let count = held.groups.members in omega arith)))) box

-- what a failure shows: the node was up, what it did, and what it left
abbrev pub HasFailed : (new : SiteNodes) → (node : ℕ) → NodeFailure → (buckets : ℕ) → Net → Type 0
HasFailed new node failure buckets net =
    ((node_at net.buffered.members node).up ≡ true) × (failure ≡ failure_of node net) × HoldsNet new buckets (failed_net buckets node net)

by_successor : (new : SiteNodes) (node : ℕ) (failure : NodeFailure) (buckets : ℕ) (net : Net) (found : Option ℕ) → successor_of net.buffered.members (needed_by net.buffered) node ≡ found → (node_at net.buffered.members node).up ≡ true →
    failure ≡ option_map_or (λ successor. failures.Takeover (length (owned_by net.buffered.members node))) found (failures.Lost (group_of net.buffered.members node) (record { 0 = needed_by net.buffered })) →
    HoldsNet new buckets (option_map_or (λ successor. taken_over_net buckets node successor net) found (lost_net node net)) → HasFailed new node failure buckets net
by_successor new node failure buckets net found is up done held = (
  up,
  subst (λ (o : Option ℕ). failure ≡ option_map_or (λ successor. failures.Takeover (length (owned_by net.buffered.members node))) o (failures.Lost (group_of net.buffered.members node) (record { 0 = needed_by net.buffered }))) (sym is) done,
  subst (λ (o : Option ℕ). HoldsNet new buckets (option_map_or (λ successor. taken_over_net buckets node successor net) o (lost_net node net))) (sym is) held,
)

below_here : (all : SiteNodes) (node buckets : ℕ) (net : Net) → CanFail all node → HoldsNet all buckets net → node < buckets
below_here all node buckets net (other, now, stands, below, few) held =
    let one = held.groups.buckets_are in
    let two = stands.groups.buckets_are in
    omega arith

-- the nodes after a takeover
pub net_taken_over : (old new : SiteNodes) (buckets : ℕ) (net : Net) (node count : ℕ) (messages : List Sent) → CanFail old node → HoldsNet old buckets net → Fails old.nodes new.nodes node (outcomes.Takeover count messages) →
    ((ss : List Sent) (ds : List ℕ) (fa : ℕ → ℕ) → HoldsSent old.outbox ss ds fa → HoldsSent new.outbox (ss ++ messages) ds (λ other. if other == node then length ss else fa other)) →
    nodes_in new.outbox ≡ nodes_in old.outbox → new.lost ≡ old.lost → HasFailed new node (failures.Takeover count) buckets net
net_taken_over old new buckets net node count messages ready held failed outbox senders lost =
    let (up, over) = failed buckets net.buffered (length net.sent) held.groups in
    let (successor, is, owned, sends, stands) = over in
    let all = net.sent ++ sent_at_takeover buckets net.buffered node successor in
    by_successor new node (failures.Takeover count) buckets net (Some successor) is up (ap failures.Takeover owned)
    (net_held new buckets (taken_over_net buckets node successor net) stands
    (failed_now old buckets net node all new.outbox held (below_here old node buckets net ready held)
    (subst (λ (ms : List Sent). HoldsSent new.outbox (net.sent ++ ms) net.delivered (λ other. if other == node then length net.sent else failed_in net other)) sends (outbox net.sent net.delivered (failed_in net) held.outbox)))
    (senders ∙ held.senders) (ap loss_of lost ∙ held.lost))

-- the nodes after a loss
pub net_lost : (old new : SiteNodes) (buckets : ℕ) (net : Net) (node group : ℕ) (epoch : Epoch) → CanFail old node → HoldsNet old buckets net → Fails old.nodes new.nodes node (outcomes.Lost group epoch) →
    ((ss : List Sent) (ds : List ℕ) (fa : ℕ → ℕ) → HoldsSent old.outbox ss ds fa → HoldsSent new.outbox ss ds (λ other. if other == node then length ss else fa other)) →
    nodes_in new.outbox ≡ nodes_in old.outbox → new.lost ≡ Some (group, epoch) → HasFailed new node (failures.Lost group epoch) buckets net
net_lost old new buckets net node group epoch ready held failed outbox senders lost =
    let (up, loses) = failed buckets net.buffered (length net.sent) held.groups in
    let (is, group_is, epoch_is, stands) = loses in
    by_successor new node (failures.Lost group epoch) buckets net None is up
    (ap (λ (n : ℕ). failures.Lost n epoch) group_is ∙ ap (λ (n : ℕ). failures.Lost (group_of net.buffered.members node) (record { 0 = n })) epoch_is)
    (net_held new buckets (lost_net node net) stands
    (failed_now old buckets net node net.sent new.outbox held (below_here old node buckets net ready held) (outbox net.sent net.delivered (failed_in net) held.outbox))
    (senders ∙ held.senders)
    (ap loss_of lost ∙ ap (λ (n : ℕ). Some (n, epoch.0)) group_is ∙ ap (λ (n : ℕ). Some (group_of net.buffered.members node, n)) epoch_is))

-- nodes of which only the groups changed, and not when each last failed
pub net_moved : (old new : SiteNodes) (buckets : ℕ) (net : Net) (after : Buffered) → HoldsNet old buckets net → HoldsNodes new.nodes buckets after → failed_in net ≡ (λ other. (node_at after.members other).failed_at) →
    new.outbox ≡ old.outbox → new.lost ≡ old.lost → HoldsNet new buckets (record net { buffered = after })
net_moved old new buckets net after held groups same outbox lost = record {
  groups = groups;
  outbox = subst (HoldsSent new.outbox net.sent net.delivered) same (subst (λ (box : Outbox). HoldsSent box net.sent net.delivered (failed_in net)) (sym outbox) held.outbox);
  senders = ap nodes_in outbox ∙ held.senders;
  lost = ap loss_of lost ∙ held.lost;
}

-- the nodes after a restart
pub net_restarted : (old new : SiteNodes) (result : Result Epoch GroupFault) (node : ℕ) → CanRestart old node →
    IfOk result (λ since. (b : ℕ) (s : Buffered) → HoldsNodes old.nodes b s → (since.0 ≡ s.opened + 1) × ((node_at s.members node).up ≡ false) × HoldsNodes new.nodes b (with_members (with_restart node s.opened s.members) s)) →
    new.outbox ≡ old.outbox → new.lost ≡ old.lost →
    IfOk result (λ since. (buckets : ℕ) (net : Net) → HoldsNet old buckets net → (since.0 ≡ net.buffered.opened + 1) × ((node_at net.buffered.members node).up ≡ false) × HoldsNet new buckets (restarted_net node net))
net_restarted old new (Ok since) node (other, now, stood, below, room) restarted outbox lost = λ buckets net held.
    let (since_is, down, stands) = restarted buckets net.buffered held.groups in
    let one = held.groups.buckets_are in
    let two = stood.groups.buckets_are in
    let count = held.groups.members in
    let same : failed_in net ≡ (λ (other : ℕ). (node_at (with_restart node net.buffered.opened net.buffered.members) other).failed_at) =
    fun_ext (λ other. sym (failed_restart net.buffered.members node net.buffered.opened other (omega arith))) in
    (since_is, down, net_moved old new buckets net (with_members (with_restart node net.buffered.opened net.buffered.members) net.buffered) held stands same outbox lost)
net_restarted old new (Err fault) node ready restarted outbox lost = tt

-- an outbox in which nothing was sent, by other words for the same counts
nothing_sent : (outbox : Outbox) (failed_at other : ℕ → ℕ) → ((node : ℕ) → other node ≡ failed_at node) → HoldsSent outbox [] [] failed_at → HoldsSent outbox [] [] other
nothing_sent outbox failed_at other same held = record {
  sent_is = held.sent_is;
  failed_is = λ node within. held.failed_is node within ∙ ap (λ (n : ℕ). Some n) (sym (same node));
  senders = tt;
  failed_within = λ node. (let few = held.failed_within node in let is = same node in omega arith);
  waiting = held.waiting;
  within = held.within;
  below = tt;
}

-- new nodes
pub net_begins : (nodes : SiteNodes) (groups replicas opened : ℕ) → opened ≡ first_epoch → HoldsNodes nodes.nodes (groups * replicas) (nothing_done opened (nodes_at_first groups replicas)) → HoldsSent nodes.outbox [] [] (λ node. 0) →
    nodes_in nodes.outbox ≡ groups * replicas → nodes.lost ≡ None → HoldsNet nodes (groups * replicas) (new_net groups replicas opened)
net_begins nodes groups replicas opened first held outbox senders lost = record {
  groups = held;
  outbox = nothing_sent nodes.outbox (λ node. 0) (failed_in (new_net groups replicas opened)) (λ node. none_failed (numbers_below (groups * replicas)) node) outbox;
  senders = senders;
  lost = ap loss_of lost;
}
