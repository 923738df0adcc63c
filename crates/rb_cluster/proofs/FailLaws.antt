-- What the failure of a node, its restart and a resend leave of a cluster.
use Rattle.std.proofs.Common.{◌≡◌, ℕ, ◌+◌, true, false, List, ◌++◌, length, refl, sym, ap, subst, ◌∙◌, arith}
use Rattle.std.specs.Prelude.{Option, Some, None}
use Rattle.std.specs.Option.{option_map_or}
use Rattle.rb_base.specs.declared.epoch.Epoch.{Epoch}
use Rattle.rb_base.specs.declared.message.Sent.{Sent}
use Rattle.rb_base.specs.declared.outcome.Outcome.{Outcome}
use Rattle.rb_base.specs.declared.outcome.Outcome.TheVariants as outcomes
use Rattle.rb_journal_defs.specs.Body.{Shape}
use Rattle.rb_message_defs.specs.Nodes.{node_at, group_of, successor_of, owned_by, with_failure, with_restart, with_owner}
use Rattle.rb_group.specs.declared.answers.GroupFault.{GroupFault}
use Rattle.rb_group.specs.declared.answers.GroupFault.TheVariants as faults
use Rattle.rb_nodes.specs.Nodes.{RestartFault, needed_by, with_members}
use Rattle.rb_nodes.specs.Net.{Net, HoldsNet, count_in, taken_over_net, lost_net, failed_net, failure_of, restarted_net, resent_net, CanFail, CanRestart, CanResend, RefusesFailure}
use Rattle.rb_nodes.specs.declared.answers.NodeFailure.{NodeFailure}
use Rattle.rb_nodes.specs.declared.answers.NodeFailure.TheVariants as failures
use Rattle.rb_nodes.specs.declared.site_nodes.SiteNodes.{SiteNodes}
use Rattle.rb_play_defs.specs.Step.{Progress, StepResult, unchanged, needed_of, sent_by_owners, taken_over, takeover_step, loss_step, fail_step, restart_step, resend_step}
use Rattle.rb_play_defs.specs.Sound.{IsSound, IsCovered}
use Rattle.rb_play_defs.proofs.Sounds.{sound_fail, sound_restart, sound_resend}
use Rattle.rb_play_defs.proofs.Alike.{Alike, alike_fail, alike_restart, alike_resend}
use Rattle.rb_play_defs.proofs.Covering.{covered_fail, covered_restarted, covered_resend}
use Rattle.rb_cluster.specs.Net.{buffered_by, net_of}
use Rattle.rb_cluster.specs.Cluster.{IsStoppedCluster}
use Rattle.rb_cluster.specs.Plays.{NodeReady}
use Rattle.rb_cluster.specs.declared.stopped.StoppedCluster.{StoppedCluster}
use Rattle.rb_cluster.proofs.RestLaws.{rest_alike}
use Rattle.rb_cluster.proofs.ShareLaws.{needed_share}
use Rattle.rb_cluster.proofs.PointLaws.{can_count, cover_at_nodes}
use Rattle.rb_play_defs.proofs.Points.{opened_low}
use Rattle.rb_cluster.proofs.AgainLaws.{sent_taking_over, sent_resending}
use Rattle.rb_play_defs.proofs.Events.{step_takes_over, step_loses, step_was_down, step_restarts, step_was_up}

-- what these events need of the nodes
pub can_fail : (old : StoppedCluster) (node : ℕ) (shape : Shape) (run : Progress) → NodeReady node old shape run → CanFail old.nodes node
can_fail old node shape run ((held, none), below) = (shape.buckets, net_of shape run, held.net, below, can_count shape run held.point)

pub can_restart : (old : StoppedCluster) (node : ℕ) (shape : Shape) (run : Progress) → NodeReady node old shape run → CanRestart old.nodes node
can_restart old node shape run ((held, none), below) = (shape.buckets, net_of shape run, held.net, below, omega (arith, opened_low shape run held.point))

pub can_resend : (old : StoppedCluster) (shape : Shape) (run : Progress) → IsStoppedCluster old shape run → run.lost ≡ None → CanResend old.nodes
can_resend old shape run held none = (shape.buckets, net_of shape run, held.net, cover_at_nodes shape run (held.point.covered.owners none), can_count shape run held.point)

-- nodes whose failure of one did this, or that refused it
abbrev pub Fails : (old new : SiteNodes) → (node : ℕ) → NodeFailure → Type 0
Fails old new node failure = (b : ℕ) (n : Net) → HoldsNet old b n → ((node_at n.buffered.members node).up ≡ true) × (failure ≡ failure_of node n) × HoldsNet new b (failed_net b node n)

abbrev pub FailureRefused : (old new : SiteNodes) → (node : ℕ) → GroupFault → Type 0
FailureRefused old new node fault = (b : ℕ) (n : Net) → HoldsNet old b n → RefusesFailure node b n new fault

-- nodes that refused the restart of one
abbrev pub RestartRefused : (old new : SiteNodes) → (node : ℕ) → GroupFault → Type 0
RestartRefused old new node fault = (b : ℕ) (n : Net) → HoldsNet old b n → HoldsNet new b n × RestartFault n.buffered node fault

-- the outcome of a failure, after which this many messages are sent
abbrev pub failure_outcome : NodeFailure → (sent : ℕ) → Outcome
failure_outcome (failures.Takeover count) sent = outcomes.Failed count sent
failure_outcome (failures.Lost group epoch) sent = outcomes.Lost group epoch

-- what the nodes show of a failure is what the run says of it
failed_by : (shape : Shape) (run : Progress) (node : ℕ) (found : Option ℕ) → successor_of run.nodes (needed_of run) node ≡ found → failed_net shape.buckets node (net_of shape run) ≡ option_map_or (λ successor. taken_over_net shape.buckets node successor (net_of shape run)) found (lost_net node (net_of shape run))
failed_by shape run node found is =
    ap (λ (o : Option ℕ). option_map_or (λ successor. taken_over_net shape.buckets node successor (net_of shape run)) o (lost_net node (net_of shape run)))
    (ap (λ (n : ℕ). successor_of run.nodes n node) (needed_share shape run 0) ∙ is)

failure_by : (shape : Shape) (run : Progress) (node : ℕ) (found : Option ℕ) → successor_of run.nodes (needed_of run) node ≡ found →
    failure_of node (net_of shape run) ≡ option_map_or (λ successor. failures.Takeover (length (owned_by run.nodes node))) found (failures.Lost (group_of run.nodes node) (record { 0 = needed_of run }))
failure_by shape run node found is =
    ap (λ (o : Option ℕ). option_map_or (λ successor. failures.Takeover (length (owned_by run.nodes node))) o (failures.Lost (group_of run.nodes node) (record { 0 = needed_by (buffered_by shape run) })))
    (ap (λ (n : ℕ). successor_of run.nodes n node) (needed_share shape run 0) ∙ is)
    ∙ ap (λ (n : ℕ). option_map_or (λ successor. failures.Takeover (length (owned_by run.nodes node))) found (failures.Lost (group_of run.nodes node) (record { 0 = n }))) (needed_share shape run 0)

-- the nodes after a takeover are those of the run after it
net_taken_over : (shape : Shape) (run : Progress) (nodes : SiteNodes) (node successor : ℕ) → HoldsNet nodes shape.buckets (net_of shape run) → taken_over_net shape.buckets node successor (net_of shape run) ≡ net_of shape (taken_over shape node successor run)
net_taken_over shape run nodes node successor held =
    ap (λ (ms : List Sent). record {
      buffered = with_members (with_owner node successor (with_failure node (length run.sent) run.nodes)) (buffered_by shape run);
      sent = run.sent ++ ms;
      delivered = run.delivered;
      lost = run.lost;
    }) (sent_taking_over shape run nodes.nodes node successor held.groups)

-- and so are those after a loss
net_lost : (shape : Shape) (run : Progress) (node : ℕ) → lost_net node (net_of shape run) ≡ net_of shape (loss_step shape node run).run
net_lost shape run node =
    ap (λ (n : ℕ). record {
      buffered = with_members (with_failure node (length run.sent) run.nodes) (buffered_by shape run);
      sent = run.sent;
      delivered = run.delivered;
      lost = Some (group_of run.nodes node, n);
    }) (needed_share shape run 0)

-- only the nodes changed, in a step that adds no entry
by_nodes : (old : StoppedCluster) (nodes : SiteNodes) (shape : Shape) (run : Progress) (step other : StepResult) (outcome : Outcome) → IsStoppedCluster old shape run → step ≡ other → Alike run step.run → IsSound shape step.run → IsCovered shape step.run →
    HoldsNet nodes shape.buckets (net_of shape other.run) → outcome ≡ other.outcome → IsStoppedCluster (record old { nodes = nodes }) shape step.run × (outcome ≡ step.outcome)
by_nodes old nodes shape run step other outcome held is alike sound covered net answer = (
  rest_alike old nodes shape run step.run held alike sound covered (subst (λ (s : StepResult). HoldsNet nodes shape.buckets (net_of shape s.run)) (sym is) net),
  answer ∙ sym (ap (λ (s : StepResult). s.outcome) is),
)

-- a cluster whose node failed
pub cluster_failed : (old : StoppedCluster) (nodes : SiteNodes) (node : ℕ) (failure : NodeFailure) (shape : Shape) (run : Progress) → IsStoppedCluster old shape run → Fails old.nodes nodes node failure →
    IsStoppedCluster (record old { nodes = nodes }) shape (fail_step shape node run).run × (failure_outcome failure (count_in nodes) ≡ (fail_step shape node run).outcome)
cluster_failed old nodes node failure shape run held failed = go (successor_of run.nodes (needed_of run) node) refl
  where
    shown : ((node_at run.nodes node).up ≡ true) × (failure ≡ failure_of node (net_of shape run)) × HoldsNet nodes shape.buckets (failed_net shape.buckets node (net_of shape run))
    shown = failed shape.buckets (net_of shape run) held.net

    by_step : (other : StepResult) → fail_step shape node run ≡ other → HoldsNet nodes shape.buckets (net_of shape other.run) → failure_outcome failure (count_in nodes) ≡ other.outcome →
        IsStoppedCluster (record old { nodes = nodes }) shape (fail_step shape node run).run × (failure_outcome failure (count_in nodes) ≡ (fail_step shape node run).outcome)
    by_step other is net answer =
        by_nodes old nodes shape run (fail_step shape node run) other (failure_outcome failure (count_in nodes)) held is (alike_fail shape node run) (sound_fail shape node run held.point.sound)
        (covered_fail shape node run held.point.sound held.point.covered) net answer

    go : (found : Option ℕ) → successor_of run.nodes (needed_of run) node ≡ found →
        IsStoppedCluster (record old { nodes = nodes }) shape (fail_step shape node run).run × (failure_outcome failure (count_in nodes) ≡ (fail_step shape node run).outcome)
    go (Some successor) is =
        let net : HoldsNet nodes shape.buckets (net_of shape (taken_over shape node successor run)) =
        subst (HoldsNet nodes shape.buckets) (failed_by shape run node (Some successor) is ∙ net_taken_over shape run old.nodes node successor held.net) shown.2 in
        let did : failure ≡ failures.Takeover (length (owned_by run.nodes node)) = shown.1 ∙ failure_by shape run node (Some successor) is in
        by_step (takeover_step shape node successor run) (step_takes_over shape node successor run shown.0 is) net
        (ap (λ (f : NodeFailure). failure_outcome f (count_in nodes)) did ∙ ap (outcomes.Failed (length (owned_by run.nodes node))) (ap length net.outbox.sent_is))
    go None is =
        let net : HoldsNet nodes shape.buckets (net_of shape (loss_step shape node run).run) = subst (HoldsNet nodes shape.buckets) (failed_by shape run node None is ∙ net_lost shape run node) shown.2 in
        let did : failure ≡ failures.Lost (group_of run.nodes node) (record { 0 = needed_of run }) = shown.1 ∙ failure_by shape run node None is in
        by_step (loss_step shape node run) (step_loses shape node run shown.0 is) net (ap (λ (f : NodeFailure). failure_outcome f (count_in nodes)) did)

-- a cluster whose node was down already
pub was_down : (old : StoppedCluster) (nodes : SiteNodes) (node other : ℕ) (shape : Shape) (run : Progress) → IsStoppedCluster old shape run → FailureRefused old.nodes nodes node (faults.NodeDown other) →
    IsStoppedCluster (record old { nodes = nodes }) shape (fail_step shape node run).run × (outcomes.NodeDown other ≡ (fail_step shape node run).outcome)
was_down old nodes node other shape run held refused =
    let (same, down, net) = refused shape.buckets (net_of shape run) held.net in
    by_nodes old nodes shape run (fail_step shape node run) (unchanged run (outcomes.NodeDown node)) (outcomes.NodeDown other) held (step_was_down shape node run down) (alike_fail shape node run)
    (sound_fail shape node run held.point.sound) (covered_fail shape node run held.point.sound held.point.covered) net (ap outcomes.NodeDown same)

-- a cluster whose node restarted
pub cluster_restarted : (old : StoppedCluster) (nodes : SiteNodes) (node : ℕ) (since : Epoch) (shape : Shape) (run : Progress) → IsStoppedCluster old shape run →
    ((b : ℕ) (n : Net) → HoldsNet old.nodes b n → (since.0 ≡ n.buffered.opened + 1) × ((node_at n.buffered.members node).up ≡ false) × HoldsNet nodes b (restarted_net node n)) →
    IsStoppedCluster (record old { nodes = nodes }) shape (restart_step node run).run × (outcomes.Restarted since ≡ (restart_step node run).outcome)
cluster_restarted old nodes node since shape run held restarted =
    let (since_is, down, net) = restarted shape.buckets (net_of shape run) held.net in
    by_nodes old nodes shape run (restart_step node run) (record { run = record run { nodes = with_restart node run.opened run.nodes }; outcome = outcomes.Restarted (record { 0 = run.opened + 1 }) }) (outcomes.Restarted since) held
    (step_restarts node run down) (alike_restart node run) (sound_restart shape node run held.point.sound) (covered_restarted shape node run held.point.covered) net (ap (λ (n : ℕ). outcomes.Restarted (record { 0 = n })) since_is)

-- a cluster whose node was up already
pub was_up : (old : StoppedCluster) (nodes : SiteNodes) (node other : ℕ) (shape : Shape) (run : Progress) → IsStoppedCluster old shape run → RestartRefused old.nodes nodes node (faults.NodeUp other) →
    IsStoppedCluster (record old { nodes = nodes }) shape (restart_step node run).run × (outcomes.NodeUp other ≡ (restart_step node run).outcome)
was_up old nodes node other shape run held refused =
    let (net, fault) = refused shape.buckets (net_of shape run) held.net in
    let (same, up) = fault in
    by_nodes old nodes shape run (restart_step node run) (unchanged run (outcomes.NodeUp node)) (outcomes.NodeUp other) held (step_was_up node run up) (alike_restart node run) (sound_restart shape node run held.point.sound)
    (covered_restarted shape node run held.point.covered) net (ap outcomes.NodeUp same)

-- what the owners resent is what those of the run do
net_resent : (shape : Shape) (run : Progress) → IsSound shape run → resent_net shape.buckets (net_of shape run) ≡ net_of shape (record run { sent = run.sent ++ sent_by_owners shape run })
net_resent shape run sound = ap (λ (ms : List Sent). record { buffered = buffered_by shape run; sent = run.sent ++ ms; delivered = run.delivered; lost = run.lost }) (sent_resending shape run sound)

-- a cluster whose owners resent
pub cluster_resent : (old : StoppedCluster) (nodes : SiteNodes) (sent : ℕ) (shape : Shape) (run : Progress) → IsStoppedCluster old shape run → ((b : ℕ) (n : Net) → HoldsNet old.nodes b n → HoldsNet nodes b (resent_net b n)) → sent ≡ count_in nodes →
    IsStoppedCluster (record old { nodes = nodes }) shape (resend_step shape run).run × (outcomes.Resent sent ≡ (resend_step shape run).outcome)
unfolding resend_step
cluster_resent old nodes sent shape run held sends sent_is =
    let all = run.sent ++ sent_by_owners shape run in
    let net : HoldsNet nodes shape.buckets (net_of shape (record run { sent = all })) = subst (HoldsNet nodes shape.buckets) (net_resent shape run held.point.sound) (sends shape.buckets (net_of shape run) held.net) in (
      rest_alike old nodes shape run (record run { sent = all }) held (alike_resend shape run) (sound_resend shape run held.point.sound) (covered_resend shape run held.point.covered) net,
      ap outcomes.Resent (sent_is ∙ ap length net.outbox.sent_is),
    )
