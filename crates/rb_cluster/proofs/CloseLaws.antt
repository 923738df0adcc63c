-- What the close of an epoch leaves of a cluster.
use Rattle.std.proofs.Common.{◌≡◌, ℕ, ◌/◌, ◌<◌, Bool, List, [], ◌∷◌, ◌++◌, length, sym, ap, subst, ◌∙◌, arith}
use Rattle.std.proofs.Math.Path.{fun_ext}
use Rattle.rb_base.specs.declared.epoch.Epoch.{Epoch}
use Rattle.rb_base.specs.declared.change.Change.{Change}
use Rattle.rb_base.specs.declared.message.Sent.{Sent}
use Rattle.rb_base.specs.declared.outcome.Outcome.TheVariants as outcomes
use Rattle.rb_journal_defs.specs.Journal.{Closed, previous_closed, closes_of}
use Rattle.rb_journal_defs.specs.Body.{Shape, changes_in}
use Rattle.rb_journal_defs.specs.Clock.{epoch_after}
use Rattle.rb_journal_defs.proofs.Bodies.{changes_in_closed}
use Rattle.rb_message_defs.specs.Nodes.{with_returns}
use Rattle.rb_commit.specs.Hand.{Hand}
use Rattle.rb_store.specs.Tables.{held_at, tables_in}
use Rattle.rb_play_defs.specs.Step.{Progress, only_closed, closed, close_step}
use Rattle.rb_play_defs.specs.Sound.{IsSound}
use Rattle.rb_play_defs.proofs.Sounds.{closed_all_below, epoch_rises}
use Rattle.rb_nodes.specs.Nodes as site
use Rattle.rb_nodes.specs.Nodes.{Buffered, needed_by, with_close}
use Rattle.rb_nodes.specs.Net.{Net, HoldsNet, count_in, closed_net, CanClose}
use Rattle.rb_cluster.specs.Net.{buffered_by, net_of}
use Rattle.rb_cluster.specs.Cluster.{IsStoppedCluster}
use Rattle.rb_cluster.specs.Plays.{CloseReady}
use Rattle.rb_cluster.specs.declared.books.Books.{Books}
use Rattle.rb_cluster.specs.declared.stopped.StoppedCluster.{StoppedCluster}
use Rattle.rb_cluster.proofs.ShareLaws.{needed_share}
use Rattle.rb_cluster.proofs.PointLaws.{can_count, cover_at_nodes}
use Rattle.rb_cluster.proofs.AgainLaws.{sent_closing}
use Rattle.rb_play_defs.proofs.Points.{point_closed}
use Rattle.rb_play_defs.proofs.Closes.{previous_of_next, closes_after}

-- the open epoch can close
pub can_close : (old : StoppedCluster) (gci : Bool) (shape : Shape) (run : Progress) (next : ℕ) → CloseReady old shape run → next ≡ epoch_after gci old.books.clock.opened → CanClose old.nodes next
can_close old gci shape run next ((held, none), room) is =
    let above : run.opened < epoch_after gci run.opened = epoch_rises gci run.opened in
    let same : next ≡ epoch_after gci run.opened = is ∙ ap (λ (hand : Hand). epoch_after gci hand.opened) held.books.clock in
    (shape.buckets, net_of shape run, held.net, cover_at_nodes shape run (held.point.covered.owners none), can_count shape run held.point, omega arith)

-- the nodes after the close, before the buckets return
pub buffered_after : (shape : Shape) (gci : Bool) (run : Progress) (prev next : ℕ) → IsSound shape run → prev ≡ previous_closed run.opened run.journal → next ≡ epoch_after gci run.opened →
    site.only_closed prev next (buffered_by shape run) ≡ buffered_by shape (only_closed gci run)
buffered_after shape gci run prev next sound before after =
    let o = run.opened in
    ap (λ (n : ℕ). record { opened = n; acknowledged = run.acknowledged; changes = λ e. changes_in shape.site e run.journal; closes = closes_of run.journal ++ (o, prev) ∷ []; members = run.nodes }) after
    ∙ ap (λ (f : ℕ → List Change). record { opened = epoch_after gci o; acknowledged = run.acknowledged; changes = f; closes = closes_of run.journal ++ (o, prev) ∷ []; members = run.nodes })
    (fun_ext (λ e. sym (changes_in_closed shape.site e o run.journal)))
    ∙ ap (λ (cs : List (ℕ × ℕ)). record { opened = epoch_after gci o; acknowledged = run.acknowledged; changes = λ e. changes_in shape.site e (Closed o ∷ run.journal); closes = cs; members = run.nodes })
    (ap (λ (p : ℕ). closes_of run.journal ++ (o, p) ∷ []) before ∙ closes_after o run.journal (closed_all_below o run.journal sound.order))

-- and after their return
buffered_closed : (shape : Shape) (gci : Bool) (run : Progress) (prev next : ℕ) → site.only_closed prev next (buffered_by shape run) ≡ buffered_by shape (only_closed gci run) →
    with_close prev next (buffered_by shape run) ≡ buffered_by shape (closed shape gci run)
buffered_closed shape gci run prev next following =
    let after = only_closed gci run in
    ap (λ (now : Buffered). record now { members = with_returns (needed_by now) run.nodes }) following
    ∙ ap (λ (n : ℕ). record (buffered_by shape after) { members = with_returns n run.nodes }) (needed_share shape after 0)

-- and what they sent
net_closed : (shape : Shape) (gci : Bool) (run : Progress) (prev next : ℕ) → prev ≡ previous_closed run.opened run.journal → site.only_closed prev next (buffered_by shape run) ≡ buffered_by shape (only_closed gci run) →
    closed_net shape.buckets prev next (net_of shape run) ≡ net_of shape (closed shape gci run)
net_closed shape gci run prev next before following =
    ap (λ (s : Buffered). record { buffered = s; sent = run.sent ++ site.sent_at_close shape.buckets (buffered_by shape run) prev next (shape.buckets / run.nodes.replicas); delivered = run.delivered; lost = run.lost })
    (buffered_closed shape gci run prev next following)
    ∙ ap (λ (ms : List Sent). record { buffered = buffered_by shape (closed shape gci run); sent = run.sent ++ ms; delivered = run.delivered; lost = run.lost })
    (sent_closing shape gci run prev next (shape.buckets / run.nodes.replicas) before following)

-- a cluster whose epoch closed, however its parts are made, and the outcome
pub cluster_closed : (gci : Bool) (old new : StoppedCluster) (shape : Shape) (run : Progress) (prev next ended : Epoch) (sent : ℕ) → CloseReady old shape run →
    prev.0 ≡ old.books.clock.previous → next.0 ≡ epoch_after gci old.books.clock.opened → ended.0 ≡ old.books.clock.opened → sent ≡ count_in new.nodes →
    new.books ≡ record old.books { clock = new.books.clock } → new.books.clock ≡ record { opened = epoch_after gci old.books.clock.opened; previous = old.books.clock.opened; drawn = old.books.clock.drawn } →
    ((b : ℕ) (n : Net) → HoldsNet old.nodes b n → HoldsNet new.nodes b (closed_net b prev.0 next.0 n)) →
    IsStoppedCluster new shape (close_step shape gci run).run × (outcomes.Closed ended sent ≡ (close_step shape gci run).outcome)
unfolding close_step
cluster_closed gci old new shape run prev next ended sent ((held, none), room) is_prev is_next is_ended sent_is same clock nodes =
    let o = run.opened in
    let was = held.books in
    let before : prev.0 ≡ previous_closed o run.journal = is_prev ∙ ap (λ (h : Hand). h.previous) was.clock in
    let after : next.0 ≡ epoch_after gci o = is_next ∙ ap (λ (h : Hand). epoch_after gci h.opened) was.clock in
    let net : HoldsNet new.nodes shape.buckets (net_of shape (closed shape gci run)) =
    subst (HoldsNet new.nodes shape.buckets) (net_closed shape gci run prev.0 next.0 before (buffered_after shape gci run prev.0 next.0 held.point.sound before after)) (nodes shape.buckets (net_of shape run) held.net) in
    let e : ended ≡ record { 0 = o } = ap (λ (n : ℕ). record { 0 = n }) (is_ended ∙ ap (λ (h : Hand). h.opened) was.clock) in (
      record {
        point = point_closed shape gci run held.point room;
        books = record {
          id = ap (λ (b : Books). b.id) same ∙ was.id;
          mapped = ap (λ (b : Books). b.mapped) same ∙ was.mapped;
          clock = clock
              ∙ ap (λ (hand : Hand). record { opened = epoch_after gci hand.opened; previous = hand.opened; drawn = hand.drawn }) was.clock
              ∙ ap (λ (p : ℕ). record { opened = epoch_after gci o; previous = p; drawn = run.drawn }) (sym (previous_of_next (epoch_after gci o) o run.journal (epoch_rises gci o)));
          rows = λ t k. ap (λ (b : Books). held_at b.tables t k) same ∙ was.rows t k;
          count = ap (λ (b : Books). tables_in b.tables) same ∙ was.count;
        };
        net = net;
      },
      ap (λ (x : Epoch). outcomes.Closed x sent) e ∙ ap (outcomes.Closed (record { 0 = o })) (sent_is ∙ ap length net.outbox.sent_is),
    )
