-- What a client's transaction leaves of a cluster.
use Rattle.std.proofs.Common.{◌≡◌, ℕ, ◌+◌, List, [], ◌∷◌, ◌++◌, length, map, refl, sym, ap, subst, ◌∙◌, ◌≤◌, arith}
use Rattle.std.specs.Prelude.{Option, Some, None}
use Rattle.std.specs.List.{AllByRecursion}
use Rattle.std.specs.Option.{option_map}
use Rattle.std.proofs.Math.Path.{fun_ext}
use Rattle.rb_base.specs.Site.{server_of}
use Rattle.rb_base.specs.declared.change.Change.{Change}
use Rattle.rb_base.specs.declared.script.ClientOp.{ClientOp}
use Rattle.rb_journal_defs.specs.Journal.{Client, Applied, Closed, Journal, Entry, changes_of, of_key, row_at, closes_of}
use Rattle.rb_journal_defs.specs.Order.{AddsTo}
use Rattle.rb_journal_defs.specs.Body.{Shape, changes_in}
use Rattle.rb_journal_defs.specs.Transaction.{Refusal, RowTwice, KeyThere, NoKey, refusal_of, changes_made}
use Rattle.rb_journal_defs.proofs.Counts.{epoch_length, own_and_applied}
use Rattle.rb_commit.specs.Fault.{fault_of}
use Rattle.rb_commit.specs.declared.fault.TxFault.{TxFault}
use Rattle.rb_base.specs.declared.outcome.Outcome.TheVariants as outcomes
use Rattle.rb_message_defs.specs.Message.{sent_by}
use Rattle.rb_message_defs.specs.Nodes.{owner_in}
use Rattle.rb_store.specs.Table.{row_of}
use Rattle.rb_store.specs.Tables.{rows_in, held_at, tables_in}
use Rattle.rb_store.specs.Left.{held_left, held_by}
use Rattle.rb_store.proofs.LeftLaws.{row_of_held}
use Rattle.rb_play_defs.specs.Step.{Progress, unchanged, refused, rows_of, tx_changes, messages_entered, entered, tx_entry, committed, commit_outcome, tx_step}
use Rattle.rb_play_defs.specs.Fitting.{FitsTables}
use Rattle.rb_play_defs.proofs.Fits.{changes_fit}
use Rattle.rb_play_defs.proofs.Counts.{as_many_changes}
use Rattle.rb_cluster.proofs.PointLaws.{cover_at_nodes}
use Rattle.rb_play_defs.proofs.Points.{point_committed}
use Rattle.rb_play_defs.proofs.Events.{step_is, tx_accepted, tx_refused}
use Rattle.rb_nodes.specs.Nodes.{Buffered, with_changes}
use Rattle.rb_nodes.specs.Net.{Net, HoldsNet, count_in, committed_net, CanCommit}
use Rattle.rb_base.specs.declared.epoch.Epoch.{Epoch}
use Rattle.rb_cluster.specs.Outcome.{outcome_of_fault}
use Rattle.rb_cluster.specs.Rows.{CanBeStored}
use Rattle.rb_play_defs.specs.Point.{most_own}
use Rattle.rb_cluster.specs.Net.{buffered_by, net_of}
use Rattle.rb_cluster.specs.Cluster.{HoldsBooks, IsStoppedCluster}
use Rattle.rb_cluster.specs.Plays.{TxReady, Accepts}
use Rattle.rb_cluster.specs.declared.books.Books.{Books}
use Rattle.rb_cluster.specs.declared.stopped.StoppedCluster.{StoppedCluster}
use Rattle.rb_commit.specs.Hand.{Hand}
use Rattle.rb_journal_defs.proofs.Transactions.{refusal_alike, changes_alike}
use Rattle.rb_journal_defs.proofs.Bodies.{entered_changes}

-- changes that fit can be stored
pub storable : (tables : List _) (count : ℕ) (changes : List Change) → count ≡ length tables → AllByRecursion (FitsTables tables) changes → AllByRecursion (CanBeStored count) changes
storable tables count [] same fits = tt
storable tables count (c ∷ cs) same fits = (record { some = fits.0.declared.0; declared = let d = fits.0.declared.1 in omega arith; keyed = fits.0.after }, storable tables count cs same fits.1)

-- the nodes after a new entry
buffered_entered : (shape : Shape) (entry : Entry) (run : Progress) → AddsTo run.opened entry → with_changes (changes_of shape.site entry) (buffered_by shape run) ≡ buffered_by shape (entered shape entry run)
buffered_entered shape entry run adds =
    ap (λ (f : ℕ → List Change). record { opened = run.opened; acknowledged = run.acknowledged; changes = f; closes = closes_of run.journal; members = run.nodes })
    (fun_ext (λ e. entered_changes shape run.opened e entry run.journal adds))
    ∙ ap (λ (cs : List (ℕ × ℕ)). record { opened = run.opened; acknowledged = run.acknowledged; changes = λ e. changes_in shape.site e (entry ∷ run.journal); closes = cs; members = run.nodes })
    (closes_stay entry run.journal adds)
  where
    closes_stay : (entry : Entry) (j : Journal) → AddsTo run.opened entry → closes_of j ≡ closes_of (entry ∷ j)
    closes_stay (Client own transid changes) j adds = refl
    closes_stay (Applied own source transid accepted refreshes) j adds = refl
    closes_stay (Closed own) j adds = absurd adds

pub net_entered : (shape : Shape) (entry : Entry) (run : Progress) → AddsTo run.opened entry → committed_net shape.buckets (changes_of shape.site entry) (net_of shape run) ≡ net_of shape (entered shape entry run)
net_entered shape entry run adds =
    ap (λ (s : Buffered). record { buffered = s; sent = run.sent ++ map (sent_by (owner_in run.nodes)) (messages_entered shape entry run); delivered = run.delivered; lost = run.lost }) (buffered_entered shape entry run adds)

-- its books, however they are made
books_committed : (old new : Books) (shape : Shape) (operations : List ClientOp) (run : Progress) (changes : List Change) → HoldsBooks old shape run → changes ≡ tx_changes shape operations run →
    new.id ≡ old.id → new.mapped ≡ old.mapped → new.clock ≡ record { opened = old.clock.opened; previous = old.clock.previous; drawn = old.clock.drawn + 1 } →
    ((t k : ℕ) → held_at new.tables t k ≡ held_left old.clock.opened (of_key t k changes) (held_at old.tables t k)) → tables_in new.tables ≡ tables_in old.tables → HoldsBooks new shape (committed shape operations run)
books_committed old new shape operations run changes before is id mapped clock rows count = record {
  id = id ∙ before.id;
  mapped = mapped ∙ before.mapped;
  clock = clock ∙ ap (λ (hand : Hand). record { opened = hand.opened; previous = hand.previous; drawn = hand.drawn + 1 }) before.clock;
  rows = λ t k. rows t k
      ∙ ap (held_left old.clock.opened (of_key t k changes)) (before.rows t k)
      ∙ ap (λ (cs : List Change). held_left old.clock.opened (of_key t k cs) (held_by t k run.journal)) is
      ∙ ap (λ (hand : Hand). held_left hand.opened (of_key t k (tx_changes shape operations run)) (held_by t k run.journal)) before.clock;
  count = count ∙ before.count;
}

-- there is room to send the changes of a transaction
pub can_send : (old : StoppedCluster) (shape : Shape) (run : Progress) (operations : List ClientOp) (changes : List Change) → Accepts operations changes old shape run → CanCommit old.nodes changes
can_send old shape run operations changes (((held, none), fits), free, is) = (
  shape.buckets,
  net_of shape run,
  held.net,
  held.point.sound.some,
  cover_at_nodes shape run (held.point.covered.owners none),
  omega (arith, ap length is, as_many_changes (rows_of run) (server_of shape.site) (run.drawn + 1) operations, epoch_length shape.site run.opened run.journal, own_and_applied shape.site run.journal, fits.room, held.point.few_applied),
)

-- and to store them
pub can_store : (old : StoppedCluster) (shape : Shape) (run : Progress) (operations : List ClientOp) (changes : List Change) → Accepts operations changes old shape run → AllByRecursion (CanBeStored (tables_in old.books.tables)) changes
can_store old shape run operations changes (((held, none), fits), free, is) =
    storable shape.tables (tables_in old.books.tables) changes held.books.count
    (subst (AllByRecursion (FitsTables shape.tables)) (sym is) (changes_fit shape (server_of shape.site) (run.drawn + 1) operations run.journal held.point.fits fits.fit free))

-- the rows of the tables are those of the run
rows_are : (old : StoppedCluster) (shape : Shape) (run : Progress) → IsStoppedCluster old shape run → (table key : ℕ) → rows_in old.books.tables table key ≡ row_at table key run.journal
rows_are old shape run held table key = ap row_of (held.books.rows table key) ∙ row_of_held table key run.journal

refusals_are : (old : StoppedCluster) (shape : Shape) (run : Progress) (operations : List ClientOp) → IsStoppedCluster old shape run → refusal_of (rows_in old.books.tables) operations ≡ refusal_of (rows_of run) operations
refusals_are old shape run operations held = refusal_alike (rows_in old.books.tables) (rows_of run) operations (rows_are old shape run held)

-- a fault names its refusal
fault_outcome : (refusal : Refusal) → outcome_of_fault (fault_of refusal) ≡ refused refusal
fault_outcome (RowTwice number) = refl
fault_outcome (KeyThere number) = refl
fault_outcome (NoKey number) = refl

-- a cluster that refused a transaction
pub tx_was_refused : (old : StoppedCluster) (shape : Shape) (run : Progress) (operations : List ClientOp) (fault : TxFault) → IsStoppedCluster old shape run → option_map fault_of (refusal_of (rows_in old.books.tables) operations) ≡ Some fault →
    IsStoppedCluster old shape (tx_step shape operations run).run × (outcome_of_fault fault ≡ (tx_step shape operations run).outcome)
tx_was_refused old shape run operations fault held named = go (refusal_of (rows_of run) operations) refl
  where
    go : (r : Option Refusal) → refusal_of (rows_of run) operations ≡ r → IsStoppedCluster old shape (tx_step shape operations run).run × (outcome_of_fault fault ≡ (tx_step shape operations run).outcome)
    go None q = absurd (let g : None ≡ Some fault = sym (ap (option_map fault_of) (refusals_are old shape run operations held ∙ q)) ∙ named in cc)
    go (Some refusal) q =
        let is : fault_of refusal ≡ fault = (let g : Some (fault_of refusal) ≡ Some fault = sym (ap (option_map fault_of) (refusals_are old shape run operations held ∙ q)) ∙ named in cc) in
        step_is (IsStoppedCluster old shape) (outcome_of_fault fault) (tx_step shape operations run) (unchanged run (refused refusal)) (tx_refused shape operations run refusal q) (held, sym (ap outcome_of_fault is) ∙ fault_outcome refusal)

-- what prepare accepts and makes is what the run accepts and makes
pub tx_is_accepted : (old : StoppedCluster) (shape : Shape) (run : Progress) (operations : List ClientOp) (changes : List Change) (author transid : ℕ) → TxReady operations old shape run → refusal_of (rows_in old.books.tables) operations ≡ None →
    changes ≡ changes_made (rows_in old.books.tables) author transid operations → author ≡ server_of old.books.id → transid ≡ old.books.clock.drawn + 1 → Accepts operations changes old shape run
tx_is_accepted old shape run operations changes author transid ready free made own number =
    let held = ready.0.0 in
    let a : author ≡ server_of shape.site = own ∙ ap server_of held.books.id in
    let t : transid ≡ run.drawn + 1 = number ∙ ap (λ (h : Hand). h.drawn + 1) held.books.clock in (
      ready,
      sym (refusals_are old shape run operations held) ∙ free,
      made
          ∙ changes_alike (rows_in old.books.tables) (rows_of run) author transid operations (rows_are old shape run held)
          ∙ ap (λ (n : ℕ). changes_made (rows_of run) n transid operations) a
          ∙ ap (λ (n : ℕ). changes_made (rows_of run) (server_of shape.site) n operations) t,
    )

-- a cluster that accepted one, however its parts are made, and the outcome
pub cluster_committed : (old new : StoppedCluster) (shape : Shape) (run : Progress) (operations : List ClientOp) (changes : List Change) (transid sent : ℕ) (epoch : Epoch) → Accepts operations changes old shape run →
    new.books.id ≡ old.books.id → new.books.mapped ≡ old.books.mapped → new.books.clock ≡ record { opened = old.books.clock.opened; previous = old.books.clock.previous; drawn = old.books.clock.drawn + 1 } →
    ((t k : ℕ) → held_at new.books.tables t k ≡ held_left old.books.clock.opened (of_key t k changes) (held_at old.books.tables t k)) → tables_in new.books.tables ≡ tables_in old.books.tables →
    ((b : ℕ) (n : Net) → HoldsNet old.nodes b n → HoldsNet new.nodes b (committed_net b changes n)) →
    transid ≡ old.books.clock.drawn + 1 → epoch.0 ≡ old.books.clock.opened → sent ≡ count_in new.nodes →
    IsStoppedCluster new shape (tx_step shape operations run).run × (outcomes.Committed transid epoch sent ≡ (tx_step shape operations run).outcome)
cluster_committed old new shape run operations changes transid sent epoch (((held, none), fits), free, is) id mapped clock rows count nodes number opens sent_is =
    let after : Progress = committed shape operations run in
    let net : HoldsNet new.nodes shape.buckets (net_of shape after) =
    subst (HoldsNet new.nodes shape.buckets) (ap (λ (cs : List Change). committed_net shape.buckets cs (net_of shape run)) is ∙ net_entered shape (tx_entry shape operations run) run refl) (nodes shape.buckets (net_of shape run) held.net) in
    let t : transid ≡ run.drawn + 1 = number ∙ ap (λ (h : Hand). h.drawn + 1) held.books.clock in
    let e : epoch ≡ record { 0 = run.opened } = ap (λ (n : ℕ). record { 0 = n }) (opens ∙ ap (λ (h : Hand). h.opened) held.books.clock) in
    step_is (IsStoppedCluster new shape) (outcomes.Committed transid epoch sent) (tx_step shape operations run) (record { run = after; outcome = commit_outcome after }) (tx_accepted shape operations run free) (
      record { point = point_committed shape operations run held.point fits free; books = books_committed old.books new.books shape operations run changes held.books is id mapped clock rows count; net = net },
      ap (λ (n : ℕ). outcomes.Committed n epoch sent) t
          ∙ ap (λ (x : Epoch). outcomes.Committed (run.drawn + 1) x sent) e
          ∙ ap (outcomes.Committed (run.drawn + 1) (record { 0 = run.opened })) (sent_is ∙ ap length net.outbox.sent_is),
    )
