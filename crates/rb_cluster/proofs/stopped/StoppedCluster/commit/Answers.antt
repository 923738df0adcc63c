use Rattle.std.proofs.Common.{ℕ, refl, sym, ap, ◌∙◌, subst, List}
use Rattle.std.specs.List.{AllByRecursion}
use Rattle.rb_base.specs.declared.change.Change.{Change}
use Rattle.rb_commit.specs.Hand.{Hand}
use Rattle.rb_journal_defs.specs.Journal.{of_key}
use Rattle.rb_store.specs.Tables.{held_at, tables_in}
use Rattle.rb_store.specs.Left.{held_left}
use Rattle.rb_nodes.specs.Net.{HoldsNet, CanCommit, committed_net}
use Rattle.rb_cluster.specs.Rows.{CanBeStored}
use Rattle.rb_cluster.proofs.TxLaws.{can_send, can_store, cluster_committed}
use Rattle.rb_cluster.proofs.stopped.StoppedCluster.commit.Goals as goal

pub commit-requires : goal.commit-requires
commit-requires c =
    let (operations, (shape, run, accepts)) = c.requires.accepted in
    record { room = subst (CanCommit c.args.self.nodes) (sym c.as_slice.ensures) (can_send c.args.self shape run operations c.args.changes accepts) }

pub store-requires : goal.store-requires
store-requires c =
    let (operations, (shape, run, accepts)) = c.requires.accepted in
    record { storable = subst (AllByRecursion (CanBeStored (tables_in c.args.self.books.tables))) (sym c.as_slice-2.ensures) (can_store c.args.self shape run operations c.args.changes accepts) }

pub returns-clause-committed : goal.returns-clause-committed
returns-clause-committed c = λ operations shape run accepts.
    let epoch_is = c.open-epoch.ensures ∙ ap (λ (h : Hand). h.opened) c.in-Some.ensures.drawn in
    cluster_committed c.args.self _ shape run operations c.args.changes c.in-Some.transid c.sent_len-sent.result c.open-epoch.result accepts refl refl c.in-Some.ensures.drawn
    (λ t k. c.in_ok-store.ensures.rows t k
    ∙ ap (λ (cs : List Change). held_left c.open-epoch.result.0 (of_key t k cs) (held_at c.args.self.books.tables t k)) c.as_slice-2.ensures
    ∙ ap (λ (e : ℕ). held_left e (of_key t k c.args.changes) (held_at c.args.self.books.tables t k)) epoch_is)
    c.store.ensures.count
    (λ b n holds. subst (λ (cs : List Change). HoldsNet c.in_ok-nodes.nodes b (committed_net b cs n)) c.as_slice.ensures (c.in_ok-nodes.ensures.holds b n holds))
    c.in-Some.ensures.some epoch_is c.sent_len-sent.ensures
