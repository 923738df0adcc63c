use Rattle.std.proofs.Common.{◌∙◌, subst, ◌≡◌, List}
use Rattle.std.specs.Prelude.{None, Some}
use Rattle.std.specs.Option.{option_map}
use Rattle.rb_commit.specs.Fault.{fault_of}
use Rattle.rb_base.specs.declared.script.ClientOp.{ClientOp}
use Rattle.rb_base.proofs.Results.{weaker_ok}
use Rattle.rb_journal_defs.specs.Transaction.{refusal_of, changes_made}
use Rattle.rb_store.specs.Tables.{rows_in}
use Rattle.rb_cluster.proofs.TxLaws.{tx_was_refused, tx_is_accepted}
use Rattle.rb_cluster.proofs.stopped.StoppedCluster.transact.Goals as goal

pub commit-requires : goal.commit-requires
commit-requires c =
    let (shape, run, ready) = c.requires.fits in
    let free : refusal_of (rows_in c.args.self.books.tables) c.args.operations ≡ None = subst (λ (ops : List ClientOp). refusal_of (rows_in c.args.self.books.tables) ops ≡ None) c.as_slice.ensures c.in-Ok.ensures.accepted.0 in
    let made : c.in-Ok.changes ≡ changes_made (rows_in c.args.self.books.tables) c.server_id-author.result c.in-Some.transid c.args.operations =
    subst (λ (ops : List ClientOp). c.in-Ok.changes ≡ changes_made (rows_in c.args.self.books.tables) c.server_id-author.result c.in-Some.transid ops) c.as_slice.ensures c.in-Ok.ensures.accepted.1 in
    record { accepted = (c.args.operations, (shape, run, tx_is_accepted c.args.self shape run c.args.operations c.in-Ok.changes _ _ ready free made c.server_id-author.ensures c.in-Some.ensures.some)) }

pub returns-in-Ok-clause-stepped : goal.returns-in-Ok-clause-stepped
returns-in-Ok-clause-stepped c =
    let free : refusal_of (rows_in c.args.self.books.tables) c.args.operations ≡ None = subst (λ (ops : List ClientOp). refusal_of (rows_in c.args.self.books.tables) ops ≡ None) c.as_slice.ensures c.in-Ok.ensures.accepted.0 in
    let made : c.in-Ok.changes ≡ changes_made (rows_in c.args.self.books.tables) c.server_id-author.result c.in-Some.transid c.args.operations =
    subst (λ (ops : List ClientOp). c.in-Ok.changes ≡ changes_made (rows_in c.args.self.books.tables) c.server_id-author.result c.in-Some.transid ops) c.as_slice.ensures c.in-Ok.ensures.accepted.1 in
    weaker_ok _ _ c.commit.result (λ pair meets shape run ready.
    meets c.args.operations shape run (tx_is_accepted c.args.self shape run c.args.operations c.in-Ok.changes _ _ ready free made c.server_id-author.ensures c.in-Some.ensures.some)) c.commit.ensures.committed

pub returns-clause-stepped : goal.returns-clause-stepped
returns-clause-stepped c = λ shape run ready.
    let named : option_map fault_of (refusal_of (rows_in c.args.self.books.tables) c.args.operations) ≡ Some c.in-Err.fault =
    subst (λ (ops : List ClientOp). option_map fault_of (refusal_of (rows_in c.args.self.books.tables) ops) ≡ Some c.in-Err.fault) c.as_slice.ensures (c.in-Err.ensures.refused c.in_ok-outcome-in-Err.ensures.refused) in
    let (after, answer) = tx_was_refused c.args.self shape run c.args.operations c.in-Err.fault ready.0.0 named in
    (after, c.in_ok-outcome-in-Err.ensures.outcome ∙ answer)
