use Rattle.std.proofs.Common.{refl, sym, ◌∙◌, ◌≡◌, false, true, rules}
use Rattle.rb_nodes.proofs.OutboxLaws.{first_kept, dropped_gone}
use Rattle.rb_nodes.proofs.outbox.Outbox.first_waiting.Goals as goal

pub returns-then-not-is_gone-clause-first : goal.returns-then-not-is_gone-clause-first
returns-then-not-is_gone-clause-first c = λ sent delivered failed_at held.
    let here = c.loop-place.invariant.holds sent delivered failed_at held in
    let stays : c.is_gone.result ≡ false = c.if-not-is_gone.true in
    first_kept c.loop-place.self sent delivered failed_at c.in-Some.place here (search rules) (sym (c.is_gone.ensures sent delivered failed_at here) ∙ stays)

pub loop-place-preserved : goal.loop-place-preserved
loop-place-preserved c = record {
  holds = λ sent delivered failed_at held.
      let here = c.loop-place.invariant.holds sent delivered failed_at held in
      let gone : c.is_gone.result ≡ true = c.if-not-is_gone.false in
      dropped_gone c.loop-place.self _ sent delivered failed_at c.in-Some.place here (sym (c.is_gone.ensures sent delivered failed_at here) ∙ gone) refl c.remove.ensures.keys refl;
  sent = c.loop-place.invariant.sent;
  failed = c.loop-place.invariant.failed;
}
