use Rattle.std.proofs.Common.{ℕ, sym, ap, ◌≡◌, ◌∙◌}
use Rattle.std.specs.Prelude.{Option, false, is_some}
use Rattle.rb_base.specs.declared.epoch.Epoch.{Epoch}
use Rattle.rb_nodes.specs.Net.{lost_in}
use Rattle.rb_cluster.proofs.RecoverLaws.{can_send_again, rest_resent}
use Rattle.rb_cluster.proofs.stopped.StoppedCluster.send_again.Goals as goal

pub resend-requires : goal.resend-requires
resend-requires c =
    let none : is_some (lost_in c.args.self.now.nodes) ≡ false = ap (λ (lost : Option (ℕ × Epoch)). is_some lost) (sym c.lost.ensures) ∙ sym c.is_some.ensures ∙ c.if-is_some.false in
    let (shape, run, held) = c.requires.fits in
    record { ready = can_send_again c.args.self.now shape run held none }

pub returns-clause-sent : goal.returns-clause-sent
returns-clause-sent c = λ shape run held.
    let none : is_some (lost_in c.args.self.now.nodes) ≡ false = ap (λ (lost : Option (ℕ × Epoch)). is_some lost) (sym c.lost.ensures) ∙ sym c.is_some.ensures ∙ c.if-is_some.false in
    rest_resent c.args.self.now c.resend.new.self shape run held none (λ b n holds. c.in_ok-resend.ensures.holds b n holds)
