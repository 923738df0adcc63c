use Rattle.std.proofs.Common.{◌≡◌, ◌+◌, ℕ, length, sym, ap, ◌∙◌, refl, arith}
use Rattle.std.specs.Prelude.{Some}
use Rattle.rb_group.proofs.Standing.{keeps_since, is_up_same, down_is, also_is}
use Rattle.rb_group.proofs.Holding.{fresh}
use Rattle.rb_group.proofs.group.Group.restart.Goals as goal

pub returns-then-is_up-clause-refused : goal.returns-then-is_up-clause-refused
returns-then-is_up-clause-refused c = λ kept keeps.
    let is = also_is c.args.self.now c.requires.ready.0 kept c.args.node c.requires.ready.1 c.requires.ready.2 keeps in
    (keeps, (refl, is_up_same c.args.self.now kept c.args.node keeps is ∙ sym c.if-is_up.ensures))

pub returns-clause-restarted : goal.returns-clause-restarted
returns-clause-restarted c = λ kept keeps.
    let is = also_is c.args.self.now c.requires.ready.0 kept c.args.node c.requires.ready.1 c.requires.ready.2 keeps in
    let opened = keeps.opened in
    let nodes : length c.args.self.now.buffers.items ≡ length kept.nodes = keeps.count in
    let first = keeps.first in
    let small = keeps.countable in
    let owners : length c.args.self.now.owners.items ≡ length kept.nodes = ap length keeps.owners ∙ keeps.owner_count in (
      ap (λ (n : ℕ). n + 1) keeps.opened,
      down_is c.args.self.now kept c.args.node keeps is (sym c.if-is_up.ensures),
      keeps_since c.args.self.now _ kept c.args.node (Some (kept.opened + 1)) (Some c.in_ok-buffer.buffer) keeps is refl refl refl refl refl refl
          (fresh (kept.opened + 1) c.in_ok-buffer.buffer kept keeps.order.closes (omega arith) (λ e b late. keeps.order.later e b (omega arith))
          c.in_ok-buffer.ensures.empty c.in_ok-buffer.ensures.closes c.in_ok-buffer.ensures.opened (c.in_ok-buffer.ensures.since ∙ ap (λ (n : ℕ). n + 1) keeps.opened)
          (λ b low high. c.in_ok-buffer.ensures.buckets b (omega arith) (omega (arith, c.len-nodes.ensures)))),
    )
