use Rattle.std.proofs.Common.{◌≡◌, ◌/◌, ℕ, length, refl, sym, ap, ◌∙◌, arith}
use Rattle.std.specs.Prelude.{None}
use Rattle.rb_group.proofs.Standing.{keeps_since, also_is, needed_same}
use Rattle.rb_group.proofs.group.Group.lose.Goals as goal

pub returns : goal.returns
returns c = λ kept keeps none.
    let is = also_is c.args.self.now c.requires.ready.0 kept c.args.node c.requires.ready.1 c.requires.ready.2 keeps in (
      none,
      ap (λ (n : ℕ). n / c.len.result) keeps.first ∙ ap (λ (n : ℕ). kept.first / n) (let size : c.len.result ≡ length kept.nodes = omega (arith, c.len.ensures, c.args.self.now.buffers.ok.0, keeps.count) in size),
      c.first_needed-epoch.ensures ∙ sym (needed_same c.args.self.now kept keeps),
      keeps_since c.args.self.now _ kept c.args.node None None keeps is refl refl refl refl refl refl tt,
    )
