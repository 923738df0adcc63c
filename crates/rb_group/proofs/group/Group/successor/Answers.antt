use Rattle.std.proofs.Common.{◌≡◌, ℕ, ◌+◌, ◌-◌, length, arith, sym, ap, ◌∙◌}
use Rattle.std.specs.Prelude.{Option}
use Rattle.std.specs.Option.{option_or}
use Rattle.std.specs.List.{find}
use Rattle.rb_group.specs.Nodes.{covers_of, numbers_from}
use Rattle.rb_group.proofs.Standing.{is_in}
use Rattle.rb_group.proofs.Steps.{successor_found}
use Rattle.rb_group.proofs.group.Group.successor.Goals as goal

pub returns-in-Some : goal.returns-in-Some
returns-in-Some c =
    let ready = c.requires.ready in
    let len : c.len.result ≡ length c.args.self.now.owners.items = omega (arith, c.len.ensures, c.args.self.now.owners.ok.0) in
    sym (successor_found c.args.self.now c.args.node (is_in c.args.self.now ready.0 c.args.node ready.1 ready.2)
    ∙ ap (λ (o : Option ℕ). option_or o (find (covers_of c.args.self.now) (numbers_from (c.args.self.now.first + 0) (c.args.node - c.args.self.now.first - 0)))) (ap (λ (n : ℕ). find (covers_of c.args.self.now) (numbers_from (c.args.self.now.first + (c.args.node - c.args.self.now.first + 1)) (n - (c.args.node - c.args.self.now.first + 1)))) (sym len) ∙ sym c.covering.ensures ∙ c.in-Some.is))

pub returns-in-None : goal.returns-in-None
returns-in-None c =
    let ready = c.requires.ready in
    let len : c.len.result ≡ length c.args.self.now.owners.items = omega (arith, c.len.ensures, c.args.self.now.owners.ok.0) in
    c.covering-in-None.ensures ∙ sym (successor_found c.args.self.now c.args.node (is_in c.args.self.now ready.0 c.args.node ready.1 ready.2)
    ∙ ap (λ (o : Option ℕ). option_or o (find (covers_of c.args.self.now) (numbers_from (c.args.self.now.first + 0) (c.args.node - c.args.self.now.first - 0)))) (ap (λ (n : ℕ). find (covers_of c.args.self.now) (numbers_from (c.args.self.now.first + (c.args.node - c.args.self.now.first + 1)) (n - (c.args.node - c.args.self.now.first + 1)))) (sym len) ∙ sym c.covering.ensures ∙ c.in-None.is))
