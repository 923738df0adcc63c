use Rattle.std.proofs.Common.{◌≡◌, length, refl, sym, ap, ◌∙◌}
use Rattle.std.proofs.lemmas.List.{length-set}
use Rattle.std.specs.Prelude.{Some}
use Rattle.rb_group.specs.Kept.{successor_in}
use Rattle.rb_group.proofs.Standing.{also_is}
use Rattle.rb_group.proofs.Steps.{successor_same, owned_is, taken_is, keeps_taken}
use Rattle.rb_group.proofs.group.Group.take_over.Goals as goal

pub returns-clause-taken : goal.returns-clause-taken
returns-clause-taken c = λ kept keeps.
    let ready = c.requires.ready in
    let is = also_is c.args.self.now ready.0 kept c.args.node ready.1 ready.2 keeps in
    let found : successor_in kept c.args.node ≡ Some c.args.successor = successor_same c.args.self.now kept c.args.node keeps ∙ sym (successor_same c.args.self.now ready.0 c.args.node ready.1) ∙ ready.3 in (
      c.args.successor,
      found,
      c.owned_count-count.ensures ∙ ap length (owned_is c.args.self.now kept c.args.node keeps),
      c.from_vec.ensures ∙ c.in_ok-sent.ensures ∙ taken_is c.args.self.now kept c.args.node c.args.successor keeps found,
      keeps_taken c.args.self.now _ kept c.args.node c.args.successor keeps is found refl refl refl refl c.in_ok-owners.ensures refl tt (length-set _ _ _),
    )
