use Rattle.std.proofs.Common.{refl, sym}
use Rattle.rb_group.proofs.Steps.{keeps_closed}
use Rattle.rb_group.proofs.group.Group.close_nodes.Goals as goal

pub returns : goal.returns
returns c = λ kept keeps above.
    keeps_closed c.args.self.now _ kept c.args.prev.0 c.args.next.0 keeps above refl refl refl refl c.in_ok-close_in_all.ensures.count c.in_ok-push_back.ensures.items
    (c.in_ok-close_in_all.ensures.kept kept c.args.next.0 keeps.nodes (sym keeps.opened) keeps.order above)
