use Rattle.std.proofs.Common.{◌<◌, List, ◌++◌, ◌∙◌, refl, ap, arith}
use Rattle.rb_base.specs.declared.message.Sent.{Sent}
use Rattle.rb_group.specs.Nodes.{returned_of}
use Rattle.rb_group.proofs.Steps.{close_is, keeps_returned, all_cover}
use Rattle.rb_group.proofs.group.Group.close.Goals as goal

pub returns-clause-kept : goal.returns-clause-kept
returns-clause-kept c = λ kept keeps.
    let ready = c.requires.ready in
    let above : kept.opened < c.args.next.0 = (let a = keeps.opened in let b = ready.1.opened in omega (arith, ready.4)) in
    keeps_returned c.close_nodes.new.self _ kept c.args.prev.0 c.args.next.0 (c.in_ok-close_nodes.ensures kept keeps above) refl refl refl refl refl c.in_ok-owners.ensures

pub returns-clause-sent : goal.returns-clause-sent
returns-clause-sent c = λ kept keeps.
    let ready = c.requires.ready in
    let above : kept.opened < c.args.next.0 = (let a = keeps.opened in let b = ready.1.opened in omega (arith, ready.4)) in
    c.from_vec.ensures ∙ c.in_ok-push_returned.ensures ∙ ap (λ (ss : List Sent). ss ++ returned_of c.close_nodes.new.self) c.in_ok-sent.ensures
    ∙ close_is c.args.self c.close_nodes.new.self kept c.args.prev c.args.next.0 keeps (all_cover c.args.self ready.0 kept ready.1 ready.2 keeps) (c.in_ok-close_nodes.ensures kept keeps above)
