use Rattle.rb_group.proofs.Standing.{also_is}
use Rattle.rb_group.proofs.Steps.{part_is, owner_covers}
use Rattle.rb_group.proofs.group.Group.commit_part.Goals as goal

pub returns-clause-sent : goal.returns-clause-sent
returns-clause-sent c = λ kept keeps.
    let ready = c.requires.ready in
    part_is c.args.self kept c.args.bucket c.owner_number-sender.result c.count-place.result c.in_ok-copy.copy c.args.change.now keeps (also_is c.args.self ready.0 kept c.args.bucket ready.1 ready.2 keeps)
    (owner_covers c.args.self ready.0 kept c.args.bucket ready.1 ready.2 ready.3 keeps) c.owner_number-sender.ensures c.count-place.ensures c.in_ok-copy.ensures
