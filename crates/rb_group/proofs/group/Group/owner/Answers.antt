use Rattle.std.proofs.Common.{true, false, sym}
use Rattle.rb_group.proofs.Standing.{owner_up, also_is}
use Rattle.rb_group.proofs.group.Group.owner.Goals as goal

pub returns-then-is_up : goal.returns-then-is_up
returns-then-is_up c = λ kept keeps. owner_up c.args.self.now kept c.args.bucket c.owner_number-owner.result true keeps (also_is c.args.self.now c.requires.bucket.0 kept c.args.bucket c.requires.bucket.1 c.requires.bucket.2 keeps)
    c.owner_number-owner.ensures (sym c.if-is_up.ensures)

pub returns : goal.returns
returns c = λ kept keeps. owner_up c.args.self.now kept c.args.bucket c.owner_number-owner.result false keeps (also_is c.args.self.now c.requires.bucket.0 kept c.args.bucket c.requires.bucket.1 c.requires.bucket.2 keeps)
    c.owner_number-owner.ensures (sym c.if-is_up.ensures)
