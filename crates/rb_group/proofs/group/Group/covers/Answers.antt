use Rattle.std.proofs.Common.{◌∙◌, sym}
use Rattle.rb_group.proofs.Standing.{covers_same, also_is}
use Rattle.rb_group.proofs.group.Group.covers.Goals as goal

pub returns : goal.returns
returns c = λ kept keeps. c.is_covering.ensures ∙ sym (covers_same c.args.self.now kept c.args.node keeps (also_is c.args.self.now c.requires.number.0 kept c.args.node c.requires.number.1 c.requires.number.2 keeps))
