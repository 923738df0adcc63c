use Rattle.std.proofs.Common.{◌∙◌, sym}
use Rattle.rb_group.proofs.Standing.{needed_same}
use Rattle.rb_group.proofs.group.Group.needed.Goals as goal

pub returns : goal.returns
returns c = λ kept keeps. c.first_needed.ensures ∙ sym (needed_same c.args.self.now kept keeps)
