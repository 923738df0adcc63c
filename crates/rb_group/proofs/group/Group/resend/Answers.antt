use Rattle.std.proofs.Common.{◌∙◌}
use Rattle.rb_group.proofs.Steps.{resend_is, all_cover}
use Rattle.rb_group.proofs.group.Group.resend.Goals as goal

pub returns : goal.returns
returns c = λ kept keeps. c.from_vec.ensures ∙ c.in_ok-sent.ensures ∙ resend_is c.args.self.now kept keeps (all_cover c.args.self.now c.requires.ready.0 kept c.requires.ready.1 c.requires.ready.2 keeps)
