use Rattle.std.proofs.Common.{◌∙◌}
use Rattle.std.specs.Ordering.{nat_cmp}
use Rattle.std.specs.BTreeMap as tree
use Rattle.rb_evbuf.proofs.Places.{part_is}
use Rattle.rb_evbuf.proofs.gathered.Gathered.into_part.Goals as goal

pub returns : goal.returns
returns c = λ gapless whole. c.from_vec.ensures ∙ c.truncate.ensures.items ∙ part_is 0 c.args.self.front.items (tree.get nat_cmp c.args.self.ahead) c.args.self.count c.unwrap_or.result gapless whole c.unwrap_or.ensures
