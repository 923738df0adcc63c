use Rattle.std.proofs.Common.{rules}
use Rattle.byteorder.specs.Numbers.{little_from-lt}
use Rattle.rb_codec.proofs.fields.number_in.Goals as goal

pub returns-clause-fits : goal.returns-clause-fits
returns-clause-fits c = rw c.read_uint.ensures (little_from-lt 0 c.args.width _ (λ k. let h = c.type_inv.bytes in search rules))
