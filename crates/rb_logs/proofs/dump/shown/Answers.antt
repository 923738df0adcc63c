use Rattle.std.proofs.Common.{◌*◌}
use Rattle.rb_logs.proofs.TextLaws.{prefix_of_rest}
use Rattle.rb_logs.proofs.dump.shown.Goals as goal

pub returns : goal.returns
returns c = prefix_of_rest c.args.bytes.now (c.args.number * 32) c.min.result c.min.ensures
