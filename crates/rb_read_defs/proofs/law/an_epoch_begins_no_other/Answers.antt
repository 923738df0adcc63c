use Rattle.rb_read_defs.proofs.Prefixes.{no_prefix}
use Rattle.rb_read_defs.proofs.law.an_epoch_begins_no_other.Goals as goal

pub returns : goal.returns
returns c = no_prefix
