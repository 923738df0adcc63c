use Rattle.rb_etx.proofs.Payloads.{ends_if_last}
use Rattle.rb_etx.proofs.epoch.is_last.Goals as goal

pub returns : goal.returns
returns c = ends_if_last c.args.changes.now c.args.index c.requires
