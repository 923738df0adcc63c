use Rattle.rb_play_defs.proofs.Covering.{owners_can_send_again}
use Rattle.rb_play_defs.proofs.law.owners_can_send_again.Goals as goal

pub returns : goal.returns
returns c = owners_can_send_again
