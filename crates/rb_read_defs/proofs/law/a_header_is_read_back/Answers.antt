use Rattle.rb_log_defs.specs.Event.{header_bytes}
use Rattle.rb_read_defs.proofs.Fields.{gives_at_start}
use Rattle.rb_read_defs.proofs.EventsRead.{header_gives}
use Rattle.rb_read_defs.proofs.law.a_header_is_read_back.Goals as goal

pub returns : goal.returns
unfolding header_bytes
returns c = λ kind server size start flags more known one whole small placed two. gives_at_start (header_gives kind server size start flags known one whole small placed two) more
