-- What was done and sent at the nodes of a cluster, up to a point of its run.
use Rattle.rb_journal_defs.specs.Body.{Shape, changes_in}
use Rattle.rb_play_defs.specs.Step.{Progress}
use Rattle.rb_nodes.specs.Nodes.{Buffered}
use Rattle.rb_nodes.specs.Net.{Net}
use Rattle.rb_journal_defs.specs.Journal.{closes_of}

-- what was done at the nodes of a cluster up to a point of its run
abbrev pub buffered_by : Shape → Progress → Buffered
buffered_by shape run = record {
  opened = run.opened;
  acknowledged = run.acknowledged;
  changes = λ epoch. changes_in shape.site epoch run.journal;
  closes = closes_of run.journal;
  members = run.nodes;
}

-- what was done and sent at these nodes
abbrev pub net_of : Shape → Progress → Net
net_of shape run = record {
  buffered = buffered_by shape run;
  sent = run.sent;
  delivered = run.delivered;
  lost = run.lost;
}
