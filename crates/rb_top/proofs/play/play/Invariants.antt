use Rattle.std.proofs.Common.{◌≡◌, ◌≤◌, ◌++◌}
use Rattle.rb_play_defs.specs.Play.{play_of}
use Rattle.rb_top.specs.Run.{reported}
use Rattle.rb_top.proofs.Running.{HasPlayed}
use Rattle.rb_top.proofs.play.play.Given as goal

-- the pair represents the run after the events so far, and the text reports them
abbrev pub invariant-loop-lined : goal.invariant-loop-lined
invariant-loop-lined g l = record {
  whole : l.fn.events ≡ l.yielded ++ l.lined-iterator.rest.items;
  stands : HasPlayed l.setup l.yielded l.pair (g.D.LogDisk.seen l.disk_a);
  reported : l.text.items ≡ l.initial.text.items ++ reported (play_of l.setup l.yielded).outcomes;
  other : l.disk_b ≡ l.initial.disk_b;
  later : g.D.LogDisk.fault_count l.initial.disk_a ≤ g.D.LogDisk.fault_count l.disk_a;
}
