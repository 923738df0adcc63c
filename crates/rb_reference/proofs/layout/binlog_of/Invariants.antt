use Rattle.std.proofs.Common.{◌≡◌, take}
use Rattle.rb_log_defs.specs.File.{binlog_of}
use Rattle.rb_reference.specs.Standing.{binlog_in}
use Rattle.rb_reference.proofs.layout.binlog_of.Given as goal

-- the bodies so far are written
abbrev pub invariant-loop-body : goal.invariant-loop-body
invariant-loop-body l = binlog_in l.log ≡ binlog_of l.site l.limit (take l.body-index l.bodies)
