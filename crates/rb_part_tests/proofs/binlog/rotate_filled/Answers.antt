use Rattle.std.proofs.Common.{arith}
use Rattle.rb_binlog.proofs.RotateLaws.{rotation_small}
use Rattle.rb_part_tests.proofs.binlog.rotate_filled.Goals as goal

pub rotate_if-requires-clause-fits : goal.rotate_if-requires-clause-fits
rotate_if-requires-clause-fits g c = λ at_limit. omega (arith, rotation_small c.in_ok-files.files (omega (arith, c.in_ok-files.ensures.number)), c.in_ok-files.ensures.size)
