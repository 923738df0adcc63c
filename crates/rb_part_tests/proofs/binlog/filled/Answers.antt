use Rattle.std.proofs.Common.{ℕ, arith, length-append}
use Rattle.rb_base.specs.declared.site.SiteId.TheVariants.{A}
use Rattle.rb_log_defs.specs.File.{new_binlog}
use Rattle.rb_device_defs.proofs.RowLaws.{start_length}
use Rattle.rb_part_tests.proofs.binlog.filled.Goals as goal

pub append-requires-clause-fits : goal.append-requires-clause-fits
append-requires-clause-fits g c = let e = c.in_ok-files.ensures.begun.length_is in omega (arith, start_length A)

pub returns-clause-stands : goal.returns-clause-stands
returns-clause-stands g c = (A, _, c.in_ok-append.ensures.appended A (new_binlog A) c.in_ok-files.ensures.begun)

pub returns-clause-number : goal.returns-clause-number
returns-clause-number g c = (c.in_ok-append.ensures.appended A (new_binlog A) c.in_ok-files.ensures.begun).number_is

pub returns-clause-size : goal.returns-clause-size
returns-clause-size g c =
    let e = (c.in_ok-append.ensures.appended A (new_binlog A) c.in_ok-files.ensures.begun).length_is in
    omega (arith, length-append {A = ℕ}, start_length A)
