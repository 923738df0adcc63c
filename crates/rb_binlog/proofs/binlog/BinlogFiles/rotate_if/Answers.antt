use Rattle.std.proofs.Common.{arith, refl}
use Rattle.rb_binlog.proofs.RotateLaws.{rotates}
use Rattle.rb_binlog.proofs.binlog.BinlogFiles.rotate_if.Goals as goal

pub end_file-requires-clause-fits : goal.end_file-requires-clause-fits
end_file-requires-clause-fits g c = c.requires.fits (omega arith)

pub returns-clause-rotated : goal.returns-clause-rotated
returns-clause-rotated g c site log stands =
    rotates c.args.self.now _ site c.args.limit log _ (g.D.LogDisk.seen c.end_file.new.disk) _ stands c.requires.few (omega arith)
    c.in_ok-end_file.ensures.ended c.in_ok-end_file.ensures.others c.in_ok-length.ensures.begun c.in_ok-length.ensures.others refl refl c.in_ok-length.ensures.size
