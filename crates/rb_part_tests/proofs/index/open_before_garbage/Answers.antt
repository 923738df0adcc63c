use Rattle.std.proofs.Common.{subst, List}
use Rattle.std.specs.Prelude.{codes}
use Rattle.rb_base.specs.declared.body.IndexRow.{IndexRow}
use Rattle.rb_device_defs.specs.Index.{IsIndexImage}
use Rattle.rb_index.proofs.ImageLaws.{closed_image, record_written}
use Rattle.rb_part_tests.proofs.IndexLaws.{one_row}
use Rattle.rb_part_tests.proofs.index.open_before_garbage.Goals as goal

pub recover-requires : goal.recover-requires
recover-requires g c =
    let (row, one, room, epoch) = c.in_ok-_index.ensures.one in
    let image = one_row row (g.D.LogDisk.seen c.write_at.new.self 0) room
    (subst (λ (rows : List IndexRow). IsIndexImage rows (g.D.LogDisk.seen c.write_at.new.self 0)) one
    (closed_image c.in_ok-_index._index (codes "a part of a record") _ (record_written c.in_ok-_index._index c.len-end.result (codes "a part of a record") (g.D.LogDisk.seen c.one_row.new.disk 0) (g.D.LogDisk.seen c.write_at.new.self 0) c.len-end.ensures c.in_ok-_index.ensures.held c.in_ok-write_at.ensures.written))) in
    record { image = image }
