use Rattle.std.proofs.Common.{◌≡◌, ◌-◌, ap, length, arith}
use Rattle.std.proofs.lemmas.List.{length-take-le}
use Rattle.rb_part_tests.proofs.IndexLaws.{few_bytes, size_of_one}
use Rattle.rb_part_tests.proofs.index.open_without_a_gate.Goals as goal

pub overflow_sub-end : goal.overflow_sub-end
overflow_sub-end g c =
    let (row, one, room, epoch) = c.in_ok-_index.ensures.one in
    omega (arith, size_of_one c.in_ok-_index._index row _ one c.in_ok-_index.ensures.held, c.len-end.ensures)

pub recover-requires : goal.recover-requires
recover-requires g c =
    let (row, one, room, epoch) = c.in_ok-_index.ensures.one in
    let size : length (g.D.LogDisk.seen c.one_row.new.disk 0) ≡ 66 = size_of_one c.in_ok-_index._index row _ one c.in_ok-_index.ensures.held in
    record { image = few_bytes (g.D.LogDisk.seen c.cut.new.self 0) (omega (arith, c.len-end.ensures, ap length c.in_ok-cut.ensures.cut, length-take-le (c.len-end.result - 1) (g.D.LogDisk.seen c.one_row.new.disk 0))) }
