use Rattle.std.proofs.Common.{rules}
use Rattle.rb_base.proofs.Results.{at_an_error}
use Rattle.rb_rows.proofs.Images.{still_starts, parts_appended}
use Rattle.rb_rows.proofs.write.rows.append_rows.Goals as goal

pub returns-in_err-write_images-clause-err : goal.returns-in_err-write_images-clause-err
returns-in_err-write_images-clause-err c =
    at_an_error c.from_residual-in_err-write_images.result
    (still_starts c.args.out.now.items c.write_images.new.out.items c.extend_from_slice.new.self.items _ c.in_ok-extend_from_slice.ensures.items
    (still_starts c.extend_from_slice.new.self.items c.write_images.new.out.items c.write_length.new.out.items _ c.in_ok-write_length.ensures.ok
    (still_starts c.write_length.new.out.items c.write_images.new.out.items c.write_present.new.out.items _ c.in_ok-write_present.ensures.ok c.in_err-write_images.ensures.err)))

pub returns-clause-ok : goal.returns-clause-ok
returns-clause-ok c =
    parts_appended c.args.table.now c.args.changes.now c.index-changes-0.result c.args.last c.args.out.now.items c.extend_from_slice.new.self.items c.write_length.new.out.items c.write_present.new.out.items c.write_images.new.out.items c.rows_head.result
    c.requires.one (search rules) c.rows_head.ensures c.in_ok-extend_from_slice.ensures.items (search rules) (search rules) (search rules)
