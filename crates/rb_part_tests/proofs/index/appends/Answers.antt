use Rattle.std.proofs.Common.{◌∙◌, ap}
use Rattle.rb_log_defs.specs.Index.{index_file}
use Rattle.rb_index.proofs.ImageLaws.{whole_image}
use Rattle.rb_part_tests.proofs.IndexLaws.{first_row, perhaps_a_row}
use Rattle.rb_part_tests.proofs.index.appends.Goals as goal

pub returns-in-Ok : goal.returns-in-Ok
returns-in-Ok g c = record { image = first_row c.args.index.now c.row_to.result _ c.requires.none c.row_to.ensures.room (whole_image _ _ (c.in-Ok.ensures.appended.1 ∙ ap index_file c.in-Ok.ensures.appended.0)) }

pub returns-in-Err : goal.returns-in-Err
returns-in-Err g c = record { image = perhaps_a_row c.args.index.now c.row_to.result _ c.requires.none c.row_to.ensures.room c.in-Err.ensures.kept }
