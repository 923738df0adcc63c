use Rattle.std.proofs.Common.{[], ◌∷◌, refl, arith}
use Rattle.rb_base.specs.Length.{length_bytes}
use Rattle.rb_log_defs.specs.Event.{header_bytes, event_bytes, query_payload, format_payload, xid_payload, rotate_payload}
use Rattle.rb_log_defs.specs.Table.{table_map_payload}
use Rattle.rb_log_defs.specs.Rows.{text_bytes, row_image, rows_payload, change_payload, status_payload}
use Rattle.rb_log_defs.specs.Epoch.{epoch_bytes}
use Rattle.rb_log_defs.specs.File.{file_start, binlog_of}
use Rattle.rb_log_defs.specs.Index.{index_record, index_file}
use Rattle.rb_log_defs.specs.Worked.{first_path_index}
use Rattle.rb_device_defs.proofs.WorkedLaws.{no_two_rows, not_without_row}
use Rattle.rb_device_defs.proofs.worked.an_index_of_one_row.Goals as goal

pub returns-clause-one : goal.returns-clause-one
unfolding file_start event_bytes header_bytes format_payload query_payload xid_payload rotate_payload table_map_payload text_bytes row_image rows_payload change_payload status_payload epoch_bytes length_bytes binlog_of index_record index_file
returns-clause-one c = record { following = 0 ∷ []; bytes = refl; more = λ some. omega arith; ended = refl }

pub returns-clause-none : goal.returns-clause-none
returns-clause-none c image = not_without_row first_path_index refl image

pub returns-clause-two : goal.returns-clause-two
returns-clause-two c first second image = no_two_rows first_path_index first second (omega arith) image
