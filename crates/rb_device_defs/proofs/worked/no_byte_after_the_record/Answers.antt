use Rattle.std.proofs.Common.{refl, arith}
use Rattle.rb_base.specs.Length.{length_bytes}
use Rattle.rb_log_defs.specs.Event.{header_bytes, event_bytes, query_payload, format_payload, xid_payload, rotate_payload}
use Rattle.rb_log_defs.specs.Table.{table_map_payload}
use Rattle.rb_log_defs.specs.Rows.{text_bytes, row_image, rows_payload, change_payload, status_payload}
use Rattle.rb_log_defs.specs.Epoch.{epoch_bytes}
use Rattle.rb_log_defs.specs.File.{file_start, binlog_of}
use Rattle.rb_log_defs.specs.Index.{index_record, index_file}
use Rattle.rb_device_defs.specs.Worked.{first_record}
use Rattle.rb_device_defs.proofs.WorkedLaws.{not_one_row}
use Rattle.rb_device_defs.proofs.worked.no_byte_after_the_record.Goals as goal

pub returns-clause-none : goal.returns-clause-none
returns-clause-none c = record { following = first_record; bytes = refl; more = λ some. absurd (some refl); ended = refl }

pub returns-clause-one : goal.returns-clause-one
unfolding file_start event_bytes header_bytes format_payload query_payload xid_payload rotate_payload table_map_payload text_bytes row_image rows_payload change_payload status_payload epoch_bytes length_bytes binlog_of index_record index_file
returns-clause-one c image = not_one_row first_record _ (omega arith) image
