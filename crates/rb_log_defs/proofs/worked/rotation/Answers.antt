use Rattle.std.proofs.Common.{refl}
use Rattle.rb_base.specs.Length.{length_bytes}
use Rattle.std.specs.Fmt.{digits}
use Rattle.rb_log_defs.specs.Event.{header_bytes, event_bytes, query_payload, format_payload, xid_payload, rotate_payload}
use Rattle.rb_log_defs.specs.Table.{table_map_payload}
use Rattle.rb_log_defs.specs.Rows.{text_bytes, row_image, rows_payload, change_payload, status_payload}
use Rattle.rb_log_defs.specs.Epoch.{epoch_bytes}
use Rattle.rb_log_defs.specs.File.{file_start, binlog_of}
use Rattle.rb_log_defs.specs.Index.{index_record, index_file}
use Rattle.rb_log_defs.proofs.worked.rotation.Goals as goal

pub returns-clause-files : goal.returns-clause-files
unfolding file_start event_bytes header_bytes format_payload query_payload xid_payload rotate_payload table_map_payload text_bytes row_image rows_payload change_payload status_payload epoch_bytes length_bytes binlog_of index_record index_file digits
returns-clause-files c = refl

pub returns-clause-second : goal.returns-clause-second
unfolding file_start event_bytes header_bytes format_payload query_payload xid_payload rotate_payload table_map_payload text_bytes row_image rows_payload change_payload status_payload epoch_bytes length_bytes binlog_of index_record index_file digits
returns-clause-second c = refl

pub returns-clause-places : goal.returns-clause-places
unfolding file_start event_bytes header_bytes format_payload query_payload xid_payload rotate_payload table_map_payload text_bytes row_image rows_payload change_payload status_payload epoch_bytes length_bytes binlog_of index_record index_file digits
returns-clause-places c = refl

pub returns-clause-exactly : goal.returns-clause-exactly
unfolding file_start event_bytes header_bytes format_payload query_payload xid_payload rotate_payload table_map_payload text_bytes row_image rows_payload change_payload status_payload epoch_bytes length_bytes binlog_of index_record index_file digits
returns-clause-exactly c = refl

pub returns-clause-below : goal.returns-clause-below
unfolding file_start event_bytes header_bytes format_payload query_payload xid_payload rotate_payload table_map_payload text_bytes row_image rows_payload change_payload status_payload epoch_bytes length_bytes binlog_of index_record index_file digits
returns-clause-below c = refl
