use Rattle.std.proofs.Common.{refl}
use Rattle.rb_base.specs.Length.{length_bytes}
use Rattle.rb_log_defs.specs.Event.{header_bytes, event_bytes, query_payload, format_payload, xid_payload, rotate_payload}
use Rattle.rb_log_defs.specs.Table.{table_map_payload}
use Rattle.rb_log_defs.specs.Rows.{text_bytes, row_image, rows_payload, change_payload, status_payload}
use Rattle.rb_log_defs.specs.Epoch.{epoch_bytes}
use Rattle.rb_log_defs.specs.File.{file_start, binlog_of}
use Rattle.rb_log_defs.specs.Index.{index_record, index_file}
use Rattle.rb_log_defs.proofs.worked.empty_epochs.Goals as goal

pub returns-clause-places : goal.returns-clause-places
unfolding file_start event_bytes header_bytes format_payload query_payload xid_payload rotate_payload table_map_payload text_bytes row_image rows_payload change_payload status_payload epoch_bytes length_bytes binlog_of index_record index_file
returns-clause-places c = refl

pub returns-clause-gcis : goal.returns-clause-gcis
unfolding file_start event_bytes header_bytes format_payload query_payload xid_payload rotate_payload table_map_payload text_bytes row_image rows_payload change_payload status_payload epoch_bytes length_bytes binlog_of index_record index_file
returns-clause-gcis c = refl

pub returns-clause-between : goal.returns-clause-between
unfolding file_start event_bytes header_bytes format_payload query_payload xid_payload rotate_payload table_map_payload text_bytes row_image rows_payload change_payload status_payload epoch_bytes length_bytes binlog_of index_record index_file
returns-clause-between c = refl

pub returns-clause-before : goal.returns-clause-before
unfolding file_start event_bytes header_bytes format_payload query_payload xid_payload rotate_payload table_map_payload text_bytes row_image rows_payload change_payload status_payload epoch_bytes length_bytes binlog_of index_record index_file
returns-clause-before c = refl
