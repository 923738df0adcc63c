use Rattle.std.proofs.Common.{refl}
use Rattle.rb_base.specs.Length.{length_bytes}
use Rattle.rb_log_defs.specs.Event.{header_bytes, event_bytes, query_payload, format_payload, xid_payload, rotate_payload}
use Rattle.rb_log_defs.specs.Table.{table_map_payload}
use Rattle.rb_log_defs.specs.Rows.{text_bytes, row_image, rows_payload, change_payload, status_payload}
use Rattle.rb_log_defs.specs.Epoch.{epoch_bytes}
use Rattle.rb_log_defs.specs.File.{file_start, binlog_of}
use Rattle.rb_log_defs.specs.Index.{index_record, index_file}
use Rattle.rb_log_defs.proofs.worked.the_ends_of_texts.Goals as goal

pub returns-clause-short : goal.returns-clause-short
unfolding file_start event_bytes header_bytes format_payload query_payload xid_payload rotate_payload table_map_payload text_bytes row_image rows_payload change_payload status_payload epoch_bytes length_bytes binlog_of index_record index_file
returns-clause-short c = refl

pub returns-clause-long : goal.returns-clause-long
unfolding file_start event_bytes header_bytes format_payload query_payload xid_payload rotate_payload table_map_payload text_bytes row_image rows_payload change_payload status_payload epoch_bytes length_bytes binlog_of index_record index_file
returns-clause-long c = refl

pub returns-clause-short_metadata : goal.returns-clause-short_metadata
unfolding file_start event_bytes header_bytes format_payload query_payload xid_payload rotate_payload table_map_payload text_bytes row_image rows_payload change_payload status_payload epoch_bytes length_bytes binlog_of index_record index_file
returns-clause-short_metadata c = refl

pub returns-clause-long_metadata : goal.returns-clause-long_metadata
unfolding file_start event_bytes header_bytes format_payload query_payload xid_payload rotate_payload table_map_payload text_bytes row_image rows_payload change_payload status_payload epoch_bytes length_bytes binlog_of index_record index_file
returns-clause-long_metadata c = refl

pub returns-clause-size : goal.returns-clause-size
unfolding file_start event_bytes header_bytes format_payload query_payload xid_payload rotate_payload table_map_payload text_bytes row_image rows_payload change_payload status_payload epoch_bytes length_bytes binlog_of index_record index_file
returns-clause-size c = refl
