use Rattle.std.proofs.Common.{refl}
use Rattle.rb_read_defs.specs.Reading.{some_bytes, number, length_number}
use Rattle.rb_read_defs.specs.Events.{event_type, header, format, query, xid, rotate, table_map}
use Rattle.rb_read_defs.specs.Rows.{image, rows_head, changes, statuses}
use Rattle.rb_read_defs.specs.Stream.{cut_from, open_epoch, content_in, judge_payload, judge, seen_from, seen_of, steps_of}
use Rattle.rb_base.specs.Length.{length_read}
use Rattle.rb_read_defs.proofs.worked.changed_heads.Goals as goal

pub returns-clause-first_event : goal.returns-clause-first_event
unfolding some_bytes number length_number event_type header format query xid rotate table_map image rows_head changes statuses cut_from open_epoch content_in judge_payload judge seen_from seen_of steps_of length_read
returns-clause-first_event c = refl

pub returns-clause-version : goal.returns-clause-version
unfolding some_bytes number length_number event_type header format query xid rotate table_map image rows_head changes statuses cut_from open_epoch content_in judge_payload judge seen_from seen_of steps_of length_read
returns-clause-version c = refl

pub returns-clause-header_length : goal.returns-clause-header_length
unfolding some_bytes number length_number event_type header format query xid rotate table_map image rows_head changes statuses cut_from open_epoch content_in judge_payload judge seen_from seen_of steps_of length_read
returns-clause-header_length c = refl

pub returns-clause-post_header : goal.returns-clause-post_header
unfolding some_bytes number length_number event_type header format query xid rotate table_map image rows_head changes statuses cut_from open_epoch content_in judge_payload judge seen_from seen_of steps_of length_read
returns-clause-post_header c = refl

pub returns-clause-query_text : goal.returns-clause-query_text
unfolding some_bytes number length_number event_type header format query xid rotate table_map image rows_head changes statuses cut_from open_epoch content_in judge_payload judge seen_from seen_of steps_of length_read
returns-clause-query_text c = refl

pub returns-clause-map_id : goal.returns-clause-map_id
unfolding some_bytes number length_number event_type header format query xid rotate table_map image rows_head changes statuses cut_from open_epoch content_in judge_payload judge seen_from seen_of steps_of length_read
returns-clause-map_id c = refl

pub returns-clause-columns : goal.returns-clause-columns
unfolding some_bytes number length_number event_type header format query xid rotate table_map image rows_head changes statuses cut_from open_epoch content_in judge_payload judge seen_from seen_of steps_of length_read
returns-clause-columns c = refl

pub returns-clause-status_type : goal.returns-clause-status_type
unfolding some_bytes number length_number event_type header format query xid rotate table_map image rows_head changes statuses cut_from open_epoch content_in judge_payload judge seen_from seen_of steps_of length_read
returns-clause-status_type c = refl

pub returns-clause-metadata : goal.returns-clause-metadata
unfolding some_bytes number length_number event_type header format query xid rotate table_map image rows_head changes statuses cut_from open_epoch content_in judge_payload judge seen_from seen_of steps_of length_read
returns-clause-metadata c = refl

pub returns-clause-map_null : goal.returns-clause-map_null
unfolding some_bytes number length_number event_type header format query xid rotate table_map image rows_head changes statuses cut_from open_epoch content_in judge_payload judge seen_from seen_of steps_of length_read
returns-clause-map_null c = refl

pub returns-clause-key_type : goal.returns-clause-key_type
unfolding some_bytes number length_number event_type header format query xid rotate table_map image rows_head changes statuses cut_from open_epoch content_in judge_payload judge seen_from seen_of steps_of length_read
returns-clause-key_type c = refl
