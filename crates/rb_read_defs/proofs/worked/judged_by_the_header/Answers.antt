use Rattle.std.proofs.Common.{refl}
use Rattle.rb_log_defs.specs.Event.{header_bytes, query_payload}
use Rattle.rb_base.specs.Length.{length_read}
use Rattle.rb_read_defs.specs.Reading.{some_bytes, number, length_number}
use Rattle.rb_read_defs.specs.Events.{event_type, header, format, query, xid, rotate, table_map}
use Rattle.rb_read_defs.specs.Rows.{image, rows_head, changes, statuses}
use Rattle.rb_read_defs.specs.Stream.{cut_from, open_epoch, content_in, judge_payload, judge, seen_from, seen_of, steps_of}
use Rattle.rb_read_defs.proofs.worked.judged_by_the_header.Goals as goal

pub returns-clause-skipped_at_first : goal.returns-clause-skipped_at_first
unfolding header_bytes query_payload length_read some_bytes number length_number event_type header format query xid rotate table_map image rows_head changes statuses cut_from open_epoch content_in judge_payload judge seen_from seen_of steps_of
returns-clause-skipped_at_first c = refl

pub returns-clause-end_outside : goal.returns-clause-end_outside
unfolding header_bytes query_payload length_read some_bytes number length_number event_type header format query xid rotate table_map image rows_head changes statuses cut_from open_epoch content_in judge_payload judge seen_from seen_of steps_of
returns-clause-end_outside c = refl

pub returns-clause-rows_outside : goal.returns-clause-rows_outside
unfolding header_bytes query_payload length_read some_bytes number length_number event_type header format query xid rotate table_map image rows_head changes statuses cut_from open_epoch content_in judge_payload judge seen_from seen_of steps_of
returns-clause-rows_outside c = refl

pub returns-clause-format_inside : goal.returns-clause-format_inside
unfolding header_bytes query_payload length_read some_bytes number length_number event_type header format query xid rotate table_map image rows_head changes statuses cut_from open_epoch content_in judge_payload judge seen_from seen_of steps_of
returns-clause-format_inside c = refl

pub returns-clause-end_after_rotation : goal.returns-clause-end_after_rotation
unfolding header_bytes query_payload length_read some_bytes number length_number event_type header format query xid rotate table_map image rows_head changes statuses cut_from open_epoch content_in judge_payload judge seen_from seen_of steps_of
returns-clause-end_after_rotation c = refl

pub returns-clause-too_long : goal.returns-clause-too_long
unfolding header_bytes query_payload length_read some_bytes number length_number event_type header format query xid rotate table_map image rows_head changes statuses cut_from open_epoch content_in judge_payload judge seen_from seen_of steps_of
returns-clause-too_long c = refl

pub returns-clause-longest : goal.returns-clause-longest
unfolding header_bytes query_payload length_read some_bytes number length_number event_type header format query xid rotate table_map image rows_head changes statuses cut_from open_epoch content_in judge_payload judge seen_from seen_of steps_of
returns-clause-longest c = refl

pub returns-clause-few_lengths : goal.returns-clause-few_lengths
unfolding header_bytes query_payload length_read some_bytes number length_number event_type header format query xid rotate table_map image rows_head changes statuses cut_from open_epoch content_in judge_payload judge seen_from seen_of steps_of
returns-clause-few_lengths c = refl

pub returns-clause-fewest_lengths : goal.returns-clause-fewest_lengths
unfolding header_bytes query_payload length_read some_bytes number length_number event_type header format query xid rotate table_map image rows_head changes statuses cut_from open_epoch content_in judge_payload judge seen_from seen_of steps_of
returns-clause-fewest_lengths c = refl
