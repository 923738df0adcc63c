use Rattle.std.proofs.Common.{refl}
use Rattle.rb_log_defs.specs.Event.{header_bytes, query_payload}
use Rattle.rb_read_defs.specs.Reading.{some_bytes, number, length_number}
use Rattle.rb_read_defs.specs.Events.{event_type, header, format, query, xid, rotate, table_map}
use Rattle.rb_read_defs.specs.Rows.{image, rows_head, changes, statuses}
use Rattle.rb_read_defs.specs.Stream.{cut_from, open_epoch, content_in, judge_payload, judge, seen_from, seen_of, steps_of}
use Rattle.rb_base.specs.Length.{length_read}
use Rattle.rb_read_defs.proofs.worked.events_out_of_place.Goals as goal

pub returns-clause-no_map : goal.returns-clause-no_map
unfolding header_bytes query_payload some_bytes number length_number event_type header format query xid rotate table_map image rows_head changes statuses cut_from open_epoch content_in judge_payload judge seen_from seen_of steps_of length_read
returns-clause-no_map c = refl

pub returns-clause-begin_twice : goal.returns-clause-begin_twice
unfolding header_bytes query_payload some_bytes number length_number event_type header format query xid rotate table_map image rows_head changes statuses cut_from open_epoch content_in judge_payload judge seen_from seen_of steps_of length_read
returns-clause-begin_twice c = refl

pub returns-clause-commit_outside : goal.returns-clause-commit_outside
unfolding header_bytes query_payload some_bytes number length_number event_type header format query xid rotate table_map image rows_head changes statuses cut_from open_epoch content_in judge_payload judge seen_from seen_of steps_of length_read
returns-clause-commit_outside c = refl

pub returns-clause-map_outside : goal.returns-clause-map_outside
unfolding header_bytes query_payload some_bytes number length_number event_type header format query xid rotate table_map image rows_head changes statuses cut_from open_epoch content_in judge_payload judge seen_from seen_of steps_of length_read
returns-clause-map_outside c = refl

pub returns-clause-rotation_inside : goal.returns-clause-rotation_inside
unfolding header_bytes query_payload some_bytes number length_number event_type header format query xid rotate table_map image rows_head changes statuses cut_from open_epoch content_in judge_payload judge seen_from seen_of steps_of length_read
returns-clause-rotation_inside c = refl

pub returns-clause-query_first : goal.returns-clause-query_first
unfolding header_bytes query_payload some_bytes number length_number event_type header format query xid rotate table_map image rows_head changes statuses cut_from open_epoch content_in judge_payload judge seen_from seen_of steps_of length_read
returns-clause-query_first c = refl
