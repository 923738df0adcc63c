use Rattle.std.proofs.Common.{refl}
use Rattle.rb_log_defs.specs.Event.{header_bytes, query_payload}
use Rattle.rb_base.specs.Length.{length_read}
use Rattle.rb_read_defs.specs.Reading.{some_bytes, number, length_number}
use Rattle.rb_read_defs.specs.Events.{event_type, header, format, query, xid, rotate, table_map}
use Rattle.rb_read_defs.specs.Rows.{image, rows_head, changes, statuses}
use Rattle.rb_read_defs.specs.Stream.{cut_from, open_epoch, content_in, judge_payload, judge, seen_from, seen_of, steps_of}
use Rattle.rb_read_defs.proofs.worked.rows_of_other_forms.Goals as goal

pub returns-clause-last_map : goal.returns-clause-last_map
unfolding header_bytes query_payload length_read some_bytes number length_number event_type header format query xid rotate table_map image rows_head changes statuses cut_from open_epoch content_in judge_payload judge seen_from seen_of steps_of
returns-clause-last_map c = refl

pub returns-clause-one_key : goal.returns-clause-one_key
unfolding header_bytes query_payload length_read some_bytes number length_number event_type header format query xid rotate table_map image rows_head changes statuses cut_from open_epoch content_in judge_payload judge seen_from seen_of steps_of
returns-clause-one_key c = refl

pub returns-clause-two_keys : goal.returns-clause-two_keys
unfolding header_bytes query_payload length_read some_bytes number length_number event_type header format query xid rotate table_map image rows_head changes statuses cut_from open_epoch content_in judge_payload judge seen_from seen_of steps_of
returns-clause-two_keys c = refl

pub returns-clause-short_text : goal.returns-clause-short_text
unfolding header_bytes query_payload length_read some_bytes number length_number event_type header format query xid rotate table_map image rows_head changes statuses cut_from open_epoch content_in judge_payload judge seen_from seen_of steps_of
returns-clause-short_text c = refl

pub returns-clause-long_text : goal.returns-clause-long_text
unfolding header_bytes query_payload length_read some_bytes number length_number event_type header format query xid rotate table_map image rows_head changes statuses cut_from open_epoch content_in judge_payload judge seen_from seen_of steps_of
returns-clause-long_text c = refl

pub returns-clause-no_number : goal.returns-clause-no_number
unfolding header_bytes query_payload length_read some_bytes number length_number event_type header format query xid rotate table_map image rows_head changes statuses cut_from open_epoch content_in judge_payload judge seen_from seen_of steps_of
returns-clause-no_number c = refl
