use Rattle.std.proofs.Common.{refl}
use Rattle.rb_log_defs.specs.Event.{header_bytes, query_payload}
use Rattle.rb_base.specs.Length.{length_read}
use Rattle.rb_read_defs.specs.Reading.{some_bytes, number, length_number}
use Rattle.rb_read_defs.specs.Events.{event_type, header, format, query, xid, rotate, table_map}
use Rattle.rb_read_defs.specs.Rows.{image, rows_head, changes, statuses}
use Rattle.rb_read_defs.specs.Stream.{cut_from, open_epoch, content_in, judge_payload, judge, seen_from, seen_of, steps_of}
use Rattle.rb_read_defs.proofs.worked.rows_of_other_servers.Goals as goal

pub returns-clause-one : goal.returns-clause-one
unfolding header_bytes query_payload length_read some_bytes number length_number event_type header format query xid rotate table_map image rows_head changes statuses cut_from open_epoch content_in judge_payload judge seen_from seen_of steps_of
returns-clause-one c = refl

pub returns-clause-two : goal.returns-clause-two
unfolding header_bytes query_payload length_read some_bytes number length_number event_type header format query xid rotate table_map image rows_head changes statuses cut_from open_epoch content_in judge_payload judge seen_from seen_of steps_of
returns-clause-two c = refl
