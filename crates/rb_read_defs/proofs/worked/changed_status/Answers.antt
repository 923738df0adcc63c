use Rattle.std.proofs.Common.{refl}
use Rattle.rb_read_defs.specs.Reading.{some_bytes, number, length_number}
use Rattle.rb_read_defs.specs.Events.{event_type, header, format, query, xid, rotate, table_map}
use Rattle.rb_read_defs.specs.Rows.{image, rows_head, changes, statuses}
use Rattle.rb_read_defs.specs.Stream.{cut_from, open_epoch, content_in, judge_payload, judge, seen_from, seen_of, steps_of}
use Rattle.rb_base.specs.Length.{length_read}
use Rattle.rb_read_defs.proofs.worked.changed_status.Goals as goal

pub returns-clause-written : goal.returns-clause-written
unfolding some_bytes number length_number event_type header format query xid rotate table_map image rows_head changes statuses cut_from open_epoch content_in judge_payload judge seen_from seen_of steps_of length_read
returns-clause-written c = refl

pub returns-clause-own : goal.returns-clause-own
unfolding some_bytes number length_number event_type header format query xid rotate table_map image rows_head changes statuses cut_from open_epoch content_in judge_payload judge seen_from seen_of steps_of length_read
returns-clause-own c = refl

pub returns-clause-ended_by_another : goal.returns-clause-ended_by_another
unfolding some_bytes number length_number event_type header format query xid rotate table_map image rows_head changes statuses cut_from open_epoch content_in judge_payload judge seen_from seen_of steps_of length_read
returns-clause-ended_by_another c = refl
