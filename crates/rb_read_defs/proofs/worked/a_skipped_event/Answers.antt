use Rattle.std.proofs.Common.{refl}
use Rattle.rb_read_defs.specs.Reading.{some_bytes, number, length_number}
use Rattle.rb_read_defs.specs.Events.{event_type, header, format, query, xid, rotate, table_map}
use Rattle.rb_read_defs.specs.Rows.{image, rows_head, changes, statuses}
use Rattle.rb_read_defs.specs.Stream.{cut_from, open_epoch, content_in, judge_payload, judge, seen_from, seen_of, steps_of}
use Rattle.rb_base.specs.Length.{length_read}
use Rattle.rb_read_defs.proofs.worked.a_skipped_event.Goals as goal

pub returns-clause-steps : goal.returns-clause-steps
unfolding some_bytes number length_number event_type header format query xid rotate table_map image rows_head changes statuses cut_from open_epoch content_in judge_payload judge seen_from seen_of steps_of length_read
returns-clause-steps c = refl

pub returns-clause-rest : goal.returns-clause-rest
unfolding some_bytes number length_number event_type header format query xid rotate table_map image rows_head changes statuses cut_from open_epoch content_in judge_payload judge seen_from seen_of steps_of length_read
returns-clause-rest c = refl
