use Rattle.std.proofs.Common.{refl}
use Rattle.rb_log_defs.specs.Event.{header_bytes, query_payload}
use Rattle.rb_read_defs.specs.Reading.{some_bytes, number, length_number}
use Rattle.rb_read_defs.specs.Events.{event_type, header, format, query, xid, rotate, table_map}
use Rattle.rb_read_defs.specs.Rows.{image, rows_head, changes, statuses}
use Rattle.rb_read_defs.specs.Stream.{cut_from, open_epoch, content_in, judge_payload, judge, seen_from, seen_of, steps_of}
use Rattle.rb_base.specs.Length.{length_read}
use Rattle.rb_read_defs.proofs.worked.wrong_sizes.Goals as goal

pub returns-clause-long : goal.returns-clause-long
unfolding header_bytes query_payload some_bytes number length_number event_type header format query xid rotate table_map image rows_head changes statuses cut_from open_epoch content_in judge_payload judge seen_from seen_of steps_of length_read
returns-clause-long c = refl

pub returns-clause-short : goal.returns-clause-short
unfolding header_bytes query_payload some_bytes number length_number event_type header format query xid rotate table_map image rows_head changes statuses cut_from open_epoch content_in judge_payload judge seen_from seen_of steps_of length_read
returns-clause-short c = refl
