use Rattle.rb_log_defs.specs.Event.{xid_payload}
use Rattle.rb_read_defs.proofs.Fields.{ends_at_start, gives_ends}
use Rattle.rb_read_defs.proofs.EventsRead.{begin_read, format_read, xid_ends, rotate_read, table_map_gives, status_map_read}
use Rattle.rb_read_defs.proofs.law.events_are_read_back.Goals as goal

pub returns-clause-begin : goal.returns-clause-begin
returns-clause-begin c = begin_read

pub returns-clause-xid : goal.returns-clause-xid
unfolding xid_payload
returns-clause-xid c = λ n small. ends_at_start (xid_ends n small)

pub returns-clause-rotate : goal.returns-clause-rotate
returns-clause-rotate c = rotate_read

pub returns-clause-format : goal.returns-clause-format
returns-clause-format c = format_read

pub returns-clause-table_map : goal.returns-clause-table_map
returns-clause-table_map c = λ table readable. ends_at_start (gives_ends (table_map_gives table readable))

pub returns-clause-status_map : goal.returns-clause-status_map
returns-clause-status_map c = status_map_read
