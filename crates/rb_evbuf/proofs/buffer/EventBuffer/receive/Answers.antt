use Rattle.rb_evbuf.proofs.buffer.EventBuffer.receive.Goals as goal

pub returns-in-Part-clause-kept : goal.returns-in-Part-clause-kept
returns-in-Part-clause-kept c = rw c.in-Part.is c.receive_part.ensures.kept

pub returns-in-Done-clause-kept : goal.returns-in-Done-clause-kept
returns-in-Done-clause-kept c = rw c.in-Done.is c.receive_done.ensures.kept
