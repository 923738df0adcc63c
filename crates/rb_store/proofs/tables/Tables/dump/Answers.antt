use Rattle.rb_store.specs.Tables.{held_at}
use Rattle.rb_store.proofs.Dumped.{no_rows}
use Rattle.rb_store.proofs.tables.Tables.dump.Goals as goal

pub returns-in-None : goal.returns-in-None
unfolding held_at
returns-in-None c = rw c.new.ensures (no_rows c.args.self.now.tables.items c.args.table c.in-None.ensures)
