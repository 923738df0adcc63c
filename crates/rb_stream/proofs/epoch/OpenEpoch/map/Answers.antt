use Rattle.rb_stream.proofs.MapLaws.{columns_kept}
use Rattle.rb_stream.proofs.epoch.OpenEpoch.map.Goals as goal

pub invariant_of-self : goal.invariant_of-self
invariant_of-self c = record { columns = columns_kept c.insert.result c.args.self.now.tables c.insert.new.self c.from.result c.args.table c.insert.ensures.updates c.insert.ensures.err c.requires c.args.self.now.columns }
