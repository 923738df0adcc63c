use Rattle.std.proofs.Common.{refl}
use Rattle.rb_nodes.proofs.GroupLaws.{can_restart, restart_below, restart_answered, restart_refusal}
use Rattle.rb_nodes.proofs.nodes.Nodes.restart.Goals as goal

pub restart-requires : goal.restart-requires
restart-requires c = record { ready = can_restart c.args.self.now c.args.node _ c.index_mut.result.now c.requires.ready refl c.index_mut.ensures.value }

pub returns-clause-restarted : goal.returns-clause-restarted
returns-clause-restarted c = restart_answered c.restart.result c.args.self.now _ c.args.node _ c.index_mut.result.now c.restart.new.self (restart_below _ _ c.requires.ready) refl c.index_mut.ensures.value refl refl refl c.restart.ensures.restarted

pub returns-clause-refused : goal.returns-clause-refused
returns-clause-refused c = restart_refusal c.restart.result c.args.self.now _ c.args.node _ c.index_mut.result.now c.restart.new.self (restart_below _ _ c.requires.ready) refl c.index_mut.ensures.value refl refl refl c.restart.ensures.refused
