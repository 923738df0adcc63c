use Rattle.std.proofs.Common.{refl}
use Rattle.rb_nodes.proofs.GroupLaws.{can_fail, fail_below, fail_answered, fail_refusal}
use Rattle.rb_nodes.proofs.nodes.Nodes.fail.Goals as goal

pub fail-requires : goal.fail-requires
fail-requires c = record { ready = can_fail c.args.self.now c.args.node _ c.index_mut.result.now c.requires.ready refl c.index_mut.ensures.value }

pub returns-clause-failed : goal.returns-clause-failed
returns-clause-failed c = fail_answered c.fail.result c.args.self.now _ c.args.node _ c.index_mut.result.now c.fail.new.self (fail_below _ _ c.requires.ready) refl c.index_mut.ensures.value refl refl refl c.fail.ensures.failed c.fail.ensures.up

pub returns-clause-refused : goal.returns-clause-refused
returns-clause-refused c = fail_refusal c.fail.result c.args.self.now _ c.args.node _ c.index_mut.result.now c.fail.new.self (fail_below _ _ c.requires.ready) refl c.index_mut.ensures.value refl refl refl c.fail.ensures.refused
