use Rattle.std.proofs.Common.{sym, subst}
use Rattle.rb_nodes.specs.Net.{CanAcknowledge}
use Rattle.rb_cluster.proofs.EpochLaws.{can_acknowledge, turn_outcome}
use Rattle.rb_cluster.proofs.cluster.Cluster.following.Goals as goal

pub acknowledge-requires : goal.acknowledge-requires
acknowledge-requires c =
    let (seen, shape, run, held, turned) = c.requires.fits in
    record { ready = subst (CanAcknowledge c.args.rest.nodes) (sym c.written-written.ensures) (can_acknowledge c.args.rest c.args.turn.log seen shape run held turned) }

pub returns-clause-injected : goal.returns-clause-injected
returns-clause-injected c = λ seen shape run held turned counted.
    turn_outcome c.args.rest c.acknowledge.new.self c.args.turn.log c.args.turn.count c.written-written.result c.missing.result c.unwrap_or-missing.result seen shape run held turned counted c.written-written.ensures
    (λ b n holds. c.acknowledge.ensures.holds b n holds) (λ fed stands chained. c.missing.ensures fed stands chained) c.unwrap_or-missing.ensures
