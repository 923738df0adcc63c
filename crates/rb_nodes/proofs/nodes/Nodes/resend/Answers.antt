use Rattle.std.proofs.Common.{◌∙◌, ap, arith, get_or, List}
use Rattle.rb_group.specs.declared.group.Group.{Group}
use Rattle.rb_nodes.proofs.SweepLaws.{can_resend, resend_here}
use Rattle.rb_nodes.proofs.nodes.Nodes.resend.Goals as goal

pub resend-requires : goal.resend-requires
resend-requires c = record { ready = can_resend c.args.self.now c.loop-group.group-index c.group-item.result c.requires.ready (omega (arith, c.loop-group-test.true, c.deref-group-items.ensures.len)) (c.group-item.is ∙ ap (λ (groups : List Group). get_or groups c.loop-group.group-index c.group-item.result) c.deref-group-items.ensures.value) }

pub loop-group-preserved : goal.loop-group-preserved
loop-group-preserved c = record {
  told = λ buckets site held. resend_here c.args.self.now buckets site c.loop-group.group-index c.group-item.result _ _ _ held (omega (arith, c.loop-group-test.true, c.deref-group-items.ensures.len)) (c.group-item.is ∙ ap (λ (groups : List Group). get_or groups c.loop-group.group-index c.group-item.result) c.deref-group-items.ensures.value)
      c.in_ok-resend.ensures (c.loop-group.invariant.told buckets site held) c.in_ok-append.ensures;
}
