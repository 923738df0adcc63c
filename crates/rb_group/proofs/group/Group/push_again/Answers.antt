use Rattle.std.proofs.Common.{subst, sym, arith}
use Rattle.std.specs.Prelude.{Option, Some}
use Rattle.rb_bucket.specs.declared.bucket.BucketBuffer.{BucketBuffer}
use Rattle.rb_group.specs.Kept.{HoldsNode, since_in}
use Rattle.rb_group.proofs.Covering.{within, of_bucket}
use Rattle.rb_group.proofs.Standing.{held_node}
use Rattle.rb_group.proofs.group.Group.push_again.Goals as goal

pub messages-requires-clause-bucket : goal.messages-requires-clause-bucket
messages-requires-clause-bucket c =
    let ready = c.requires.ready in
    let holds : HoldsNode (Some c.in-Some.buffer.now) (since_in ready.0 c.args.sender) ready.0 = subst (λ (o : Option BucketBuffer). HoldsNode o (since_in ready.0 c.args.sender) ready.0) (sym c.in-Some.ensures) (held_node c.args.self.now ready.0 c.args.sender ready.1 ready.2) in
    of_bucket c.in-Some.buffer.now (since_in ready.0 c.args.sender) ready.0 c.args.bucket holds ready.3

pub messages-requires-clause-fits : goal.messages-requires-clause-fits
messages-requires-clause-fits c =
    let ready = c.requires.ready in
    let holds : HoldsNode (Some c.in-Some.buffer.now) (since_in ready.0 c.args.sender) ready.0 = subst (λ (o : Option BucketBuffer). HoldsNode o (since_in ready.0 c.args.sender) ready.0) (sym c.in-Some.ensures) (held_node c.args.self.now ready.0 c.args.sender ready.1 ready.2) in
    (λ e. let low = within c.in-Some.buffer.now (since_in ready.0 c.args.sender) ready.0 e c.args.bucket holds in
    let few = ready.4 e c.args.bucket in
    omega arith)
