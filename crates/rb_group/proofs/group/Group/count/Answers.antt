use Rattle.std.proofs.Common.{◌^◌, ◌<◌, ℕ, length, subst, sym, arith}
use Rattle.std.specs.Prelude.{Option, Some}
use Rattle.rb_bucket.specs.declared.bucket.BucketBuffer.{BucketBuffer}
use Rattle.rb_group.specs.Kept.{HoldsNode, since_in}
use Rattle.rb_group.proofs.Covering.{within, of_bucket}
use Rattle.rb_group.proofs.Standing.{held_node}
use Rattle.rb_group.proofs.group.Group.count.Goals as goal

pub count-requires-clause-bucket : goal.count-requires-clause-bucket
count-requires-clause-bucket c =
    let ready = c.requires.ready in
    let holds : HoldsNode (Some c.in-Some.buffer.now) (since_in ready.0 c.args.node) ready.0 = subst (λ (o : Option BucketBuffer). HoldsNode o (since_in ready.0 c.args.node) ready.0) (sym c.in-Some.ensures) (held_node c.args.self.now ready.0 c.args.node ready.1 ready.2) in
    of_bucket c.in-Some.buffer.now (since_in ready.0 c.args.node) ready.0 c.args.bucket holds ready.3

pub count-requires-clause-fits : goal.count-requires-clause-fits
count-requires-clause-fits c =
    let ready = c.requires.ready in
    let holds : HoldsNode (Some c.in-Some.buffer.now) (since_in ready.0 c.args.node) ready.0 = subst (λ (o : Option BucketBuffer). HoldsNode o (since_in ready.0 c.args.node) ready.0) (sym c.in-Some.ensures) (held_node c.args.self.now ready.0 c.args.node ready.1 ready.2) in
    (let low = within c.in-Some.buffer.now (since_in ready.0 c.args.node) ready.0 c.args.self.now.opened.0 c.args.bucket holds in
    let few : length (ready.0.changes c.args.self.now.opened.0 c.args.bucket) < 2 ^ 32 = subst (λ (e : ℕ). length (ready.0.changes e c.args.bucket) < 2 ^ 32) (sym ready.1.opened) ready.4 in
    omega arith)
