use Rattle.std.proofs.Common.{◌≡◌, ◌∙◌, arith, length}
use Rattle.std.specs.Ordering.{nat_cmp}
use Rattle.std.specs.BTreeMap as tree
use Rattle.rb_evbuf.proofs.Places.{missing_some, missing_none}
use Rattle.rb_evbuf.proofs.gathered.Gathered.missing.Goals as goal

pub returns-then-places-count : goal.returns-then-places-count
returns-then-places-count c =
    let size : c.len-places.result ≡ length c.args.self.now.front.items = c.len-places.ensures ∙ c.args.self.now.front.ok.0 in
    λ gapless. rw (size, c.in-Some.is) (missing_some c.args.bucket c.args.self.now.front.items (tree.get nat_cmp c.args.self.now.ahead) c.in-Some.count gapless (let h = c.if-places-count.true in omega arith))

pub returns-else-places-count : goal.returns-else-places-count
returns-else-places-count c =
    let size : c.len-places.result ≡ length c.args.self.now.front.items = c.len-places.ensures ∙ c.args.self.now.front.ok.0 in
    λ gapless. rw (c.in-Some.is) (missing_none c.args.bucket c.args.self.now.front.items (tree.get nat_cmp c.args.self.now.ahead) c.in-Some.count gapless (let h = c.if-places-count.false in omega arith))
