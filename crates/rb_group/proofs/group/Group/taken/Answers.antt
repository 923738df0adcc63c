use Rattle.std.proofs.Common.{◌≡◌, ◌+◌, ◌++◌, [], List, ℕ, length, filter, sym, ap, ◌∙◌, arith}
use Rattle.std.specs.Prelude.{◌==◌, if◌then◌else◌}
use Rattle.std.specs.List.{flat_map}
use Rattle.rb_base.specs.declared.message.Sent.{Sent}
use Rattle.rb_group.specs.Nodes.{again_of, owner_of, numbers_from}
use Rattle.rb_group.proofs.Lists.{flat_filter_more}
use Rattle.rb_group.proofs.Steps.{one_of, successor_is_in}
use Rattle.rb_group.proofs.group.Group.taken.Goals as goal

pub push_if_owned-requires : goal.push_if_owned-requires
push_if_owned-requires c =
    let ready = c.requires.ready in
    record { ready = (ready.0, ready.1, successor_is_in ready.0 c.args.node c.args.successor ready.3, one_of c.args.self.now ready.0 c.loop-index.index ready.1 (omega (arith, c.loop-index-test.true, c.len-index-end.ensures, c.args.self.now.owners.ok.0)), ready.4) }

pub loop-index-preserved : goal.loop-index-preserved
loop-index-preserved c =
    c.in_ok-push_if_owned.ensures
    ∙ ap (λ (ss : List Sent). ss ++ (if owner_of c.args.self.now (c.args.self.now.first + c.loop-index.index) == c.args.node then again_of c.args.self.now c.args.successor (c.args.self.now.first + c.loop-index.index) else [])) c.loop-index.invariant
    ∙ sym (flat_filter_more (again_of c.args.self.now c.args.successor) (λ bucket. owner_of c.args.self.now bucket == c.args.node) c.args.self.now.first c.loop-index.index)

pub returns : goal.returns
returns c = c.loop-index.invariant ∙ (let all : c.loop-index.index ≡ length c.args.self.now.owners.items = omega (arith, c.loop-index-test.false, c.loop-index.auto.index-end, c.len-index-end.ensures, c.args.self.now.owners.ok.0) in
    ap (λ (n : ℕ). flat_map (again_of c.args.self.now c.args.successor) (filter (λ bucket. owner_of c.args.self.now bucket == c.args.node) (numbers_from c.args.self.now.first n))) all)
