use Rattle.std.proofs.Common.{◌^◌, ◌<◌, List, length, subst, sym, arith}
use Rattle.rb_base.specs.declared.change.Change.{Change}
use Rattle.rb_bucket.proofs.Resending.{found, one_closed, none_open, one_open}
use Rattle.rb_bucket.proofs.bucket.BucketBuffer.messages.Goals as goal

pub push_closed-requires : goal.push_closed-requires
push_closed-requires c =
    subst (λ (changes : List Change). length changes < 2 ^ 32)
    (sym (found c.args.self.now c.args.bucket c.index-close.result.now.epoch.0 c.index-epochs.result.now c.changes_of-changes.result.now c.requires.bucket c.index-epochs.ensures c.changes_of-changes.ensures))
    (c.requires.fits c.index-close.result.now.epoch.0)

pub loop-index-preserved : goal.loop-index-preserved
loop-index-preserved c =
    one_closed c.args.self.now c.args.bucket c.loop-index.index c.index-close.result.now c.changes_of-changes.result.now c.loop-index.messages c.push_closed.new.messages
    (omega arith) c.index-close.ensures
    (found c.args.self.now c.args.bucket c.index-close.result.now.epoch.0 c.index-epochs.result.now c.changes_of-changes.result.now c.requires.bucket c.index-epochs.ensures c.changes_of-changes.ensures)
    c.loop-index.invariant c.in_ok-push_closed.ensures

pub returns-in_default : goal.returns-in_default
returns-in_default c = none_open c.args.self.now c.args.bucket c.loop-index.index c.loop-index.messages (omega arith) c.in_default.not-Some c.loop-index.invariant

pub push_parts-requires : goal.push_parts-requires
push_parts-requires c =
    subst (λ (changes : List Change). length changes < 2 ^ 32)
    (sym (found c.args.self.now c.args.bucket c.in-Some.epoch.0 c.index-epochs.result.now c.changes_of-changes-2.result.now c.requires.bucket c.index-epochs.ensures c.changes_of-changes-2.ensures))
    (c.requires.fits c.in-Some.epoch.0)

pub returns : goal.returns
returns c =
    one_open c.args.self.now c.args.bucket c.loop-index.index c.in-Some.epoch c.changes_of-changes-2.result.now c.loop-index.messages c.push_parts.new.messages
    (omega arith) c.in-Some.is
    (found c.args.self.now c.args.bucket c.in-Some.epoch.0 c.index-epochs.result.now c.changes_of-changes-2.result.now c.requires.bucket c.index-epochs.ensures c.changes_of-changes-2.ensures)
    c.loop-index.invariant c.in_ok-push_parts.ensures
