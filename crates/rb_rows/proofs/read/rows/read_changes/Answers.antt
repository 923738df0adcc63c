use Rattle.std.proofs.Common.{ap, refl, rules, ◌∙◌}
use Rattle.rb_rows.specs.Rows.{change_in}
use Rattle.rb_rows.proofs.RowLaws.{no_items, next_item}
use Rattle.rb_rows.proofs.read.rows.read_changes.Goals as goal

pub loop-alloc-init : goal.loop-alloc-init
loop-alloc-init c = record {
  part = no_items (change_in c.args.kind c.args.server c.args.table.now c.args.transid) c.args.fields.now.bytes.now c.args.fields.now.at c.new-changes.result c.new-changes.ensures;
  bytes = refl;
}

pub loop-alloc-preserved : goal.loop-alloc-preserved
loop-alloc-preserved c = record {
  part = next_item (change_in c.args.kind c.args.server c.args.table.now c.args.transid) c.args.fields.now.bytes.now c.loop-alloc.fields.bytes.now c.args.fields.now.at c.loop-alloc.changes c.push.new.self c.loop-alloc.fields.at c.read_change.new.fields.at c.in_ok-read_change.field-0
      (ap (λ b. b.now) c.loop-alloc.invariant.bytes) (search rules) c.in_ok-read_change.ensures.later (c.in_ok-read_change.ensures.gives (λ e. absurd cc)) c.in_ok-push.ensures.ok c.loop-alloc.invariant.part;
  bytes = c.read_change.ensures.bytes ∙ c.loop-alloc.invariant.bytes;
}
