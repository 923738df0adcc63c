use Rattle.std.proofs.Common.{ap, refl, rules, ◌∙◌}
use Rattle.rb_rows.specs.Rows.{status}
use Rattle.rb_rows.proofs.RowLaws.{no_items, next_item}
use Rattle.rb_rows.proofs.read.status.read_status_rows.Goals as goal

pub loop-alloc-init : goal.loop-alloc-init
loop-alloc-init c = record {
  part = no_items (status c.args.table.now) c.args.fields.now.bytes.now c.args.fields.now.at c.new-rows.result c.new-rows.ensures;
  bytes = refl;
}

pub loop-alloc-preserved : goal.loop-alloc-preserved
loop-alloc-preserved c = record {
  part = next_item (status c.args.table.now) c.args.fields.now.bytes.now c.loop-alloc.fields.bytes.now c.args.fields.now.at c.loop-alloc.rows c.push.new.self c.loop-alloc.fields.at c.read_status_row.new.fields.at c.in_ok-read_status_row.field-0
      (ap (λ b. b.now) c.loop-alloc.invariant.bytes) (search rules) c.in_ok-read_status_row.ensures.later (c.in_ok-read_status_row.ensures.gives (λ e. absurd cc)) c.in_ok-push.ensures.ok c.loop-alloc.invariant.part;
  bytes = c.read_status_row.ensures.bytes ∙ c.loop-alloc.invariant.bytes;
}
