use Rattle.std.proofs.Common.{◌≡◌, take}
use Rattle.std.specs.Prelude.{count_by}
use Rattle.rb_log_defs.specs.Index.{is_insert, is_update, is_remove}
use Rattle.rb_inject.proofs.row.counts_of.Given as goal

-- the changes so far are counted by their kind
abbrev pub invariant-loop-change : goal.invariant-loop-change
invariant-loop-change l = record {
  inserts : l.counts.inserts ≡ count_by (λ change. is_insert change.kind) (take l.change-index l.changes);
  updates : l.counts.updates ≡ count_by (λ change. is_update change.kind) (take l.change-index l.changes);
  deletes : l.counts.deletes ≡ count_by (λ change. is_remove change.kind) (take l.change-index l.changes);
}
