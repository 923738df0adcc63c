-- What follows at a point of a run: its changes can be counted, the owners cover, and its epochs
-- have 64 bits.
use Rattle.std.proofs.Common.{ℕ, sym, subst, arith}
use Rattle.rb_journal_defs.specs.Body.{Shape}
use Rattle.rb_journal_defs.proofs.Counts.{epoch_length, own_and_applied}
use Rattle.rb_play_defs.specs.Step.{Progress, needed_of}
use Rattle.rb_play_defs.specs.Sound.{AllCovered}
use Rattle.rb_nodes.specs.Nodes.{OwnersCover, CanCount}
use Rattle.rb_play_defs.specs.Point.{IsPoint}
use Rattle.rb_cluster.specs.Net.{buffered_by}
use Rattle.rb_cluster.proofs.ShareLaws.{needed_share}

-- the changes of each epoch can be counted
pub can_count : (shape : Shape) (run : Progress) → IsPoint shape run → CanCount (buffered_by shape run)
can_count shape run point epoch =
    omega (arith, epoch_length shape.site epoch run.journal, own_and_applied shape.site run.journal, point.few, point.few_applied)

-- the owners cover at the nodes if they cover in the run
pub cover_at_nodes : (shape : Shape) (run : Progress) → AllCovered shape.buckets (needed_of run) run.nodes → OwnersCover shape.buckets (buffered_by shape run)
cover_at_nodes shape run all = subst (λ (needed : ℕ). AllCovered shape.buckets needed run.nodes) (sym (needed_share shape run 0)) all
