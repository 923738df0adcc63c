use Rattle.std.proofs.Common.{◌≡◌, ℕ}
use Rattle.std.specs.Prelude.{filter, nat_lt}
use Rattle.std.specs.VecDeque.{deque_len}
use Rattle.rb_bucket.specs.Bucket.{Rising}
use Rattle.rb_group.specs.Nodes.{epoch_numbers}
use Rattle.rb_group.proofs.closed.forget_closed.Given as goal

-- the epochs rise, and all later ones are still there
abbrev pub invariant-loop : goal.invariant-loop
invariant-loop l = record {
  rising : (top : ℕ) × Rising top (epoch_numbers l.closed.items);
  later : filter (nat_lt l.through) (epoch_numbers l.closed.items) ≡ filter (nat_lt l.through) (epoch_numbers l.fn.closed.items);
}

abbrev pub decreases-loop : goal.decreases-loop
decreases-loop l = deque_len l.closed
