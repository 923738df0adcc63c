use Rattle.std.proofs.Common.{◌≡◌, ℕ, map}
use Rattle.std.specs.Prelude.{filter, nat_lt}
use Rattle.std.specs.VecDeque.{deque_len}
use Rattle.rb_bucket.specs.Bucket.{close_pairs, Rising}
use Rattle.rb_bucket.proofs.forget.forget_closes.Given as goal

-- the closed epochs rise, and all later ones are still there
abbrev pub invariant-loop : goal.invariant-loop
invariant-loop l = record {
  rising : (top : ℕ) × Rising top (map (λ close. close.0) (close_pairs l.closes.items));
  later : filter (λ close. nat_lt l.through close.0) (close_pairs l.closes.items) ≡ filter (λ close. nat_lt l.through close.0) (close_pairs l.fn.closes.items);
}

abbrev pub decreases-loop : goal.decreases-loop
decreases-loop l = deque_len l.closes
