-- Closed epochs that rise, and those after an epoch.
use Rattle.std.proofs.Common.{◌≡◌, ℕ, ◌<◌, List, [], ◌∷◌, map, get_or, refl, subst, ap, arith}
use Rattle.std.specs.Prelude.{nat_lt, filter}
use Rattle.std.proofs.lemmas.Bool.{lt-ltb}
use Rattle.rb_bucket.specs.declared.bucket.Close.{Close}
use Rattle.rb_bucket.specs.Bucket.{Rising, close_pairs}

-- if the first of rising epochs is after an epoch, all are
all_after : (top through : ℕ) (close : ℕ × ℕ) (closes : List (ℕ × ℕ)) → Rising top (map (λ close. close.0) (close ∷ closes)) → through < close.0 →
    close ∷ closes ≡ filter (λ (close : ℕ × ℕ). nat_lt through close.0) (close ∷ closes)
all_after top through close [] rising later = rw (lt-ltb through close.0 later) refl
all_after top through close (next ∷ closes) rising later =
    rw (lt-ltb through close.0 later) (ap (λ (rest : List (ℕ × ℕ)). close ∷ rest) (all_after top through next closes rising.2 (omega (arith, later, rising.1.0))))

-- the same of closes, whose first is read
pub all_stay : (top through : ℕ) (first : Close) (closes : List Close) → first ≡ get_or closes 0 first → Rising top (map (λ close. close.0) (close_pairs closes)) → through < first.epoch.0 →
    close_pairs closes ≡ filter (λ (close : ℕ × ℕ). nat_lt through close.0) (close_pairs closes)
all_stay top through first [] is rising later = refl
all_stay top through first (close ∷ closes) is rising later =
    all_after top through (close.epoch.0, close.prev.0) (close_pairs closes) rising (subst (λ (c : Close). through < c.epoch.0) is later)
