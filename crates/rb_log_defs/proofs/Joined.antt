-- Events that are written one after another, and the events that remain.
use Rattle.std.proofs.Common.{◌≡◌, ◌≤◌, ℕ, ◌+◌, List, [], ◌∷◌, ◌++◌, length, refl, ap, sym, arith, ◌∙◌, append_assoc, append-nil, length-append}
use Rattle.std.proofs.lemmas.Grind.{common_steps}
use Rattle.rb_log_defs.specs.Event.{Placed}
use Rattle.rb_log_defs.specs.Epoch.{joined_from}

-- `written` is a prefix of the bytes `total`, which begin at position `start`, and the events
-- `left` give the remaining bytes
pub record IsLeft (start : ℕ) (written : List ℕ) (left : List Placed) (total : List ℕ) : Type 0 where
  pub same : written ++ joined_from (start + length written) left ≡ total

-- the bytes of two lists of events, joined, are the bytes of the first and then those of the second
pub joined_append : (start : ℕ) (events later : List Placed) →
    joined_from start (events ++ later) ≡ joined_from start events ++ joined_from (start + length (joined_from start events)) later
joined_append start [] later = grind (arith, common_steps)
joined_append start (event ∷ events) later =
    let inner : joined_from (start + length (event start)) (events ++ later) ≡ joined_from (start + length (event start)) events ++ joined_from (start + length (event start) + length (joined_from (start + length (event start)) events)) later
    = joined_append (start + length (event start)) events later in
    let place : start + length (event start) + length (joined_from (start + length (event start)) events) ≡ start + length (event start ++ joined_from (start + length (event start)) events)
    = omega (arith, length-append (event start) (joined_from (start + length (event start)) events)) in
    rw (inner, place, append_assoc) refl

-- one more event is written
pub one_written : (start : ℕ) (written : List ℕ) (event : Placed) (left : List Placed) (total : List ℕ) →
    IsLeft start written (event ∷ left) total → IsLeft start (written ++ event (start + length written)) left total
one_written start written event left total before =
    let place : start + length (written ++ event (start + length written)) ≡ start + length written + length (event (start + length written))
    = omega (arith, length-append written (event (start + length written))) in
    record { same = rw (place, append_assoc) before.same }

-- several more events are written
pub more_written : (start : ℕ) (written : List ℕ) (events left : List Placed) (total : List ℕ) →
    IsLeft start written (events ++ left) total → IsLeft start (written ++ joined_from (start + length written) events) left total
more_written start written events left total before =
    let place : start + length (written ++ joined_from (start + length written) events) ≡ start + length written + length (joined_from (start + length written) events)
    = omega (arith, length-append written (joined_from (start + length written) events)) in
    record { same = rw (place, append_assoc, ← joined_append (start + length written) events left) before.same }

-- no event remains
pub all_written : (start : ℕ) (written total : List ℕ) → IsLeft start written [] total → written ≡ total
all_written start written total before = sym (append-nil written) ∙ before.same

-- the next event ends within `total`
pub one_fits : (start : ℕ) (written : List ℕ) (event : Placed) (left : List Placed) (total : List ℕ) →
    IsLeft start written (event ∷ left) total → length written + length (event (start + length written)) ≤ length total
one_fits start written event left total before =
    omega (arith, simp length-append at (ap length before.same))

-- the next events end within `total`
pub more_fits : (start : ℕ) (written : List ℕ) (events left : List Placed) (total : List ℕ) →
    IsLeft start written (events ++ left) total → length written + length (joined_from (start + length written) events) ≤ length total
more_fits start written events left total before =
    let same : written ++ (joined_from (start + length written) events ++ joined_from (start + length written + length (joined_from (start + length written) events)) left) ≡ total
    = rw (← joined_append (start + length written) events left) before.same in
    omega (arith, simp length-append at (ap length same))
