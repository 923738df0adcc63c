-- The restart of an injector, which afterwards expects the epoch after the last logged one.
use Rattle.std.proofs.Common.{◌≡◌, ℕ, ◌<◌, ◌≤◌, Bool, true, false, cond, List, [], ◌∷◌, length, map, filter, refl, sym, ap, subst, ◌∙◌, inl, inr, arith, le-leb}
use Rattle.std.specs.Prelude.{◌⊎◌, nat_le, Option, Some, None, unwrap_or}
use Rattle.std.specs.List.{AllByRecursion, last_or}
use Rattle.std.specs.Option.{option_map_or}
use Rattle.std.proofs.lemmas.Bool.{lt-leb}
use Rattle.rb_base.specs.declared.message.Sent.{Sent}
use Rattle.rb_base.specs.declared.body.EpochBody.{EpochBody}
use Rattle.rb_journal_defs.specs.Journal.{Journal, closed_epochs}
use Rattle.rb_journal_defs.specs.Body.{Shape, body_of, has_something_to_log, numbers_below}
use Rattle.rb_journal_defs.specs.Order.{IsClosed}
use Rattle.rb_journal_defs.proofs.Order.{Rises, Among, closed_rise, among_closed, lt_or_le, upto}
use Rattle.rb_message_defs.specs.Nodes.{owner_in}
use Rattle.rb_message_defs.proofs.Messages.{all_below}
use Rattle.rb_play_defs.specs.Step.{Progress, last_epoch, last_written, sent_by_owners, sent_to_injector, injector_step, worth_logging}
use Rattle.rb_play_defs.specs.Sound.{IsOwn, IsSound}
use Rattle.rb_play_defs.proofs.Sounds.{sound_sent, again_own}
use Rattle.rb_play_defs.proofs.Takes.{written_is}

-- the epochs of bodies
epochs_of_bodies : (shape : Shape) (j : Journal) (es : List ℕ) → map (λ (body : EpochBody). body.epoch.0) (map (λ epoch. body_of shape epoch j) es) ≡ es
unfolding body_of
epochs_of_bodies shape j [] = refl
epochs_of_bodies shape j (e ∷ es) = ap (λ (xs : List ℕ). e ∷ xs) (epochs_of_bodies shape j es)

-- the last written epoch is the last one that has something to log, up to the last taken one
pub last_written_is : (shape : Shape) (run : Progress) → IsSound shape run → last_written shape run ≡ unwrap_or (last_or None (worth_logging shape run.journal (upto run.last run.journal))) 0
last_written_is shape run sound =
    ap last_epoch (written_is shape run sound)
    ∙ ap (λ (es : List ℕ). unwrap_or (last_or None es) 0) (epochs_of_bodies shape run.journal (worth_logging shape run.journal (upto run.last run.journal)))

-- the last of these numbers, or `before` if there is none
abbrev last_from : ℕ → List ℕ → ℕ
last_from before [] = before
last_from before (x ∷ xs) = last_from x xs

last_of_some : (x : ℕ) (xs : List ℕ) → unwrap_or (last_or (Some x) xs) 0 ≡ last_from x xs
last_of_some x [] = refl
last_of_some x (y ∷ xs) = last_of_some y xs

last_is : (xs : List ℕ) → unwrap_or (last_or None xs) 0 ≡ last_from 0 xs
last_is [] = refl
last_is (x ∷ xs) = last_of_some x xs

-- the last number, or `x`, is at least `x` if all numbers are
last_least : (x : ℕ) (xs : List ℕ) → AllByRecursion (λ y. x < y) xs → AllByRecursion (λ y. x ≤ y) xs → x ≤ last_from x xs
last_least x [] above all = omega arith
last_least x (y ∷ ys) above all = go x y ys all.0 all.1
  where
    go : (least y : ℕ) (ys : List ℕ) → least ≤ y → AllByRecursion (λ z. least ≤ z) ys → least ≤ last_from y ys
    go least y [] here all = here
    go least y (z ∷ ys) here all = go least z ys all.0 all.1

-- a number above `x` is at least `x`
no_less : (x : ℕ) (xs : List ℕ) → AllByRecursion (λ y. x < y) xs → AllByRecursion (λ y. x ≤ y) xs
no_less x [] all = tt
no_less x (y ∷ ys) all = (let l : x < y = all.0 in omega arith, no_less x ys all.1)

-- the numbers that pass a test are still above `x`
kept_above : (x : ℕ) (test : ℕ → Bool) (xs : List ℕ) → AllByRecursion (λ y. x < y) xs → AllByRecursion (λ y. x < y) (filter test xs)
kept_above x test [] all = tt
kept_above x test (y ∷ ys) all = go (test y) (kept_above x test ys all.1)
  where
    go : (b : Bool) → AllByRecursion (λ z. x < z) (filter test ys) → AllByRecursion (λ z. x < z) (cond b (y ∷ filter test ys) (filter test ys))
    go true rest = (all.0, rest)
    go false rest = rest

-- no number above a bound is at most that bound
none_upto : (bound : ℕ) (xs : List ℕ) → AllByRecursion (λ y. bound < y) xs → filter (λ x. nat_le x bound) xs ≡ []
none_upto bound [] all = refl
none_upto bound (x ∷ xs) all = rw (lt-leb x bound all.0) (none_upto bound xs all.1)

above_lower : (lower bound : ℕ) (xs : List ℕ) → lower < bound → AllByRecursion (λ y. bound < y) xs → AllByRecursion (λ y. lower < y) xs
above_lower lower bound [] below all = tt
above_lower lower bound (x ∷ xs) below all = (let l : bound < x = all.0 in omega arith, above_lower lower bound xs below all.1)

-- the numbers up to a limit that pass a test
abbrev passing_upto : (test : ℕ → Bool) (limit : ℕ) → List ℕ → List ℕ
passing_upto test limit xs = filter test (filter (λ y. nat_le y limit) xs)

-- in a rising list the passing numbers up to the last passing number up to a bound are those up to
-- that bound; the step for one more number at the front
one_before : (test : ℕ → Bool) (bound before x : ℕ) (xs : List ℕ) (b : Bool) → test x ≡ b → AllByRecursion (λ y. x < y) xs → passing_upto test (last_from x (passing_upto test bound xs)) xs ≡ passing_upto test bound xs → passing_upto test (last_from before (passing_upto test bound xs)) xs ≡ passing_upto test bound xs → passing_upto test (last_from before (cond b (x ∷ passing_upto test bound xs) (passing_upto test bound xs))) (x ∷ xs) ≡ cond b (x ∷ passing_upto test bound xs) (passing_upto test bound xs)
one_before test bound before x xs true is above from_x from_before =
    let later : List ℕ = passing_upto test bound xs in
    let above_x : AllByRecursion (λ y. x < y) later = kept_above x test (filter (λ y. nat_le y bound) xs) (kept_above x (λ y. nat_le y bound) xs above) in
    let reached : x ≤ last_from x later = last_least x later above_x (no_less x later above_x) in
    rw (le-leb x (last_from x later) reached) (rw is (ap (λ (ys : List ℕ). x ∷ ys) from_x))
one_before test bound before x xs false is above from_x from_before = dropped (nat_le x (last_from before (passing_upto test bound xs)))
  where
    dropped : (c : Bool) → filter test (cond c (x ∷ filter (λ y. nat_le y (last_from before (passing_upto test bound xs))) xs) (filter (λ y. nat_le y (last_from before (passing_upto test bound xs))) xs)) ≡ passing_upto test bound xs
    dropped true = rw is from_before
    dropped false = from_before

upto_last : (test : ℕ → Bool) (bound : ℕ) (xs : List ℕ) (top before : ℕ) → Rises top xs → AllByRecursion (λ y. before < y) xs → passing_upto test (last_from before (passing_upto test bound xs)) xs ≡ passing_upto test bound xs
upto_last test bound [] top before rises above = refl
upto_last test bound (x ∷ xs) top before rises above = go (lt_or_le bound x) (upto_last test bound xs top x rises.3 rises.2) (upto_last test bound xs top before rises.3 above.1)
  where
    go : (bound < x) ⊎ (x ≤ bound) → passing_upto test (last_from x (passing_upto test bound xs)) xs ≡ passing_upto test bound xs → passing_upto test (last_from before (passing_upto test bound xs)) xs ≡ passing_upto test bound xs → passing_upto test (last_from before (passing_upto test bound (x ∷ xs))) (x ∷ xs) ≡ passing_upto test bound (x ∷ xs)
    go (inl over) from_x from_before =
        let none : passing_upto test bound (x ∷ xs) ≡ [] = ap (filter test) (none_upto bound (x ∷ xs) (over, above_lower bound x xs over rises.2)) in
        subst (λ (ys : List ℕ). passing_upto test (last_from before ys) (x ∷ xs) ≡ ys) (sym none) (ap (filter test) (none_upto before (x ∷ xs) above))
    go (inr within) from_x from_before =
        let some : passing_upto test bound (x ∷ xs) ≡ cond (test x) (x ∷ passing_upto test bound xs) (passing_upto test bound xs) = rw (le-leb x bound within) refl in
        subst (λ (ys : List ℕ). passing_upto test (last_from before ys) (x ∷ xs) ≡ ys) (sym some) (one_before test bound before x xs (test x) refl rises.2 from_x from_before)

-- rising numbers are above 0
all_positive : (top : ℕ) (xs : List ℕ) → Rises top xs → AllByRecursion (λ y. 0 < y) xs
all_positive top [] rises = tt
all_positive top (x ∷ xs) rises = (rises.0, all_positive top xs rises.3)

-- the last number of a list, or `before`, is `before` or is in the list
last_among : (before : ℕ) (xs : List ℕ) → (last_from before xs ≡ before) ⊎ Among (last_from before xs) xs
last_among before [] = inl refl
last_among before (x ∷ xs) = go (last_among x xs)
  where
    go : (last_from x xs ≡ x) ⊎ Among (last_from x xs) xs → (last_from x xs ≡ before) ⊎ Among (last_from x xs) (x ∷ xs)
    go (inl same) = inr (inl (sym same))
    go (inr there) = inr (inr there)

among_kept : (e : ℕ) (test : ℕ → Bool) (xs : List ℕ) → Among e (filter test xs) → Among e xs
among_kept e test [] there = there
among_kept e test (x ∷ xs) there = go (test x) there (among_kept e test xs)
  where
    go : (b : Bool) → Among e (cond b (x ∷ filter test xs) (filter test xs)) → (Among e (filter test xs) → Among e xs) → Among e (x ∷ xs)
    go true (inl same) more = inl same
    go true (inr later) more = inr (more later)
    go false later more = inr (more later)

-- a site whose event buffer is empty and whose last taken epoch is the last written one stays sound
sound_again : (shape : Shape) (run : Progress) → IsSound shape run → IsSound shape (record run { received = []; last = last_written shape run })
sound_again shape run sound =
    let test : ℕ → Bool = λ epoch. has_something_to_log (body_of shape epoch run.journal) in
    let rises : Rises run.opened (closed_epochs run.journal) = closed_rise run.opened run.journal sound.order in
    let logged : List ℕ = passing_upto test run.last (closed_epochs run.journal) in
    let is : last_written shape run ≡ last_from 0 logged = last_written_is shape run sound ∙ last_is logged in
    let closed : (last_from 0 logged ≡ 0) ⊎ Among (last_from 0 logged) logged = last_among 0 logged in
    record {
      order = sound.order;
      near = sound.near;
      authored = sound.authored;
      some = sound.some;
      sent = sound.sent;
      received = tt;
      last = subst (λ (e : ℕ). (e ≡ 0) ⊎ IsClosed e run.journal) (sym is) (known closed);
      nodes = sound.nodes;
      written = sound.written ∙ ap length (sym (subst (λ (e : ℕ). passing_upto test e (closed_epochs run.journal) ≡ logged) (sym is) (upto_last test run.last (closed_epochs run.journal) run.opened 0 rises (all_positive run.opened (closed_epochs run.journal) rises))));
    }
  where
    known : (last_from 0 (passing_upto (λ epoch. has_something_to_log (body_of shape epoch run.journal)) run.last (closed_epochs run.journal)) ≡ 0) ⊎ Among (last_from 0 (passing_upto (λ epoch. has_something_to_log (body_of shape epoch run.journal)) run.last (closed_epochs run.journal))) (passing_upto (λ epoch. has_something_to_log (body_of shape epoch run.journal)) run.last (closed_epochs run.journal)) → (last_from 0 (passing_upto (λ epoch. has_something_to_log (body_of shape epoch run.journal)) run.last (closed_epochs run.journal)) ≡ 0) ⊎ IsClosed (last_from 0 (passing_upto (λ epoch. has_something_to_log (body_of shape epoch run.journal)) run.last (closed_epochs run.journal))) run.journal
    known (inl none) = inl none
    known (inr there) = inr (among_closed _ run.journal (among_kept _ (λ e. nat_le e run.last) (closed_epochs run.journal) (among_kept _ (λ epoch. has_something_to_log (body_of shape epoch run.journal)) (filter (λ e. nat_le e run.last) (closed_epochs run.journal)) there)))

-- the messages that owners send to a new injector are the journal's
sent_to_own : (shape : Shape) (run : Progress) (lost : Option (ℕ × ℕ)) → AllByRecursion (λ (s : Sent). IsOwn shape run.journal s.message) (option_map_or (λ loss. []) lost (sent_by_owners shape run))
sent_to_own shape run None = again_own shape run (owner_in run.nodes) (numbers_below shape.buckets) (all_below shape.buckets (λ k below. below))
sent_to_own shape run (Some loss) = tt

-- the site stays sound after a restart of the injector
pub sound_injector : (shape : Shape) (run : Progress) → IsSound shape run → IsSound shape (injector_step shape run).run
unfolding injector_step
sound_injector shape run sound =
    sound_sent shape (record run { received = []; last = last_written shape run }) (sent_to_injector shape run) (sound_again shape run sound) (sent_to_own shape run run.lost)
