-- The epoch that an event buffer assembles from messages of one journal: the next closed epoch,
-- with the parts of the journal.
use Rattle.std.proofs.Common.{◌≡◌, ℕ, zero, suc, ◌<◌, ◌≤◌, Bool, true, false, cond, List, [], ◌∷◌, ◌++◌, length, map, take, refl, sym, ap, subst, ◌∙◌, inl, inr, arith, eqb-true, eq-eqb}
use Rattle.std.specs.Prelude.{◌⊎◌, ◌==◌, ◌&&◌, Option, Some, None, is_none, is_some, if◌then◌else◌}
use Rattle.std.specs.List.{AllByRecursion, slice_get, filter_map, cons_option, list_all, find, take_while}
use Rattle.std.specs.Option.{option_map, option_map_or, option_or, option_and_then}
use Rattle.std.proofs.lemmas.List.{take_all, map-append}
use Rattle.std.proofs.lemmas.List.Sums.{take_while-cons}
use Rattle.std.proofs.lemmas.List.Elements.{filter_map-append}
use Rattle.rb_base.specs.declared.change.Change.{Change}
use Rattle.rb_base.specs.declared.message.Message.{Message}
use Rattle.rb_base.specs.declared.message.Message.TheVariants.{Part, Done}
use Rattle.rb_journal_defs.specs.Journal.{Journal, previous_closed}
use Rattle.rb_journal_defs.specs.Body.{Shape, part_of, numbers_below}
use Rattle.rb_journal_defs.specs.Order.{InOrder, IsClosed}
use Rattle.rb_journal_defs.specs.Transaction.{first_of}
use Rattle.rb_journal_defs.proofs.Order.{following, after_more, first_after, previous_of_first}
use Rattle.rb_message_defs.specs.declared.answers.Assembled.{Assembled}
use Rattle.rb_message_defs.specs.Received.{Fed, change_for, count_for, part_in, count_in, missing_below, missing_of_bucket, is_whole, epoch_following, next_epoch, part_received, assembly, assembled_of}
use Rattle.rb_message_defs.specs.Taken.{taken_epochs}
use Rattle.rb_message_defs.proofs.Messages.{IsSentOf}

some_injective : {X : Type 0} (x y : X) → Some x ≡ Some y → x ≡ y
some_injective x y same = cc

-- the epoch of a journal's Done whose previous epoch is `last` is the first closed epoch above
-- `last`
after_is_first : (shape : Shape) (o last e : ℕ) (j : Journal) (m : Message) → InOrder o j → IsSentOf shape j m → epoch_following last m ≡ Some e → first_of (following last j) ≡ Some e
after_is_first shape o last e j (Part bucket epoch place change) h sent same = absurd (let g : None ≡ Some e = same in cc)
after_is_first shape o last e j (Done bucket epoch prev count) h sent same = go (prev.0 == last) refl same
  where
    go : (b : Bool) → (prev.0 == last) ≡ b → cond b (Some epoch.0) None ≡ Some e → first_of (following last j) ≡ Some e
    go false q same = absurd (let g : None ≡ Some e = same in cc)
    go true q same =
        let p : prev.0 ≡ last = eqb-true prev.0 last q in
        let first : first_of (following last j) ≡ Some epoch.0 = first_after o epoch.0 last j h sent.1.0 (sym sent.1.1 ∙ p) in
        first ∙ same

-- the next epoch is the first closed one above the last taken one
next_is_first : (shape : Shape) (o last e : ℕ) (j : Journal) (received : List Message) → InOrder o j → AllByRecursion (IsSentOf shape j) received → first_of (filter_map (epoch_following last) received) ≡ Some e → first_of (following last j) ≡ Some e
next_is_first shape o last e j [] h all same = absurd (let g : None ≡ Some e = same in cc)
next_is_first shape o last e j (m ∷ ms) h all same = go (epoch_following last m) refl same (λ later. next_is_first shape o last e j ms h all.1 later)
  where
    go : (x : Option ℕ) → epoch_following last m ≡ x → first_of (cons_option x (filter_map (epoch_following last) ms)) ≡ Some e → (first_of (filter_map (epoch_following last) ms) ≡ Some e → first_of (following last j) ≡ Some e) → first_of (following last j) ≡ Some e
    go None q same more = more same
    go (Some f) q same more = after_is_first shape o last e j m h all.0 (q ∙ same)

-- the number of changes that was received is the one of the journal
pub count_is : (shape : Shape) (e b c : ℕ) (j : Journal) (received : List Message) → AllByRecursion (IsSentOf shape j) received → count_in received e b ≡ Some c → c ≡ length (part_of shape e b j)
count_is shape e b c j [] all same = absurd (let g : None ≡ Some c = same in cc)
count_is shape e b c j (m ∷ ms) all same = go (count_in ms e b) refl same (λ later. count_is shape e b c j ms all.1 later)
  where
    here : (m : Message) → IsSentOf shape j m → count_for e b m ≡ Some c → c ≡ length (part_of shape e b j)
    here (Part bucket epoch place change) sent same = absurd (let g : None ≡ Some c = same in cc)
    here (Done bucket epoch prev count) sent same = own (epoch.0 == e) (bucket == b) refl refl same
      where
        own : (x y : Bool) → (epoch.0 == e) ≡ x → (bucket == b) ≡ y → cond (x && y) (Some count) None ≡ Some c → c ≡ length (part_of shape e b j)
        own true true p q same =
            let ee : epoch.0 ≡ e = eqb-true epoch.0 e p in
            let bb : bucket ≡ b = eqb-true bucket b q in
            sym (some_injective count c same) ∙ sent.1.2 ∙ ap (λ (n : ℕ). length (part_of shape n bucket j)) ee ∙ ap (λ (n : ℕ). length (part_of shape e n j)) bb
        own true false p q same = absurd (let g : None ≡ Some c = same in cc)
        own false true p q same = absurd (let g : None ≡ Some c = same in cc)
        own false false p q same = absurd (let g : None ≡ Some c = same in cc)

    go : (x : Option ℕ) → count_in ms e b ≡ x → option_or x (count_for e b m) ≡ Some c → (count_in ms e b ≡ Some c → c ≡ length (part_of shape e b j)) → c ≡ length (part_of shape e b j)
    go None q same more = here m all.0 same
    go (Some d) q same more = more (q ∙ same)

-- a change that was received is the one of the journal
pub part_is : (shape : Shape) (e b p : ℕ) (change : Change) (j : Journal) (received : List Message) → AllByRecursion (IsSentOf shape j) received → part_in received e b p ≡ Some change → slice_get (part_of shape e b j) p ≡ Some change
part_is shape e b p change j [] all same = absurd (let g : None ≡ Some change = same in cc)
part_is shape e b p change j (m ∷ ms) all same = go (part_in ms e b p) refl same (λ later. part_is shape e b p change j ms all.1 later)
  where
    here : (m : Message) → IsSentOf shape j m → change_for e b p m ≡ Some change → slice_get (part_of shape e b j) p ≡ Some change
    here (Done bucket epoch prev count) sent same = absurd (let g : None ≡ Some change = same in cc)
    here (Part bucket epoch place other) sent same = own (epoch.0 == e) (bucket == b) (place == p) refl refl refl same
      where
        own : (x y z : Bool) → (epoch.0 == e) ≡ x → (bucket == b) ≡ y → (place == p) ≡ z → cond (x && y && z) (Some other) None ≡ Some change → slice_get (part_of shape e b j) p ≡ Some change
        own true true true f g k same =
            let ee : epoch.0 ≡ e = eqb-true epoch.0 e f in
            let bb : bucket ≡ b = eqb-true bucket b g in
            let pp : place ≡ p = eqb-true place p k in
            subst (λ (n : ℕ). slice_get (part_of shape e b j) n ≡ Some change) pp
            (subst (λ (n : ℕ). slice_get (part_of shape e n j) place ≡ Some change) bb
            (subst (λ (n : ℕ). slice_get (part_of shape n bucket j) place ≡ Some change) ee (sent.1 ∙ same)))
        own true true false f g k same = absurd (let q : None ≡ Some change = same in cc)
        own true false z f g k same = absurd (let q : None ≡ Some change = same in cc)
        own false y z f g k same = absurd (let q : None ≡ Some change = same in cc)

    go : (x : Option Change) → part_in ms e b p ≡ x → option_or x (change_for e b p m) ≡ Some change → (part_in ms e b p ≡ Some change → slice_get (part_of shape e b j) p ≡ Some change) → slice_get (part_of shape e b j) p ≡ Some change
    go None q same more = here m all.0 same
    go (Some d) q same more = more (q ∙ same)

-- a bucket with no message missing: its number of changes is known, and every place below it is
record IsComplete (received : List Message) (e b : ℕ) : Type 0 where
  count : ℕ
  is : count_in received e b ≡ Some count
  places : (p : ℕ) → p < count → is_some (part_in received e b p) ≡ true

-- if no number below `n` passes the test, each of them fails it
find_none : (test : ℕ → Bool) (n : ℕ) → find test (numbers_below n) ≡ None → (p : ℕ) → p < n → test p ≡ false
find_none test zero none p l = absurd (omega arith)
find_none test (suc n) none p l = go (find_parts test (numbers_below n) n none) (λ m. find_none test n m p) (eq_or_below p n (omega arith))
  where
    eq_or_below : (p n : ℕ) → p < suc n → (p ≡ n) ⊎ (p < n)
    eq_or_below p n l = grind arith

    find_parts : (test : ℕ → Bool) (xs : List ℕ) (y : ℕ) → find test (xs ++ y ∷ []) ≡ None → (find test xs ≡ None) × (test y ≡ false)
    find_parts test [] y none = last (test y) refl none
      where
        last : (b : Bool) → test y ≡ b → cond b (Some y) None ≡ None → (find test [] ≡ None) × (test y ≡ false)
        last true q none = absurd (let g : Some y ≡ None = none in cc)
        last false q none = (refl, q)
    find_parts test (x ∷ xs) y none = one (test x) refl none (λ later. find_parts test xs y later)
      where
        one : (b : Bool) → test x ≡ b → cond b (Some x) (find test (xs ++ y ∷ [])) ≡ None → (find test (xs ++ y ∷ []) ≡ None → (find test xs ≡ None) × (test y ≡ false)) → (find test (x ∷ xs) ≡ None) × (test y ≡ false)
        one true q none more = absurd (let g : Some x ≡ None = none in cc)
        one false q none more = let m = more none in (rw q m.0, m.1)

    go : (find test (numbers_below n) ≡ None) × (test n ≡ false) → (find test (numbers_below n) ≡ None → p < n → test p ≡ false) → (p ≡ n) ⊎ (p < n) → test p ≡ false
    go parts more (inl q) = ap test q ∙ parts.1
    go parts more (inr m) = more parts.0 m

none_is : {X : Type 0} → (x : Option X) → is_none x ≡ true → x ≡ None
none_is None q = refl
none_is (Some x) q = absurd (let g : false ≡ true = q in cc)

some_is : {X : Type 0} → (x : Option X) → is_none x ≡ false → is_some x ≡ true
some_is None q = absurd (let g : true ≡ false = q in cc)
some_is (Some x) q = refl

mapped_none : {X Y : Type 0} → (f : X → Y) (x : Option X) → option_map f x ≡ None → x ≡ None
mapped_none f None q = refl
mapped_none f (Some x) q = absurd (let g : Some (f x) ≡ None = q in cc)

-- a bucket with no message missing is complete
complete : (received : List Message) (e b : ℕ) → is_none (missing_of_bucket received e b) ≡ true → IsComplete received e b
complete received e b none = go (count_in received e b) refl none
  where
    go : (count : Option ℕ) → count_in received e b ≡ count → is_none (missing_below received e b count) ≡ true → IsComplete received e b
    go None q none = absurd (let g : false ≡ true = none in cc)
    go (Some c) q none = record {
      count = c;
      is = q;
      places = λ p l. some_is (part_in received e b p)
          (find_none (λ place. is_none (part_in received e b place)) c
          (mapped_none (λ place. record { bucket = b; place = Some place }) (find (λ place. is_none (part_in received e b place)) (numbers_below c))
          (none_is (missing_below received e b (Some c)) none)) p l);
    }

-- if all numbers below `n` pass the test, each of them passes it
each_below : (test : ℕ → Bool) (n : ℕ) → list_all test (numbers_below n) ≡ true → (b : ℕ) → b < n → test b ≡ true
each_below test zero all b l = absurd (omega arith)
each_below test (suc n) all b l = go (all_parts test (numbers_below n) n all) (λ m. each_below test n m b) (eq_or_below b n (omega arith))
  where
    eq_or_below : (p n : ℕ) → p < suc n → (p ≡ n) ⊎ (p < n)
    eq_or_below p n l = grind arith

    all_parts : (test : ℕ → Bool) (xs : List ℕ) (y : ℕ) → list_all test (xs ++ y ∷ []) ≡ true → (list_all test xs ≡ true) × (test y ≡ true)
    all_parts test [] y all = last (test y) refl all
      where
        last : (b : Bool) → test y ≡ b → (b && true) ≡ true → (true ≡ true) × (test y ≡ true)
        last true q all = (refl, q)
        last false q all = absurd (let g : false ≡ true = all in cc)
    all_parts test (x ∷ xs) y all = one (test x) refl all (λ later. all_parts test xs y later)
      where
        one : (b : Bool) → test x ≡ b → (b && list_all test (xs ++ y ∷ [])) ≡ true → (list_all test (xs ++ y ∷ []) ≡ true → (list_all test xs ≡ true) × (test y ≡ true)) → (list_all test (x ∷ xs) ≡ true) × (test y ≡ true)
        one true q all more = let m = more all in (rw q m.0, m.1)
        one false q all more = absurd (let g : false ≡ true = all in cc)

    go : (list_all test (numbers_below n) ≡ true) × (test n ≡ true) → (list_all test (numbers_below n) ≡ true → b < n → test b ≡ true) → (b ≡ n) ⊎ (b < n) → test b ≡ true
    go parts more (inl q) = ap test q ∙ parts.1
    go parts more (inr m) = more parts.0 m

-- a list is its items in the order of their places
by_places : {X : Type 0} → (f : ℕ → Option X) (xs : List X) (n : ℕ) → n ≤ length xs → ((p : ℕ) → p < n → f p ≡ slice_get xs p) → filter_map f (numbers_below n) ≡ take n xs
by_places f xs zero l same = refl
by_places {X} f xs (suc n) l same =
    filter_map-append f (numbers_below n) (n ∷ [])
    ∙ ap (λ (ys : List X). ys ++ cons_option (f n) []) (by_places f xs n (omega arith) (λ p m. same p (omega arith)))
    ∙ ap (λ (x : Option X). take n xs ++ cons_option x []) (same n (omega arith))
    ∙ take_one xs n (omega arith)
  where
    take_one : {X : Type 0} → (xs : List X) (n : ℕ) → n < length xs → take n xs ++ cons_option (slice_get xs n) [] ≡ take (suc n) xs
    take_one [] n l = absurd (omega arith)
    take_one (x ∷ xs) zero l = refl
    take_one {X} (x ∷ xs) (suc n) l = ap (λ (ys : List X). x ∷ ys) (take_one xs n (omega arith))

some_of : {X : Type 0} → (x : Option X) → is_some x ≡ true → (y : X) × (x ≡ Some y)
some_of None q = absurd (let g : false ≡ true = q in cc)
some_of (Some y) q = (y, refl)

-- the part of a complete bucket is the one of the journal
complete_part : (shape : Shape) (e b : ℕ) (j : Journal) (received : List Message) → AllByRecursion (IsSentOf shape j) received → IsComplete received e b → part_received received e b ≡ part_of shape e b j
complete_part shape e b j received all whole =
    let counted : whole.count ≡ length (part_of shape e b j) = count_is shape e b whole.count j received all whole.is in
    let same : (p : ℕ) → p < whole.count → part_in received e b p ≡ slice_get (part_of shape e b j) p =
    λ p l. let there = some_of (part_in received e b p) (whole.places p l) in there.1 ∙ sym (part_is shape e b p there.0 j received all there.1) in
    ap (λ (c : Option ℕ). filter_map (part_in received e b) (numbers_below (option_map_or (λ count. count) c 0))) whole.is
    ∙ by_places (part_in received e b) (part_of shape e b j) whole.count (omega arith) same
    ∙ take_all whole.count (part_of shape e b j) (omega arith)

-- the epoch that an event buffer can assemble, as the journal gives it
abbrev pub journal_assembly : Shape → (last : ℕ) → Journal → (epoch : ℕ) → Assembled
journal_assembly shape last j e = record {
  epoch = record { 0 = e };
  prev = record { 0 = last };
  parts = map (λ bucket. part_of shape e bucket j) (numbers_below shape.buckets);
}

-- the parts of a whole epoch are those of the journal
parts_same : (shape : Shape) (e n : ℕ) (j : Journal) (received : List Message) → AllByRecursion (IsSentOf shape j) received → ((b : ℕ) → b < n → is_none (missing_of_bucket received e b) ≡ true) → map (part_received received e) (numbers_below n) ≡ map (λ bucket. part_of shape e bucket j) (numbers_below n)
parts_same shape e zero j received all whole = refl
parts_same shape e (suc n) j received all whole =
    map-append (part_received received e) (numbers_below n) (n ∷ [])
    ∙ ap (λ (ps : List (List Change)). ps ++ part_received received e n ∷ []) (parts_same shape e n j received all (λ b l. whole b (omega arith)))
    ∙ ap (λ (p : List Change). map (λ bucket. part_of shape e bucket j) (numbers_below n) ++ p ∷ []) (complete_part shape e n j received all (complete received e n (whole n (omega arith))))
    ∙ sym (map-append (λ bucket. part_of shape e bucket j) (numbers_below n) (n ∷ []))

-- if the number of changes of a bucket was received, the Done of that bucket was, so the next epoch
-- is known
next_is_known : (shape : Shape) (e b c last : ℕ) (j : Journal) (received : List Message) → AllByRecursion (IsSentOf shape j) received → previous_closed e j ≡ last → count_in received e b ≡ Some c → is_some (first_of (filter_map (epoch_following last) received)) ≡ true
next_is_known shape e b c last j [] all prev same = absurd (let g : None ≡ Some c = same in cc)
next_is_known shape e b c last j (m ∷ ms) all prev same = go (count_in ms e b) refl same (λ later. next_is_known shape e b c last j ms all.1 prev later)
  where
    or_later : (x : Option ℕ) → is_some (first_of (filter_map (epoch_following last) ms)) ≡ true → is_some (first_of (cons_option x (filter_map (epoch_following last) ms))) ≡ true
    or_later None known = known
    or_later (Some f) known = refl

    here : (m : Message) → IsSentOf shape j m → count_for e b m ≡ Some c → is_some (first_of (cons_option (epoch_following last m) (filter_map (epoch_following last) ms))) ≡ true
    here (Part bucket epoch place change) sent same = absurd (let g : None ≡ Some c = same in cc)
    here (Done bucket epoch before count) sent same = own (epoch.0 == e) (bucket == b) refl same
      where
        own : (x y : Bool) → (epoch.0 == e) ≡ x → cond (x && y) (Some count) None ≡ Some c → is_some (first_of (cons_option (cond (before.0 == last) (Some epoch.0) None) (filter_map (epoch_following last) ms))) ≡ true
        own true y p same =
            let ee : epoch.0 ≡ e = eqb-true epoch.0 e p in
            let bb : before.0 ≡ last = sent.1.1 ∙ ap (λ (n : ℕ). previous_closed n j) ee ∙ prev in
            rw (eq-eqb before.0 last bb) refl
        own false y p same = absurd (let g : None ≡ Some c = same in cc)

    go : (x : Option ℕ) → count_in ms e b ≡ x → option_or x (count_for e b m) ≡ Some c → (count_in ms e b ≡ Some c → is_some (first_of (filter_map (epoch_following last) ms)) ≡ true) → is_some (first_of (filter_map (epoch_following last) (m ∷ ms))) ≡ true
    go None q same more = here m all.0 same
    go (Some d) q same more = or_later (epoch_following last m) (more (q ∙ same))

-- the history of an event buffer whose messages are those of a journal and whose last taken epoch
-- is closed, or 0
pub record IsFedFrom (shape : Shape) (opened : ℕ) (j : Journal) (fed : Fed) : Type 0 where
  pub order : InOrder opened j
  pub some : 0 < shape.buckets
  pub buckets : fed.buckets ≡ shape.buckets
  pub last : (fed.last ≡ 0) ⊎ IsClosed fed.last j
  pub received : AllByRecursion (IsSentOf shape j) fed.received

-- if the first closed epoch above the last taken one is whole, it is known to be the next
whole_is_known : (shape : Shape) (o e : ℕ) (j : Journal) (fed : Fed) → IsFedFrom shape o j fed → first_of (following fed.last j) ≡ Some e → is_whole fed e ≡ true → next_epoch fed ≡ Some e
whole_is_known shape o e j fed from first whole =
    let b : 0 < fed.buckets = let s = from.some in let q = from.buckets in omega arith in
    let zero_whole = each_below (λ bucket. is_none (missing_of_bucket fed.received e bucket)) fed.buckets whole 0 b in
    let bucket = complete fed.received e 0 zero_whole in
    let prev = previous_of_first o e fed.last j from.order from.last first in
    let known = some_of (next_epoch fed) (next_is_known shape e 0 bucket.count fed.last j fed.received from.received prev bucket.is) in
    let head = next_is_first shape o fed.last known.0 j fed.received from.order from.received known.1 in
    known.1 ∙ sym head ∙ first

-- the first of the epochs that can be taken
taken_head : (p : ℕ → Bool) (es : List ℕ) (e : ℕ) → first_of es ≡ Some e → first_of (take_while p es) ≡ cond (p e) (Some e) None
taken_head p [] e first = absurd (let g : None ≡ Some e = first in cc)
taken_head p (x ∷ xs) e first =
    let xe : x ≡ e = some_injective x e first in
    ap (λ (es : List ℕ). first_of es) (take_while-cons p x xs) ∙ go (p x) ∙ ap (λ (y : ℕ). cond (p y) (Some y) None) xe
  where
    go : (b : Bool) → first_of (cond b (x ∷ take_while p xs) []) ≡ cond b (Some x) None
    go true = refl
    go false = refl

-- the epoch that an event buffer assembles is the first one that can be taken, with the journal's
-- parts
pub assembled_is_taken : (shape : Shape) (o : ℕ) (j : Journal) (fed : Fed) → IsFedFrom shape o j fed → assembled_of fed ≡ option_map (journal_assembly shape fed.last j) (first_of (taken_epochs fed j))
unfolding assembled_of taken_epochs
assembled_is_taken shape o j fed from = go (next_epoch fed) refl (first_of (following fed.last j)) refl
  where
    made : (e : ℕ) → first_of (following fed.last j) ≡ Some e → (b : Bool) → is_whole fed e ≡ b → cond b (Some (assembly fed e)) None ≡ option_map (journal_assembly shape fed.last j) (cond b (Some e) None)
    made e first true whole =
        let q = from.buckets in
        let below : (b : ℕ) → b < fed.buckets → is_none (missing_of_bucket fed.received e b) ≡ true = each_below (λ bucket. is_none (missing_of_bucket fed.received e bucket)) fed.buckets whole in
        let parts = parts_same shape e fed.buckets j fed.received from.received below ∙ ap (λ (n : ℕ). map (λ bucket. part_of shape e bucket j) (numbers_below n)) q in
        ap (λ (ps : List (List Change)). Some (record { epoch = record { 0 = e }; prev = record { 0 = fed.last }; parts = ps })) parts
    made e first false whole = refl

    go : (next : Option ℕ) → next_epoch fed ≡ next → (head : Option ℕ) → first_of (following fed.last j) ≡ head → option_and_then (λ epoch. if is_whole fed epoch then Some (assembly fed epoch) else None) next ≡ option_map (journal_assembly shape fed.last j) (first_of (take_while (is_whole fed) (following fed.last j)))
    go (Some e) q head first =
        let front = next_is_first shape o fed.last e j fed.received from.order from.received q in
        made e front (is_whole fed e) refl ∙ ap (option_map (journal_assembly shape fed.last j)) (sym (taken_head (is_whole fed) (following fed.last j) e front))
    go None q None first = none_taken (following fed.last j) first
      where
        none_taken : (es : List ℕ) → first_of es ≡ None → None ≡ option_map (journal_assembly shape fed.last j) (first_of (take_while (is_whole fed) es))
        none_taken [] first = refl
        none_taken (x ∷ xs) first = absurd (let g : Some x ≡ None = first in cc)
    go None q (Some e) first = not_whole (is_whole fed e) refl
      where
        not_whole : (b : Bool) → is_whole fed e ≡ b → None ≡ option_map (journal_assembly shape fed.last j) (first_of (take_while (is_whole fed) (following fed.last j)))
        not_whole true whole = absurd (let g : None ≡ Some e = sym q ∙ whole_is_known shape o e j fed from first whole in cc)
        not_whole false whole = sym (ap (option_map (journal_assembly shape fed.last j)) (taken_head (is_whole fed) (following fed.last j) e first ∙ ap (λ (b : Bool). cond b (Some e) None) whole))

-- the epochs that can be taken after the first one
pub taken_rest : (o e : ℕ) (rest : List ℕ) (j : Journal) (fed : Fed) → InOrder o j → taken_epochs fed j ≡ e ∷ rest → taken_epochs (record fed { last = e }) j ≡ rest
unfolding taken_epochs
taken_rest o e rest j fed h same = go (following fed.last j) refl same
  where
    go : (es : List ℕ) → following fed.last j ≡ es → take_while (is_whole fed) es ≡ e ∷ rest → take_while (is_whole fed) (following e j) ≡ rest
    go [] q same = absurd (let g : [] ≡ e ∷ rest = same in cc)
    go (x ∷ xs) q same = own (is_whole fed x) (sym (take_while-cons (is_whole fed) x xs) ∙ same)
      where
        own : (b : Bool) → cond b (x ∷ take_while (is_whole fed) xs) [] ≡ e ∷ rest → take_while (is_whole fed) (following e j) ≡ rest
        own true same =
            let xe : x ≡ e = cc in
            let tail : take_while (is_whole fed) xs ≡ rest = cc in
            ap (take_while (is_whole fed)) (after_more o e fed.last j xs h (q ∙ ap (λ (y : ℕ). y ∷ xs) xe)) ∙ tail
        own false same = absurd (let g : [] ≡ e ∷ rest = same in cc)
