-- Of chained messages none is of an epoch between the last taken one and the next.
use Rattle.std.proofs.Common.{◌≡◌, ◌⊎◌, ℕ, ◌<◌, ◌≤◌, suc, Bool, true, false, cond, List, [], ◌∷◌, refl, ◌∙◌, arith}
use Rattle.std.specs.Prelude.{◌==◌, ◌&&◌, Option, Some, None, Contains, filter_map}
use Rattle.std.specs.List.{cons_option}
use Rattle.std.specs.Option.{option_or}
use Rattle.std.proofs.lemmas.Bool.{eqb-true}
use Rattle.rb_base.specs.declared.epoch.Epoch.{Epoch}
use Rattle.rb_base.specs.declared.change.Change.{Change}
use Rattle.rb_base.specs.declared.message.Message.{Message}
use Rattle.rb_base.specs.declared.message.Message.TheVariants.{Part, Done}
use Rattle.rb_journal_defs.specs.Transaction.{first_of}
use Rattle.rb_message_defs.specs.Message.{epoch_in}
use Rattle.rb_message_defs.specs.Received.{change_for, count_for, part_in, count_in, epoch_following, AreChained}
use Rattle.rb_evbuf.proofs.Feeding.{head_of}

pub lt_or_le : (a b : ℕ) → (a < b) ⊎ (b ≤ a)
lt_or_le a b = grind arith

-- a message of this epoch was received
record IsOfEpoch (received : List Message) (epoch : ℕ) : Type 0 where
  message : Message
  there : Contains received message
  is : epoch_in message ≡ epoch

further : (message other : Message) (older : List Message) → Contains older other → Contains (message ∷ older) other
further message other older there = (suc there.0, omega (arith, there.1), there.2)

later_one : (message : Message) (older : List Message) (epoch : ℕ) → IsOfEpoch older epoch → IsOfEpoch (message ∷ older) epoch
later_one message older epoch of = record { message = of.message; there = further message of.message older of.there; is = of.is }

-- a change of an epoch came with a message of it
part_of_epoch : (received : List Message) (e b p : ℕ) (change : Change) → part_in received e b p ≡ Some change → IsOfEpoch received e
part_of_epoch [] e b p change same = absurd (let g : None ≡ Some change = same in cc)
part_of_epoch (m ∷ ms) e b p change same = go (part_in ms e b p) refl same (λ more. part_of_epoch ms e b p change more)
  where
    here : (m : Message) → change_for e b p m ≡ Some change → epoch_in m ≡ e
    here (Done bucket epoch prev count) same = absurd (let g : None ≡ Some change = same in cc)
    here (Part bucket epoch place other) same = own (epoch.0 == e) (bucket == b) (place == p) refl same
      where
        own : (x y z : Bool) → (epoch.0 == e) ≡ x → cond (x && y && z) (Some other) None ≡ Some change → epoch.0 ≡ e
        own true y z q same = eqb-true epoch.0 e q
        own false y z q same = absurd (let g : None ≡ Some change = same in cc)

    go : (o : Option Change) → part_in ms e b p ≡ o → option_or o (change_for e b p m) ≡ Some change → (part_in ms e b p ≡ Some change → IsOfEpoch ms e) → IsOfEpoch (m ∷ ms) e
    go None q same more = record { message = m; there = head_of m ms; is = here m same }
    go (Some d) q same more = later_one m ms e (more (q ∙ same))

-- and a count
count_of_epoch : (received : List Message) (e b c : ℕ) → count_in received e b ≡ Some c → IsOfEpoch received e
count_of_epoch [] e b c same = absurd (let g : None ≡ Some c = same in cc)
count_of_epoch (m ∷ ms) e b c same = go (count_in ms e b) refl same (λ more. count_of_epoch ms e b c more)
  where
    here : (m : Message) → count_for e b m ≡ Some c → epoch_in m ≡ e
    here (Part bucket epoch place change) same = absurd (let g : None ≡ Some c = same in cc)
    here (Done bucket epoch prev count) same = own (epoch.0 == e) (bucket == b) refl same
      where
        own : (x y : Bool) → (epoch.0 == e) ≡ x → cond (x && y) (Some count) None ≡ Some c → epoch.0 ≡ e
        own true y q same = eqb-true epoch.0 e q
        own false y q same = absurd (let g : None ≡ Some c = same in cc)

    go : (o : Option ℕ) → count_in ms e b ≡ o → option_or o (count_for e b m) ≡ Some c → (count_in ms e b ≡ Some c → IsOfEpoch ms e) → IsOfEpoch (m ∷ ms) e
    go None q same more = record { message = m; there = head_of m ms; is = here m same }
    go (Some d) q same more = later_one m ms e (more (q ∙ same))

-- a message of an epoch after the last taken one is at or above the next
not_between : (received : List Message) (last next : ℕ) (m : Message) → ((bucket : ℕ) (epoch prev : Epoch) (count : ℕ) → Contains received (Done bucket epoch prev count) → prev.0 < epoch_in m → epoch.0 ≤ epoch_in m) → first_of (filter_map (epoch_following last) received) ≡ Some next → last < epoch_in m → next ≤ epoch_in m
not_between [] last next m chained same above = absurd (let g : None ≡ Some next = same in cc)
not_between (Part b own p change ∷ older) last next m chained same above =
    not_between older last next m (λ bucket epoch prev count there. chained bucket epoch prev count (further (Part b own p change) (Done bucket epoch prev count) older there)) same above
not_between (Done b own prev count ∷ older) last next m chained same above =
    go (prev.0 == last) refl same (λ rest. not_between older last next m (λ bucket epoch before n there. chained bucket epoch before n (further (Done b own prev count) (Done bucket epoch before n) older there)) rest above)
  where
    go : (x : Bool) → (prev.0 == last) ≡ x → first_of (cons_option (cond x (Some own.0) None) (filter_map (epoch_following last) older)) ≡ Some next → (first_of (filter_map (epoch_following last) older) ≡ Some next → next ≤ epoch_in m) → next ≤ epoch_in m
    go true q same more =
        let p : prev.0 ≡ last = eqb-true prev.0 last q in
        let n : own.0 ≡ next = (let g : Some own.0 ≡ Some next = same in cc) in
        let l : own.0 ≤ epoch_in m = chained b own prev count (head_of (Done b own prev count) older) (omega arith) in omega arith
    go false q same more = more same

of_epoch_not_between : (received : List Message) (last next epoch : ℕ) → AreChained received → first_of (filter_map (epoch_following last) received) ≡ Some next → last < epoch → IsOfEpoch received epoch → next ≤ epoch
of_epoch_not_between received last next epoch chained same above of =
    let l : next ≤ epoch_in of.message = not_between received last next of.message (λ bucket own prev count there. (chained bucket own prev count there).1 of.message of.there) same (let q = of.is in omega arith) in
    let q = of.is in omega arith

-- no change is between
pub no_part_between : (received : List Message) (last next epoch bucket place : ℕ) → AreChained received → first_of (filter_map (epoch_following last) received) ≡ Some next → last < epoch → epoch < next → part_in received epoch bucket place ≡ None
no_part_between received last next epoch bucket place chained same above below = go (part_in received epoch bucket place) refl
  where
    go : (o : Option Change) → part_in received epoch bucket place ≡ o → part_in received epoch bucket place ≡ None
    go None q = q
    go (Some change) q = let l : next ≤ epoch = of_epoch_not_between received last next epoch chained same above (part_of_epoch received epoch bucket place change q) in absurd (omega arith)

-- and no count
pub no_count_between : (received : List Message) (last next epoch bucket : ℕ) → AreChained received → first_of (filter_map (epoch_following last) received) ≡ Some next → last < epoch → epoch < next → count_in received epoch bucket ≡ None
no_count_between received last next epoch bucket chained same above below = go (count_in received epoch bucket) refl
  where
    go : (o : Option ℕ) → count_in received epoch bucket ≡ o → count_in received epoch bucket ≡ None
    go None q = q
    go (Some c) q = let l : next ≤ epoch = of_epoch_not_between received last next epoch chained same above (count_of_epoch received epoch bucket c q) in absurd (omega arith)
