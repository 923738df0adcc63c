-- What a buffer misses, and what it represents once an epoch is taken.
use Rattle.std.proofs.Common.{◌≡◌, ◌⊎◌, inl, inr, ℕ, ◌<◌, ◌≤◌, zero, suc, Bool, true, false, cond, List, [], ◌∷◌, map, refl, subst, sym, ap, ◌∙◌, arith}
use Rattle.std.specs.Prelude.{◌==◌, if◌then◌else◌, nat_lt, Option, Some, None, is_none, is_some, filter_map, IfSome}
use Rattle.std.specs.List.{cons_option}
use Rattle.std.specs.Option.{option_and_then, option_map, option_map_or}
use Rattle.std.specs.Ordering.{nat_cmp, is_eq}
use Rattle.std.specs.declared.cmp.Ordering.TheVariants.{Less, Equal, Greater}
use Rattle.std.specs.BTreeMap.{is_at, BTreeMap, UpdatesBy}
use Rattle.std.specs.BTreeMap as tree
use Rattle.std.proofs.lemmas.Bool.{ltb-true, ne_eqb, eqb-true, cases_eq}
use Rattle.rb_base.specs.declared.epoch.Epoch.{Epoch}
use Rattle.rb_base.specs.declared.change.Change.{Change}
use Rattle.rb_base.specs.declared.message.Message.{Message}
use Rattle.rb_base.specs.declared.message.Message.TheVariants.{Part, Done}
use Rattle.rb_journal_defs.specs.Body.{numbers_below}
use Rattle.rb_journal_defs.specs.Transaction.{first_of}
use Rattle.rb_message_defs.specs.Received.{Fed, part_in, count_in, epoch_following, next_epoch, missing_below, missing_of_bucket, missing_of, is_whole, part_received, assembly, assembled_of, taken_from, AreChained}
use Rattle.rb_message_defs.specs.declared.answers.Missing.{Missing}
use Rattle.rb_message_defs.specs.declared.answers.Assembled.{Assembled}
use Rattle.rb_evbuf.specs.Gathered.{missing_under, part_under}
use Rattle.rb_evbuf.specs.Epoch.{place_at, count_at, IsSound, missing_in, parts_in}
use Rattle.rb_evbuf.specs.Buffer.{StandsFor, place_of, count_of, following_of}
use Rattle.rb_evbuf.specs.declared.epoch.GatheredEpoch.{GatheredEpoch}
use Rattle.rb_evbuf.specs.declared.buffer.EventBuffer.{EventBuffer}
use Rattle.rb_evbuf.proofs.Feeding.{chained_before, head_of}
use Rattle.rb_evbuf.proofs.Between.{lt_or_le, no_part_between, no_count_between}
use Rattle.rb_evbuf.proofs.Numbers.{find_same, filter_map_same, map_same, all_none, first_at_zero}

is_equal : (b : Bool) → is_eq (cond b Equal Greater) ≡ b
is_equal true = refl
is_equal false = refl

-- two numbers are at one place exactly if they are equal
at_key : (key other : ℕ) → is_at (nat_cmp key) other ≡ (key == other)
at_key key other = go (nat_lt key other) refl
  where
    go : (b : Bool) → nat_lt key other ≡ b → is_eq (cond b Less (cond (key == other) Equal Greater)) ≡ (key == other)
    go true below = let less : key < other = ltb-true key other below in sym (ne_eqb key other (λ same. absurd (omega arith)))
    go false above = is_equal (key == other)

-- a map without one key
pub without_key : {X : Type 0} (old new : BTreeMap ℕ X) (key other : ℕ) → UpdatesBy nat_cmp (nat_cmp key) old new None → (key ≡ other → ⊥) → tree.get nat_cmp new other ≡ tree.get nat_cmp old other
without_key old new key other updates differs = updates.2 other (at_key key other ∙ ne_eqb key other differs)

some_none : {X : Type 0} (x : X) → Some x ≡ None → ⊥
some_none x e = cc

same_some : {X : Type 0} (x y : X) → Some x ≡ Some y → x ≡ y
same_some x y e = cc

-- the epoch that a Done puts after another is later
pub next_later : (received : List Message) (last epoch : ℕ) → AreChained received → first_of (filter_map (epoch_following last) received) ≡ Some epoch → last < epoch
next_later [] last epoch chained is = absurd (some_none epoch (sym is))
next_later (Part b own p change ∷ older) last epoch chained is = next_later older last epoch (chained_before (Part b own p change) older chained) is
next_later (Done b own prev count ∷ older) last epoch chained is =
    go (prev.0 == last) refl is (λ rest. next_later older last epoch (chained_before (Done b own prev count) older chained) rest)
    (chained b own prev count (head_of (Done b own prev count) older)).0
  where
    go : (same : Bool) → (prev.0 == last) ≡ same → first_of (cons_option (if same then Some own.0 else None) (filter_map (epoch_following last) older)) ≡ Some epoch →
        (first_of (filter_map (epoch_following last) older) ≡ Some epoch → last < epoch) → prev.0 < own.0 → last < epoch
    go true same is rest before = let a : prev.0 ≡ last = eqb-true prev.0 last same in let b : own.0 ≡ epoch = same_some own.0 epoch is in omega arith
    go false differs is rest before = rest is

-- a buffer knows the next epoch
pub next_is : (buffer : EventBuffer) (fed : Fed) → StandsFor buffer fed → AreChained fed.received → next_epoch fed ≡ following_of buffer buffer.last.0
next_is buffer fed stands chained =
    sym (stands.following chained fed.last (omega arith)) ∙ ap (following_of buffer) (sym stands.last)

-- it has buckets if something came
some_buckets : (buffer : EventBuffer) (fed : Fed) (epoch : ℕ) → StandsFor buffer fed → next_epoch fed ≡ Some epoch → 0 < fed.buckets
some_buckets buffer fed epoch stands is = go fed.buckets refl
  where
    go : (n : ℕ) → fed.buckets ≡ n → 0 < n
    go zero none = absurd (some_none epoch (sym (sym (ap (λ (rs : List Message). first_of (filter_map (epoch_following fed.last) rs)) (stands.some none)) ∙ is)))
    go (suc n) some = omega arith

-- what is missing of a bucket, and its part, by what is held of it
missing_alike : (received : List Message) (epoch bucket : ℕ) (held : ℕ → Option Change) (count : Option ℕ) →
    ((place : ℕ) → held place ≡ part_in received epoch bucket place) → missing_below received epoch bucket count ≡ missing_under bucket held count
missing_alike received epoch bucket held None same = refl
missing_alike received epoch bucket held (Some count) same =
    ap (option_map {U = Missing} (λ (place : ℕ). record { bucket = bucket; place = Some place }))
    (find_same (λ place. is_none (part_in received epoch bucket place)) (λ place. is_none (held place)) count (λ place below. ap is_none (sym (same place))))

part_alike : (received : List Message) (epoch bucket : ℕ) (held : ℕ → Option Change) (count : Option ℕ) →
    ((place : ℕ) → held place ≡ part_in received epoch bucket place) → count ≡ count_in received epoch bucket → part_received received epoch bucket ≡ part_under held count
part_alike received epoch bucket held count same is =
    filter_map_same (part_in received epoch bucket) held (option_map_or (λ (c : ℕ). c) (count_in received epoch bucket) 0) (λ place below. sym (same place))
    ∙ ap (λ (c : Option ℕ). part_under held c) (sym is)

-- what is kept of an epoch is what came of it
places_same : (buffer : EventBuffer) (fed : Fed) (epoch : ℕ) (gathered : GatheredEpoch) → StandsFor buffer fed → fed.last < epoch → tree.get nat_cmp buffer.epochs epoch ≡ Some gathered →
    (bucket place : ℕ) → place_at gathered bucket place ≡ part_in fed.received epoch bucket place
places_same buffer fed epoch gathered stands later is bucket place =
    sym (ap (option_and_then (λ (g : GatheredEpoch). place_at g bucket place)) is) ∙ stands.places epoch bucket place later

counts_same : (buffer : EventBuffer) (fed : Fed) (epoch : ℕ) (gathered : GatheredEpoch) → StandsFor buffer fed → fed.last < epoch → tree.get nat_cmp buffer.epochs epoch ≡ Some gathered →
    (bucket : ℕ) → count_at gathered bucket ≡ count_in fed.received epoch bucket
counts_same buffer fed epoch gathered stands later is bucket =
    sym (ap (option_and_then (λ (g : GatheredEpoch). count_at g bucket)) is) ∙ stands.counts epoch bucket later

missing_at : (fed : Fed) → (next : Option ℕ) → Option Missing
missing_at fed next = option_map_or (λ epoch. first_of (filter_map (missing_of_bucket fed.received epoch) (numbers_below fed.buckets))) next (Some (record { bucket = 0; place = None }))

missing_next : (fed : Fed) (next : Option ℕ) → next_epoch fed ≡ next → missing_of fed ≡ missing_at fed next
unfolding missing_of missing_at
missing_next fed next is = ap (missing_at fed) is

-- what is missing of an epoch of which something is kept
pub missing_kept : (buffer : EventBuffer) (fed : Fed) (epoch : ℕ) (gathered : GatheredEpoch) → StandsFor buffer fed → AreChained fed.received → next_epoch fed ≡ Some epoch →
    tree.get nat_cmp buffer.epochs epoch ≡ Some gathered → missing_of fed ≡ missing_in gathered fed.buckets
unfolding missing_at
missing_kept buffer fed epoch gathered stands chained next is =
    let later = next_later fed.received fed.last epoch chained next in
    missing_next fed (Some epoch) next
    ∙ ap first_of (filter_map_same (missing_of_bucket fed.received epoch) (λ bucket. missing_under bucket (place_at gathered bucket) (count_at gathered bucket)) fed.buckets
    (λ bucket below. ap (missing_below fed.received epoch bucket) (sym (counts_same buffer fed epoch gathered stands later is bucket))
    ∙ missing_alike fed.received epoch bucket (place_at gathered bucket) (count_at gathered bucket) (places_same buffer fed epoch gathered stands later is bucket)))

-- and of one of which nothing is kept, or which is not known
missing_unknown : (buffer : EventBuffer) (fed : Fed) (next : Option ℕ) → StandsFor buffer fed → AreChained fed.received → next_epoch fed ≡ next →
    option_and_then (tree.get nat_cmp buffer.epochs) next ≡ None → missing_of fed ≡ Some (record { bucket = 0; place = None })
unfolding missing_at
missing_unknown buffer fed None stands chained next is = missing_next fed None next
missing_unknown buffer fed (Some epoch) stands chained next is =
    let later = next_later fed.received fed.last epoch chained next in
    let none : count_in fed.received epoch 0 ≡ None = sym (stands.counts epoch 0 later) ∙ ap (option_and_then (λ (g : GatheredEpoch). count_at g 0)) is in
    missing_next fed (Some epoch) next
    ∙ first_at_zero (missing_of_bucket fed.received epoch) (record { bucket = 0; place = None }) fed.buckets (some_buckets buffer fed epoch stands next)
    (ap (missing_below fed.received epoch 0) none)

-- the result of `missing`
pub missing_absent : (buffer : EventBuffer) (fed : Fed) → StandsFor buffer fed → AreChained fed.received →
    option_and_then (tree.get nat_cmp buffer.epochs) (following_of buffer buffer.last.0) ≡ None → Some (record { bucket = 0; place = None }) ≡ missing_of fed
missing_absent buffer fed stands chained none = sym (missing_unknown buffer fed (following_of buffer buffer.last.0) stands chained (next_is buffer fed stands chained) none)

pub missing_present : (buffer : EventBuffer) (fed : Fed) (gathered : GatheredEpoch) (answer : Option Missing) → StandsFor buffer fed → AreChained fed.received →
    Some gathered ≡ option_and_then (tree.get nat_cmp buffer.epochs) (following_of buffer buffer.last.0) → (IsSound gathered buffer.buckets → answer ≡ missing_in gathered buffer.buckets) → answer ≡ missing_of fed
missing_present buffer fed gathered answer stands chained is gives = go (following_of buffer buffer.last.0) refl is
  where
    go : (next : Option ℕ) → following_of buffer buffer.last.0 ≡ next → Some gathered ≡ option_and_then (tree.get nat_cmp buffer.epochs) next → answer ≡ missing_of fed
    go None next is = absurd (some_none gathered is)
    go (Some epoch) next is =
        let sound : IsSound gathered buffer.buckets = subst (λ (o : Option GatheredEpoch). IfSome o (λ g. IsSound g buffer.buckets)) (sym is) (stands.sound epoch) in
        gives sound ∙ ap (missing_in gathered) stands.buckets ∙ sym (missing_kept buffer fed epoch gathered stands chained (next_is buffer fed stands chained ∙ next) (sym is))

assembled_at : (fed : Fed) (next : Option ℕ) → Option Assembled
assembled_at fed next = option_and_then (λ epoch. if is_whole fed epoch then Some (assembly fed epoch) else None) next

assembled_next : (fed : Fed) (next : Option ℕ) → next_epoch fed ≡ next → assembled_of fed ≡ assembled_at fed next
unfolding assembled_of assembled_at
assembled_next fed next is = ap (assembled_at fed) is

-- if something is missing there is no epoch to take
pub not_assembled : (fed : Fed) (missing : Option Missing) → missing ≡ missing_of fed → is_some missing ≡ true → assembled_of fed ≡ None
unfolding assembled_at missing_at
not_assembled fed missing is some = go (next_epoch fed) refl
  where
    no : (b : Bool) (a : Assembled) (o : Option Missing) → b ≡ is_none o → is_some o ≡ true → (if b then Some a else None) ≡ None
    no b a None e some = let h : false ≡ true = some in cc
    no b a (Some m) e some = rw e refl

    go : (next : Option ℕ) → next_epoch fed ≡ next → assembled_of fed ≡ None
    go None next = assembled_next fed None next
    go (Some epoch) next =
        assembled_next fed (Some epoch) next
        ∙ no (is_whole fed epoch) (assembly fed epoch) (missing_of fed)
        (all_none (missing_of_bucket fed.received epoch) (numbers_below fed.buckets) ∙ ap is_none (sym (missing_next fed (Some epoch) next)))
        (sym (ap is_some is) ∙ some)

-- the epoch to take
pub assembled_is : (buffer : EventBuffer) (fed : Fed) (epoch : ℕ) (gathered : GatheredEpoch) → StandsFor buffer fed → AreChained fed.received → next_epoch fed ≡ Some epoch →
    tree.get nat_cmp buffer.epochs epoch ≡ Some gathered → missing_of fed ≡ None →
    Some (record { epoch = record { 0 = epoch }; prev = buffer.last; parts = parts_in gathered buffer.buckets }) ≡ assembled_of fed
unfolding assembled_at missing_at
assembled_is buffer fed epoch gathered stands chained next is none =
    let later = next_later fed.received fed.last epoch chained next in
    let whole : is_whole fed epoch ≡ true = all_none (missing_of_bucket fed.received epoch) (numbers_below fed.buckets) ∙ ap is_none (sym (missing_next fed (Some epoch) next) ∙ none) in
    let parts : parts_in gathered buffer.buckets ≡ map (part_received fed.received epoch) (numbers_below fed.buckets) =
    ap (parts_in gathered) stands.buckets
    ∙ sym (map_same (part_received fed.received epoch) (λ bucket. part_under (place_at gathered bucket) (count_at gathered bucket)) fed.buckets
    (λ bucket below. part_alike fed.received epoch bucket (place_at gathered bucket) (count_at gathered bucket) (places_same buffer fed epoch gathered stands later is bucket) (counts_same buffer fed epoch gathered stands later is bucket))) in
    let last : buffer.last ≡ record { 0 = fed.last } = ap (λ (n : ℕ). record { 0 = n }) stands.last in
    sym (assembled_next fed (Some epoch) next ∙ rw whole (ap (λ (e : Epoch). Some (record { epoch = record { 0 = epoch }; prev = e; parts = map (part_received fed.received epoch) (numbers_below fed.buckets) })) (sym last)
    ∙ ap (λ (ps : List (List Change)). Some (record { epoch = record { 0 = epoch }; prev = buffer.last; parts = ps })) (sym parts)))

-- nothing was taken
pub stands_untaken : (buffer : EventBuffer) (fed : Fed) → StandsFor buffer fed → assembled_of fed ≡ None → StandsFor buffer (taken_from fed)
stands_untaken buffer fed stands none =
    subst (λ (o : Option Assembled). StandsFor buffer (record { buckets = fed.buckets; last = option_map_or (λ assembled. assembled.epoch.0) o fed.last; received = fed.received })) (sym none) stands

-- an epoch was taken
pub stands_taken : (old new : EventBuffer) (fed : Fed) (assembled : Assembled) → StandsFor old fed → AreChained fed.received → next_epoch fed ≡ Some assembled.epoch.0 → Some assembled ≡ assembled_of fed →
    new.buckets ≡ old.buckets → new.last ≡ assembled.epoch →
    UpdatesBy nat_cmp (nat_cmp old.last.0) old.following new.following None → UpdatesBy nat_cmp (nat_cmp assembled.epoch.0) old.epochs new.epochs None → StandsFor new (taken_from fed)
stands_taken old new fed assembled stands chained next is buckets last following epochs =
    subst (λ (o : Option Assembled). StandsFor new (record { buckets = fed.buckets; last = option_map_or (λ a. a.epoch.0) o fed.last; received = fed.received })) is (record {
      buckets = buckets ∙ stands.buckets;
      last = ap (λ (e : Epoch). e.0) last;
      some = stands.some;
      sound = λ epoch. sound epoch (cases_eq assembled.epoch.0 epoch);
      places = λ epoch bucket place after.
          ap (option_and_then (λ (g : GatheredEpoch). place_at g bucket place)) (without_key old.epochs new.epochs assembled.epoch.0 epoch epochs (λ same. absurd (omega arith)))
          ∙ stands.places epoch bucket place (omega (arith, later));
      counts = λ epoch bucket after.
          ap (option_and_then (λ (g : GatheredEpoch). count_at g bucket)) (without_key old.epochs new.epochs assembled.epoch.0 epoch epochs (λ same. absurd (omega arith)))
          ∙ stands.counts epoch bucket (omega (arith, later));
      gone_places = λ epoch bucket place low. gone_place epoch bucket place low (cases_eq assembled.epoch.0 epoch) (lt_or_le fed.last epoch);
      gone_counts = λ epoch bucket low. gone_count epoch bucket low (cases_eq assembled.epoch.0 epoch) (lt_or_le fed.last epoch);
      following = λ _ epoch from.
          ap (option_map (λ (e : Epoch). e.0)) (without_key old.following new.following old.last.0 epoch following (λ same. absurd (let h : old.last.0 ≡ fed.last = stands.last in omega (arith, later))))
          ∙ stands.following chained epoch (omega (arith, later));
    })
  where
    later : fed.last < assembled.epoch.0
    later = next_later fed.received fed.last assembled.epoch.0 chained next

    removed : (epoch : ℕ) → assembled.epoch.0 ≡ epoch → tree.get nat_cmp new.epochs epoch ≡ None
    removed epoch same = ap (tree.get nat_cmp new.epochs) (sym same) ∙ epochs.1

    gone_place : (epoch bucket place : ℕ) → epoch ≤ assembled.epoch.0 → (assembled.epoch.0 ≡ epoch) ⊎ (assembled.epoch.0 ≡ epoch → ⊥) → (fed.last < epoch) ⊎ (epoch ≤ fed.last) → place_of new epoch bucket place ≡ None
    gone_place epoch bucket place low (inl same) between = ap (option_and_then (λ (g : GatheredEpoch). place_at g bucket place)) (removed epoch same)
    gone_place epoch bucket place low (inr differs) (inl above) =
        ap (option_and_then (λ (g : GatheredEpoch). place_at g bucket place)) (without_key old.epochs new.epochs assembled.epoch.0 epoch epochs differs)
        ∙ stands.places epoch bucket place above
        ∙ no_part_between fed.received fed.last assembled.epoch.0 epoch bucket place chained next above (omega arith)
    gone_place epoch bucket place low (inr differs) (inr old_one) =
        ap (option_and_then (λ (g : GatheredEpoch). place_at g bucket place)) (without_key old.epochs new.epochs assembled.epoch.0 epoch epochs differs)
        ∙ stands.gone_places epoch bucket place old_one

    gone_count : (epoch bucket : ℕ) → epoch ≤ assembled.epoch.0 → (assembled.epoch.0 ≡ epoch) ⊎ (assembled.epoch.0 ≡ epoch → ⊥) → (fed.last < epoch) ⊎ (epoch ≤ fed.last) → count_of new epoch bucket ≡ None
    gone_count epoch bucket low (inl same) between = ap (option_and_then (λ (g : GatheredEpoch). count_at g bucket)) (removed epoch same)
    gone_count epoch bucket low (inr differs) (inl above) =
        ap (option_and_then (λ (g : GatheredEpoch). count_at g bucket)) (without_key old.epochs new.epochs assembled.epoch.0 epoch epochs differs)
        ∙ stands.counts epoch bucket above
        ∙ no_count_between fed.received fed.last assembled.epoch.0 epoch bucket chained next above (omega arith)
    gone_count epoch bucket low (inr differs) (inr old_one) =
        ap (option_and_then (λ (g : GatheredEpoch). count_at g bucket)) (without_key old.epochs new.epochs assembled.epoch.0 epoch epochs differs)
        ∙ stands.gone_counts epoch bucket old_one

    sound : (epoch : ℕ) → (assembled.epoch.0 ≡ epoch) ⊎ (assembled.epoch.0 ≡ epoch → ⊥) → IfSome (tree.get nat_cmp new.epochs epoch) (λ g. IsSound g new.buckets)
    sound epoch (inl same) = subst (λ (o : Option GatheredEpoch). IfSome o (λ g. IsSound g new.buckets)) (sym (ap (tree.get nat_cmp new.epochs) (sym same) ∙ epochs.1)) tt
    sound epoch (inr differs) =
        subst (λ (o : Option GatheredEpoch). IfSome o (λ g. IsSound g new.buckets)) (sym (without_key old.epochs new.epochs assembled.epoch.0 epoch epochs differs))
        (subst (λ (n : ℕ). IfSome (tree.get nat_cmp old.epochs epoch) (λ g. IsSound g n)) (sym buckets) (stands.sound epoch))

-- if nothing is missing the next epoch is known, and something of it is kept
pub is_there : (buffer : EventBuffer) (fed : Fed) (missing : Option Missing) → StandsFor buffer fed → AreChained fed.received → missing ≡ missing_of fed → is_some missing ≡ false →
    option_and_then (tree.get nat_cmp buffer.epochs) (following_of buffer buffer.last.0) ≡ None → ⊥
is_there buffer fed missing stands chained is none absent =
    let h : true ≡ false = ap is_some (missing_absent buffer fed stands chained absent ∙ sym is) ∙ none in cc

none_missing : (o : Option Missing) → is_some o ≡ false → o ≡ None
none_missing None e = refl
none_missing (Some m) e = let h : true ≡ false = e in cc

-- the next epoch, by what is taken from the map
pub next_taken : (buffer : EventBuffer) (fed : Fed) (epoch : Epoch) → StandsFor buffer fed → AreChained fed.received → Some epoch ≡ tree.get nat_cmp buffer.following buffer.last.0 → next_epoch fed ≡ Some epoch.0
next_taken buffer fed epoch stands chained is = next_is buffer fed stands chained ∙ ap (option_map (λ (e : Epoch). e.0)) (sym is)

-- the epoch that is taken, by its parts
pub assembled_with : (buffer : EventBuffer) (fed : Fed) (epoch : Epoch) (gathered : GatheredEpoch) (missing : Option Missing) (parts : List (List Change)) → StandsFor buffer fed → AreChained fed.received →
    Some epoch ≡ tree.get nat_cmp buffer.following buffer.last.0 → Some gathered ≡ tree.get nat_cmp buffer.epochs epoch.0 → missing ≡ missing_of fed → is_some missing ≡ false →
    ((buckets : ℕ) → IsSound gathered buckets → missing_in gathered buckets ≡ None → parts ≡ parts_in gathered buckets) →
    Some (record { epoch = epoch; prev = buffer.last; parts = parts }) ≡ assembled_of fed
assembled_with buffer fed epoch gathered missing parts stands chained following is answer none gives =
    let next = next_taken buffer fed epoch stands chained following in
    let whole : missing_of fed ≡ None = sym answer ∙ none_missing missing none in
    let sound : IsSound gathered buffer.buckets = subst (λ (o : Option GatheredEpoch). IfSome o (λ g. IsSound g buffer.buckets)) (sym is) (stands.sound epoch.0) in
    let kept : missing_in gathered buffer.buckets ≡ None = ap (missing_in gathered) stands.buckets ∙ sym (missing_kept buffer fed epoch.0 gathered stands chained next (sym is)) ∙ whole in
    ap (λ (ps : List (List Change)). Some (record { epoch = epoch; prev = buffer.last; parts = ps })) (gives buffer.buckets sound kept)
    ∙ assembled_is buffer fed epoch.0 gathered stands chained next (sym is) whole
