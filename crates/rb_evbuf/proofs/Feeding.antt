-- What a buffer represents, message by message.
use Rattle.std.proofs.Common.{◌≡◌, ℕ, ◌<◌, ◌≤◌, suc, Bool, true, false, List, [], ◌∷◌, refl, subst, sym, ap, ◌∙◌, arith}
use Rattle.std.specs.Prelude.{◌==◌, ◌&&◌, if◌then◌else◌, Option, Some, None, is_none, is_some, filter_map, Contains, IfSome}
use Rattle.std.specs.List.{cons_option}
use Rattle.std.specs.Option.{option_or}
use Rattle.std.specs.Ordering.{nat_cmp}
use Rattle.std.specs.BTreeMap as tree
use Rattle.std.proofs.lemmas.Bool.{le-leb, lt-leb, ne_eqb}
use Rattle.rb_base.specs.declared.epoch.Epoch.{Epoch}
use Rattle.rb_base.specs.declared.change.Change.{Change}
use Rattle.rb_base.specs.declared.message.Message.{Message}
use Rattle.rb_base.specs.declared.message.Message.TheVariants.{Part, Done}
use Rattle.rb_journal_defs.specs.Transaction.{first_of}
use Rattle.rb_message_defs.specs.Message.{bucket_in, epoch_in}
use Rattle.rb_message_defs.specs.Received.{Fed, change_for, count_for, part_in, count_in, answer_to, epoch_following, AreChained}
use Rattle.rb_message_defs.specs.declared.answers.Received.TheVariants as answers
use Rattle.rb_evbuf.specs.Buffer.{StandsFor, place_of, count_of, following_of, AreSound}
use Rattle.std.specs.BTreeMap.{BTreeMap}
use Rattle.rb_evbuf.specs.Epoch.{IsSound}
use Rattle.rb_evbuf.specs.declared.epoch.GatheredEpoch.{GatheredEpoch}
use Rattle.rb_evbuf.specs.declared.buffer.EventBuffer.{EventBuffer}

-- fewer messages are chained if more are
pub chained_before : (message : Message) (older : List Message) → AreChained (message ∷ older) → AreChained older
chained_before message older chained = λ bucket epoch prev count has.
    let both = chained bucket epoch prev count (suc has.0, omega (arith, has.1), has.2) in
    (both.0, λ other inside later. both.1 other (suc inside.0, omega (arith, inside.1), inside.2) later)

-- the first message is one of them
pub head_of : (message : Message) (older : List Message) → Contains (message ∷ older) message
head_of message older = (0, omega arith, refl)

or_none : {X : Type 0} (o : Option X) → option_or o None ≡ o
or_none None = refl
or_none (Some x) = refl

-- a message of another epoch brings nothing for this one
other_change : (message : Message) (epoch bucket place : ℕ) → (epoch_in message ≡ epoch → ⊥) → change_for epoch bucket place message ≡ None
other_change (Part b own p change) epoch bucket place differs = rw (ne_eqb own.0 epoch differs) refl
other_change (Done b own prev count) epoch bucket place differs = refl

other_count : (message : Message) (epoch bucket : ℕ) → (epoch_in message ≡ epoch → ⊥) → count_for epoch bucket message ≡ None
other_count (Part b own p change) epoch bucket differs = refl
other_count (Done b own prev count) epoch bucket differs = rw (ne_eqb own.0 epoch differs) refl

-- an old message puts nothing after an epoch from the last taken one on
old_after : (message : Message) (older : List Message) (last epoch : ℕ) → AreChained (message ∷ older) → epoch_in message ≤ last → last ≤ epoch → epoch_following epoch message ≡ None
old_after (Part b own p change) older last epoch chained old from = refl
old_after (Done b own prev count) older last epoch chained old from =
    let before : prev.0 < own.0 = (chained b own prev count (head_of (Done b own prev count) older)).0 in
    let old : own.0 ≤ last = old in
    rw (ne_eqb prev.0 epoch (λ same. absurd (omega arith))) refl

no_buckets : (message : Message) (older : List Message) (buckets total : ℕ) → bucket_in message < buckets → buckets ≡ total → total ≡ 0 → message ∷ older ≡ []
no_buckets message older buckets total below same none = absurd (omega arith)

-- an old message changes nothing
pub old_message : (buffer : EventBuffer) (fed : Fed) (message : Message) → StandsFor buffer fed → bucket_in message < buffer.buckets → epoch_in message ≤ buffer.last.0 →
    StandsFor buffer (record fed { received = message ∷ fed.received })
old_message buffer fed message stands below old =
    let last : buffer.last.0 ≡ fed.last = stands.last in
    record {
      buckets = stands.buckets;
      last = stands.last;
      some = no_buckets message fed.received buffer.buckets fed.buckets below stands.buckets;
      sound = stands.sound;
      places = λ epoch bucket place later. stands.places epoch bucket place later
          ∙ sym (ap (λ (o : Option Change). option_or (part_in fed.received epoch bucket place) o) (other_change message epoch bucket place (λ (same : epoch_in message ≡ epoch). absurd (omega arith))) ∙ or_none (part_in fed.received epoch bucket place));
      gone_places = stands.gone_places;
      gone_counts = stands.gone_counts;
      counts = λ epoch bucket later. stands.counts epoch bucket later
          ∙ sym (ap (λ (o : Option ℕ). option_or (count_in fed.received epoch bucket) o) (other_count message epoch bucket (λ (same : epoch_in message ≡ epoch). absurd (omega arith))) ∙ or_none (count_in fed.received epoch bucket));
      following = λ chained epoch from. stands.following (chained_before message fed.received chained) epoch from
          ∙ sym (ap (λ (o : Option ℕ). first_of (cons_option o (filter_map (epoch_following epoch) fed.received))) (old_after message fed.received fed.last epoch chained (omega arith) from));
    }

pub old_answer : (buffer : EventBuffer) (fed : Fed) (message : Message) → StandsFor buffer fed → epoch_in message ≤ buffer.last.0 → answers.Old ≡ answer_to fed message
old_answer buffer fed message stands old = let last : buffer.last.0 ≡ fed.last = stands.last in rw (le-leb (epoch_in message) fed.last (omega arith)) refl

-- a buffer that shows what another does represents the same
pub shows_same : (old new : EventBuffer) (fed : Fed) → StandsFor old fed → new.buckets ≡ old.buckets → new.last ≡ old.last → (AreSound old → AreSound new) →
    ((e b p : ℕ) → place_of new e b p ≡ place_of old e b p) → ((e b : ℕ) → count_of new e b ≡ count_of old e b) → ((e : ℕ) → following_of new e ≡ following_of old e) → StandsFor new fed
shows_same old new fed stands buckets last sound places counts following = record {
  buckets = buckets ∙ stands.buckets;
  last = ap (λ (e : Epoch). e.0) last ∙ stands.last;
  some = stands.some;
  sound = sound stands.sound;
  places = λ e b p later. places e b p ∙ stands.places e b p later;
  counts = λ e b later. counts e b ∙ stands.counts e b later;
  gone_places = λ e b p low. places e b p ∙ stands.gone_places e b p low;
  gone_counts = λ e b low. counts e b ∙ stands.gone_counts e b low;
  following = λ chained e from. following e ∙ stands.following chained e from;
}

-- a change that is not old
pub kept_part : (old new : EventBuffer) (fed : Fed) (bucket : ℕ) (epoch : Epoch) (place : ℕ) (change : Change) → StandsFor old fed → bucket < old.buckets → old.last.0 < epoch.0 →
    new.buckets ≡ old.buckets → new.last ≡ old.last → (AreSound old → AreSound new) →
    ((e b p : ℕ) → place_of new e b p ≡ option_or (place_of old e b p) (if (epoch.0 == e) && (bucket == b) && (place == p) then Some change else None)) →
    ((e b : ℕ) → count_of new e b ≡ count_of old e b) → ((e : ℕ) → following_of new e ≡ following_of old e) →
    StandsFor new (record fed { received = Part bucket epoch place change ∷ fed.received })
kept_part old new fed bucket epoch place change stands below later buckets last sound places counts following = record {
  buckets = buckets ∙ stands.buckets;
  last = ap (λ (e : Epoch). e.0) last ∙ stands.last;
  some = no_buckets (Part bucket epoch place change) fed.received old.buckets fed.buckets below stands.buckets;
  sound = sound stands.sound;
  places = λ e b p later. places e b p ∙ ap (λ (o : Option Change). option_or o (if (epoch.0 == e) && (bucket == b) && (place == p) then Some change else None)) (stands.places e b p later);
  counts = λ e b later. counts e b ∙ stands.counts e b later ∙ sym (or_none (count_in fed.received e b));
  gone_places = λ e b p low. places e b p ∙ rw (ne_eqb epoch.0 e (λ same. absurd (let h : old.last.0 ≡ fed.last = stands.last in omega arith))) (or_none (place_of old e b p) ∙ stands.gone_places e b p low);
  gone_counts = λ e b low. counts e b ∙ stands.gone_counts e b low;
  following = λ chained e from. following e ∙ stands.following (chained_before (Part bucket epoch place change) fed.received chained) e from;
}

first_or : (b : Bool) (e : ℕ) (es : List ℕ) (o : Option ℕ) → o ≡ first_of es → (if b then Some e else o) ≡ first_of (cons_option (if b then Some e else None) es)
first_or true e es o is = refl
first_or false e es o is = is

-- a Done that is not old
pub kept_done : (old new : EventBuffer) (fed : Fed) (bucket : ℕ) (epoch prev : Epoch) (count : ℕ) → StandsFor old fed → bucket < old.buckets → old.last.0 < epoch.0 →
    new.buckets ≡ old.buckets → new.last ≡ old.last → (AreSound old → AreSound new) →
    ((e b p : ℕ) → place_of new e b p ≡ place_of old e b p) →
    ((e b : ℕ) → count_of new e b ≡ option_or (count_of old e b) (if (epoch.0 == e) && (bucket == b) then Some count else None)) →
    ((e : ℕ) → old.last.0 ≤ e → following_of new e ≡ (if prev.0 == e then Some epoch.0 else following_of old e)) →
    StandsFor new (record fed { received = Done bucket epoch prev count ∷ fed.received })
kept_done old new fed bucket epoch prev count stands below later buckets last sound places counts following = record {
  buckets = buckets ∙ stands.buckets;
  last = ap (λ (e : Epoch). e.0) last ∙ stands.last;
  some = no_buckets (Done bucket epoch prev count) fed.received old.buckets fed.buckets below stands.buckets;
  sound = sound stands.sound;
  places = λ e b p later. places e b p ∙ stands.places e b p later ∙ sym (or_none (part_in fed.received e b p));
  counts = λ e b later. counts e b ∙ ap (λ (o : Option ℕ). option_or o (if (epoch.0 == e) && (bucket == b) then Some count else None)) (stands.counts e b later);
  gone_places = λ e b p low. places e b p ∙ stands.gone_places e b p low;
  gone_counts = λ e b low. counts e b ∙ rw (ne_eqb epoch.0 e (λ same. absurd (let h : old.last.0 ≡ fed.last = stands.last in omega arith))) (or_none (count_of old e b) ∙ stands.gone_counts e b low);
  following = λ chained e from. following e (let h : old.last.0 ≡ fed.last = stands.last in omega arith)
      ∙ first_or (prev.0 == e) epoch.0 (filter_map (epoch_following e) fed.received) (following_of old e) (stands.following (chained_before (Done bucket epoch prev count) fed.received chained) e from);
}

known_or_kept : {X : Type 0} (o held : Option X) (first : Bool) → first ≡ is_none o → o ≡ held →
    (if first then answers.Kept else answers.Known) ≡ (if is_some held then answers.Known else answers.Kept)
known_or_kept None None first is same = rw is refl
known_or_kept None (Some y) first is same = let h : None ≡ Some y = same in cc
known_or_kept (Some x) None first is same = let h : Some x ≡ None = same in cc
known_or_kept (Some x) (Some y) first is same = rw is refl

pub part_answer : (buffer : EventBuffer) (fed : Fed) (bucket : ℕ) (epoch : Epoch) (place : ℕ) (change : Change) (first : Bool) → StandsFor buffer fed → buffer.last.0 < epoch.0 →
    first ≡ is_none (place_of buffer epoch.0 bucket place) → (if first then answers.Kept else answers.Known) ≡ answer_to fed (Part bucket epoch place change)
part_answer buffer fed bucket epoch place change first stands later is =
    let after : fed.last < epoch.0 = (let h : buffer.last.0 ≡ fed.last = stands.last in omega arith) in
    rw (lt-leb epoch.0 fed.last after) (known_or_kept (place_of buffer epoch.0 bucket place) (part_in fed.received epoch.0 bucket place) first is (stands.places epoch.0 bucket place after))

pub done_answer : (buffer : EventBuffer) (fed : Fed) (bucket : ℕ) (epoch prev : Epoch) (count : ℕ) (first : Bool) → StandsFor buffer fed → buffer.last.0 < epoch.0 →
    first ≡ is_none (count_of buffer epoch.0 bucket) → (if first then answers.Kept else answers.Known) ≡ answer_to fed (Done bucket epoch prev count)
done_answer buffer fed bucket epoch prev count first stands later is =
    let after : fed.last < epoch.0 = (let h : buffer.last.0 ≡ fed.last = stands.last in omega arith) in
    rw (lt-leb epoch.0 fed.last after) (known_or_kept (count_of buffer epoch.0 bucket) (count_in fed.received epoch.0 bucket) first is (stands.counts epoch.0 bucket after))

-- the same epochs and buckets are sound
pub sound_same : (old new : EventBuffer) → new.epochs ≡ old.epochs → new.buckets ≡ old.buckets → AreSound old → AreSound new
sound_same old new epochs buckets sound = λ epoch.
    subst (λ (m : BTreeMap ℕ GatheredEpoch). IfSome (tree.get nat_cmp m epoch) (λ g. IsSound g new.buckets)) (sym epochs)
    (subst (λ (n : ℕ). IfSome (tree.get nat_cmp old.epochs epoch) (λ g. IsSound g n)) (sym buckets) (sound epoch))
