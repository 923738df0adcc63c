-- What is missing of a bucket, and its part, by the places that came without a gap.
use Rattle.std.proofs.Common.{◌≡◌, ◌⊎◌, inl, inr, set, ℕ, ◌+◌, ◌<◌, ◌≤◌, zero, suc, Bool, true, false, cond, List, [], ◌∷◌, ◌++◌, length, refl, subst, sym, ap, ◌∙◌, arith, take, drop, get_or, add-one}
use Rattle.std.proofs.lemmas.List.{take-append-drop, append_assoc, take_all, get_or-set_other}
use Rattle.std.proofs.lemmas.Grind.{get_or-set_at}
use Rattle.std.proofs.Math.Seq.{take-append_seam}
use Rattle.std.specs.Prelude.{nat_lt, Option, Some, None, is_none, is_some, filter_map}
use Rattle.std.specs.List.{slice_get, find}
use Rattle.std.specs.Option.{option_or, option_map, unwrap_or}
use Rattle.std.specs.Prelude.{◌==◌}
use Rattle.std.specs.Option.{option_and_then}
use Rattle.std.proofs.Math.Dec.{eqb-suc-zero, eqb-zero-suc, eqb-suc-suc}
use Rattle.std.proofs.lemmas.Bool.{lt-ltb, le-ltb, cases_lt, cases_eq, eqb-true}
use Rattle.std.proofs.lemmas.Option.{slice_get-get_or, slice_get_past, slice_get_within, slice_get_read, get_or_from_slice_get}
use Rattle.rb_base.specs.declared.change.Change.{Change}
use Rattle.rb_message_defs.specs.declared.answers.Missing.{Missing}
use Rattle.rb_journal_defs.specs.Body.{numbers_below}
use Rattle.rb_evbuf.specs.Gathered.{missing_under, part_under, place_in, IsGapless}
use Rattle.rb_evbuf.specs.Epoch.{place_at, count_at, IsSound, missing_in, parts_in}
use Rattle.rb_evbuf.specs.declared.gathered.Gathered.{Gathered}
use Rattle.rb_evbuf.specs.declared.epoch.GatheredEpoch.{GatheredEpoch}
use Rattle.rb_evbuf.proofs.Numbers.{find_lowest, filter_map_prefix, list_by_places, none_given, first_more, first_stays}

there : {X : Type 0} (front : List X) (later : ℕ → Option X) (p : ℕ) → p < length front → is_none (option_or (slice_get front p) (later p)) ≡ false
there [] later p below = absurd (omega arith)
there (x ∷ xs) later p below = rw (slice_get-get_or (x ∷ xs) p x below) refl

gone : {X : Type 0} (front : List X) (later : ℕ → Option X) → later (length front) ≡ None → is_none (option_or (slice_get front (length front)) (later (length front))) ≡ true
gone front later none = rw (slice_get_past front (length front) (omega arith), none) refl

true_is_false : false ≡ true → ⊥
true_is_false e = cc

-- the lowest place that is missing is the one after the front
missing_is : (bucket : ℕ) (front : List Change) (later : ℕ → Option Change) (count : ℕ) → later (length front) ≡ None →
    missing_under bucket (λ place. option_or (slice_get front place) (later place)) (Some count)
    ≡ option_map (λ place. record { bucket = bucket; place = Some place }) (cond (nat_lt (length front) count) (Some (length front)) None)
missing_is bucket front later count none =
    ap (option_map (λ (place : ℕ). record { bucket = bucket; place = Some place }))
    (find_lowest (λ place. option_or (slice_get front place) (later place)) (length front) (there front later) (gone front later none) count)

pub missing_some : (bucket : ℕ) (front : List Change) (later : ℕ → Option Change) (count : ℕ) → later (length front) ≡ None → length front < count →
    Some (record { bucket = bucket; place = Some (length front) }) ≡ missing_under bucket (λ place. option_or (slice_get front place) (later place)) (Some count)
missing_some bucket front later count none below = sym (missing_is bucket front later count none ∙ rw (lt-ltb (length front) count below) refl)

pub missing_none : (bucket : ℕ) (front : List Change) (later : ℕ → Option Change) (count : ℕ) → later (length front) ≡ None → count ≤ length front →
    None ≡ missing_under bucket (λ place. option_or (slice_get front place) (later place)) (Some count)
missing_none bucket front later count none above = sym (missing_is bucket front later count none ∙ rw (le-ltb (length front) count above) refl)

some_is_none : {X : Type 0} (x : X) → Some x ≡ None → ⊥
some_is_none x e = cc

-- if nothing is missing, the front has the part
pub part_is : (bucket : ℕ) (front : List Change) (later : ℕ → Option Change) (count : Option ℕ) (most : ℕ) → later (length front) ≡ None →
    missing_under bucket (λ place. option_or (slice_get front place) (later place)) count ≡ None →
    most ≡ unwrap_or count 0 →
    take most front ≡ part_under (λ place. option_or (slice_get front place) (later place)) count
part_is bucket front later None most none whole is = absurd (some_is_none _ whole)
part_is bucket front later (Some count) most none whole is = rw is (go (cases_lt (length front) count))
  where
    go : (length front < count) ⊎ (count ≤ length front) → take count front ≡ filter_map (λ place. option_or (slice_get front place) (later place)) (numbers_below count)
    go (inl below) = absurd (some_is_none _ (missing_some bucket front later count none below ∙ whole))
    go (inr above) = sym (filter_map_prefix front later count above)

-- an item written
slice_get_set : {X : Type 0} (xs : List X) (i : ℕ) (x : X) (j : ℕ) → i < length xs → slice_get (set xs i x) j ≡ cond (i == j) (Some x) (slice_get xs j)
slice_get_set [] i x j within = absurd (omega arith)
slice_get_set (y ∷ ys) zero x zero within = refl
slice_get_set (y ∷ ys) zero x (suc j) within = rw (eqb-zero-suc j) refl
slice_get_set (y ∷ ys) (suc i) x zero within = rw (eqb-suc-zero i) refl
slice_get_set (y ∷ ys) (suc i) x (suc j) within = rw (eqb-suc-suc i j) (slice_get_set ys i x j (omega arith))

-- what is seen of each item after one is written, if `added` says it of the new one
pub seen_written : {X Y : Type 0} (view : X → Option Y) (xs : List X) (i : ℕ) (old new : X) (added : Bool → Option Y) (j : ℕ) →
    slice_get xs i ≡ Some old → view new ≡ option_or (view old) (added true) → added false ≡ None →
    option_and_then view (slice_get (set xs i new) j) ≡ option_or (option_and_then view (slice_get xs j)) (added (i == j))
seen_written {X} {Y} view xs i old new added j was kept none = rw (slice_get_set xs i new j (slice_get_within xs i old was)) (go (i == j) refl)
  where
    or_none : (o : Option Y) → o ≡ option_or o None
    or_none None = refl
    or_none (Some y) = refl

    go : (b : Bool) → (i == j) ≡ b → option_and_then view (cond b (Some new) (slice_get xs j)) ≡ option_or (option_and_then view (slice_get xs j)) (added b)
    go true same = let e : i ≡ j = eqb-true i j same in rw (← e, was) kept
    go false differs = rw none (or_none (option_and_then view (slice_get xs j)))

-- the same if the new one shows what the old one did
pub seen_same : {X Y : Type 0} (view : X → Option Y) (xs : List X) (i : ℕ) (old new : X) (j : ℕ) →
    slice_get xs i ≡ Some old → view new ≡ view old →
    option_and_then view (slice_get (set xs i new) j) ≡ option_and_then view (slice_get xs j)
seen_same {X} {Y} view xs i old new j was same = rw (slice_get_set xs i new j (slice_get_within xs i old was)) (go (i == j) refl)
  where
    go : (b : Bool) → (i == j) ≡ b → option_and_then view (cond b (Some new) (slice_get xs j)) ≡ option_and_then view (slice_get xs j)
    go true equal = let e : i ≡ j = eqb-true i j equal in rw (← e, was) same
    go false differs = refl

-- what is missing of a bucket that exists, and its part
pub missing_there : (epoch : GatheredEpoch) (bucket : ℕ) (gathered : Gathered) → slice_get epoch.buckets.items bucket ≡ Some gathered →
    missing_under bucket (place_at epoch bucket) (count_at epoch bucket) ≡ missing_under bucket (place_in gathered) gathered.count
missing_there epoch bucket gathered is =
    ap (λ (o : Option Gathered). missing_under bucket (λ place. option_and_then (λ (g : Gathered). place_in g place) o) (option_and_then (λ (g : Gathered). g.count) o)) is

pub part_there : (epoch : GatheredEpoch) (bucket : ℕ) (gathered : Gathered) → slice_get epoch.buckets.items bucket ≡ Some gathered →
    part_under (place_at epoch bucket) (count_at epoch bucket) ≡ part_under (place_in gathered) gathered.count
part_there epoch bucket gathered is =
    ap (λ (o : Option Gathered). part_under (λ place. option_and_then (λ (g : Gathered). place_in g place) o) (option_and_then (λ (g : Gathered). g.count) o)) is

-- nothing is missing, whatever the bucket's number
pub none_of_any : (a b : ℕ) (held : ℕ → Option Change) (count : Option ℕ) → missing_under a held count ≡ None → missing_under b held count ≡ None
none_of_any a b held None none = absurd (some_is_none _ none)
none_of_any a b held (Some count) none = go (find (λ place. is_none (held place)) (numbers_below count)) none
  where
    go : (o : Option ℕ) → option_map {U = Missing} (λ (place : ℕ). record { bucket = a; place = Some place }) o ≡ None → option_map {U = Missing} (λ (place : ℕ). record { bucket = b; place = Some place }) o ≡ None
    go None none = refl
    go (Some place) none = absurd (some_is_none _ none)

-- an item that a lookup gives
pub item_is : {X : Type 0} (xs : List X) (i : ℕ) (x : X) → i < length xs → x ≡ get_or xs i x → slice_get xs i ≡ Some x
item_is xs i x within is = slice_get_read xs (length xs) i x refl within is

slice_get_seam : {X : Type 0} (ys : List X) (x : X) (rest : List X) → slice_get (ys ++ x ∷ rest) (length ys) ≡ Some x
slice_get_seam [] x rest = refl
slice_get_seam (y ∷ ys) x rest = slice_get_seam ys x rest

-- a front without its last item
pub popped : {X : Type 0} (xs ys : List X) (x : X) (n : ℕ) → take n xs ≡ ys ++ x ∷ [] → (ys ≡ take (length ys) xs) × (slice_get xs (length ys) ≡ Some x)
popped {X} xs ys x n is =
    let whole : xs ≡ ys ++ (x ∷ drop n xs) = sym (take-append-drop n xs) ∙ ap (λ (front : List X). front ++ drop n xs) is ∙ append_assoc ys (x ∷ []) (drop n xs) in
    (sym (ap (take (length ys)) whole ∙ take-append_seam ys (x ∷ drop n xs)), ap (λ (zs : List X). slice_get zs (length ys)) whole ∙ slice_get_seam ys x (drop n xs))

-- one more part, from the end
pub one_part_more : (epoch : GatheredEpoch) (buckets at : ℕ) (gathered : Gathered) (before : List (List Change)) (part : List Change) →
    IsSound epoch buckets → length before ≡ buckets → slice_get epoch.buckets.items at ≡ Some gathered →
    (IsGapless gathered → missing_under 0 (place_in gathered) gathered.count ≡ None → part ≡ part_under (place_in gathered) gathered.count) →
    ((k : ℕ) (d : List Change) → at + 1 ≤ k → k < buckets → missing_under k (place_at epoch k) (count_at epoch k) ≡ None → get_or before k d ≡ part_under (place_at epoch k) (count_at epoch k)) →
    (k : ℕ) (d : List Change) → at ≤ k → k < buckets → missing_under k (place_at epoch k) (count_at epoch k) ≡ None → get_or (set before at part) k d ≡ part_under (place_at epoch k) (count_at epoch k)
one_part_more epoch buckets at gathered before part sound room is gives done k d above below none = go (cases_eq at k)
  where
    gapless : IsGapless gathered
    gapless = subst IsGapless (get_or_from_slice_get epoch.buckets.items at gathered gathered is) (sound.gapless at gathered (slice_get_within epoch.buckets.items at gathered is))

    go : (at ≡ k) ⊎ (at ≡ k → ⊥) → get_or (set before at part) k d ≡ part_under (place_at epoch k) (count_at epoch k)
    go (inl same) =
        let there : slice_get epoch.buckets.items k ≡ Some gathered = ap (slice_get epoch.buckets.items) (sym same) ∙ is in
        get_or-set_at before at k part d (sym same) (omega arith)
        ∙ gives gapless (none_of_any k 0 (place_in gathered) gathered.count (sym (missing_there epoch k gathered there) ∙ none))
        ∙ sym (part_there epoch k gathered there)
    go (inr differs) = get_or-set_other before at k part d (λ same. differs (sym same)) ∙ done k d (let h : k ≡ at → ⊥ = λ same. differs (sym same) in omega arith) below none

-- all parts are there
pub all_parts : (epoch : GatheredEpoch) (buckets : ℕ) (parts : List (List Change)) → length parts ≡ buckets → missing_in epoch buckets ≡ None →
    ((k : ℕ) (d : List Change) → 0 ≤ k → k < buckets → missing_under k (place_at epoch k) (count_at epoch k) ≡ None → get_or parts k d ≡ part_under (place_at epoch k) (count_at epoch k)) →
    parts ≡ parts_in epoch buckets
all_parts epoch buckets parts room none done =
    sym (take_all buckets parts (omega arith))
    ∙ list_by_places (λ bucket. part_under (place_at epoch bucket) (count_at epoch bucket)) parts buckets (omega arith)
    (λ k d below. done k d (omega arith) below (none_given (λ bucket. missing_under bucket (place_at epoch bucket) (count_at epoch bucket)) buckets none k below))

-- nothing is missing of one bucket more
pub none_more : (epoch : GatheredEpoch) (bucket : ℕ) → missing_in epoch bucket ≡ None → missing_under bucket (place_at epoch bucket) (count_at epoch bucket) ≡ None →
    missing_in epoch (bucket + 1) ≡ None
none_more epoch bucket none here =
    rw (add-one bucket) (first_more (λ b. missing_under b (place_at epoch b) (count_at epoch b)) bucket ∙ rw (none, here) refl)

-- the first that is missing
pub first_missing : (epoch : GatheredEpoch) (bucket buckets : ℕ) (answer : Option Missing) → missing_in epoch bucket ≡ None → bucket < buckets → is_some answer ≡ true →
    answer ≡ missing_under bucket (place_at epoch bucket) (count_at epoch bucket) → answer ≡ missing_in epoch buckets
first_missing epoch bucket buckets None none below some is = absurd (true_is_false some)
first_missing epoch bucket buckets (Some missing) none below some is =
    sym (first_stays (λ b. missing_under b (place_at epoch b) (count_at epoch b)) bucket missing none (sym is) buckets below)

-- the result is none if it is not some
pub not_some : {X : Type 0} (o : Option X) → is_some o ≡ false → o ≡ None
not_some None e = refl
not_some (Some x) e = absurd (true_is_false (sym e))
