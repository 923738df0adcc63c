-- Laws on the messages of a journal: a message that was sent stays a message of the journal, and a
-- message that a commit sends becomes one.
use Rattle.std.proofs.Common.{◌≡◌, ◌≢◌, ℕ, ◌%◌, zero, suc, eq-eqb, ne_eqb, ◌+◌, ◌<◌, ◌≤◌, List, [], ◌∷◌, ◌++◌, length, take, map, filter, refl, sym, ap, subst, ◌∙◌, inl, inr, arith, le-ltb, mod-lt, append_assoc}
use Rattle.std.specs.Prelude.{◌⊎◌, ◌==◌, nat_lt, if◌then◌else◌, Some, None, unwrap_or}
use Rattle.std.specs.List.{AllByRecursion, enumerate_from, slice_get, last_or}
use Rattle.std.proofs.lemmas.List.{append-nil}
use Rattle.std.proofs.lemmas.List.Elements.{filter-append}
use native.Mathlib.Numerals.{unary_clauses}
use Rattle.rb_base.specs.Bucket.{bucket_number}
use Rattle.rb_base.specs.declared.change.Change.{Change}
use Rattle.rb_base.specs.declared.message.Message.{Message}
use Rattle.rb_base.specs.declared.message.Message.TheVariants.{Part, Done}
use Rattle.rb_journal_defs.specs.Journal.{Entry, Closed, Journal, changes_of, closed_epochs, previous_closed}
use Rattle.rb_journal_defs.specs.Body.{Shape, changes_in, in_bucket, part_of, numbers_below}
use Rattle.rb_journal_defs.specs.Order.{InOrder, AddsTo}
use Rattle.rb_journal_defs.proofs.Bodies.{changes_in_closed, adds_epoch}
use Rattle.rb_journal_defs.proofs.Order.{eq_or_ne, changes_here, changes_elsewhere, closed_below, adds_stays_closed, adds_previous}
use Rattle.rb_message_defs.specs.Message.{bucket_in, IsMessageOf, part_message, parts_sent}

pub get_left : {X : Type 0} → (xs ys : List X) (k : ℕ) (x : X) → slice_get xs k ≡ Some x → slice_get (xs ++ ys) k ≡ Some x
get_left [] ys k x same = absurd (let g : None ≡ Some x = same in cc)
get_left (y ∷ xs) ys zero x same = same
get_left (y ∷ xs) ys (suc k) x same = get_left xs ys k x same

pub get_end : {X : Type 0} → (xs : List X) (y : X) (ys : List X) → slice_get (xs ++ y ∷ ys) (length xs) ≡ Some y
get_end [] y ys = refl
get_end (x ∷ xs) y ys = get_end xs y ys

-- a new entry appends to the parts of its epoch and of no other epoch
pub part_of_entered : (shape : Shape) (o e b : ℕ) (x : Entry) (j : Journal) → AddsTo o x → (e ≡ o) ⊎ (e ≢ o) →
    part_of shape e b (x ∷ j) ≡ part_of shape e b j ++ (if e == o then in_bucket shape.buckets b (changes_of shape.site x) else [])
part_of_entered shape o e b x j adds (inl q) =
    ap (in_bucket shape.buckets b) (changes_here shape.site e x j (adds_epoch o x adds ∙ sym q))
    ∙ filter-append (λ change. bucket_number change.table change.key shape.buckets == b) (changes_in shape.site e j) (changes_of shape.site x)
    ∙ sym (rw (eq-eqb e o q) refl)
part_of_entered shape o e b x j adds (inr n) =
    ap (in_bucket shape.buckets b) (changes_elsewhere shape.site e x j (λ q. n (sym q ∙ adds_epoch o x adds)))
    ∙ sym (rw (ne_eqb e o n) (append-nil (part_of shape e b j)))

pub part_of_close : (shape : Shape) (e b c : ℕ) (j : Journal) → part_of shape e b (Closed c ∷ j) ≡ part_of shape e b j
part_of_close shape e b c j = ap (in_bucket shape.buckets b) (changes_in_closed shape.site e c j)

-- a message of the journal stays one after a new entry
pub stays_when_entered : (shape : Shape) (o : ℕ) (x : Entry) (j : Journal) (m : Message) → AddsTo o x → InOrder o j → IsMessageOf shape j m → IsMessageOf shape (x ∷ j) m
stays_when_entered shape o x j (Part bucket epoch place change) adds h is =
    let more = part_of_entered shape o epoch.0 bucket x j adds (eq_or_ne epoch.0 o) in
    subst (λ (part : List Change). slice_get part place ≡ Some change) (sym more) (get_left (part_of shape epoch.0 bucket j) (if epoch.0 == o then in_bucket shape.buckets bucket (changes_of shape.site x) else []) place change is)
stays_when_entered shape o x j (Done bucket epoch prev count) adds h is =
    let below : epoch.0 < o = closed_below o epoch.0 j h is.0 in
    let own = adds_epoch o x adds in
    let same : part_of shape epoch.0 bucket (x ∷ j) ≡ part_of shape epoch.0 bucket j = ap (in_bucket shape.buckets bucket) (changes_elsewhere shape.site epoch.0 x j (omega arith)) in
    (adds_stays_closed o epoch.0 x j adds is.0, is.1 ∙ sym (adds_previous o epoch.0 x j adds), is.2 ∙ ap length (sym same))

-- a close of an epoch that is not below `e` leaves the epoch before `e` unchanged
pub previous_stays : (e o : ℕ) (j : Journal) → e ≤ o → previous_closed e (Closed o ∷ j) ≡ previous_closed e j
previous_stays e o j l =
    let ends : filter (λ c. nat_lt c e) (closed_epochs j ++ o ∷ []) ≡ filter (λ c. nat_lt c e) (closed_epochs j) =
    filter-append (λ c. nat_lt c e) (closed_epochs j) (o ∷ []) ∙ rw (le-ltb o e l) (append-nil (filter (λ c. nat_lt c e) (closed_epochs j))) in
    ap (λ (es : List ℕ). unwrap_or (last_or None es) 0) ends

-- a message of the journal stays one at a close
pub stays_at_close : (shape : Shape) (o : ℕ) (j : Journal) (m : Message) → InOrder o j → IsMessageOf shape j m → IsMessageOf shape (Closed o ∷ j) m
stays_at_close shape o j (Part bucket epoch place change) h is =
    subst (λ (part : List Change). slice_get part place ≡ Some change) (sym (part_of_close shape epoch.0 bucket o j)) is
stays_at_close shape o j (Done bucket epoch prev count) h is =
    let below : epoch.0 < o = closed_below o epoch.0 j h is.0 in
    (inr is.0, is.1 ∙ sym (previous_stays epoch.0 o j (omega arith)), is.2 ∙ ap length (sym (part_of_close shape epoch.0 bucket o j)))

-- facts about all items that follow from other facts about them
pub all_more : {X : Type 0} → (P Q : X → Type 0) (xs : List X) → ((x : X) → P x → Q x) → AllByRecursion P xs → AllByRecursion Q xs
all_more P Q [] f all = tt
all_more P Q (x ∷ xs) f all = (f x all.0, all_more P Q xs f all.1)

pub all_joined : {X : Type 0} → (P : X → Type 0) (xs ys : List X) → AllByRecursion P xs → AllByRecursion P ys → AllByRecursion P (xs ++ ys)
all_joined P [] ys first second = second
all_joined P (x ∷ xs) ys first second = (first.0, all_joined P xs ys first.1 second)

-- the messages of a commit, the first change and then the others
enumerate_shift : {X Y : Type 0} → (f : ℕ × X → Y) (n : ℕ) (xs : List X) → map f (enumerate_from (n + 1) xs) ≡ map (λ p. f (p.0 + 1, p.1)) (enumerate_from n xs)
enumerate_shift f n [] = refl
enumerate_shift f n (x ∷ xs) = ap (λ (ys : List _). f (n + 1, x) ∷ ys) (enumerate_shift f (n + 1) xs)

take_onto : (earlier cs : List Change) (c : Change) (k : ℕ) → earlier ++ take (k + 1) (c ∷ cs) ≡ (earlier ++ c ∷ []) ++ take k cs
take_onto earlier cs c k = simp unary_clauses (sym (append_assoc earlier (c ∷ []) (take k cs)))

map_same : {X Y : Type 0} → (f g : X → Y) (xs : List X) → ((x : X) → f x ≡ g x) → map f xs ≡ map g xs
map_same f g [] same = refl
map_same f g (x ∷ xs) same = rw (same x) (ap (λ (ys : List _). g x ∷ ys) (map_same f g xs same))

pub parts_sent_first : (buckets e : ℕ) (earlier cs : List Change) (c : Change) → parts_sent buckets e earlier (c ∷ cs) ≡ part_message buckets e earlier c ∷ parts_sent buckets e (earlier ++ c ∷ []) cs
unfolding parts_sent
parts_sent_first buckets e earlier cs c =
    let first : part_message buckets e (earlier ++ []) c ≡ part_message buckets e earlier c = ap (λ (cs : List Change). part_message buckets e cs c) (append-nil earlier) in
    let shift = enumerate_shift (λ (numbered : ℕ × Change). part_message buckets e (earlier ++ take numbered.0 (c ∷ cs)) numbered.1) 0 cs in
    let same = map_same (λ (numbered : ℕ × Change). part_message buckets e (earlier ++ take (numbered.0 + 1) (c ∷ cs)) numbered.1) (λ (numbered : ℕ × Change). part_message buckets e ((earlier ++ c ∷ []) ++ take numbered.0 cs) numbered.1) (enumerate_from 0 cs) (λ numbered. ap (λ (es : List Change). part_message buckets e es numbered.1) (take_onto earlier cs c numbered.0)) in
    ap (λ (m : Message). m ∷ map (λ (numbered : ℕ × Change). part_message buckets e (earlier ++ take numbered.0 (c ∷ cs)) numbered.1) (enumerate_from 1 cs)) first
    ∙ ap (λ (ms : List Message). part_message buckets e earlier c ∷ ms) (shift ∙ same)

-- the change after these earlier ones in the part of its bucket
place_in_part : (shape : Shape) (earlier later : List Change) (c : Change) →
    let b = bucket_number c.table c.key shape.buckets in
    slice_get (in_bucket shape.buckets b (earlier ++ c ∷ later)) (length (in_bucket shape.buckets b earlier)) ≡ Some c
place_in_part shape earlier later c =
    let b = bucket_number c.table c.key shape.buckets in
    let here : in_bucket shape.buckets b (c ∷ later) ≡ c ∷ in_bucket shape.buckets b later = rw (eq-eqb b b refl) refl in
    let parts : in_bucket shape.buckets b (earlier ++ c ∷ later) ≡ in_bucket shape.buckets b earlier ++ c ∷ in_bucket shape.buckets b later =
    filter-append (λ change. bucket_number change.table change.key shape.buckets == b) earlier (c ∷ later) ∙ ap (λ (cs : List Change). in_bucket shape.buckets b earlier ++ cs) here in
    rw parts (get_end (in_bucket shape.buckets b earlier) c (in_bucket shape.buckets b later))

-- a message of one of the site's buckets that is a message of the journal
abbrev pub IsSentOf : Shape → Journal → Message → Type 0
IsSentOf shape journal m = (bucket_in m < shape.buckets) × IsMessageOf shape journal m

pub bucket_within : (table key buckets : ℕ) → 0 < buckets → bucket_number table key buckets < buckets
bucket_within table key buckets some = mod-lt (key % buckets + table) some

-- the messages that a new entry sends are messages of the journal with it
parts_from : (shape : Shape) (o : ℕ) (earlier cs : List Change) (x : Entry) (j : Journal) → AddsTo o x → 0 < shape.buckets → changes_in shape.site o j ++ changes_of shape.site x ≡ earlier ++ cs → AllByRecursion (IsSentOf shape (x ∷ j)) (parts_sent shape.buckets o earlier cs)
unfolding parts_sent
parts_from shape o earlier [] x j adds some same = tt
parts_from shape o earlier (c ∷ cs) x j adds some same =
    let b = bucket_number c.table c.key shape.buckets in
    let whole : changes_in shape.site o (x ∷ j) ≡ earlier ++ c ∷ cs = changes_here shape.site o x j (adds_epoch o x adds) ∙ same in
    let is : slice_get (part_of shape o b (x ∷ j)) (length (in_bucket shape.buckets b earlier)) ≡ Some c =
    ap (λ (xs : List Change). slice_get (in_bucket shape.buckets b xs) (length (in_bucket shape.buckets b earlier))) whole ∙ place_in_part shape earlier cs c in
    let rest = parts_from shape o (earlier ++ c ∷ []) cs x j adds some (same ∙ sym (append_assoc earlier (c ∷ []) cs)) in
    subst (AllByRecursion (IsSentOf shape (x ∷ j))) (sym (parts_sent_first shape.buckets o earlier cs c)) ((bucket_within c.table c.key shape.buckets some, is), rest)

pub parts_are_messages : (shape : Shape) (o : ℕ) (x : Entry) (j : Journal) → AddsTo o x → 0 < shape.buckets → AllByRecursion (IsSentOf shape (x ∷ j)) (parts_sent shape.buckets o (changes_in shape.site o j) (changes_of shape.site x))
parts_are_messages shape o x j adds some = parts_from shape o (changes_in shape.site o j) (changes_of shape.site x) x j adds some refl

-- a fact about every number below `n`
pub all_below : {P : ℕ → Type 0} → (n : ℕ) → ((k : ℕ) → k < n → P k) → AllByRecursion P (numbers_below n)
all_below zero f = tt
all_below {P} (suc n) f = all_joined P (numbers_below n) (n ∷ []) (all_below n (λ k l. f k (omega arith))) (f n (omega arith), tt)

pub all_mapped : {X Y : Type 0} → (P : Y → Type 0) (f : X → Y) (xs : List X) → AllByRecursion (λ x. P (f x)) xs → AllByRecursion P (map f xs)
all_mapped P f [] all = tt
all_mapped P f (x ∷ xs) all = (all.0, all_mapped P f xs all.1)
