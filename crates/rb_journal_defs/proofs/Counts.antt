-- The numbers of changes in bodies and journals.
use Rattle.std.proofs.Common.{◌≡◌, ◌≢◌, ℕ, zero, suc, ◌+◌, ◌<◌, ◌≤◌, Bool, true, false, cond, List, [], ◌∷◌, ◌++◌, length, filter, refl, sym, ap, ap₂, subst, ◌∙◌, inl, inr, arith, eq-eqb, ne_eqb, length-append}
use Rattle.std.specs.Prelude.{◌⊎◌, ◌==◌, ◌&&◌, not, sum_by, if◌then◌else◌}
use Rattle.std.specs.List.{AllByRecursion, flat_map}
use Rattle.std.proofs.lemmas.List.{append-nil}
use Rattle.std.proofs.lemmas.List.Elements.{filter-append}
use Rattle.std.proofs.lemmas.List.Sums.{sum_by-cons, sum_by-append}
use Rattle.rb_base.specs.Bucket.{bucket_number}
use Rattle.rb_base.specs.Site.{server_of, peer_of}
use Rattle.rb_base.specs.declared.site.SiteId.{SiteId}
use Rattle.rb_base.specs.declared.site.SiteId.TheVariants.{A, B}
use Rattle.rb_base.specs.declared.change.Change.{Change}
use Rattle.rb_journal_defs.specs.Journal.{Entry, Client, Applied, Closed, Journal, epoch_of, changes_of, own_of, status_change}
use Rattle.rb_journal_defs.specs.Order.{MadeBy, HasAuthors, AreAuthored}
use Rattle.rb_journal_defs.specs.Counts.{own_changes, all_changes, applied_of, applied_changes}
use Rattle.rb_journal_defs.specs.Body.{Shape, changes_in, in_bucket, part_of, numbers_below, is_logged, body_changes}
use Rattle.rb_journal_defs.proofs.Order.{Rises, eq_or_ne}

pub filter_length : {X : Type 0} → (test : X → Bool) (xs : List X) → length (filter test xs) ≤ length xs
filter_length test [] = omega arith
filter_length test (x ∷ xs) = go (test x) (filter_length test xs)
  where
    go : (b : Bool) → length (filter test xs) ≤ length xs → length (cond b (x ∷ filter test xs) (filter test xs)) ≤ suc (length xs)
    go true h = omega arith
    go false h = omega arith

-- `n` if `b` is `k`, and otherwise 0
abbrev pub one_at : (k n : ℕ) → ℕ → ℕ
one_at k n b = cond (k == b) n 0

none_at : (k n m : ℕ) → m ≤ k → sum_by (one_at k n) (numbers_below m) ≡ 0
none_at k n zero l = refl
none_at k n (suc m) l = sum_by-append (one_at k n) (numbers_below m) (m ∷ []) ∙ rw (none_at k n m (omega arith), ne_eqb k m (omega arith)) refl

once_at : (k n m : ℕ) → sum_by (one_at k n) (numbers_below m) ≤ n
once_at k n zero = omega arith
once_at k n (suc m) = go (eq_or_ne k m) (once_at k n m)
  where
    parts : sum_by (one_at k n) (numbers_below (suc m)) ≡ sum_by (one_at k n) (numbers_below m) + sum_by (one_at k n) (m ∷ [])
    parts = sum_by-append (one_at k n) (numbers_below m) (m ∷ [])

    go : (k ≡ m) ⊎ (k ≢ m) → sum_by (one_at k n) (numbers_below m) ≤ n → sum_by (one_at k n) (numbers_below (suc m)) ≤ n
    go (inl q) h = let z : sum_by (one_at k n) (numbers_below m) ≡ 0 = none_at k n m (omega arith) in let o : sum_by (one_at k n) (m ∷ []) ≡ n = rw (eq-eqb k m q) (omega arith) in omega (arith, parts)
    go (inr d) h = let o : sum_by (one_at k n) (m ∷ []) ≡ 0 = rw (ne_eqb k m d) refl in omega (arith, parts)

-- the sum of sums is the sum of both
sum_plus : {X : Type 0} → (f g : X → ℕ) (xs : List X) → sum_by (λ x. f x + g x) xs ≡ sum_by f xs + sum_by g xs
sum_plus f g [] = refl
sum_plus f g (x ∷ xs) = omega (arith, sum_by-cons (λ x. f x + g x) x xs, sum_by-cons f x xs, sum_by-cons g x xs, sum_plus f g xs)

sum_same : {X : Type 0} → (f g : X → ℕ) (xs : List X) → ((x : X) → f x ≡ g x) → sum_by f xs ≡ sum_by g xs
sum_same f g [] same = refl
sum_same f g (x ∷ xs) same = omega (arith, sum_by-cons f x xs, sum_by-cons g x xs, same x, sum_same f g xs same)

sum_zero : {X : Type 0} → (xs : List X) → sum_by (λ x. 0) xs ≡ 0
sum_zero [] = refl
sum_zero (x ∷ xs) = omega (arith, sum_by-cons (λ x. 0) x xs, sum_zero xs)

bucket_more : (buckets b : ℕ) (c : Change) (cs : List Change) → length (in_bucket buckets b (c ∷ cs)) ≡ one_at (bucket_number c.table c.key buckets) 1 b + length (in_bucket buckets b cs)
bucket_more buckets b c cs = go (bucket_number c.table c.key buckets == b)
  where
    go : (x : Bool) → length (cond x (c ∷ in_bucket buckets b cs) (in_bucket buckets b cs)) ≡ cond x 1 0 + length (in_bucket buckets b cs)
    go true = omega arith
    go false = omega arith

-- each change is in at most one bucket
buckets_length : (buckets n : ℕ) (cs : List Change) → sum_by (λ b. length (in_bucket buckets b cs)) (numbers_below n) ≤ length cs
buckets_length buckets n [] = let z : sum_by (λ (b : ℕ). 0) (numbers_below n) ≡ 0 = sum_zero (numbers_below n) in omega arith
buckets_length buckets n (c ∷ cs) =
    let k = bucket_number c.table c.key buckets in
    let parts = sum_same (λ b. length (in_bucket buckets b (c ∷ cs))) (λ b. one_at k 1 b + length (in_bucket buckets b cs)) (numbers_below n) (λ b. bucket_more buckets b c cs) in
    let two = sum_plus (one_at k 1) (λ b. length (in_bucket buckets b cs)) (numbers_below n) in
    let one = once_at k 1 n in
    let rest = buckets_length buckets n cs in
    omega arith

joined_length : {X : Type 0} → (f : ℕ → List X) (xs : List ℕ) → length (flat_map f xs) ≡ sum_by (λ x. length (f x)) xs
joined_length f [] = refl
joined_length f (x ∷ xs) = omega (arith, length-append (f x) (flat_map f xs), sum_by-cons (λ x. length (f x)) x xs, joined_length f xs)

-- a filter of lists that are joined is the lists' filters, joined
filter_joined : {X : Type 0} → (test : X → Bool) (f : ℕ → List X) (xs : List ℕ) → filter test (flat_map f xs) ≡ flat_map (λ x. filter test (f x)) xs
filter_joined test f [] = refl
filter_joined test f (x ∷ xs) = filter-append test (f x) (flat_map f xs) ∙ ap (λ (ys : List _). filter test (f x) ++ ys) (filter_joined test f xs)

-- two filters may change places
filters_swap : {X : Type 0} → (one other : X → Bool) (xs : List X) → filter one (filter other xs) ≡ filter other (filter one xs)
filters_swap one other [] = refl
filters_swap one other (x ∷ xs) = go (one x) (other x) refl refl (filters_swap one other xs)
  where
    go : (a b : Bool) → one x ≡ a → other x ≡ b → filter one (filter other xs) ≡ filter other (filter one xs) → filter one (cond b (x ∷ filter other xs) (filter other xs)) ≡ filter other (cond a (x ∷ filter one xs) (filter one xs))
    go true true p q more = rw p (rw q (ap (λ (ys : List _). x ∷ ys) more))
    go true false p q more = rw q more
    go false true p q more = rw p more
    go false false p q more = more

-- a body has at most as many changes as are logged of its epoch
body_length : (shape : Shape) (e : ℕ) (j : Journal) → length (body_changes shape e j) ≤ length (filter (is_logged shape.site) (changes_in shape.site e j))
body_length shape e j =
    let logged : List Change = filter (is_logged shape.site) (changes_in shape.site e j) in
    let part : ℕ → List Change = λ bucket. part_of shape e bucket j in
    let in_each : ℕ → List Change = λ bucket. filter (is_logged shape.site) (part bucket) in
    let joined : length (body_changes shape e j) ≡ length (flat_map in_each (numbers_below shape.buckets)) = ap length (filter_joined (is_logged shape.site) part (numbers_below shape.buckets)) in
    let sum = joined_length in_each (numbers_below shape.buckets) in
    let swapped = sum_same (λ b. length (in_each b)) (λ b. length (in_bucket shape.buckets b logged)) (numbers_below shape.buckets)
    (λ b. ap length (filters_swap (is_logged shape.site) (λ change. bucket_number change.table change.key shape.buckets == b) (changes_in shape.site e j))) in
    let within = buckets_length shape.buckets shape.buckets logged in
    omega arith

-- rising numbers above `k` do not contain `k`
rising_none : (k n : ℕ) (xs : List ℕ) → AllByRecursion (λ y. k < y) xs → sum_by (one_at k n) xs ≡ 0
rising_none k n [] all = refl
rising_none k n (x ∷ xs) all = let l : k < x = all.0 in omega (arith, sum_by-cons (one_at k n) x xs, (let z : one_at k n x ≡ 0 = rw (ne_eqb k x (omega arith)) refl in z), rising_none k n xs all.1)

rising_once : (k n top : ℕ) (xs : List ℕ) → Rises top xs → sum_by (one_at k n) xs ≤ n
rising_once k n top [] rises = omega arith
rising_once k n top (x ∷ xs) rises = go (eq_or_ne k x) (rising_once k n top xs rises.3)
  where
    go : (k ≡ x) ⊎ (k ≢ x) → sum_by (one_at k n) xs ≤ n → sum_by (one_at k n) (x ∷ xs) ≤ n
    go (inl q) h =
        let z : sum_by (one_at x n) xs ≡ 0 = rising_none x n xs rises.2 in
        let zk : sum_by (one_at k n) xs ≡ 0 = subst (λ (m : ℕ). sum_by (one_at m n) xs ≡ 0) (sym q) z in
        let o : one_at k n x ≡ n = rw (eq-eqb k x q) refl in omega (arith, sum_by-cons (one_at k n) x xs)
    go (inr d) h = let o : one_at k n x ≡ 0 = rw (ne_eqb k x d) refl in omega (arith, sum_by-cons (one_at k n) x xs)

-- the sum of a weight over the entries of an epoch
pub weight_in : (weight : Entry → ℕ) (e : ℕ) → Journal → ℕ
weight_in weight e [] = 0
weight_in weight e (x ∷ j) = weight_in weight e j + one_at (epoch_of x) (weight x) e

-- the weights of rising epochs are at most the weight of the journal
pub epochs_weight : (weight : Entry → ℕ) (top : ℕ) (es : List ℕ) (j : Journal) → Rises top es → sum_by (λ e. weight_in weight e j) es ≤ sum_by weight j
unfolding weight_in
epochs_weight weight top es [] rises = let z : sum_by (λ (e : ℕ). 0) es ≡ 0 = sum_zero es in omega arith
epochs_weight weight top es (x ∷ j) rises =
    let two = sum_plus (λ e. weight_in weight e j) (one_at (epoch_of x) (weight x)) es in
    let one = rising_once (epoch_of x) (weight x) top es rises in
    let rest = epochs_weight weight top es j rises in
    omega (arith, sum_by-cons weight x j)

one_at_most : (k n e : ℕ) → one_at k n e ≤ n
one_at_most k n e = go (k == e)
  where
    go : (b : Bool) → cond b n 0 ≤ n
    go true = omega arith
    go false = omega arith

-- the weight of one epoch is at most the weight of the journal
epoch_weight : (weight : Entry → ℕ) (e : ℕ) (j : Journal) → weight_in weight e j ≤ sum_by weight j
unfolding weight_in
epoch_weight weight e [] = omega arith
epoch_weight weight e (x ∷ j) = let h = epoch_weight weight e j in let o = one_at_most (epoch_of x) (weight x) e in omega (arith, sum_by-cons weight x j)

-- the number of an entry's changes
all_weight : SiteId → Entry → ℕ
all_weight site entry = length (changes_of site entry)

in_epoch : (site : SiteId) (e : ℕ) (j : Journal) → length (changes_in site e j) ≡ weight_in (all_weight site) e j
unfolding weight_in all_weight
in_epoch site e [] = refl
in_epoch site e (x ∷ j) = length-append (changes_in site e j) (if epoch_of x == e then changes_of site x else []) ∙ ap₂ (λ (m n : ℕ). m + n) (in_epoch site e j) (go (epoch_of x == e))
  where
    go : (b : Bool) → length (cond b (changes_of site x) []) ≡ cond b (length (changes_of site x)) 0
    go true = refl
    go false = refl

-- the changes of one epoch are at most all changes of the journal
pub epoch_length : (site : SiteId) (e : ℕ) (j : Journal) → length (changes_in site e j) ≤ all_changes site j
unfolding all_weight
epoch_length site e j = let same = in_epoch site e j in let h = epoch_weight (all_weight site) e j in omega arith

-- the number of an entry's changes that the site made itself
pub own_weight : Entry → ℕ
own_weight entry = length (own_of entry)

-- changes of another server are not logged
none_logged : (site : SiteId) (server : ℕ) (changes : List Change) → server ≢ server_of site → MadeBy server changes → filter (is_logged site) changes ≡ []
none_logged site server [] differs made = refl
none_logged site server (change ∷ changes) differs made =
    let other : (change.author == server_of site) ≡ false = ne_eqb change.author (server_of site) (λ same. differs (sym made.0 ∙ same)) in
    rw other (go (not (change.table == 0)) (none_logged site server changes differs made.1))
  where
    go : (b : Bool) → filter (is_logged site) changes ≡ [] → cond (b && false) (change ∷ filter (is_logged site) changes) (filter (is_logged site) changes) ≡ []
    go true more = more
    go false more = more

peer_differs : (site : SiteId) → server_of (peer_of site) ≢ server_of site
peer_differs A = λ same. absurd (omega (arith, same))
peer_differs B = λ same. absurd (omega (arith, same))

-- an entry has at most its own changes logged
logged_weight : (site : SiteId) (x : Entry) → HasAuthors site x → length (filter (is_logged site) (changes_of site x)) ≤ own_weight x
unfolding own_weight
logged_weight site (Client e t cs) authors = filter_length (is_logged site) cs
logged_weight site (Applied e s t acc refs) authors =
    let none = none_logged site (server_of (peer_of site)) acc (peer_differs site) authors.0 in
    let parts = filter-append (is_logged site) (acc ++ refs) (status_change site s t ∷ []) ∙ ap (λ (cs : List Change). cs ++ []) (filter-append (is_logged site) acc refs ∙ ap (λ (cs : List Change). cs ++ filter (is_logged site) refs) none) in
    let same = ap length (parts ∙ append-nil (filter (is_logged site) refs)) in
    let few = filter_length (is_logged site) refs in
    omega arith
logged_weight site (Closed e) authors = omega arith

logged_in_epoch : (site : SiteId) (e : ℕ) (j : Journal) → AreAuthored site j → length (filter (is_logged site) (changes_in site e j)) ≤ weight_in own_weight e j
unfolding weight_in
logged_in_epoch site e [] authored = omega arith
logged_in_epoch site e (x ∷ j) authored =
    let own = if epoch_of x == e then changes_of site x else [] in
    let parts = ap length (filter-append (is_logged site) (changes_in site e j) own) ∙ length-append (filter (is_logged site) (changes_in site e j)) (filter (is_logged site) own) in
    let rest = logged_in_epoch site e j authored.1 in
    let one = go (epoch_of x == e) in
    omega arith
  where
    go : (b : Bool) → length (filter (is_logged site) (cond b (changes_of site x) [])) ≤ cond b (own_weight x) 0
    go true = logged_weight site x authored.0
    go false = omega arith

-- a body has at most as many changes as the site made itself in its epoch
pub body_within : (shape : Shape) (e : ℕ) (j : Journal) → AreAuthored shape.site j → length (body_changes shape e j) ≤ weight_in own_weight e j
body_within shape e j authored = let h = body_length shape e j in let g = logged_in_epoch shape.site e j authored in omega arith

-- a body has at most as many changes as the site made itself
pub body_own : (shape : Shape) (e : ℕ) (j : Journal) → AreAuthored shape.site j → length (body_changes shape e j) ≤ own_changes j
unfolding own_weight
body_own shape e j authored = let h = body_within shape e j authored in let g = epoch_weight own_weight e j in omega arith

-- the own changes of rising epochs are at most all own changes
pub own_epochs : (top : ℕ) (es : List ℕ) (j : Journal) → Rises top es → sum_by (λ e. weight_in own_weight e j) es ≤ own_changes j
unfolding own_weight
own_epochs top es j rises = epochs_weight own_weight top es j rises

-- all changes are the own ones and the applier's
pub own_and_applied : (site : SiteId) (j : Journal) → all_changes site j ≡ own_changes j + applied_changes site j
own_and_applied site [] = refl
own_and_applied site (x ∷ j) =
    omega (
      arith,
      sum_by-cons (λ (entry : Entry). length (changes_of site entry)) x j,
      sum_by-cons (λ (entry : Entry). length (own_of entry)) x j,
      sum_by-cons (λ (entry : Entry). length (applied_of site entry)) x j,
      entry_parts x,
      own_and_applied site j,
    )
  where
    entry_parts : (x : Entry) → length (changes_of site x) ≡ length (own_of x) + length (applied_of site x)
    entry_parts (Client e t cs) = omega arith
    entry_parts (Applied e s t acc refs) =
        omega (
          arith,
          length-append (acc ++ refs) (status_change site s t ∷ []),
          length-append acc refs,
          length-append acc (status_change site s t ∷ []),
        )
    entry_parts (Closed e) = omega arith
