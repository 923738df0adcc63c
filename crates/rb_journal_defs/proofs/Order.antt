-- Laws on the order of a journal's epochs.
use Rattle.std.proofs.Common.{◌≡◌, ◌≢◌, ℕ, ◌<◌, ◌≤◌, Bool, true, false, cond, List, [], ◌∷◌, ◌++◌, filter, refl, sym, ap, subst, ◌∙◌, inl, inr, arith, eq-eqb, ne_eqb, lt-ltb, le-ltb, le-leb}
use Rattle.std.specs.Prelude.{◌⊎◌, nat_lt, nat_le, Some, None, unwrap_or}
use Rattle.std.specs.List.{AllByRecursion, last_or}
use Rattle.std.proofs.lemmas.Bool.{lt-leb}
use Rattle.std.proofs.lemmas.List.{append-nil}
use Rattle.std.proofs.lemmas.List.Elements.{filter-append}
use Rattle.rb_base.specs.declared.site.SiteId.{SiteId}
use Rattle.rb_journal_defs.specs.Journal.{Entry, Client, Applied, Closed, Journal, epoch_of, changes_of, closed_epochs, previous_closed}
use Rattle.rb_journal_defs.specs.Body.{changes_in}
use Rattle.rb_journal_defs.proofs.Bodies.{changes_in_closed, adds_closes_none}
use Rattle.rb_journal_defs.specs.Order.{InOrder, IsClosed, AddsTo}
use Rattle.rb_journal_defs.specs.Transaction.{first_of}

pub eq_or_ne : (a b : ℕ) → (a ≡ b) ⊎ (a ≢ b)
eq_or_ne a b = grind arith

pub lt_or_le : (a b : ℕ) → (a < b) ⊎ (b ≤ a)
lt_or_le a b = grind arith

pub changes_here : (site : SiteId) (e : ℕ) (x : Entry) (j : Journal) → epoch_of x ≡ e → changes_in site e (x ∷ j) ≡ changes_in site e j ++ changes_of site x
changes_here site e x j h = rw (eq-eqb (epoch_of x) e h) refl

pub changes_elsewhere : (site : SiteId) (e : ℕ) (x : Entry) (j : Journal) → epoch_of x ≢ e → changes_in site e (x ∷ j) ≡ changes_in site e j
changes_elsewhere site e x j h = rw (ne_eqb (epoch_of x) e h) (append-nil (changes_in site e j))

-- an entry is at or below the open epoch, and the entries before it are in order
pub order_step : (o : ℕ) (x : Entry) (j : Journal) → InOrder o (x ∷ j) → (epoch_of x ≤ o) × InOrder (epoch_of x) j
order_step o (Client e t cs) j h = (omega (arith, h.0), rw h.0 h.1)
order_step o (Applied e s t acc refs) j h = (omega (arith, h.0), rw h.0 h.1)
order_step o (Closed e) j h = (omega (arith, h.0), h.1)

-- no change is above the open epoch
pub changes_above : (site : SiteId) (o e : ℕ) (j : Journal) → InOrder o j → o < e → changes_in site e j ≡ []
changes_above site o e [] h l = refl
changes_above site o e (x ∷ j) h l =
    let s = order_step o x j h in changes_elsewhere site e x j (omega (arith, s.0)) ∙ changes_above site (epoch_of x) e j s.1 (omega (arith, s.0))

-- the open epoch is above 0
pub opened_above : (o : ℕ) (j : Journal) → InOrder o j → 0 < o
opened_above o [] h = h
opened_above o (x ∷ j) h = let s = order_step o x j h in let r : 0 < epoch_of x = opened_above (epoch_of x) j s.1 in omega (arith, s.0)

-- numbers that rise, all of them above 0 and below `top`
abbrev pub Rises : ℕ → List ℕ → Type 0
Rises top [] = Unit {0}
Rises top (x ∷ xs) = (0 < x) × (x < top) × AllByRecursion (λ y. x < y) xs × Rises top xs

all_end : (x e : ℕ) (xs : List ℕ) → AllByRecursion (λ y. x < y) xs → x < e → AllByRecursion (λ y. x < y) (xs ++ e ∷ [])
all_end x e [] all l = (l, tt)
all_end x e (y ∷ ys) all l = (all.0, all_end x e ys all.1 l)

pub rises_end : (e o : ℕ) (xs : List ℕ) → Rises e xs → 0 < e → e < o → Rises o (xs ++ e ∷ [])
rises_end e o [] rises p l = (p, l, tt, tt)
rises_end e o (x ∷ xs) rises p l = let below : x < e = rises.1 in
    (rises.0, omega arith, all_end x e xs rises.2 below, rises_end e o xs rises.3 p l)

-- the closed epochs rise
pub closed_rise : (o : ℕ) (j : Journal) → InOrder o j → Rises o (closed_epochs j)
closed_rise o [] h = tt
closed_rise o (Client e t cs ∷ j) h = closed_rise o j h.1
closed_rise o (Applied e s t acc refs ∷ j) h = closed_rise o j h.1
closed_rise o (Closed e ∷ j) h = rises_end e o (closed_epochs j) (closed_rise e j h.1) (opened_above e j h.1) h.0

-- a number is in a list
abbrev pub Among : ℕ → List ℕ → Type 0
Among e [] = ⊥
Among e (x ∷ xs) = (x ≡ e) ⊎ Among e xs

among_left : (e : ℕ) (xs ys : List ℕ) → Among e xs → Among e (xs ++ ys)
among_left e [] ys a = absurd a
among_left e (x ∷ xs) ys (inl a) = inl a
among_left e (x ∷ xs) ys (inr a) = inr (among_left e xs ys a)

among_end : (e : ℕ) (xs : List ℕ) → Among e (xs ++ e ∷ [])
among_end e [] = inl refl
among_end e (x ∷ xs) = inr (among_end e xs)

-- a closed epoch is among the closed epochs
pub closed_among : (e : ℕ) (j : Journal) → IsClosed e j → Among e (closed_epochs j)
closed_among e [] c = absurd c
closed_among e (Client f t cs ∷ j) c = closed_among e j c
closed_among e (Applied f s t acc refs ∷ j) c = closed_among e j c
closed_among e (Closed f ∷ j) (inl q) = rw q (among_end e (closed_epochs j))
closed_among e (Closed f ∷ j) (inr c) = among_left e (closed_epochs j) (f ∷ []) (closed_among e j c)

pub closed_below : (o e : ℕ) (j : Journal) → InOrder o j → IsClosed e j → e < o
closed_below o e [] h c = absurd c
closed_below o e (Client f t cs ∷ j) h c = closed_below o e j h.1 c
closed_below o e (Applied f s t acc refs ∷ j) h c = closed_below o e j h.1 c
closed_below o e (Closed f ∷ j) h (inl c) = omega (arith, h.0, c)
closed_below o e (Closed f ∷ j) h (inr c) = let l : e < f = closed_below f e j h.1 c in omega (arith, h.0)

pub closed_positive : (o e : ℕ) (j : Journal) → InOrder o j → IsClosed e j → 0 < e
closed_positive o e [] h c = absurd c
closed_positive o e (Client f t cs ∷ j) h c = closed_positive o e j h.1 c
closed_positive o e (Applied f s t acc refs ∷ j) h c = closed_positive o e j h.1 c
closed_positive o e (Closed f ∷ j) h (inl c) = let p : 0 < f = opened_above f j h.1 in omega (arith, c)
closed_positive o e (Closed f ∷ j) h (inr c) = closed_positive f e j h.1 c

-- the last number below `e`, or `p` if there is none
abbrev pub last_below : (p e : ℕ) → List ℕ → ℕ
last_below p e xs = unwrap_or (last_or (Some p) (filter (λ x. nat_lt x e) xs)) p

all_above_more : (p x : ℕ) (xs : List ℕ) → p < x → AllByRecursion (λ y. x < y) xs → AllByRecursion (λ y. p < y) xs
all_above_more p x [] l all = tt
all_above_more p x (y ∷ ys) l all = let m : x < y = all.0 in (omega arith, all_above_more p x ys l all.1)

-- if all numbers are above `e`, none is below it
none_below : (e : ℕ) (xs : List ℕ) → AllByRecursion (λ y. e < y) xs → filter (λ x. nat_lt x e) xs ≡ []
none_below e [] all = refl
none_below e (x ∷ xs) all = rw (le-ltb x e (let l : e < x = all.0 in omega arith)) (none_below e xs all.1)

-- if all numbers are above `p`, the filter keeps all of them
pub all_after : (p : ℕ) (xs : List ℕ) → AllByRecursion (λ y. p < y) xs → filter (λ x. nat_lt p x) xs ≡ xs
all_after p [] all = refl
all_after p (x ∷ xs) all = rw (lt-ltb p x all.0) (ap (λ (ys : List ℕ). x ∷ ys) (all_after p xs all.1))

last_is_some : (p : ℕ) (xs : List ℕ) (q : ℕ) → unwrap_or (last_or (Some p) xs) q ≡ unwrap_or (last_or (Some p) xs) p
last_is_some p [] q = refl
last_is_some p (x ∷ xs) q = last_is_some x xs q ∙ sym (last_is_some x xs p)

last_below_cons : (p e x : ℕ) (xs : List ℕ) → x < e → last_below p e (x ∷ xs) ≡ last_below x e xs
last_below_cons p e x xs l = rw (lt-ltb x e l) (last_is_some x (filter (λ y. nat_lt y e) xs) p)

last_below_skip : (p e x : ℕ) (xs : List ℕ) → e ≤ x → last_below p e (x ∷ xs) ≡ last_below p e xs
last_below_skip p e x xs l = rw (le-ltb x e l) refl

last_below_none : (p e : ℕ) (xs : List ℕ) → AllByRecursion (λ y. e < y) xs → last_below p e xs ≡ p
last_below_none p e xs all = rw (none_below e xs all) refl

-- if all numbers are above `p`, the last one below `e`, or `p`, is at or above `p`
last_below_least : (p e : ℕ) (xs : List ℕ) (top : ℕ) → Rises top xs → AllByRecursion (λ y. p < y) xs → p ≤ last_below p e xs
last_below_least p e [] top rises all = omega arith
last_below_least p e (x ∷ xs) top rises all = go (last_below_least x e xs top rises.3 rises.2) (lt_or_le x e)
  where
    go : x ≤ last_below x e xs → (x < e) ⊎ (e ≤ x) → p ≤ last_below p e (x ∷ xs)
    go h (inl l) = let s = last_below_cons p e x xs l in let q : p < x = all.0 in omega arith
    go h (inr l) = let s = last_below_skip p e x xs l in let n : last_below p e xs ≡ p = last_below_none p e xs (all_from e x xs l rises.2) in omega arith
      where
        all_from : (e x : ℕ) (xs : List ℕ) → e ≤ x → AllByRecursion (λ y. x < y) xs → AllByRecursion (λ y. e < y) xs
        all_from e x [] l all = tt
        all_from e x (y ∷ ys) l all = let m : x < y = all.0 in (omega arith, all_from e x ys l all.1)

above_all : (x e : ℕ) (xs : List ℕ) → AllByRecursion (λ y. x < y) xs → Among e xs → x < e
above_all x e [] all a = absurd a
above_all x e (y ∷ ys) all (inl a) = let l : x < y = all.0 in omega (arith, a)
above_all x e (y ∷ ys) all (inr a) = above_all x e ys all.1 a

last_below_self : (p x : ℕ) (xs : List ℕ) → AllByRecursion (λ y. x < y) xs → last_below p x (x ∷ xs) ≡ p
last_below_self p x xs all = last_below_skip p x x xs (omega arith) ∙ last_below_none p x xs all

-- a number in a rising list is the first one above the last one below it
pub first_above : (p e last : ℕ) (xs : List ℕ) (top : ℕ) → Rises top xs → AllByRecursion (λ y. p < y) xs → Among e xs → last_below p e xs ≡ last → first_of (filter (λ x. nat_lt last x) xs) ≡ Some e
first_above p e last [] top rises all a same = absurd a
first_above p e last (x ∷ xs) top rises all (inl q) same =
    let n : last_below p e (x ∷ xs) ≡ p = subst (λ (n : ℕ). last_below p n (x ∷ xs) ≡ p) q (last_below_self p x xs rises.2) in
    let l : p < x = all.0 in
    let below : last < x = omega arith in
    rw (lt-ltb last x below) (ap (λ (y : ℕ). Some y) q)
first_above p e last (x ∷ xs) top rises all (inr a) same =
    let l : x < e = above_all x e xs rises.2 a in
    let more : last_below x e xs ≡ last = sym (last_below_cons p e x xs l) ∙ same in
    let least : x ≤ last_below x e xs = last_below_least x e xs top rises.3 rises.2 in
    let le : x ≤ last = omega arith in
    rw (le-ltb last x le) (first_above x e last xs top rises.3 rises.2 a more)

-- the first number above another is in the list
first_among : (last e : ℕ) (xs : List ℕ) → first_of (filter (λ x. nat_lt last x) xs) ≡ Some e → Among e xs
first_among last e [] first = absurd (let g : None ≡ Some e = first in cc)
first_among last e (x ∷ xs) first = go (nat_lt last x) first (first_among last e xs)
  where
    go : (b : Bool) → first_of (cond b (x ∷ filter (λ y. nat_lt last y) xs) (filter (λ y. nat_lt last y) xs)) ≡ Some e → (first_of (filter (λ y. nat_lt last y) xs) ≡ Some e → Among e xs) → Among e (x ∷ xs)
    go true h later = inl (let g : Some x ≡ Some e = h in cc)
    go false h later = inr (later h)

-- the first number above another is above it
pub first_is_above : (last e : ℕ) (xs rest : List ℕ) → filter (λ x. nat_lt last x) xs ≡ e ∷ rest → last < e
first_is_above last e [] rest same = absurd (let g : [] ≡ e ∷ rest = same in cc)
first_is_above last e (x ∷ xs) rest same = go (λ later. first_is_above last e xs rest later) (lt_or_le last x)
  where
    go : (filter (λ y. nat_lt last y) xs ≡ e ∷ rest → last < e) → (last < x) ⊎ (x ≤ last) → last < e
    go more (inl l) =
        let here : x ∷ filter (λ y. nat_lt last y) xs ≡ e ∷ rest = subst (λ (b : Bool). cond b (x ∷ filter (λ y. nat_lt last y) xs) (filter (λ y. nat_lt last y) xs) ≡ e ∷ rest) (lt-ltb last x l) same in
        let xe : x ≡ e = cc in omega arith
    go more (inr l) = more (subst (λ (b : Bool). cond b (x ∷ filter (λ y. nat_lt last y) xs) (filter (λ y. nat_lt last y) xs) ≡ e ∷ rest) (le-ltb last x l) same)

-- if `last` is `p` or is in the rising list, and `e` is the first number above `last`, then `last`
-- is the last number below `e`
pub below_first : (p e last : ℕ) (xs : List ℕ) (top : ℕ) → Rises top xs → AllByRecursion (λ y. p < y) xs → (last ≡ p) ⊎ Among last xs → first_of (filter (λ x. nat_lt last x) xs) ≡ Some e → last_below p e xs ≡ last
below_first p e last [] top rises all a first = absurd (let g : None ≡ Some e = first in cc)
below_first p e last (x ∷ xs) top rises all (inl q) first =
    let l : p < x = all.0 in
    let below : last < x = omega arith in
    let same : Some x ≡ Some e = subst (λ (b : Bool). first_of (cond b (x ∷ filter (λ y. nat_lt last y) xs) (filter (λ y. nat_lt last y) xs)) ≡ Some e) (lt-ltb last x below) first in
    let xe : x ≡ e = cc in
    subst (λ (n : ℕ). last_below p n (x ∷ xs) ≡ p) xe (last_below_self p x xs rises.2) ∙ sym q
below_first p e last (x ∷ xs) top rises all (inr (inl q)) first =
    let le : x ≤ last = omega arith in
    let later : first_of (filter (λ y. nat_lt last y) xs) ≡ Some e = subst (λ (b : Bool). first_of (cond b (x ∷ filter (λ y. nat_lt last y) xs) (filter (λ y. nat_lt last y) xs)) ≡ Some e) (le-ltb last x le) first in
    let inside = first_among last e xs later in
    let l : x < e = above_all x e xs rises.2 inside in
    last_below_cons p e x xs l ∙ below_first x e last xs top rises.3 rises.2 (inl (sym q)) later
below_first p e last (x ∷ xs) top rises all (inr (inr a)) first =
    let m : x < last = above_all x last xs rises.2 a in
    let le : x ≤ last = omega arith in
    let later : first_of (filter (λ y. nat_lt last y) xs) ≡ Some e = subst (λ (b : Bool). first_of (cond b (x ∷ filter (λ y. nat_lt last y) xs) (filter (λ y. nat_lt last y) xs)) ≡ Some e) (le-ltb last x le) first in
    let inside = first_among last e xs later in
    let l : x < e = above_all x e xs rises.2 inside in
    last_below_cons p e x xs l ∙ below_first x e last xs top rises.3 rises.2 (inr a) later

-- the numbers after the first one above `last` are those above that first number
pub after_first : (last e : ℕ) (xs rest : List ℕ) (top : ℕ) → Rises top xs → filter (λ x. nat_lt last x) xs ≡ e ∷ rest → filter (λ x. nat_lt e x) xs ≡ rest
after_first last e [] rest top rises same = absurd (let g : [] ≡ e ∷ rest = same in cc)
after_first last e (x ∷ xs) rest top rises same = go (λ later. after_first last e xs rest top rises.3 later) (lt_or_le last x)
  where
    go : (filter (λ y. nat_lt last y) xs ≡ e ∷ rest → filter (λ y. nat_lt e y) xs ≡ rest) → (last < x) ⊎ (x ≤ last) → filter (λ y. nat_lt e y) (x ∷ xs) ≡ rest
    go more (inl l) =
        let here : x ∷ filter (λ y. nat_lt last y) xs ≡ e ∷ rest = subst (λ (b : Bool). cond b (x ∷ filter (λ y. nat_lt last y) xs) (filter (λ y. nat_lt last y) xs) ≡ e ∷ rest) (lt-ltb last x l) same in
        let xe : x ≡ e = cc in
        let tail : filter (λ y. nat_lt last y) xs ≡ rest = cc in
        let all : filter (λ y. nat_lt last y) xs ≡ xs = all_after last xs (all_above_more last x xs l rises.2) in
        let drops : filter (λ y. nat_lt x y) (x ∷ xs) ≡ filter (λ y. nat_lt x y) xs = rw (le-ltb x x (omega arith)) refl in
        subst (λ (n : ℕ). filter (λ y. nat_lt n y) (x ∷ xs) ≡ rest) xe (drops ∙ all_after x xs rises.2 ∙ sym all ∙ tail)
    go more (inr l) =
        let later : filter (λ y. nat_lt last y) xs ≡ e ∷ rest = subst (λ (b : Bool). cond b (x ∷ filter (λ y. nat_lt last y) xs) (filter (λ y. nat_lt last y) xs) ≡ e ∷ rest) (le-ltb last x l) same in
        let above : last < e = first_is_above last e xs rest later in
        rw (le-ltb e x (omega arith)) (more later)

among_closed_end : (e : ℕ) (xs : List ℕ) (y : ℕ) → Among e (xs ++ y ∷ []) → Among e xs ⊎ (y ≡ e)
among_closed_end e [] y (inl q) = inr q
among_closed_end e [] y (inr a) = absurd a
among_closed_end e (x ∷ xs) y (inl q) = inl (inl q)
among_closed_end e (x ∷ xs) y (inr a) = go (among_closed_end e xs y a)
  where
    go : Among e xs ⊎ (y ≡ e) → Among e (x ∷ xs) ⊎ (y ≡ e)
    go (inl b) = inl (inr b)
    go (inr q) = inr q

-- an epoch among the closed epochs is closed
pub among_closed : (e : ℕ) (j : Journal) → Among e (closed_epochs j) → IsClosed e j
among_closed e [] a = absurd a
among_closed e (Client f t cs ∷ j) a = among_closed e j a
among_closed e (Applied f s t acc refs ∷ j) a = among_closed e j a
among_closed e (Closed f ∷ j) a = go (among_closed_end e (closed_epochs j) f a) (λ b. among_closed e j b)
  where
    go : Among e (closed_epochs j) ⊎ (f ≡ e) → (Among e (closed_epochs j) → IsClosed e j) → (f ≡ e) ⊎ IsClosed e j
    go (inl b) more = inr (more b)
    go (inr q) more = inl q

last_or_zero : (xs : List ℕ) → unwrap_or (last_or None xs) 0 ≡ unwrap_or (last_or (Some 0) xs) 0
last_or_zero [] = refl
last_or_zero (x ∷ xs) = refl

pub previous_is : (e : ℕ) (j : Journal) → previous_closed e j ≡ last_below 0 e (closed_epochs j)
previous_is e j = last_or_zero (filter (λ c. nat_lt c e) (closed_epochs j))

all_positive : (top : ℕ) (xs : List ℕ) → Rises top xs → AllByRecursion (λ y. 0 < y) xs
all_positive top [] rises = tt
all_positive top (x ∷ xs) rises = (rises.0, all_positive top xs rises.3)

-- the closed epochs above this one
abbrev pub following : (last : ℕ) → Journal → List ℕ
following last j = filter (λ epoch. nat_lt last epoch) (closed_epochs j)

-- a closed epoch is the first one above the epoch that was closed before it
pub first_after : (o e last : ℕ) (j : Journal) → InOrder o j → IsClosed e j → previous_closed e j ≡ last → first_of (following last j) ≡ Some e
first_after o e last j h c same =
    let rises = closed_rise o j h in
    first_above 0 e last (closed_epochs j) o rises (all_positive o (closed_epochs j) rises) (closed_among e j c) (sym (previous_is e j) ∙ same)

-- if an epoch is the first closed one above `last`, then `last` is the epoch that was closed before
-- it
pub previous_of_first : (o e last : ℕ) (j : Journal) → InOrder o j → (last ≡ 0) ⊎ IsClosed last j → first_of (following last j) ≡ Some e → previous_closed e j ≡ last
previous_of_first o e last j h known first =
    let rises = closed_rise o j h in
    previous_is e j ∙ below_first 0 e last (closed_epochs j) o rises (all_positive o (closed_epochs j) rises) (go known) first
  where
    go : (last ≡ 0) ⊎ IsClosed last j → (last ≡ 0) ⊎ Among last (closed_epochs j)
    go (inl q) = inl q
    go (inr c) = inr (closed_among last j c)

pub first_is_closed : (e last : ℕ) (j : Journal) → first_of (following last j) ≡ Some e → IsClosed e j
first_is_closed e last j first = among_closed e j (first_among last e (closed_epochs j) first)

-- the closed epochs after the first one above `last` are those above that first one
pub after_more : (o e last : ℕ) (j : Journal) (rest : List ℕ) → InOrder o j → following last j ≡ e ∷ rest → following e j ≡ rest
after_more o e last j rest h same = after_first last e (closed_epochs j) rest o (closed_rise o j h) same

-- the last number below `e`, or `p`, is below `e` if `p` is
last_below_under : (p e : ℕ) (xs : List ℕ) → p < e → last_below p e xs < e
last_below_under p e [] l = l
last_below_under p e (x ∷ xs) l = go (λ m. last_below_under x e xs m) (last_below_under p e xs l) (lt_or_le x e)
  where
    go : (x < e → last_below x e xs < e) → last_below p e xs < e → (x < e) ⊎ (e ≤ x) → last_below p e (x ∷ xs) < e
    go more same (inl m) = let s = last_below_cons p e x xs m in let h : last_below x e xs < e = more m in omega arith
    go more same (inr m) = let s = last_below_skip p e x xs m in omega arith

-- an epoch is above the one that was closed before it
pub previous_below : (e : ℕ) (j : Journal) → 0 < e → previous_closed e j < e
previous_below e j l = let s = previous_is e j in let h : last_below 0 e (closed_epochs j) < e = last_below_under 0 e (closed_epochs j) l in omega arith

-- in a rising list the last number below `e` is the greatest one below it
last_below_greatest : (p e y : ℕ) (xs : List ℕ) (top : ℕ) → Rises top xs → Among y xs → y < e → y ≤ last_below p e xs
last_below_greatest p e y [] top rises a l = absurd a
last_below_greatest p e y (x ∷ xs) top rises (inl q) l =
    let m : x < e = omega arith in
    let s = last_below_cons p e x xs m in
    let h : x ≤ last_below x e xs = last_below_least x e xs top rises.3 rises.2 in omega arith
last_below_greatest p e y (x ∷ xs) top rises (inr a) l =
    let k : x < y = above_all x y xs rises.2 a in
    let m : x < e = omega arith in
    let s = last_below_cons p e x xs m in
    let h : y ≤ last_below x e xs = last_below_greatest x e y xs top rises.3 a l in omega arith

-- no closed epoch is between an epoch and the one that was closed before it
pub none_between : (o e y : ℕ) (j : Journal) → InOrder o j → IsClosed y j → previous_closed e j < y → e ≤ y
none_between o e y j h c l = go (lt_or_le y e)
  where
    go : (y < e) ⊎ (e ≤ y) → e ≤ y
    go (inl m) =
        let s = previous_is e j in
        let g : y ≤ last_below 0 e (closed_epochs j) = last_below_greatest 0 e y (closed_epochs j) o (closed_rise o j h) (closed_among y j c) m in
        absurd (omega arith)
    go (inr m) = m

-- an epoch with a change is open or closed
pub changes_closed : (site : SiteId) (o e : ℕ) (j : Journal) → InOrder o j → (changes_in site e j ≡ [] → ⊥) → (e ≡ o) ⊎ IsClosed e j
changes_closed site o e [] h some = absurd (some refl)
changes_closed site o e (Client f t cs ∷ j) h some = go (eq_or_ne f e) (λ more. changes_closed site o e j h.1 more)
  where
    go : (f ≡ e) ⊎ (f ≢ e) → ((changes_in site e j ≡ [] → ⊥) → (e ≡ o) ⊎ IsClosed e j) → (e ≡ o) ⊎ IsClosed e j
    go (inl q) more = inl (sym q ∙ h.0)
    go (inr n) more = more (λ none. some (changes_elsewhere site e (Client f t cs) j n ∙ none))
changes_closed site o e (Applied f s t acc refs ∷ j) h some = go (eq_or_ne f e) (λ more. changes_closed site o e j h.1 more)
  where
    go : (f ≡ e) ⊎ (f ≢ e) → ((changes_in site e j ≡ [] → ⊥) → (e ≡ o) ⊎ IsClosed e j) → (e ≡ o) ⊎ IsClosed e j
    go (inl q) more = inl (sym q ∙ h.0)
    go (inr n) more = more (λ none. some (changes_elsewhere site e (Applied f s t acc refs) j n ∙ none))
changes_closed site o e (Closed f ∷ j) h some = go (changes_closed site f e j h.1 (λ none. some (empty none)))
  where
    empty : changes_in site e j ≡ [] → changes_in site e (Closed f ∷ j) ≡ []
    empty none = changes_in_closed site e f j ∙ none

    go : (e ≡ f) ⊎ IsClosed e j → (e ≡ o) ⊎ IsClosed e (Closed f ∷ j)
    go (inl q) = inr (inl (sym q))
    go (inr c) = inr (inr c)

-- the closed epochs up to this one
abbrev pub upto : (last : ℕ) → Journal → List ℕ
upto last j = filter (λ epoch. nat_le epoch last) (closed_epochs j)

none_upto : (last : ℕ) (xs : List ℕ) → AllByRecursion (λ y. last < y) xs → filter (λ x. nat_le x last) xs ≡ []
none_upto last [] all = refl
none_upto last (x ∷ xs) all = rw (lt-leb x last all.0) (none_upto last xs all.1)

cut_at : (last : ℕ) (xs : List ℕ) (top : ℕ) → Rises top xs → xs ≡ filter (λ x. nat_le x last) xs ++ filter (λ x. nat_lt last x) xs
cut_at last [] top rises = refl
cut_at last (x ∷ xs) top rises = go (lt_or_le last x) (cut_at last xs top rises.3)
  where
    go : (last < x) ⊎ (x ≤ last) → xs ≡ filter (λ y. nat_le y last) xs ++ filter (λ y. nat_lt last y) xs → x ∷ xs ≡ filter (λ y. nat_le y last) (x ∷ xs) ++ filter (λ y. nat_lt last y) (x ∷ xs)
    go (inl l) more =
        let all = all_above_more last x xs l rises.2 in
        rw (none_upto last (x ∷ xs) (l, all), lt-ltb last x l) (ap (λ (ys : List ℕ). x ∷ ys) (sym (all_after last xs all)))
    go (inr l) more = rw (le-leb x last l, le-ltb last x l) (ap (λ (ys : List ℕ). x ∷ ys) more)

-- the closed epochs are those up to `last` and then those above it
pub closed_cut : (o last : ℕ) (j : Journal) → InOrder o j → closed_epochs j ≡ upto last j ++ following last j
closed_cut o last j h = cut_at last (closed_epochs j) o (closed_rise o j h)

-- the numbers up to the first one above `last` are those up to `last` and then that one
pub upto_more : (last e : ℕ) (xs rest : List ℕ) (top : ℕ) → Rises top xs → filter (λ x. nat_lt last x) xs ≡ e ∷ rest → filter (λ x. nat_le x e) xs ≡ filter (λ x. nat_le x last) xs ++ e ∷ []
upto_more last e [] rest top rises same = absurd (let g : [] ≡ e ∷ rest = same in cc)
upto_more last e (x ∷ xs) rest top rises same = go (lt_or_le last x) (λ later. upto_more last e xs rest top rises.3 later)
  where
    go : (last < x) ⊎ (x ≤ last) → (filter (λ y. nat_lt last y) xs ≡ e ∷ rest → filter (λ y. nat_le y e) xs ≡ filter (λ y. nat_le y last) xs ++ e ∷ []) → filter (λ y. nat_le y e) (x ∷ xs) ≡ filter (λ y. nat_le y last) (x ∷ xs) ++ e ∷ []
    go (inl l) more =
        let here : x ∷ filter (λ y. nat_lt last y) xs ≡ e ∷ rest = subst (λ (b : Bool). cond b (x ∷ filter (λ y. nat_lt last y) xs) (filter (λ y. nat_lt last y) xs) ≡ e ∷ rest) (lt-ltb last x l) same in
        let xe : x ≡ e = cc in
        let left : filter (λ y. nat_le y e) (x ∷ xs) ≡ e ∷ [] = subst (λ (n : ℕ). filter (λ y. nat_le y n) (x ∷ xs) ≡ n ∷ []) xe (rw (le-leb x x (omega arith)) (ap (λ (ys : List ℕ). x ∷ ys) (none_upto x xs rises.2))) in
        left ∙ sym (ap (λ (ys : List ℕ). ys ++ e ∷ []) (none_upto last (x ∷ xs) (l, all_above_more last x xs l rises.2)))
    go (inr l) more =
        let later : filter (λ y. nat_lt last y) xs ≡ e ∷ rest = subst (λ (b : Bool). cond b (x ∷ filter (λ y. nat_lt last y) xs) (filter (λ y. nat_lt last y) xs) ≡ e ∷ rest) (le-ltb last x l) same in
        let above : last < e = first_is_above last e xs rest later in
        rw (le-leb x e (omega arith), le-leb x last l) (ap (λ (ys : List ℕ). x ∷ ys) (more later))

pub upto_next : (o last e : ℕ) (j : Journal) (rest : List ℕ) → InOrder o j → following last j ≡ e ∷ rest → upto e j ≡ upto last j ++ e ∷ []
upto_next o last e j rest h same = upto_more last e (closed_epochs j) rest o (closed_rise o j h) same

-- a close of a greater epoch leaves the closed epochs up to `last` unchanged
pub upto_closed : (last c : ℕ) (j : Journal) → last < c → upto last (Closed c ∷ j) ≡ upto last j
upto_closed last c j l =
    filter-append (λ epoch. nat_le epoch last) (closed_epochs j) (c ∷ [])
    ∙ rw (lt-leb c last l) (append-nil (upto last j))

-- an entry that adds to the open epoch keeps the order
pub adds_in_order : (opened : ℕ) (entry : Entry) (older : Journal) → AddsTo opened entry → InOrder opened older → InOrder opened (entry ∷ older)
adds_in_order opened (Client own transid changes) older adds order = (adds, order)
adds_in_order opened (Applied own source transid accepted refreshes) older adds order = (adds, order)
adds_in_order opened (Closed own) older adds order = absurd adds

-- it leaves the closed epochs closed
pub adds_stays_closed : (opened epoch : ℕ) (entry : Entry) (older : Journal) → AddsTo opened entry → IsClosed epoch older → IsClosed epoch (entry ∷ older)
adds_stays_closed opened epoch (Client own transid changes) older adds closed = closed
adds_stays_closed opened epoch (Applied own source transid accepted refreshes) older adds closed = closed
adds_stays_closed opened epoch (Closed own) older adds closed = absurd adds

-- it leaves the epoch before each epoch unchanged
pub adds_previous : (opened epoch : ℕ) (entry : Entry) (older : Journal) → AddsTo opened entry → previous_closed epoch (entry ∷ older) ≡ previous_closed epoch older
adds_previous opened epoch entry older adds = ap (λ (epochs : List ℕ). unwrap_or (last_or None (filter (λ closed. nat_lt closed epoch) epochs)) 0) (adds_closes_none opened entry older adds)
