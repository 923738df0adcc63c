-- Each bucket's owner goes on to cover, whatever is done in a group that is not lost.
use Rattle.std.proofs.Common.{◌≡◌, ◌⊎◌, inl, inr, ℕ, ◌+◌, ◌-◌, ◌<◌, ◌≤◌, Bool, true, false, cond, List, [], ◌∷◌, ◌++◌, length, map, refl, subst, sym, ap, ◌∙◌, arith}
use Rattle.std.specs.Prelude.{◌==◌, ◌&&◌, not, if◌then◌else◌, nat_le, nat_lt, Option, Some, None, filter, unwrap_or}
use Rattle.std.specs.List.{slice_get, find, AllByRecursion}
use Rattle.std.specs.Option.{option_map, option_map_or}
use Rattle.std.proofs.lemmas.Bool.{and_parts, cases_eq, eq-eqb, ne_eqb, le-leb, leb-true, ltb-true}
use Rattle.std.proofs.lemmas.List.{map-append}
use Rattle.std.proofs.lemmas.Option.{slice_get-map}
use Rattle.rb_message_defs.specs.Message.{home_node}
use Rattle.rb_message_defs.proofs.Messages.{all_joined}
use Rattle.rb_bucket.specs.Bucket.{Rising}
use Rattle.rb_group.specs.Kept.{Kept, is_after, acknowledged_after, numbers_of, since_in, owner_in, needed_in, covers_in, returns_in, others_after, successor_in, only_closed, with_close, with_since, with_takeover, with_acknowledged}
use Rattle.rb_group.specs.Group.{AllCover, IsNumberOf, IsOrdered}
use Rattle.rb_group.proofs.After.{after_both}
use Rattle.rb_group.proofs.Lists.{there, found_in}
use Rattle.rb_group.proofs.Standing.{at_place, since_at, nodes_count}
use Rattle.rb_group.proofs.Beginning.{number_at}
use Rattle.rb_group.proofs.Steps.{successor_is_in, successor_covers}

-- a node that covers at a needed epoch covers at a higher one
covers_more : (a b : ℕ) (since : Option ℕ) → a ≤ b → option_map_or (λ since. nat_le since a) since false ≡ true → option_map_or (λ since. nat_le since b) since false ≡ true
covers_more a b None more is = is
covers_more a b (Some since) more is = le-leb since b (let l = leb-true since a is in omega arith)

-- the needed epoch does not fall at a close
close_rises : (acknowledged : Option ℕ) (opened next : ℕ) (xs : List ℕ) → opened < next → unwrap_or (find (is_after acknowledged) xs) opened ≤ unwrap_or (find (is_after acknowledged) (xs ++ opened ∷ [])) next
close_rises acknowledged opened next [] above = go (is_after acknowledged opened)
  where
    go : (t : Bool) → opened ≤ unwrap_or (cond t (Some opened) None) next
    go true = omega arith
    go false = omega arith
close_rises acknowledged opened next (x ∷ xs) above = go (is_after acknowledged x) (close_rises acknowledged opened next xs above)
  where
    go : (t : Bool) → unwrap_or (find (is_after acknowledged) xs) opened ≤ unwrap_or (find (is_after acknowledged) (xs ++ opened ∷ [])) next →
        unwrap_or (cond t (Some x) (find (is_after acknowledged) xs)) opened ≤ unwrap_or (cond t (Some x) (find (is_after acknowledged) (xs ++ opened ∷ []))) next
    go true rest = omega arith
    go false rest = rest

covers_closed : (kept : Kept) (prev next number : ℕ) → kept.opened < next → covers_in kept number ≡ true → covers_in (only_closed prev next kept) number ≡ true
covers_closed kept prev next number above is =
    covers_more (needed_in kept) (needed_in (only_closed prev next kept)) (since_in kept number)
    (subst (λ (xs : List ℕ). needed_in kept ≤ unwrap_or (find (is_after kept.acknowledged) xs) next) (sym (map-append (λ (close : ℕ × ℕ). close.0) kept.closes ((kept.opened, prev) ∷ [])))
    (close_rises kept.acknowledged kept.opened next (map (λ close. close.0) kept.closes) above))
    is

-- after a close: a bucket stays, or returns to a home node that covers
pub close_covers : (kept : Kept) (prev next : ℕ) → AllCover kept → kept.opened < next → AllCover (with_close prev next kept)
close_covers kept prev next cover above bucket is =
    ap (covers_in ended) owner ∙ go (returns_in ended bucket) refl
  where
    ended : Kept
    ended = only_closed prev next kept

    following : ℕ → ℕ
    following b = if returns_in ended b then home_node b else owner_in kept b

    owner : owner_in (with_close prev next kept) bucket ≡ following bucket
    owner = ap (λ (o : Option ℕ). unwrap_or o bucket)
        (slice_get-map following (numbers_of kept) (bucket - kept.first) ∙ ap (option_map following) (number_at kept.first (length kept.nodes) (bucket - kept.first) (omega (arith, is.0, is.1))))
        ∙ ap following (let same : kept.first + (bucket - kept.first) ≡ bucket = omega (arith, is.0) in same)

    go : (t : Bool) → returns_in ended bucket ≡ t → covers_in ended (if t then home_node bucket else owner_in kept bucket) ≡ true
    go true returns = (and_parts (not (owner_in ended bucket == home_node bucket)) (covers_in ended (home_node bucket)) returns).1
    go false stays = covers_closed kept prev next (owner_in kept bucket) above (cover bucket is)

-- a node at another place than the one that goes down, or comes up
since_stays : (kept : Kept) (number other : ℕ) (since : Option ℕ) → (kept.first + (other - kept.first) ≡ number → ⊥) → since_in (with_since number since kept) other ≡ since_in kept other
since_stays kept number other since differs =
    ap (λ (o : Option (Option ℕ)). unwrap_or o None) (since_at kept.first number 0 since kept.nodes (other - kept.first)) ∙ go (slice_get kept.nodes (other - kept.first))
  where
    go : (found : Option (Option ℕ)) → unwrap_or (option_map (λ (x : Option ℕ). if kept.first + (0 + (other - kept.first)) == number then since else x) found) None ≡ unwrap_or found None
    go None = refl
    go (Some x) = ap (λ (t : Bool). if t then since else x) (ne_eqb (kept.first + (0 + (other - kept.first))) number (λ (same : kept.first + (0 + (other - kept.first)) ≡ number). differs (omega arith)))

covers_stays : (kept : Kept) (number other : ℕ) (since : Option ℕ) → (kept.first + (other - kept.first) ≡ number → ⊥) → covers_in (with_since number since kept) other ≡ covers_in kept other
covers_stays kept number other since differs = ap (λ (o : Option ℕ). option_map_or (λ since. nat_le since (needed_in kept)) o false) (since_stays kept number other since differs)

-- the numbers stay
still_is : (kept : Kept) (number bucket : ℕ) (since : Option ℕ) → IsNumberOf (with_since number since kept) bucket → IsNumberOf kept bucket
still_is kept number bucket since is = let count = nodes_count kept.first number 0 since kept.nodes in (is.0, omega (arith, is.1))

-- after a restart: a node that is down owned nothing
pub restart_covers : (kept : Kept) (number : ℕ) → AllCover kept → since_in kept number ≡ None → AllCover (with_since number (Some (kept.opened + 1)) kept)
restart_covers kept number cover none bucket is = covers_stays kept number (owner_in kept bucket) (Some (kept.opened + 1)) differs ∙ covers
  where
    covers : covers_in kept (owner_in kept bucket) ≡ true
    covers = cover bucket (still_is kept number bucket (Some (kept.opened + 1)) is)

    differs : kept.first + (owner_in kept bucket - kept.first) ≡ number → ⊥
    differs same =
        let place : number - kept.first ≡ owner_in kept bucket - kept.first = omega arith in
        let down : since_in kept (owner_in kept bucket) ≡ None = ap (λ (k : ℕ). unwrap_or (slice_get kept.nodes k) None) (sym place) ∙ none in
        let both : false ≡ true = sym (ap (λ (o : Option ℕ). option_map_or (λ since. nat_le since (needed_in kept)) o false) down) ∙ covers in
        absurd cc

-- the numbers that pass a test have what it says
passing : (P : ℕ → Type 0) (test : ℕ → Bool) (xs : List ℕ) → ((x : ℕ) → test x ≡ true → P x) → AllByRecursion P (filter test xs)
passing P test [] says = tt
passing P test (x ∷ xs) says = go (test x) refl (passing P test xs says)
  where
    go : (t : Bool) → test x ≡ t → AllByRecursion P (filter test xs) → AllByRecursion P (cond t (x ∷ filter test xs) (filter test xs))
    go true passes rest = (says x passes, rest)
    go false fails rest = rest

-- a successor is another node
successor_differs : (kept : Kept) (number successor : ℕ) → successor_in kept number ≡ Some successor → successor ≡ number → ⊥
successor_differs kept number successor found =
    found_in (λ other. other ≡ number → ⊥) (covers_in kept) (others_after kept number) successor
    (all_joined (λ other. other ≡ number → ⊥) (filter (nat_lt number) (numbers_of kept)) (filter (λ other. nat_lt other number) (numbers_of kept))
    (passing (λ other. other ≡ number → ⊥) (nat_lt number) (numbers_of kept) (λ x passes same. let l = ltb-true number x passes in omega arith))
    (passing (λ other. other ≡ number → ⊥) (λ other. nat_lt other number) (numbers_of kept) (λ x passes same. let l = ltb-true x number passes in omega arith)))
    found

-- after a takeover: the failed node's buckets go to one that covers
pub takeover_covers : (kept : Kept) (number successor : ℕ) → length kept.owners ≡ length kept.nodes → AllByRecursion (IsNumberOf kept) kept.owners → AllCover kept → successor_in kept number ≡ Some successor →
    AllCover (with_takeover number successor kept)
takeover_covers kept number successor count all cover found bucket is =
    ap (covers_in failed) owner ∙ go (cases_eq (owner_in kept bucket) number)
  where
    failed : Kept
    failed = with_since number None kept

    next : ℕ → ℕ
    next owner = if owner == number then successor else owner

    here : IsNumberOf kept bucket
    here = still_is kept number bucket None is

    within : bucket - kept.first < length kept.owners
    within = omega (arith, here.0, here.1, count)

    owner : owner_in (with_takeover number successor kept) bucket ≡ next (owner_in kept bucket)
    owner = ap (λ (o : Option ℕ). unwrap_or o bucket) (slice_get-map next kept.owners (bucket - kept.first) ∙ ap (option_map next) (there kept.owners (bucket - kept.first) bucket within))

    still : (other : ℕ) → kept.first ≤ other → (other ≡ number → ⊥) → covers_in kept other ≡ true → covers_in failed other ≡ true
    still other low differs covers = covers_stays kept number other None (λ (same : kept.first + (other - kept.first) ≡ number). differs (omega arith)) ∙ covers

    go : (owner_in kept bucket ≡ number) ⊎ (owner_in kept bucket ≡ number → ⊥) → covers_in failed (next (owner_in kept bucket)) ≡ true
    go (inl same) = ap (λ (t : Bool). covers_in failed (if t then successor else owner_in kept bucket)) (eq-eqb (owner_in kept bucket) number same)
        ∙ still successor (successor_is_in kept number successor found).0 (successor_differs kept number successor found) (successor_covers kept number successor found)
    go (inr differs) = ap (λ (t : Bool). covers_in failed (if t then successor else owner_in kept bucket)) (ne_eqb (owner_in kept bucket) number differs)
        ∙ still (owner_in kept bucket) (at_place (IsNumberOf kept) kept.owners (bucket - kept.first) bucket all within).0 differs (cover bucket here)

-- what is below all of some numbers, and below what is above them, is not above the first of them
-- that passes
least_found : (x top : ℕ) (test : ℕ → Bool) (xs : List ℕ) → x < top → AllByRecursion (λ y. x < y) xs → x ≤ unwrap_or (find test xs) top
least_found x top test [] below all = omega arith
least_found x top test (y ∷ ys) below all = go (test y) (least_found x top test ys below all.1)
  where
    go : (t : Bool) → x ≤ unwrap_or (find test ys) top → x ≤ unwrap_or (cond t (Some y) (find test ys)) top
    go true rest = omega (arith, all.0)
    go false rest = rest

-- the needed epoch does not fall at an acknowledgement
acknowledged_rises : (a : Option ℕ) (through top : ℕ) (xs : List ℕ) → Rising top xs → unwrap_or (find (is_after a) xs) top ≤ unwrap_or (find (is_after (Some (acknowledged_after a through))) xs) top
acknowledged_rises a through top [] rising = omega arith
acknowledged_rises a through top (x ∷ xs) rising =
    subst (λ (t : Bool). unwrap_or (cond (is_after a x) (Some x) (find (is_after a) xs)) top ≤ unwrap_or (cond t (Some x) (find (is_after (Some (acknowledged_after a through))) xs)) top) (sym (after_both a through x))
    (go (is_after a x) (nat_lt through x) (acknowledged_rises a through top xs rising.2))
  where
    go : (t u : Bool) → unwrap_or (find (is_after a) xs) top ≤ unwrap_or (find (is_after (Some (acknowledged_after a through))) xs) top →
        unwrap_or (cond t (Some x) (find (is_after a) xs)) top ≤ unwrap_or (cond (t && u) (Some x) (find (is_after (Some (acknowledged_after a through))) xs)) top
    go true true rest = omega arith
    go true false rest = least_found x top (is_after (Some (acknowledged_after a through))) xs rising.0 rising.1
    go false u rest = rest

-- after an acknowledgement
pub acknowledgement_covers : (kept : Kept) (through : ℕ) → IsOrdered kept → AllCover kept → AllCover (with_acknowledged through kept)
acknowledgement_covers kept through order cover bucket is =
    covers_more (needed_in kept) (needed_in (with_acknowledged through kept)) (since_in kept (owner_in kept bucket))
    (acknowledged_rises kept.acknowledged through kept.opened (map (λ close. close.0) kept.closes) order.closes)
    (cover bucket is)
