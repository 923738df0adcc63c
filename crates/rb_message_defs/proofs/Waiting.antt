-- The places that wait: of the messages that were sent, those that were not delivered and whose
-- sender has not failed since.
use Rattle.std.proofs.Common.{◌≡◌, ℕ, suc, ◌<◌, ◌≤◌, Bool, true, false, cond, List, [], ◌∷◌, ◌++◌, length, filter, refl, sym, ap, subst, ◌∙◌, arith, length-append, le-ltb, ne_eqb, eq-eqb}
use Rattle.std.specs.Prelude.{Option, Some, None, ◌==◌, not, ◌||◌, ◌&&◌, nat_lt}
use Rattle.std.specs.List.{AllByRecursion, list_any}
use Rattle.std.specs.Option.{option_map_or}
use Rattle.std.specs.Ordering.{nat_cmp}
use Rattle.std.specs.BTreeMap.{is_at}
use Rattle.std.specs.Set.{remove_key}
use Rattle.std.proofs.lemmas.Bool.{ltb-true, lt-ltb}
use Rattle.std.proofs.lemmas.List.Elements.{filter-append, filter_agree}
use Rattle.rb_base.specs.declared.message.Sent.{Sent}
use Rattle.rb_journal_defs.specs.Body.{numbers_below}
use Rattle.rb_message_defs.specs.Nodes.{is_gone, waiting_places}
use Rattle.rb_message_defs.proofs.Messages.{get_end}
use Rattle.rb_message_defs.proofs.Places.{filtered_below, get_same}
use Rattle.rb_message_defs.proofs.Keys.{at_key, numbers_are_below, numbers_rise, without_key}

-- a new place was not delivered
not_yet : (n : ℕ) (delivered : List ℕ) → AllByRecursion (λ k. k < n) delivered → list_any (λ other. other == n) delivered ≡ false
not_yet n [] below = refl
not_yet n (k ∷ delivered) below = rw (ne_eqb k n (let l : k < n = below.0 in omega arith)) (not_yet n delivered below.1)

-- tests that agree below a number
pub same_below : (n : ℕ) (f g : ℕ → Bool) (xs : List ℕ) → AllByRecursion (λ k. k < n) xs → ((x : ℕ) → x < n → f x ≡ g x) → filter f xs ≡ filter g xs
same_below n f g [] all same = refl
same_below n f g (x ∷ xs) all same = rw (same x all.0) (go (g x) (same_below n f g xs all.1 same))
  where
    go : (b : Bool) → filter f xs ≡ filter g xs → cond b (x ∷ filter f xs) (filter f xs) ≡ cond b (x ∷ filter g xs) (filter g xs)
    go true q = ap (λ (ys : List ℕ). x ∷ ys) q
    go false q = q

-- a test after a weaker one
pub kept_of_kept : (a f g : ℕ → Bool) (xs : List ℕ) → ((x : ℕ) → g x ≡ true → f x ≡ true) → filter g (filter (λ x. a x && f x) xs) ≡ filter (λ x. a x && g x) xs
kept_of_kept a f g [] within = refl
kept_of_kept a f g (x ∷ xs) within = go (a x) (f x) (g x) refl refl (kept_of_kept a f g xs within)
  where
    go : (in_a in_f in_g : Bool) → f x ≡ in_f → g x ≡ in_g → filter g (filter (λ x. a x && f x) xs) ≡ filter (λ x. a x && g x) xs →
        filter g (cond (in_a && in_f) (x ∷ filter (λ x. a x && f x) xs) (filter (λ x. a x && f x) xs)) ≡ cond (in_a && in_g) (x ∷ filter (λ x. a x && g x) xs) (filter (λ x. a x && g x) xs)
    go true true true p q more = rw q (ap (λ (ys : List ℕ). x ∷ ys) more)
    go true true false p q more = rw q more
    go true false true p q more = absurd (let no : false ≡ true = sym p ∙ within x q in cc)
    go true false false p q more = more
    go false in_f in_g p q more = more

-- after one more message was sent, the same earlier places are gone
pub gone_as_before : (failed_at : ℕ → ℕ) (sent : List Sent) (message : Sent) (place : ℕ) → place < length sent → is_gone failed_at (sent ++ message ∷ []) place ≡ is_gone failed_at sent place
gone_as_before failed_at sent message place l =
    ap (λ (found : Option Sent). option_map_or (λ (message : Sent). nat_lt place (failed_at message.sender)) found false) (get_same sent (message ∷ []) place l)

-- and its own place is not gone
pub not_gone_yet : (failed_at : ℕ → ℕ) (sent : List Sent) (message : Sent) → ((node : ℕ) → failed_at node ≤ length sent) → is_gone failed_at (sent ++ message ∷ []) (length sent) ≡ false
not_gone_yet failed_at sent message within =
    ap (λ (found : Option Sent). option_map_or (λ (message : Sent). nat_lt (length sent) (failed_at message.sender)) found false) (get_end sent message [])
    ∙ le-ltb (length sent) (failed_at message.sender) (within message.sender)

pub kept_alone : (test : ℕ → Bool) (n : ℕ) → test n ≡ true → filter test (n ∷ []) ≡ n ∷ []
kept_alone test n kept = rw kept refl

both_false : (a b : Bool) → a ≡ false → b ≡ false → (not a && not b) ≡ true
both_false a b p q = rw (p, q) refl

-- one place more waits
pub waiting_more : (failed_at : ℕ → ℕ) (sent : List Sent) (delivered : List ℕ) (message : Sent) → ((node : ℕ) → failed_at node ≤ length sent) → AllByRecursion (λ k. k < length sent) delivered →
    waiting_places failed_at (sent ++ message ∷ []) delivered ≡ waiting_places failed_at sent delivered ++ length sent ∷ []
waiting_more failed_at sent delivered message within below =
    let more : length (sent ++ message ∷ []) ≡ suc (length sent) = let s = length-append sent (message ∷ []) in omega arith in
    let old : ℕ → Bool = λ place. not (list_any (λ other. other == place) delivered) && not (is_gone failed_at sent place) in
    let new : ℕ → Bool = λ place. not (list_any (λ other. other == place) delivered) && not (is_gone failed_at (sent ++ message ∷ []) place) in
    let front : filter new (numbers_below (length sent)) ≡ filter old (numbers_below (length sent)) =
    same_below (length sent) new old (numbers_below (length sent)) (numbers_are_below (length sent))
    (λ x l. ap (λ (gone : Bool). not (list_any (λ other. other == x) delivered) && not gone) (gone_as_before failed_at sent message x l)) in
    let end : filter new (length sent ∷ []) ≡ length sent ∷ [] =
    kept_alone new (length sent) (both_false _ _ (not_yet (length sent) delivered below) (not_gone_yet failed_at sent message within)) in
    ap (λ (count : ℕ). filter new (numbers_below count)) more
    ∙ filter-append new (numbers_below (length sent)) (length sent ∷ [])
    ∙ ap (λ (ks : List ℕ). ks ++ filter new (length sent ∷ [])) front
    ∙ ap (λ (ks : List ℕ). filter old (numbers_below (length sent)) ++ ks) end

-- the places that wait after one more delivery
pub waiting_without : (failed_at : ℕ → ℕ) (sent : List Sent) (place : ℕ) (delivered : List ℕ) → waiting_places failed_at sent (place ∷ delivered) ≡ remove_key (is_at (nat_cmp place)) (waiting_places failed_at sent delivered)
waiting_without failed_at sent place delivered =
    let waits : ℕ → Bool = λ x. not (list_any (λ other. other == x) delivered) && not (is_gone failed_at sent x) in
    sym (without_key place waits (numbers_below (length sent)) (numbers_rise (length sent))
    ∙ filter_agree (λ x. not (place == x) && waits x) (λ x. not (list_any (λ other. other == x) (place ∷ delivered)) && not (is_gone failed_at sent x)) (λ x. both (place == x) (list_any (λ other. other == x) delivered) (not (is_gone failed_at sent x))) (numbers_below (length sent)))
  where
    both : (a b c : Bool) → (not a && (not b && c)) ≡ (not (a || b) && c)
    both true b c = refl
    both false b c = refl

-- and after the first of them was delivered
pub waiting_rest : (failed_at : ℕ → ℕ) (sent : List Sent) (place : ℕ) (delivered rest : List ℕ) → waiting_places failed_at sent delivered ≡ place ∷ rest → waiting_places failed_at sent (place ∷ delivered) ≡ rest
waiting_rest failed_at sent place delivered rest same = waiting_without failed_at sent place delivered ∙ ap (remove_key (is_at (nat_cmp place))) same ∙ first_gone
  where
    first_gone : remove_key (is_at (nat_cmp place)) (place ∷ rest) ≡ rest
    first_gone = rw (at_key place place ∙ eq-eqb place place refl) refl

-- a place that waits is one of those that were sent
pub waiting_within : (failed_at : ℕ → ℕ) (sent : List Sent) (place : ℕ) (delivered rest : List ℕ) → waiting_places failed_at sent delivered ≡ place ∷ rest → place < length sent
waiting_within failed_at sent place delivered rest same =
    (subst (λ (places : List ℕ). AllByRecursion (λ k. k < length sent) places) same
    (filtered_below (length sent) (λ place. not (list_any (λ other. other == place) delivered) && not (is_gone failed_at sent place)) (numbers_below (length sent)) (numbers_are_below (length sent)))).0

-- a place stays gone if nodes failed later
pub gone_later : (before after : ℕ → ℕ) (place : ℕ) (found : Option Sent) → ((node : ℕ) → before node ≤ after node) →
    not (option_map_or (λ (m : Sent). nat_lt place (after m.sender)) found false) ≡ true → not (option_map_or (λ (m : Sent). nat_lt place (before m.sender)) found false) ≡ true
gone_later before after place None later stays = stays
gone_later before after place (Some m) later stays = go (nat_lt place (before m.sender)) refl
  where
    go : (b : Bool) → nat_lt place (before m.sender) ≡ b → not b ≡ true
    go false q = refl
    go true q =
        let l : place < before m.sender = ltb-true place (before m.sender) q in
        let k : before m.sender ≤ after m.sender = later m.sender in
        let gone : nat_lt place (after m.sender) ≡ true = lt-ltb place (after m.sender) (omega arith) in
        ap not (sym gone) ∙ stays
