-- What is sent, read off the buffers of nodes that cover.
use Rattle.std.proofs.Common.{◌≡◌, ℕ, ◌+◌, ◌<◌, ◌≤◌, zero, suc, Bool, true, false, cond, List, [], ◌∷◌, ◌++◌, length, map, refl, subst, sym, ap, ◌∙◌, arith, add-one}
use Rattle.std.specs.Prelude.{◌&&◌, if◌then◌else◌, nat_le, Option, Some, None, filter, unwrap_or}
use Rattle.std.specs.List.{find, flat_map, AllByRecursion, enumerate_from}
use Rattle.std.specs.Option.{option_map, option_map_or}
use Rattle.std.proofs.lemmas.Bool.{le-leb, leb-true}
use Rattle.rb_base.specs.declared.change.Change.{Change}
use Rattle.rb_base.specs.declared.message.Message.{Message}
use Rattle.rb_base.specs.declared.message.Message.TheVariants.{Part, Done}
use Rattle.rb_message_defs.specs.Nodes.{sent_from}
use Rattle.rb_bucket.specs.Bucket as node
use Rattle.rb_bucket.specs.Bucket.{Rising}
use Rattle.rb_bucket.specs.declared.bucket.BucketBuffer.{BucketBuffer}
use Rattle.rb_group.specs.declared.group.Group.{Group}
use Rattle.rb_group.specs.Kept.{Kept, IsOpenOf, is_after, HoldsFrom, HoldsNode, numbers_of, since_in, needed_in, covers_in, parts_in, done_in, unacknowledged_in, again_in}
use Rattle.rb_group.specs.Group.{IsOrdered, Keeps, IsNumberOf}
use Rattle.rb_group.specs.Nodes.{numbers_from, numbers_in, buffer_of, count_of, again_of}
use Rattle.rb_group.proofs.After.{after_more}
use Rattle.rb_group.proofs.Lists.{map_more, flat_more, flat_filter_more, filter_more}
use Rattle.rb_group.proofs.Holding.{held_here}
use Rattle.rb_group.proofs.Standing.{held_node}

-- what is said of closed epochs that are all late enough
all_late : {X : Type 0} (since n : ℕ) (a : Option ℕ) (f g : ℕ × ℕ → List X) (cs : List (ℕ × ℕ)) → since ≤ n → is_after a n ≡ true → AllByRecursion (λ y. n < y) (map (λ close. close.0) cs) →
    ((close : ℕ × ℕ) → since ≤ close.0 → is_after a close.0 ≡ true → f close ≡ g close) →
    flat_map f (filter (λ (close : ℕ × ℕ). nat_le since close.0 && is_after a close.0) cs) ≡ flat_map g (filter (λ (close : ℕ × ℕ). is_after a close.0) cs)
all_late since n a f g [] from above all same = refl
all_late {X} since n a f g (c ∷ cs) from above all same =
    let after : is_after a c.0 ≡ true = after_more a n c.0 above (omega (arith, all.0)) in
    rw (le-leb since c.0 (omega (arith, all.0)), after, same c (omega (arith, all.0)) after, all_late since n a f g cs from above all.1 same) refl

-- what is said of the closed epochs of a node that covers
late_enough : {X : Type 0} (since top : ℕ) (a : Option ℕ) (f g : ℕ × ℕ → List X) (cs : List (ℕ × ℕ)) → Rising top (map (λ close. close.0) cs) → since ≤ unwrap_or (find (is_after a) (map (λ close. close.0) cs)) top →
    ((close : ℕ × ℕ) → since ≤ close.0 → is_after a close.0 ≡ true → f close ≡ g close) →
    flat_map f (filter (λ (close : ℕ × ℕ). nat_le since close.0 && is_after a close.0) cs) ≡ flat_map g (filter (λ (close : ℕ × ℕ). is_after a close.0) cs)
late_enough since top a f g [] rising covers same = refl
late_enough since top a f g (c ∷ cs) rising covers same = go (is_after a c.0) refl (λ rest. late_enough since top a f g cs rising.2 rest same)
  where
    go : (t : Bool) → is_after a c.0 ≡ t → (since ≤ unwrap_or (find (is_after a) (map (λ close. close.0) cs)) top →
        flat_map f (filter (λ (close : ℕ × ℕ). nat_le since close.0 && is_after a close.0) cs) ≡ flat_map g (filter (λ (close : ℕ × ℕ). is_after a close.0) cs)) →
        flat_map f (filter (λ (close : ℕ × ℕ). nat_le since close.0 && is_after a close.0) (c ∷ cs)) ≡ flat_map g (filter (λ (close : ℕ × ℕ). is_after a close.0) (c ∷ cs))
    go true above rest =
        let from : since ≤ c.0 = subst (λ (t : Bool). since ≤ unwrap_or (cond t (Some c.0) (find (is_after a) (map (λ close. close.0) cs))) top) above covers in
        rw (le-leb since c.0 from, above, same c from above, all_late since c.0 a f g cs from above rising.1 same) refl
    go false under rest =
        let tail : since ≤ unwrap_or (find (is_after a) (map (λ close. close.0) cs)) top = subst (λ (t : Bool). since ≤ unwrap_or (cond t (Some c.0) (find (is_after a) (map (λ close. close.0) cs))) top) under covers in
        rw (under, and_false (nat_le since c.0)) (rest tail)
      where
        and_false : (t : Bool) → (t && false) ≡ false
        and_false true = refl
        and_false false = refl

-- the needed epoch is not above the open one
needed_low : (a : Option ℕ) (top : ℕ) (xs : List ℕ) → Rising top xs → unwrap_or (find (is_after a) xs) top ≤ top
needed_low a top [] rising = omega arith
needed_low a top (x ∷ xs) rising = go (is_after a x) (needed_low a top xs rising.2)
  where
    go : (t : Bool) → unwrap_or (find (is_after a) xs) top ≤ top → unwrap_or (cond t (Some x) (find (is_after a) xs)) top ≤ top
    go true rest = omega (arith, rising.0)
    go false rest = rest

-- the messages of the open epoch
open_messages : (since : ℕ) (buffer : BucketBuffer) (opened bucket : ℕ) (o : Option ℕ) → IsOpenOf o since opened buffer → option_map_or (node.parts_kept buffer bucket) o [] ≡ node.parts_kept buffer bucket opened
open_messages since buffer opened bucket None none = ap (λ (cs : List Change). map (λ numbered. Part bucket (record { 0 = opened }) numbered.0 numbered.1) (enumerate_from 0 cs)) (sym (none bucket))
open_messages since buffer opened bucket (Some epoch) is = ap (node.parts_kept buffer bucket) is.0

-- a node that covers has all that is not acknowledged
pub covering_messages : (since : ℕ) (buffer : BucketBuffer) (kept : Kept) (bucket : ℕ) → HoldsFrom since buffer kept → IsOrdered kept → since ≤ needed_in kept → node.messages_kept buffer bucket ≡ unacknowledged_in kept bucket
unfolding node.messages_kept
covering_messages since buffer kept bucket holds order covers =
    ap (λ (closes : List (ℕ × ℕ)). flat_map (λ (close : ℕ × ℕ). node.parts_kept buffer bucket close.0 ++ node.done_kept buffer bucket close ∷ []) closes ++ node.open_parts_kept buffer bucket) holds.closes
    ∙ ap (λ (ms : List Message). ms ++ node.open_parts_kept buffer bucket)
    (late_enough since kept.opened kept.acknowledged (λ (close : ℕ × ℕ). node.parts_kept buffer bucket close.0 ++ node.done_kept buffer bucket close ∷ []) (λ (close : ℕ × ℕ). parts_in kept bucket close.0 ++ done_in kept bucket close ∷ [])
    kept.closes order.closes covers same)
    ∙ ap (λ (ms : List Message). flat_map (λ (close : ℕ × ℕ). parts_in kept bucket close.0 ++ done_in kept bucket close ∷ []) (filter (λ (close : ℕ × ℕ). is_after kept.acknowledged close.0) kept.closes) ++ ms)
    (open_messages since buffer kept.opened bucket (node.open_of buffer) holds.opened)
    ∙ ap (λ (cs : List Change). flat_map (λ (close : ℕ × ℕ). parts_in kept bucket close.0 ++ done_in kept bucket close ∷ []) (filter (λ (close : ℕ × ℕ). is_after kept.acknowledged close.0) kept.closes)
    ++ map (λ numbered. Part bucket (record { 0 = kept.opened }) numbered.0 numbered.1) (enumerate_from 0 cs))
    (held_here since buffer kept kept.opened bucket holds (let low = needed_low kept.acknowledged kept.opened (map (λ close. close.0) kept.closes) order.closes in omega arith) order.acknowledged)
  where
    same : (close : ℕ × ℕ) → since ≤ close.0 → is_after kept.acknowledged close.0 ≡ true →
        ◌≡◌ {A = List Message} (node.parts_kept buffer bucket close.0 ++ node.done_kept buffer bucket close ∷ []) (parts_in kept bucket close.0 ++ done_in kept bucket close ∷ [])
    same close from above = ap (λ (cs : List Change). map (λ numbered. Part bucket (record { 0 = close.0 }) numbered.0 numbered.1) (enumerate_from 0 cs) ++ Done bucket (record { 0 = close.0 }) (record { 0 = close.1 }) (length cs) ∷ [])
        (held_here since buffer kept close.0 bucket holds from above)

-- what a node that covers resends
pub again_same : (group : Group) (kept : Kept) (sender bucket : ℕ) → Keeps group kept → IsNumberOf kept sender → covers_in kept sender ≡ true → again_in kept sender bucket ≡ again_of group sender bucket
again_same group kept sender bucket keeps is covers = go (buffer_of group sender) (since_in kept sender) (held_node group kept sender keeps is) covers
  where
    go : (b : Option BucketBuffer) (s : Option ℕ) → HoldsNode b s kept → option_map_or (λ since. nat_le since (needed_in kept)) s false ≡ true →
        again_in kept sender bucket ≡ option_map_or (λ buffer. sent_from sender (node.messages_kept buffer bucket)) b []
    go None None holds up = absurd (let f : false ≡ true = up in cc)
    go (Some b) (Some s) holds up = ap (sent_from sender) (sym (covering_messages s b kept bucket holds keeps.order (leb-true s (needed_in kept) up)))
    go None (Some s) holds up = absurd holds
    go (Some b) None holds up = absurd holds

-- how many changes a node that covers holds of a bucket in the open epoch
pub count_same : (group : Group) (kept : Kept) (sender bucket : ℕ) → Keeps group kept → IsNumberOf kept sender → covers_in kept sender ≡ true → length (kept.changes kept.opened bucket) ≡ count_of group sender bucket
count_same group kept sender bucket keeps is covers = go (buffer_of group sender) (since_in kept sender) (held_node group kept sender keeps is) covers
  where
    go : (b : Option BucketBuffer) (s : Option ℕ) → HoldsNode b s kept → option_map_or (λ since. nat_le since (needed_in kept)) s false ≡ true →
        length (kept.changes kept.opened bucket) ≡ option_map_or (λ buffer. length (node.changes_kept buffer group.opened.0 bucket)) b 0
    go None None holds up = absurd (let f : false ≡ true = up in cc)
    go (Some b) (Some s) holds up = ap length (sym (held_here s b kept kept.opened bucket holds
        (let low = needed_low kept.acknowledged kept.opened (map (λ close. close.0) kept.closes) keeps.order.closes in let l = leb-true s (needed_in kept) up in omega arith) keeps.order.acknowledged))
        ∙ ap (λ (e : ℕ). length (node.changes_kept b e bucket)) (sym keeps.opened)
    go None (Some s) holds up = absurd holds
    go (Some b) None holds up = absurd holds

-- a buffer holds no more than was done
pub within : (buffer : BucketBuffer) (since : Option ℕ) (kept : Kept) (e bucket : ℕ) → HoldsNode (Some buffer) since kept → length (node.changes_kept buffer e bucket) ≤ length (kept.changes e bucket)
within buffer None kept e bucket holds = absurd holds
within buffer (Some since) kept e bucket holds = subst (λ (cs : List Change). length cs ≤ length (kept.changes e bucket)) (sym (holds.changes e bucket)) (go (nat_le since e && is_after kept.acknowledged e))
  where
    go : (t : Bool) → length (if t then kept.changes e bucket else []) ≤ length (kept.changes e bucket)
    go true = omega arith
    go false = omega arith

-- a buffer is of the group's buckets
pub of_bucket : (buffer : BucketBuffer) (since : Option ℕ) (kept : Kept) (bucket : ℕ) → HoldsNode (Some buffer) since kept → IsNumberOf kept bucket → node.IsBucketOf buffer bucket
of_bucket buffer None kept bucket holds is = absurd holds
of_bucket buffer (Some since) kept bucket holds is = holds.buckets bucket is.0 is.1

-- the same numbers
pub numbers_same : (group : Group) (kept : Kept) → Keeps group kept → numbers_of kept ≡ numbers_in group
numbers_same group kept keeps = ap (λ (f : ℕ). numbers_from f (length kept.nodes)) (sym keeps.first) ∙ ap (λ (n : ℕ). numbers_from group.first n) (sym (ap length keeps.owners ∙ keeps.owner_count))

-- what is said of each number
pub map_same : {X : Type 0} (f g : ℕ → X) (first n : ℕ) → ((k : ℕ) → k < n → f (first + k) ≡ g (first + k)) → map f (numbers_from first n) ≡ map g (numbers_from first n)
map_same f g first zero same = refl
map_same {X} f g first (suc n) same = let e = add-one n in
    subst (λ (m : ℕ). map f (numbers_from first m) ≡ map g (numbers_from first m)) (add-one n)
    (map_more f first n ∙ ap (λ (ys : List X). ys ++ f (first + n) ∷ []) (map_same f g first n (λ k below. same k (omega arith))) ∙ ap (λ (y : X). map g (numbers_from first n) ++ y ∷ []) (same n (omega arith)) ∙ sym (map_more g first n))

pub flat_same : {X : Type 0} (f g : ℕ → List X) (first n : ℕ) → ((k : ℕ) → k < n → f (first + k) ≡ g (first + k)) → flat_map f (numbers_from first n) ≡ flat_map g (numbers_from first n)
flat_same f g first zero same = refl
flat_same {X} f g first (suc n) same =
    subst (λ (m : ℕ). flat_map f (numbers_from first m) ≡ flat_map g (numbers_from first m)) (add-one n)
    (flat_more f first n ∙ ap (λ (ys : List X). ys ++ f (first + n)) (flat_same f g first n (λ k below. same k (omega arith))) ∙ ap (λ (y : List X). flat_map g (numbers_from first n) ++ y) (same n (omega arith)) ∙ sym (flat_more g first n))

pub flat_filter_same : {X : Type 0} (f g : ℕ → List X) (p q : ℕ → Bool) (first n : ℕ) →
    ((k : ℕ) → k < n → (if p (first + k) then f (first + k) else []) ≡ (if q (first + k) then g (first + k) else [])) → flat_map f (filter p (numbers_from first n)) ≡ flat_map g (filter q (numbers_from first n))
flat_filter_same f g p q first zero same = refl
flat_filter_same {X} f g p q first (suc n) same =
    subst (λ (m : ℕ). flat_map f (filter p (numbers_from first m)) ≡ flat_map g (filter q (numbers_from first m))) (add-one n)
    (flat_filter_more f p first n ∙ ap (λ (ys : List X). ys ++ (if p (first + n) then f (first + n) else [])) (flat_filter_same f g p q first n (λ k below. same k (omega arith)))
    ∙ ap (λ (y : List X). flat_map g (filter q (numbers_from first n)) ++ y) (same n (omega arith)) ∙ sym (flat_filter_more g q first n))

pub filter_same : (p q : ℕ → Bool) (first n : ℕ) → ((k : ℕ) → k < n → p (first + k) ≡ q (first + k)) → filter p (numbers_from first n) ≡ filter q (numbers_from first n)
filter_same p q first zero same = refl
filter_same p q first (suc n) same =
    subst (λ (m : ℕ). filter p (numbers_from first m) ≡ filter q (numbers_from first m)) (add-one n)
    (filter_more p first n ∙ ap (λ (ys : List ℕ). ys ++ (if p (first + n) then (first + n) ∷ [] else [])) (filter_same p q first n (λ k below. same k (omega arith)))
    ∙ ap (λ (t : Bool). filter q (numbers_from first n) ++ (if t then (first + n) ∷ [] else [])) (same n (omega arith)) ∙ sym (filter_more q first n))

-- a node that covers is up, and its buffer has all that is not acknowledged of a bucket
pub covering_holds : (group : Group) (kept : Kept) (number bucket : ℕ) → Keeps group kept → IsNumberOf kept number → covers_in kept number ≡ true →
    option_map (λ buffer. node.messages_kept buffer bucket) (buffer_of group number) ≡ Some (unacknowledged_in kept bucket)
covering_holds group kept number bucket keeps is covers = go (buffer_of group number) (since_in kept number) (held_node group kept number keeps is) covers
  where
    go : (b : Option BucketBuffer) (s : Option ℕ) → HoldsNode b s kept → option_map_or (λ since. nat_le since (needed_in kept)) s false ≡ true →
        option_map (λ buffer. node.messages_kept buffer bucket) b ≡ Some (unacknowledged_in kept bucket)
    go None None holds up = absurd (let f : false ≡ true = up in cc)
    go (Some b) (Some s) holds up = ap (λ (ms : List Message). Some ms) (covering_messages s b kept bucket holds keeps.order (leb-true s (needed_in kept) up))
    go None (Some s) holds up = absurd holds
    go (Some b) None holds up = absurd holds
