-- What the groups keep after the commit of one change.
use Rattle.std.proofs.Common.{◌≡◌, ℕ, Bool, true, false, cond, [], ◌∷◌, ◌++◌, refl, sym, ap, ◌∙◌}
use Rattle.std.specs.Prelude.{◌==◌, ◌&&◌, if◌then◌else◌}
use Rattle.std.specs.List.{list_any}
use Rattle.std.proofs.lemmas.Bool.{eqb-true}
use Rattle.std.proofs.lemmas.List.{append-nil}
use Rattle.rb_base.specs.Bucket.{bucket_number}
use Rattle.rb_base.specs.declared.change.Change.{Change}
use Rattle.rb_journal_defs.specs.Body.{in_bucket}
use Rattle.rb_message_defs.specs.Nodes.{numbers_in}
use Rattle.rb_message_defs.proofs.Parts.{in_bucket_more}
use Rattle.rb_group.specs.Kept.{with_part}
use Rattle.rb_group.specs.Group.{Keeps}
use Rattle.rb_group.specs.declared.group.Group.{Group}
use Rattle.rb_nodes.specs.Nodes.{Buffered, kept_in, share_of, with_changes, GroupHolds}
use Rattle.rb_nodes.proofs.ShareLaws.{keeps_same}

-- a bucket is one of a group's
abbrev pub is_of_group : Buffered → (number bucket : ℕ) → Bool
is_of_group site number bucket = list_any (λ other. other == bucket) (numbers_in site.members number)

-- what a group keeps of a bucket after a change of another bucket, or of this one
kept_more : (buckets : ℕ) (site : Buffered) (number : ℕ) (c : Change) (e b : ℕ) →
    kept_in (with_changes (c ∷ []) site) buckets number e b
    ≡ kept_in site buckets number e b ++ (if is_of_group site number b && (site.opened == e) && (bucket_number c.table c.key buckets == b) then c ∷ [] else [])
kept_more buckets site number c e b = go (is_of_group site number b) (site.opened == e)
  where
    go : (here now : Bool) → (if here then in_bucket buckets b (if now then site.changes e ++ c ∷ [] else site.changes e) else [])
        ≡ (if here then in_bucket buckets b (site.changes e) else []) ++ (if here && now && (bucket_number c.table c.key buckets == b) then c ∷ [] else [])
    go true true = in_bucket_more buckets b (site.changes e) c
    go true false = sym (append-nil (in_bucket buckets b (site.changes e)))
    go false now = refl

-- a group without the bucket of the change keeps what it kept
pub kept_beside : (buckets : ℕ) (site : Buffered) (number bucket : ℕ) (c : Change) → bucket ≡ bucket_number c.table c.key buckets → is_of_group site number bucket ≡ false →
    (e b : ℕ) → kept_in site buckets number e b ≡ kept_in (with_changes (c ∷ []) site) buckets number e b
kept_beside buckets site number bucket c is out e b =
    sym (kept_more buckets site number c e b ∙ ap (λ (x : Bool). kept_in site buckets number e b ++ (if x then c ∷ [] else [])) (none (bucket_number c.table c.key buckets == b) refl) ∙ append-nil (kept_in site buckets number e b))
  where
    none : (same : Bool) → (bucket_number c.table c.key buckets == b) ≡ same → (is_of_group site number b && (site.opened == e) && same) ≡ false
    none true q =
        let here : bucket ≡ b = is ∙ eqb-true (bucket_number c.table c.key buckets) b q in
        rw (ap (is_of_group site number) (sym here) ∙ out) refl
    none false q = no (is_of_group site number b) (site.opened == e)
      where
        no : (x y : Bool) → (x && y && false) ≡ false
        no true true = refl
        no true false = refl
        no false y = refl

-- that with the bucket keeps the change too
pub kept_here : (buckets : ℕ) (site : Buffered) (number bucket : ℕ) (c : Change) → bucket ≡ bucket_number c.table c.key buckets → is_of_group site number bucket ≡ true →
    (e b : ℕ) → (with_part bucket c (share_of buckets site number)).changes e b ≡ kept_in (with_changes (c ∷ []) site) buckets number e b
kept_here buckets site number bucket c is inside e b =
    go (site.opened == e) (bucket == b) refl
    ∙ sym (kept_more buckets site number c e b ∙ ap (λ (n : ℕ). kept_in site buckets number e b ++ (if is_of_group site number b && (site.opened == e) && (n == b) then c ∷ [] else [])) (sym is))
  where
    go : (now same : Bool) → (bucket == b) ≡ same → cond (now && same) (kept_in site buckets number e b ++ c ∷ []) (kept_in site buckets number e b)
        ≡ kept_in site buckets number e b ++ (if is_of_group site number b && now && same then c ∷ [] else [])
    go true true q =
        let here : bucket ≡ b = eqb-true bucket b q in
        sym (ap (λ (x : Bool). kept_in site buckets number e b ++ (if x && true && true then c ∷ [] else [])) (ap (is_of_group site number) (sym here) ∙ inside))
    go true false q = sym (none (is_of_group site number b))
      where
        none : (x : Bool) → kept_in site buckets number e b ++ (if x && true && false then c ∷ [] else []) ≡ kept_in site buckets number e b
        none true = append-nil (kept_in site buckets number e b)
        none false = append-nil (kept_in site buckets number e b)
    go false same q = sym (none (is_of_group site number b) same)
      where
        none : (x y : Bool) → kept_in site buckets number e b ++ (if x && false && y then c ∷ [] else []) ≡ kept_in site buckets number e b
        none true y = append-nil (kept_in site buckets number e b)
        none false y = append-nil (kept_in site buckets number e b)

-- so the groups after a commit represent their shares
pub group_committed : (buckets : ℕ) (site : Buffered) (number bucket : ℕ) (new : Group) (c : Change) → bucket ≡ bucket_number c.table c.key buckets → is_of_group site number bucket ≡ true →
    Keeps new (with_part bucket c (share_of buckets site number)) → GroupHolds buckets (with_changes (c ∷ []) site) number new
group_committed buckets site number bucket new c is inside keeps =
    keeps_same new (with_part bucket c (share_of buckets site number)) (kept_in (with_changes (c ∷ []) site) buckets number) (kept_here buckets site number bucket c is inside) keeps

pub group_beside : (buckets : ℕ) (site : Buffered) (number bucket : ℕ) (group : Group) (c : Change) → bucket ≡ bucket_number c.table c.key buckets → is_of_group site number bucket ≡ false →
    GroupHolds buckets site number group → GroupHolds buckets (with_changes (c ∷ []) site) number group
group_beside buckets site number bucket group c is outside held =
    keeps_same group (share_of buckets site number) (kept_in (with_changes (c ∷ []) site) buckets number) (kept_beside buckets site number bucket c is outside) held
