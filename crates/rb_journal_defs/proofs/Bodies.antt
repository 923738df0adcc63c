-- The growth of a journal's bodies with its entries.
use Rattle.std.proofs.Common.{◌≡◌, ℕ, ◌<◌, Bool, true, false, cond, List, [], ◌∷◌, ◌++◌, filter, map, refl, sym, ap, subst, ◌∙◌, arith}
use Rattle.std.specs.Prelude.{◌==◌, Option, if◌then◌else◌}
use Rattle.std.specs.List.{AllByRecursion, flat_map}
use Rattle.std.proofs.lemmas.Bool.{ne_eqb}
use Rattle.std.proofs.lemmas.List.{append-nil, map-append}
use Rattle.std.proofs.lemmas.List.Elements.{filter-append}
use Rattle.rb_base.specs.declared.epoch.Epoch.{Epoch}
use Rattle.rb_base.specs.declared.site.SiteId.{SiteId}
use Rattle.rb_base.specs.declared.site.SiteId.TheVariants.{A, B}
use Rattle.rb_base.specs.declared.change.Change.{Change}
use Rattle.rb_base.specs.declared.body.EpochBody.{EpochBody}
use Rattle.rb_journal_defs.specs.Journal.{Entry, Client, Applied, Closed, Journal, epoch_of, closed_epochs, changes_of}
use Rattle.rb_journal_defs.specs.Order.{AddsTo}
use Rattle.rb_journal_defs.specs.Body.{Shape, changes_in, in_bucket, numbers_below, is_logged, last_source, reflected_in, body_with, body_of, has_something_to_log, completed_epochs, completed_bodies}

-- an entry adds no change to another epoch
pub changes_in_other : (site : SiteId) (epoch : ℕ) (entry : Entry) (older : Journal) → (epoch_of entry ≡ epoch → ⊥) → changes_in site epoch (entry ∷ older) ≡ changes_in site epoch older
changes_in_other site epoch entry older differs =
    rw (ne_eqb (epoch_of entry) epoch differs) (append-nil (changes_in site epoch older))

pub last_source_other : (epoch : ℕ) (entry : Entry) (older : Journal) → (epoch_of entry ≡ epoch → ⊥) → last_source epoch (entry ∷ older) ≡ last_source epoch older
last_source_other epoch (Client own transid changes) older differs = refl
last_source_other epoch (Applied own source transid accepted refreshes) older differs = rw (ne_eqb own epoch differs) refl
last_source_other epoch (Closed own) older differs = refl

pub reflected_other : (site : SiteId) (epoch : ℕ) (entry : Entry) (older : Journal) → (epoch_of entry ≡ epoch → ⊥) → reflected_in site epoch (entry ∷ older) ≡ reflected_in site epoch older
reflected_other A epoch entry older differs = refl
reflected_other B epoch entry older differs = last_source_other epoch entry older differs

-- the body of these changes and this reflected epoch
pub body_made : Shape → ℕ → Option Epoch → List Change → EpochBody
body_made shape epoch reflected changes =
    body_with shape epoch reflected (filter (is_logged shape.site) (flat_map (λ bucket. in_bucket shape.buckets bucket changes) (numbers_below shape.buckets)))

pub body_is_made : (shape : Shape) (epoch : ℕ) (journal : Journal) → body_of shape epoch journal ≡ body_made shape epoch (reflected_in shape.site epoch journal) (changes_in shape.site epoch journal)
unfolding body_of body_made
body_is_made shape epoch journal = refl

pub body_same : (shape : Shape) (epoch : ℕ) (new old : Journal) → reflected_in shape.site epoch new ≡ reflected_in shape.site epoch old → changes_in shape.site epoch new ≡ changes_in shape.site epoch old → body_of shape epoch new ≡ body_of shape epoch old
body_same shape epoch new old reflected changes =
    body_is_made shape epoch new
    ∙ ap (λ (r : Option Epoch). body_made shape epoch r (changes_in shape.site epoch new)) reflected
    ∙ ap (λ (cs : List Change). body_made shape epoch (reflected_in shape.site epoch old) cs) changes
    ∙ sym (body_is_made shape epoch old)

-- an entry of another epoch leaves a body unchanged
pub body_of_other : (shape : Shape) (epoch : ℕ) (entry : Entry) (older : Journal) → (epoch_of entry ≡ epoch → ⊥) → body_of shape epoch (entry ∷ older) ≡ body_of shape epoch older
body_of_other shape epoch entry older differs =
    body_same shape epoch (entry ∷ older) older (reflected_other shape.site epoch entry older differs) (changes_in_other shape.site epoch entry older differs)

pub changes_in_closed : (site : SiteId) (epoch closed : ℕ) (older : Journal) → changes_in site epoch (Closed closed ∷ older) ≡ changes_in site epoch older
changes_in_closed site epoch closed older = elim (closed == epoch) as (λ b. changes_in site epoch older ++ cond b [] [] ≡ changes_in site epoch older)
    [ true ↦ append-nil (changes_in site epoch older) | false ↦ append-nil (changes_in site epoch older) ]

pub reflected_closed : (site : SiteId) (epoch closed : ℕ) (older : Journal) → reflected_in site epoch (Closed closed ∷ older) ≡ reflected_in site epoch older
reflected_closed A epoch closed older = refl
reflected_closed B epoch closed older = refl

-- a close changes no body
pub body_of_closed : (shape : Shape) (epoch closed : ℕ) (older : Journal) → body_of shape epoch (Closed closed ∷ older) ≡ body_of shape epoch older
body_of_closed shape epoch closed older =
    body_same shape epoch (Closed closed ∷ older) older (reflected_closed shape.site epoch closed older) (changes_in_closed shape.site epoch closed older)

-- those of these epochs' bodies that have something to log
pub logged_of : Shape → Journal → List ℕ → List EpochBody
logged_of shape journal epochs = map (λ epoch. body_of shape epoch journal) (filter (λ epoch. has_something_to_log (body_of shape epoch journal)) epochs)

-- this body, if it has something to log
abbrev pub if_logged : EpochBody → List EpochBody
if_logged body = if has_something_to_log body then body ∷ [] else []

pub logged_of_cons : (shape : Shape) (journal : Journal) (epoch : ℕ) (epochs : List ℕ) → logged_of shape journal (epoch ∷ epochs) ≡ if_logged (body_of shape epoch journal) ++ logged_of shape journal epochs
unfolding logged_of
logged_of_cons shape journal epoch epochs = go (has_something_to_log (body_of shape epoch journal))
  where
    go : (b : Bool) → map (λ epoch. body_of shape epoch journal) (cond b (epoch ∷ filter (λ epoch. has_something_to_log (body_of shape epoch journal)) epochs) (filter (λ epoch. has_something_to_log (body_of shape epoch journal)) epochs)) ≡ cond b (body_of shape epoch journal ∷ []) [] ++ map (λ epoch. body_of shape epoch journal) (filter (λ epoch. has_something_to_log (body_of shape epoch journal)) epochs)
    go true = refl
    go false = refl

pub logged_same : (shape : Shape) (new old : Journal) (epochs : List ℕ) → AllByRecursion (λ epoch. body_of shape epoch new ≡ body_of shape epoch old) epochs → logged_of shape new epochs ≡ logged_of shape old epochs
unfolding logged_of
logged_same shape new old [] same = refl
logged_same shape new old (epoch ∷ epochs) same =
    logged_of_cons shape new epoch epochs
    ∙ ap (λ (b : EpochBody). if_logged b ++ logged_of shape new epochs) same.0
    ∙ ap (λ (bs : List EpochBody). if_logged (body_of shape epoch old) ++ bs) (logged_same shape new old epochs same.1)
    ∙ sym (logged_of_cons shape old epoch epochs)

pub logged_append : (shape : Shape) (journal : Journal) (xs ys : List ℕ) → logged_of shape journal (xs ++ ys) ≡ logged_of shape journal xs ++ logged_of shape journal ys
unfolding logged_of
logged_append shape journal xs ys =
    ap (map (λ epoch. body_of shape epoch journal)) (filter-append (λ epoch. has_something_to_log (body_of shape epoch journal)) xs ys)
    ∙ map-append (λ epoch. body_of shape epoch journal) (filter (λ epoch. has_something_to_log (body_of shape epoch journal)) xs) (filter (λ epoch. has_something_to_log (body_of shape epoch journal)) ys)

pub completed_is : (shape : Shape) (journal : Journal) → completed_bodies shape journal ≡ logged_of shape journal (closed_epochs journal)
unfolding completed_bodies completed_epochs logged_of
completed_is shape journal = refl

pub others_below : (shape : Shape) (entry : Entry) (older : Journal) (epochs : List ℕ) → AllByRecursion (λ epoch. epoch < epoch_of entry) epochs → AllByRecursion (λ epoch. body_of shape epoch (entry ∷ older) ≡ body_of shape epoch older) epochs
others_below shape entry older [] below = tt
others_below shape entry older (epoch ∷ epochs) below =
    (body_of_other shape epoch entry older (λ (same : epoch_of entry ≡ epoch). let h : epoch < epoch_of entry = below.0 in absurd (omega arith)), others_below shape entry older epochs below.1)

pub closed_same : (shape : Shape) (closed : ℕ) (older : Journal) (epochs : List ℕ) → AllByRecursion (λ epoch. body_of shape epoch (Closed closed ∷ older) ≡ body_of shape epoch older) epochs
closed_same shape closed older [] = tt
closed_same shape closed older (epoch ∷ epochs) = (body_of_closed shape epoch closed older, closed_same shape closed older epochs)

pub adds_epoch : (opened : ℕ) (entry : Entry) → AddsTo opened entry → epoch_of entry ≡ opened
adds_epoch opened (Client own transid changes) adds = adds
adds_epoch opened (Applied own source transid accepted refreshes) adds = adds
adds_epoch opened (Closed own) adds = absurd adds

-- an entry that adds to an epoch closes none
pub adds_closes_none : (opened : ℕ) (entry : Entry) (older : Journal) → AddsTo opened entry → closed_epochs (entry ∷ older) ≡ closed_epochs older
adds_closes_none opened (Client own transid changes) older adds = refl
adds_closes_none opened (Applied own source transid accepted refreshes) older adds = refl
adds_closes_none opened (Closed own) older adds = absurd adds

-- a new entry of the open epoch leaves the completed bodies unchanged
pub completed_entered : (shape : Shape) (opened : ℕ) (entry : Entry) (older : Journal) → AddsTo opened entry → AllByRecursion (λ epoch. epoch < opened) (closed_epochs older) → completed_bodies shape (entry ∷ older) ≡ completed_bodies shape older
completed_entered shape opened entry older adds below =
    let own = adds_epoch opened entry adds in
    completed_is shape (entry ∷ older)
    ∙ ap (logged_of shape (entry ∷ older)) (adds_closes_none opened entry older adds)
    ∙ logged_same shape (entry ∷ older) older (closed_epochs older) (others_below shape entry older (closed_epochs older) (subst (λ (o : ℕ). AllByRecursion (λ epoch. epoch < o) (closed_epochs older)) (sym own) below))
    ∙ sym (completed_is shape older)

-- a close adds the body of its epoch, if that has something to log
pub completed_closed : (shape : Shape) (closed : ℕ) (older : Journal) → completed_bodies shape (Closed closed ∷ older) ≡ completed_bodies shape older ++ if_logged (body_of shape closed older)
unfolding logged_of
completed_closed shape closed older =
    completed_is shape (Closed closed ∷ older)
    ∙ logged_same shape (Closed closed ∷ older) older (closed_epochs older ++ closed ∷ []) (closed_same shape closed older (closed_epochs older ++ closed ∷ []))
    ∙ logged_append shape older (closed_epochs older) (closed ∷ [])
    ∙ ap (λ (bs : List EpochBody). logged_of shape older (closed_epochs older) ++ bs) (logged_of_cons shape older closed [] ∙ append-nil (if_logged (body_of shape closed older)))
    ∙ ap (λ (bs : List EpochBody). bs ++ if_logged (body_of shape closed older)) (sym (completed_is shape older))

-- an entry's changes after those of its epoch
pub entered_changes : (shape : Shape) (o e : ℕ) (entry : Entry) (j : Journal) → AddsTo o entry → cond (o == e) (changes_in shape.site e j ++ changes_of shape.site entry) (changes_in shape.site e j) ≡ changes_in shape.site e (entry ∷ j)
entered_changes shape o e entry j adds = ap (λ (n : ℕ). cond (n == e) (changes_in shape.site e j ++ changes_of shape.site entry) (changes_in shape.site e j)) (sym (adds_epoch o entry adds)) ∙ go (epoch_of entry == e)
  where
    go : (b : Bool) → cond b (changes_in shape.site e j ++ changes_of shape.site entry) (changes_in shape.site e j) ≡ changes_in shape.site e j ++ cond b (changes_of shape.site entry) []
    go true = refl
    go false = sym (append-nil (changes_in shape.site e j))
