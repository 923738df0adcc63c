-- Lines of other lengths than their forms have, and the pieces of a transaction.
use Rattle.std.proofs.Common.{◌≡◌, ℕ, Bool, true, false, cond, List, [], ◌∷◌, length, map, get_or, Option, Some, None, refl, ap, ◌∙◌, arith}
use Rattle.std.specs.Option.{option_map}
use Rattle.std.specs.List.{slice_split, onto_first}
use Rattle.rb_base.specs.declared.site.SiteId.{SiteId}
use Rattle.rb_base.specs.declared.script.Event.{Event}
use Rattle.rb_text_defs.specs.Words.{Word, ◌>>=◌}
use Rattle.rb_text_defs.specs.Form.{EventLine, node_event, site_event, site_line, site_of, small_number_of}
use Rattle.rb_script.specs.Seen.{only_site, site_and_node}

pub site_event_only : (event : SiteId → Event) (words : List Word) → site_event event words ≡ option_map (λ site. EventLine (event site)) (only_site words)
unfolding site_event only_site
site_event_only event [] = refl
site_event_only event (site ∷ []) = refl
site_event_only event (site ∷ next ∷ words) = refl

pub node_event_both : (event : SiteId → ℕ → Event) (words : List Word) → node_event event words ≡ option_map (λ (both : SiteId × ℕ). EventLine (event both.0 both.1)) (site_and_node words)
unfolding node_event site_and_node
node_event_both event [] = refl
node_event_both event (site ∷ []) = refl
node_event_both event (site ∷ node ∷ next ∷ words) = refl
node_event_both event (site ∷ node ∷ []) = both (site_of site) (small_number_of node)
  where
    both : (site : Option SiteId) (node : Option ℕ)
        → (site >>= (λ id. node >>= (λ number. Some (EventLine (event id number))))) ≡ option_map (λ (both : SiteId × ℕ). EventLine (event both.0 both.1)) (site >>= (λ id. node >>= (λ number. Some (id, number))))
    both None node = refl
    both (Some id) None = refl
    both (Some id) (Some number) = refl

pub site_line_other : (words : List Word) → (length words ≡ 7 → ⊥) → site_line words ≡ None
unfolding site_line
site_line_other [] other = refl
site_line_other (a ∷ []) other = refl
site_line_other (a ∷ b ∷ []) other = refl
site_line_other (a ∷ b ∷ c ∷ []) other = refl
site_line_other (a ∷ b ∷ c ∷ d ∷ []) other = refl
site_line_other (a ∷ b ∷ c ∷ d ∷ e ∷ []) other = refl
site_line_other (a ∷ b ∷ c ∷ d ∷ e ∷ f ∷ []) other = refl
site_line_other (a ∷ b ∷ c ∷ d ∷ e ∷ f ∷ g ∷ []) other = absurd (other refl)
site_line_other (a ∷ b ∷ c ∷ d ∷ e ∷ f ∷ g ∷ h ∷ words) other = refl

onto_mapped : {X Y : Type 0} (f : X → Y) (x : X) (pieces : List (List X)) → map (map f) (onto_first x pieces) ≡ onto_first (f x) (map (map f) pieces)
onto_mapped f x [] = refl
onto_mapped f x (piece ∷ pieces) = refl

-- the pieces of mapped items
pub split_mapped : {X Y : Type 0} (p : Y → Bool) (f : X → Y) (xs : List X) → map (map f) (slice_split (λ x. p (f x)) xs) ≡ slice_split p (map f xs)
split_mapped p f [] = refl
split_mapped p f (x ∷ xs) = go (p (f x)) (split_mapped p f xs)
  where
    go : (b : Bool) → map (map f) (slice_split (λ x. p (f x)) xs) ≡ slice_split p (map f xs)
        → map (map f) (cond b ([] ∷ slice_split (λ x. p (f x)) xs) (onto_first x (slice_split (λ x. p (f x)) xs))) ≡ cond b ([] ∷ slice_split p (map f xs)) (onto_first (f x) (slice_split p (map f xs)))
    go true same = ap (λ pieces. [] ∷ pieces) same
    go false same = onto_mapped f x _ ∙ ap (onto_first (f x)) same

-- the words of a list of seven
pub seven_words : {X Y : Type 0} (f : X → Y) (xs : List X) (d : X) → length xs ≡ 7
    → map f xs ≡ f (get_or xs 0 d) ∷ f (get_or xs 1 d) ∷ f (get_or xs 2 d) ∷ f (get_or xs 3 d) ∷ f (get_or xs 4 d) ∷ f (get_or xs 5 d) ∷ f (get_or xs 6 d) ∷ []
seven_words f [] d seven = absurd (omega arith)
seven_words f (a ∷ []) d seven = absurd (omega arith)
seven_words f (a ∷ b ∷ []) d seven = absurd (omega arith)
seven_words f (a ∷ b ∷ c ∷ []) d seven = absurd (omega arith)
seven_words f (a ∷ b ∷ c ∷ e ∷ []) d seven = absurd (omega arith)
seven_words f (a ∷ b ∷ c ∷ e ∷ g ∷ []) d seven = absurd (omega arith)
seven_words f (a ∷ b ∷ c ∷ e ∷ g ∷ h ∷ []) d seven = absurd (omega arith)
seven_words f (a ∷ b ∷ c ∷ e ∷ g ∷ h ∷ i ∷ []) d seven = refl
seven_words f (a ∷ b ∷ c ∷ e ∷ g ∷ h ∷ i ∷ j ∷ xs) d seven = absurd (omega arith)
