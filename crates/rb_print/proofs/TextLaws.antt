-- Texts that are made piece by piece.
use Rattle.std.proofs.Common.{◌≡◌, ℕ, ◌+◌, ◌<◌, List, [], ◌∷◌, ◌++◌, length, map, take, get_or, refl, ap, sym, ◌∙◌, append_assoc, append-nil}
use Rattle.std.specs.List.{concat, flat_map}
use Rattle.std.proofs.lemmas.List.{take_more, map_more, flat_map_more}

-- a piece, and a last one
pub after_one : (old first last : List ℕ) → (old ++ first) ++ last ≡ old ++ concat (first ∷ last ∷ [])
after_one old first last = append_assoc old first last ∙ ap (λ text. old ++ (first ++ text)) (sym (append-nil last))

-- two pieces, and a last one
pub after_two : (old first next last : List ℕ) → ((old ++ first) ++ next) ++ last ≡ old ++ concat (first ∷ next ∷ last ∷ [])
after_two old first next last = append_assoc (old ++ first) next last ∙ append_assoc old first (next ++ last) ∙ ap (λ text. old ++ (first ++ (next ++ text))) (sym (append-nil last))

-- one more piece of a text
one_more_piece : {X : Type 0} (f : X → List ℕ) (old : List ℕ) (xs : List X) (i : ℕ) (d : X) → i < length xs
    → (old ++ flat_map f (take i xs)) ++ f (get_or xs i d) ≡ old ++ flat_map f (take (i + 1) xs)
one_more_piece f old xs i d lt = flat_map_more f old (take i xs) (get_or xs i d) ∙ ap (λ items. old ++ flat_map f items) (sym (take_more xs i d lt))

-- four pieces, and a last one
pub after_four : (old a b c d last : List ℕ) → ((((old ++ a) ++ b) ++ c) ++ d) ++ last ≡ old ++ concat (a ∷ b ∷ c ∷ d ∷ last ∷ [])
after_four old a b c d last = simp (append_assoc, append-nil)

-- eight pieces, and a last one
pub after_eight : (old a b c d e f g h last : List ℕ) → ((((((((old ++ a) ++ b) ++ c) ++ d) ++ e) ++ f) ++ g) ++ h) ++ last ≡ old ++ concat (a ∷ b ∷ c ∷ d ∷ e ∷ f ∷ g ∷ h ∷ last ∷ [])
after_eight old a b c d e f g h last = simp (append_assoc, append-nil)

concat_end : (pieces : List (List ℕ)) (last : List ℕ) → concat (pieces ++ last ∷ []) ≡ concat pieces ++ last
concat_end [] last = append-nil last
concat_end (piece ∷ pieces) last = ap (λ text. piece ++ text) (concat_end pieces last) ∙ sym (append_assoc piece (concat pieces) last)

-- one more of the pieces that items make
one_more_of : {X : Type 0} (f : X → List ℕ) (old : List ℕ) (xs : List X) (i : ℕ) (d : X) → i < length xs
    → (old ++ concat (map f (take i xs))) ++ f (get_or xs i d) ≡ old ++ concat (map f (take (i + 1) xs))
one_more_of f old xs i d lt =
    append_assoc old (concat (map f (take i xs))) (f (get_or xs i d))
    ∙ ap (λ text. old ++ text) (sym (concat_end (map f (take i xs)) (f (get_or xs i d))) ∙ ap concat (sym (map_more f xs i d lt)))

-- the pieces of what items are mapped to
pub pieces_mapped : {X Y : Type 0} (f : Y → List ℕ) (g : X → Y) (xs : List X) → flat_map f (map g xs) ≡ flat_map (λ x. f (g x)) xs
pieces_mapped f g [] = refl
pieces_mapped f g (x ∷ xs) = ap (λ text. f (g x) ++ text) (pieces_mapped f g xs)

-- one more item is put after what is put of those before it
pub one_more_put : {X : Type 0} (f : X → List ℕ) (old text now : List ℕ) (xs : List X) (i : ℕ) (d : X) → i < length xs → text ≡ old ++ flat_map f (take i xs)
    → now ≡ text ++ f (get_or xs i d) → now ≡ old ++ flat_map f (take (i + 1) xs)
one_more_put f old text now xs i d lt before put = put ∙ ap (λ text. text ++ f (get_or xs i d)) before ∙ one_more_piece f old xs i d lt

-- the same, of a list of pieces
pub one_more_put_of : {X : Type 0} (f : X → List ℕ) (old text now : List ℕ) (xs : List X) (i : ℕ) (d : X) → i < length xs → text ≡ old ++ concat (map f (take i xs))
    → now ≡ text ++ f (get_or xs i d) → now ≡ old ++ concat (map f (take (i + 1) xs))
one_more_put_of f old text now xs i d lt before put = put ∙ ap (λ text. text ++ f (get_or xs i d)) before ∙ one_more_of f old xs i d lt
