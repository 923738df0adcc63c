-- The words of a line, piece by piece.
use Rattle.std.proofs.Common.{◌≡◌, ℕ, ◌+◌, ◌<◌, Bool, true, false, ◌||◌, List, [], ◌∷◌, ◌++◌, length, map, filter, get_or, take, Option, Some, None, refl, ap, sym, ◌∙◌, inl, inr, append_assoc, append-nil, eqb-true, arith}
use Rattle.std.specs.Prelude.{◌==◌, ◌&&◌, not, if◌then◌else◌}
use Rattle.std.specs.Option.{option_map}
use Rattle.std.specs.List.{list_all, slice_split, onto_first}
use Rattle.std.proofs.lemmas.Bool.{cases_Bool, cond-true, cond-false}
use Rattle.std.proofs.lemmas.List.{map_more}
use Rattle.std.proofs.lemmas.List.Elements.{filter-append}
use Rattle.std.proofs.lemmas.List.Splits.{length-slice_split, slice_split-cons_yes, slice_split-cons_no}
use Rattle.rb_text_defs.specs.Words.{Word, Quoted, begins_with, is_blank, is_empty, is_text_byte, lets_a_text_follow, lets_a_text_precede, plain_words, words_between_quotes, words_of}

-- the pieces of a line between its quotes
abbrev pub pieces_of : List ℕ → List (List ℕ)
pieces_of line = slice_split (λ byte. byte == 34) line

-- a line without quotes
pub words_of_last : (rest : List ℕ) → pieces_of rest ≡ rest ∷ [] → words_of rest ≡ Some (plain_words rest)
unfolding words_of words_between_quotes
words_of_last rest cut = ap words_between_quotes cut

-- a text that has no end
pub words_of_open : (rest outside text : List ℕ) (later : List (List ℕ)) → pieces_of rest ≡ outside ∷ later → later ≡ text ∷ [] → words_of rest ≡ None
unfolding words_of words_between_quotes
words_of_open rest outside text later cut last = ap words_between_quotes (cut ∙ ap (λ later. outside ∷ later) last)

precede_pieces : List (List ℕ) → Bool
precede_pieces [] = false
precede_pieces (next ∷ later) = lets_a_text_precede next later

some_pieces : {X : Type 0} (xs : List X) → 0 < length xs → is_empty xs ≡ false
some_pieces [] some = absurd (omega arith)
some_pieces (x ∷ xs) some = refl

or_nothing : (b : Bool) → (b || false) ≡ b
or_nothing true = refl
or_nothing false = refl

precede_onto : (byte : ℕ) (pieces : List (List ℕ)) → 0 < length pieces → precede_pieces (onto_first byte pieces) ≡ is_blank byte
unfolding precede_pieces
precede_onto byte [] some = absurd (omega arith)
precede_onto byte (next ∷ later) some = or_nothing (is_blank byte)

quote_is_black : (byte : ℕ) → byte ≡ 34 → is_blank byte ≡ false
quote_is_black byte quote = rw quote refl

pieces_precede : (after : List ℕ) → precede_pieces (pieces_of after) ≡ (is_empty after || begins_with is_blank after)
unfolding precede_pieces
pieces_precede [] = refl
pieces_precede (byte ∷ after) = elim (cases_Bool (byte == 34)) [
  | inl quote ↦
      ap precede_pieces (slice_split-cons_yes (λ byte. byte == 34) byte after quote)
      ∙ some_pieces (pieces_of after) (omega (arith, length-slice_split (λ byte. byte == 34) after))
      ∙ sym (quote_is_black byte (eqb-true byte 34 quote))
  | inr other ↦
      ap precede_pieces (slice_split-cons_no (λ byte. byte == 34) byte after other)
      ∙ precede_onto byte (pieces_of after) (omega (arith, length-slice_split (λ byte. byte == 34) after))
]

-- the pieces of what follows a text let it precede, if that follows which may
precedes : (after next : List ℕ) (later : List (List ℕ)) → pieces_of after ≡ next ∷ later → lets_a_text_precede next later ≡ (is_empty after || begins_with is_blank after)
unfolding precede_pieces
precedes after next later cut = sym (ap precede_pieces cut) ∙ pieces_precede after

pieces_between : (outside text next : List ℕ) (later : List (List ℕ)) → words_between_quotes (outside ∷ text ∷ next ∷ later)
    ≡ (if list_all is_text_byte text && lets_a_text_follow outside && lets_a_text_precede next later then option_map (λ words. plain_words outside ++ (Quoted text ∷ words)) (words_between_quotes (next ∷ later)) else None)
unfolding words_between_quotes
pieces_between outside text next later = refl

text_between : (outside text after : List ℕ) (pieces : List (List ℕ)) → pieces_of after ≡ pieces → words_between_quotes (outside ∷ text ∷ pieces)
    ≡ (if list_all is_text_byte text && lets_a_text_follow outside && (is_empty after || begins_with is_blank after) then option_map (λ words. plain_words outside ++ (Quoted text ∷ words)) (words_between_quotes pieces) else None)
text_between outside text after [] same = absurd (omega (arith, length-slice_split (λ byte. byte == 34) after, ap length same))
text_between outside text after (next ∷ later) same =
    pieces_between outside text next later
    ∙ ap (λ (b : Bool). if list_all is_text_byte text && lets_a_text_follow outside && b then option_map (λ words. plain_words outside ++ (Quoted text ∷ words)) (words_between_quotes (next ∷ later)) else None) (precedes after next later same)

-- a text, and the words after it
pub words_of_text : (rest outside quoted text after : List ℕ) → pieces_of rest ≡ outside ∷ pieces_of quoted → pieces_of quoted ≡ text ∷ pieces_of after → words_of rest
    ≡ (if list_all is_text_byte text && lets_a_text_follow outside && (is_empty after || begins_with is_blank after) then option_map (λ words. plain_words outside ++ (Quoted text ∷ words)) (words_of after) else None)
unfolding words_of
words_of_text rest outside quoted text after cut again =
    ap words_between_quotes (cut ∙ ap (λ (pieces : List (List ℕ)). outside ∷ pieces) again) ∙ text_between outside text after (pieces_of after) refl

-- one that may not stand there
pub words_of_misplaced : (rest outside quoted text after : List ℕ) → pieces_of rest ≡ outside ∷ pieces_of quoted → pieces_of quoted ≡ text ∷ pieces_of after
    → (list_all is_text_byte text && lets_a_text_follow outside && (is_empty after || begins_with is_blank after)) ≡ false → words_of rest ≡ None
words_of_misplaced rest outside quoted text after cut again none = words_of_text rest outside quoted text after cut again ∙ cond-false _ _ _ none

-- and one that may
pub words_of_placed : (rest outside quoted text after : List ℕ) → pieces_of rest ≡ outside ∷ pieces_of quoted → pieces_of quoted ≡ text ∷ pieces_of after
    → (list_all is_text_byte text && lets_a_text_follow outside && (is_empty after || begins_with is_blank after)) ≡ true
    → words_of rest ≡ option_map (λ words. plain_words outside ++ (Quoted text ∷ words)) (words_of after)
words_of_placed rest outside quoted text after cut again some = words_of_text rest outside quoted text after cut again ∙ cond-true _ _ _ some

-- words before words before others
pub in_prefix : (words plain : List Word) (text : Word) (later : Option (List Word))
    → option_map (λ others. words ++ others) (option_map (λ others. plain ++ (text ∷ others)) later) ≡ option_map (λ others. ((words ++ plain) ++ text ∷ []) ++ others) later
in_prefix words plain text None = refl
in_prefix words plain text (Some later) = ap Some (simp append_assoc)

-- one more part is looked at: an empty one
pub part_empty : {X : Type 0} (now : X → List ℕ) (parts : List X) (i : ℕ) (d : X) → i < length parts → length (now (get_or parts i d)) ≡ 0
    → filter (λ bytes. not (is_empty bytes)) (map now (take (i + 1) parts)) ≡ filter (λ bytes. not (is_empty bytes)) (map now (take i parts))
part_empty now parts i d lt empty =
    ap (λ (bytes : List (List ℕ)). filter (λ bytes. not (is_empty bytes)) bytes) (map_more now parts i d lt)
    ∙ filter-append (λ bytes. not (is_empty bytes)) (map now (take i parts)) (now (get_or parts i d) ∷ [])
    ∙ ap (λ (bytes : List (List ℕ)). filter (λ bytes. not (is_empty bytes)) (map now (take i parts)) ++ bytes) (no_word (now (get_or parts i d)) empty)
    ∙ append-nil _
  where
    no_word : (bytes : List ℕ) → length bytes ≡ 0 → filter (λ bytes. not (is_empty bytes)) (bytes ∷ []) ≡ []
    no_word [] empty = refl
    no_word (byte ∷ bytes) empty = absurd (omega arith)

-- and a word
pub part_word : {X : Type 0} (now : X → List ℕ) (parts : List X) (i : ℕ) (d : X) → i < length parts → 0 < length (now (get_or parts i d))
    → filter (λ bytes. not (is_empty bytes)) (map now (take (i + 1) parts)) ≡ filter (λ bytes. not (is_empty bytes)) (map now (take i parts)) ++ now (get_or parts i d) ∷ []
part_word now parts i d lt some =
    ap (λ (bytes : List (List ℕ)). filter (λ bytes. not (is_empty bytes)) bytes) (map_more now parts i d lt)
    ∙ filter-append (λ bytes. not (is_empty bytes)) (map now (take i parts)) (now (get_or parts i d) ∷ [])
    ∙ ap (λ (bytes : List (List ℕ)). filter (λ bytes. not (is_empty bytes)) (map now (take i parts)) ++ bytes) (one_word (now (get_or parts i d)) some)
  where
    one_word : (bytes : List ℕ) → 0 < length bytes → filter (λ bytes. not (is_empty bytes)) (bytes ∷ []) ≡ bytes ∷ []
    one_word [] some = absurd (omega arith)
    one_word (byte ∷ bytes) some = refl
