-- Texts that are made piece by piece.
use Rattle.std.proofs.Common.{◌≡◌, ℕ, ◌+◌, ◌-◌, min, length, take, drop, List, [], ◌∷◌, ◌++◌, ap, sym, ◌∙◌, subst, append_assoc, append-nil, add-one, arith}
use Rattle.std.specs.List.{flat_map}
use Rattle.std.proofs.lemmas.List.{take_all, take_min, length-drop}
use Rattle.std.proofs.lemmas.Grind.{flat_map-append}
use Rattle.rb_journal_defs.specs.Body.{numbers_below}

-- the text of one more number
pub number_more : (text : ℕ → List ℕ) (n : ℕ) → flat_map text (numbers_below (n + 1)) ≡ flat_map text (numbers_below n) ++ text n
number_more text n =
    subst (λ (m : ℕ). flat_map text (numbers_below m) ≡ flat_map text (numbers_below n) ++ text n) (sym (add-one n))
    (flat_map-append text (numbers_below n) (n ∷ []) ∙ ap (λ (piece : List ℕ). flat_map text (numbers_below n) ++ piece) (append-nil (text n)))

-- the text of a number is put after those of the numbers below it
pub number_put : (text : ℕ → List ℕ) (n : ℕ) (old before now : List ℕ) → before ≡ old ++ flat_map text (numbers_below n) → now ≡ before ++ text n
    → now ≡ old ++ flat_map text (numbers_below (n + 1))
number_put text n old before now so put =
    put ∙ ap (λ (front : List ℕ). front ++ text n) so ∙ append_assoc old (flat_map text (numbers_below n)) (text n)
    ∙ ap (λ (following : List ℕ). old ++ following) (sym (number_more text n))

-- a line of two parts with a blank between
pub line_put : (old first next : List ℕ) → (((old ++ first) ++ 32 ∷ []) ++ next) ++ 10 ∷ [] ≡ old ++ (first ++ (32 ∷ (next ++ 10 ∷ [])))
line_put old first next = simp (append_assoc)

-- what a line shows of the bytes from its start on, if there are enough bytes
pub prefix_of_rest : (bytes : List ℕ) (start count : ℕ) → count ≡ min 32 (length (take (length bytes - start) (drop start bytes)))
    → take count (take (length bytes - start) (drop start bytes)) ≡ take 32 (drop start bytes)
prefix_of_rest bytes start count is =
    let whole : take (length bytes - start) (drop start bytes) ≡ drop start bytes = take_all (length bytes - start) (drop start bytes) (omega (arith, length-drop start bytes)) in
    rw is (rw whole (take_min 32 (drop start bytes)))
