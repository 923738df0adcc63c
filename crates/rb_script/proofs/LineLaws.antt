-- The lines of a text, one by one, and the bytes of a line.
use Rattle.std.proofs.Common.{◌≡◌, ℕ, zero, suc, ◌+◌, ◌-◌, ◌<◌, Bool, true, false, List, [], ◌∷◌, length, map, refl, ap, ◌∙◌, arith}
use Rattle.std.specs.Prelude.{◌==◌}
use Rattle.std.specs.List.{slice_split, slice_index_or}
use Rattle.std.proofs.lemmas.List.Splits.{length-slice_split}
use Rattle.rb_text_defs.specs.Words.{ends_with, is_blank, is_skipped, lines_of, without_empty_end, without_return}

line_more : (line : List ℕ) (pieces : List (List ℕ)) → 0 < length pieces → without_empty_end (line ∷ pieces) ≡ line ∷ without_empty_end pieces
line_more line [] some = absurd (omega arith)
line_more [] (next ∷ pieces) some = refl
line_more (byte ∷ line) (next ∷ pieces) some = refl

-- a line, and the lines after it
pub lines_of_more : (text line rest : List ℕ) → slice_split (λ byte. byte == 10) text ≡ line ∷ slice_split (λ byte. byte == 10) rest
    → lines_of text ≡ without_return line ∷ lines_of rest
unfolding lines_of
lines_of_more text line rest cut =
    ap (λ pieces. map without_return (without_empty_end pieces)) cut
    ∙ ap (λ lines. map without_return lines) (line_more line (slice_split (λ byte. byte == 10) rest) (omega (arith, length-slice_split (λ byte. byte == 10) rest)))

-- the only line of a text
pub lines_of_one : (text : List ℕ) → slice_split (λ byte. byte == 10) text ≡ text ∷ [] → 0 < length text → lines_of text ≡ without_return text ∷ lines_of []
unfolding lines_of
lines_of_one [] cut some = absurd (omega arith)
lines_of_one (byte ∷ text) cut some = ap (λ pieces. map without_return (without_empty_end pieces)) cut

-- what the last byte of a line says
pub ends_with_at : (test : ℕ → Bool) (line : List ℕ) (n : ℕ) → length line ≡ n + 1 → ends_with test line ≡ test (slice_index_or line n 0)
ends_with_at test [] n long = absurd (omega arith)
ends_with_at test (byte ∷ []) zero long = refl
ends_with_at test (byte ∷ []) (suc n) long = absurd (omega arith)
ends_with_at test (byte ∷ next ∷ line) zero long = absurd (omega arith)
ends_with_at test (byte ∷ next ∷ line) (suc n) long = ends_with_at test (next ∷ line) n (omega arith)

pub ends_with_last : (test : ℕ → Bool) (line : List ℕ) → 0 < length line → ends_with test line ≡ test (slice_index_or line (length line - 1) 0)
ends_with_last test line some = ends_with_at test line (length line - 1) (omega arith)

-- a blank more or less at its head
pub skipped_blank : (byte : ℕ) (line : List ℕ) → is_blank byte ≡ true → is_skipped (byte ∷ line) ≡ is_skipped line
unfolding is_skipped
skipped_blank byte line blank = rw blank refl

-- the first byte that is no blank
pub skipped_first : (byte : ℕ) (line : List ℕ) → is_blank byte ≡ false → is_skipped (byte ∷ line) ≡ (byte == 35)
unfolding is_skipped
skipped_first byte line black = rw black refl

pub skipped_empty : is_skipped [] ≡ true
unfolding is_skipped
skipped_empty = refl

pub lines_of_empty : lines_of [] ≡ []
unfolding lines_of
lines_of_empty = refl
