-- The closed epochs of a journal, each with the one closed before it, after one close more.
use Rattle.std.proofs.Common.{◌≡◌, ℕ, ◌<◌, List, [], ◌∷◌, ◌++◌, map, filter, refl, sym, ap, ◌∙◌, arith, lt-ltb}
use Rattle.std.specs.Prelude.{nat_lt, Option, None, unwrap_or}
use Rattle.std.specs.List.{AllByRecursion, last_or}
use Rattle.std.proofs.lemmas.List.{map-append}
use Rattle.std.proofs.lemmas.List.Elements.{filter-append}
use Rattle.rb_journal_defs.specs.Journal.{Closed, Journal, closed_epochs, previous_closed, closes_of}
use Rattle.rb_message_defs.proofs.Messages.{previous_stays}
use Rattle.rb_device_defs.proofs.PrefixLaws.{last_snoc}

-- the epoch that was closed last is the one before the next
pub previous_of_next : (next o : ℕ) (j : Journal) → o < next → previous_closed next (Closed o ∷ j) ≡ o
previous_of_next next o j later =
    let last : filter (λ closed. nat_lt closed next) (o ∷ []) ≡ o ∷ [] = rw (lt-ltb o next later) refl in
    ap (λ (es : List ℕ). unwrap_or (last_or None es) 0)
    (filter-append (λ closed. nat_lt closed next) (closed_epochs j) (o ∷ [])
    ∙ ap (λ (es : List ℕ). filter (λ closed. nat_lt closed next) (closed_epochs j) ++ es) last)
    ∙ ap (λ (x : Option ℕ). unwrap_or x 0) (last_snoc None (filter (λ closed. nat_lt closed next) (closed_epochs j)) o)

-- a closed epoch with the one closed before it
abbrev pub closed_with : Journal → ℕ → ℕ × ℕ
closed_with j e = (e, previous_closed e j)

-- one close more
pub closes_more : (o : ℕ) (j : Journal) (es : List ℕ) → AllByRecursion (λ e. e < o) es → map (closed_with (Closed o ∷ j)) es ≡ map (closed_with j) es
closes_more o j [] below = refl
closes_more o j (e ∷ es) below =
    let l : e < o = below.0 in
    ap (λ (p : ℕ). (e, p) ∷ map (closed_with (Closed o ∷ j)) es) (previous_stays e o j (omega arith))
    ∙ ap (λ (ps : List (ℕ × ℕ)). (e, previous_closed e j) ∷ ps) (closes_more o j es below.1)

pub closes_after : (o : ℕ) (j : Journal) → AllByRecursion (λ e. e < o) (closed_epochs j) → closes_of j ++ (o, previous_closed o j) ∷ [] ≡ closes_of (Closed o ∷ j)
closes_after o j below = sym (
    map-append (closed_with (Closed o ∷ j)) (closed_epochs j) (o ∷ [])
    ∙ ap (λ (ps : List (ℕ × ℕ)). ps ++ (o, previous_closed o (Closed o ∷ j)) ∷ []) (closes_more o j (closed_epochs j) below)
    ∙ ap (λ (p : ℕ). closes_of j ++ (o, p) ∷ []) (previous_stays o o j (omega arith)))
