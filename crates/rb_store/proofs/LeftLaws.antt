-- The rows of what a journal leaves are the rows that it leaves.
use Rattle.std.proofs.Common.{◌≡◌, ℕ, List, [], ◌∷◌, refl, ap, ◌∙◌, ◌+◌, ◌<◌, ◌≤◌, Bool, true, false, cond, ◌++◌, length, take, sym, get_or}
use Rattle.std.specs.Prelude.{Option, Some, None, if◌then◌else◌}
use Rattle.std.specs.Option.{option_map}
use Rattle.rb_base.specs.declared.row.Row.{Row}
use Rattle.rb_base.specs.declared.change.Change.{Change}
use Rattle.rb_journal_defs.specs.Journal.{Journal, epoch_of, row_changes_of, of_key, row_after, row_left, row_at, names_key}
use Rattle.rb_store.specs.Table.{row_of}
use Rattle.rb_store.specs.Left.{held_after, held_left, held_by}
use Rattle.rb_store.specs.declared.table.Held.{Held}
use Rattle.std.proofs.lemmas.List.{append-nil, take_more, take_all}
use Rattle.std.proofs.lemmas.List.Elements.{filter-append}
use Rattle.std.proofs.lemmas.List.Sums.{fold-append}

pub row_of_after : (epoch : ℕ) (change : Change) → row_of (held_after epoch change) ≡ row_after change
row_of_after epoch change = go (row_after change)
  where
    go : (row : Option Row) → row_of (option_map (λ row. record { row = row; author = change.author; epoch = record { 0 = epoch } }) row) ≡ row
    go None = refl
    go (Some row) = refl

pub row_of_left : (epoch : ℕ) (changes : List Change) (held : Option Held) → row_of (held_left epoch changes held) ≡ row_left changes (row_of held)
row_of_left epoch [] held = refl
row_of_left epoch (change ∷ changes) held = row_of_left epoch changes (held_after epoch change) ∙ ap (row_left changes) (row_of_after epoch change)

-- the row of a key is the one that the journal leaves
pub row_of_held : (table key : ℕ) (journal : Journal) → row_of (held_by table key journal) ≡ row_at table key journal
row_of_held table key [] = refl
row_of_held table key (entry ∷ older) =
    row_of_left (epoch_of entry) (of_key table key (row_changes_of entry)) (held_by table key older) ∙ ap (row_left (of_key table key (row_changes_of entry))) (row_of_held table key older)

-- one more change
pub held_left_more : (epoch table key : ℕ) (changes : List Change) (change : Change) (held : Option Held) → held_left epoch (of_key table key (changes ++ change ∷ [])) held ≡ (if names_key table key change then held_after epoch change else held_left epoch (of_key table key changes) held)
held_left_more epoch table key changes change held =
    ap (λ (cs : List Change). held_left epoch cs held) (filter-append (names_key table key) changes (change ∷ []))
    ∙ go (names_key table key change)
  where
    go : (b : Bool) → held_left epoch (of_key table key changes ++ cond b (change ∷ []) []) held ≡ cond b (held_after epoch change) (held_left epoch (of_key table key changes) held)
    go true = fold-append (λ left change. held_after epoch change) held (of_key table key changes) (change ∷ [])
    go false = ap (λ (cs : List Change). held_left epoch cs held) (append-nil (of_key table key changes))

-- the same, for the change that a loop is at
pub stored_more : (epoch : ℕ) (changes : List Change) (i : ℕ) (change : Change) (table key : ℕ) (before mid after : Option Held) → i < length changes → change ≡ get_or changes i change → mid ≡ held_left epoch (of_key table key (take i changes)) before → after ≡ (if names_key table key change then held_after epoch change else mid) →
    after ≡ held_left epoch (of_key table key (take (i + 1) changes)) before
stored_more epoch changes i change table key before mid after within is so_far now =
    now
    ∙ ap (λ (r : Option Held). if names_key table key change then held_after epoch change else r) so_far
    ∙ sym (held_left_more epoch table key (take i changes) change before)
    ∙ ap (λ (cs : List Change). held_left epoch (of_key table key cs) before) (sym (take_more changes i change within ∙ ap (λ (c : Change). take i changes ++ c ∷ []) (sym is)))

-- all of them are stored
pub stored_all : (epoch : ℕ) (changes : List Change) (i : ℕ) (table key : ℕ) (before after : Option Held) → length changes ≤ i → after ≡ held_left epoch (of_key table key (take i changes)) before → after ≡ held_left epoch (of_key table key changes) before
stored_all epoch changes i table key before after done so_far = so_far ∙ ap (λ (cs : List Change). held_left epoch (of_key table key cs) before) (take_all i changes done)
