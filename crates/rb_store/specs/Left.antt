-- What a journal leaves at each key of the tables: the row with its author and its epoch.
use Rattle.std.specs.Prelude.{ℕ, List, [], ◌∷◌, fold, Option, None}
use Rattle.std.specs.Option.{option_map}
use Rattle.rb_base.specs.declared.change.Change.{Change}
use Rattle.rb_journal_defs.specs.Journal.{Journal, epoch_of, row_changes_of, of_key, row_after}
use Rattle.rb_store.specs.declared.table.Held.{Held}

-- what a change of this epoch leaves at its key
abbrev pub held_after : (epoch : ℕ) → Change → Option Held
held_after epoch change = option_map (λ row. record { row = row; author = change.author; epoch = record { 0 = epoch } }) (row_after change)

-- what changes of one key in this epoch leave at the key, one change after the other
abbrev pub held_left : (epoch : ℕ) → List Change → Option Held → Option Held
held_left epoch changes held = fold (λ left change. held_after epoch change) held changes

-- what a journal leaves at a key: the row, the author of its last change, and that change's epoch
abbrev pub held_by : (table key : ℕ) → Journal → Option Held
held_by table key [] = None
held_by table key (entry ∷ older) = held_left (epoch_of entry) (of_key table key (row_changes_of entry)) (held_by table key older)
