-- The output of `read`: for each epoch a line and one more for each change of it, for each rotation
-- a line, and one last line.
use Rattle.std.specs.Prelude.{ℕ, ◌==◌, ◌<◌, ⊤, List, [], ◌∷◌, length, map, find, codes, Option, Some, None}
use Rattle.std.specs.List.{concat, flat_map, join_by, AllByRecursion}
use Rattle.std.specs.Option.{option_map_or}
use Rattle.rb_base.specs.declared.row.Row.{Row}
use Rattle.rb_base.specs.declared.schema.Mapped.{Mapped}
use Rattle.rb_base.specs.declared.change.Kind.{Kind}
use Rattle.rb_base.specs.declared.change.Kind.TheVariants.{Insert, Update, Remove}
use Rattle.rb_base.specs.declared.change.Change.{Change}
use Rattle.rb_base.specs.declared.body.EpochBody.{EpochBody}
use Rattle.rb_text_defs.specs.Report.{labelled, text_byte, text_of_lines, value_text}

-- a name without quotes; its bytes are escaped like those of a text
abbrev pub name_text : List ℕ → List ℕ
name_text bytes = flat_map text_byte bytes

-- a row image: its values in parentheses, separated by spaces, or `-` if there is no image
unfoldable pub image_text : Option Row → List ℕ
image_text None = codes "-"
image_text (Some row) = concat (codes "(" ∷ join_by value_text (codes " ") row.values ∷ codes ")" ∷ [])

-- the name of a kind of change
abbrev pub kind_text : Kind → List ℕ
kind_text Insert = codes "ins"
kind_text Update = codes "upd"
kind_text Remove = codes "del"

-- the ids of these tables rise
unfoldable pub Ascend : List Mapped → Type 0
Ascend [] = ⊤
Ascend (table ∷ tables) = AllByRecursion (λ other. table.id < other.id) tables × Ascend tables

-- a table's name after that of its schema
abbrev pub mapped_text : Mapped → List ℕ
mapped_text table = concat (name_text table.schema ∷ codes "." ∷ name_text table.name ∷ [])

-- the name of the table that has this id, or nothing if no table has it
unfoldable pub table_text : List Mapped → (id : ℕ) → List ℕ
table_text tables id = option_map_or mapped_text (find (λ table. table.id == id) tables) []

-- the line of a change, given the tables of its epoch
unfoldable pub change_line : List Mapped → Change → List ℕ
change_line tables change =
    concat (kind_text change.kind ∷ codes " " ∷ table_text tables change.table ∷ labelled (codes " transid=") change.transid
    ∷ labelled (codes " key=") change.key ∷ codes " before=" ∷ image_text change.before ∷ codes " after=" ∷ image_text change.after ∷ [])

-- the reflected epoch's number, or 0 without one
abbrev pub reflected_number : EpochBody → ℕ
reflected_number body = option_map_or (λ epoch. epoch.0) body.reflected 0

-- the line of an epoch, given the position after its last event
unfoldable pub epoch_line : EpochBody → (end : ℕ) → List ℕ
epoch_line body end =
    concat (labelled (codes "epoch ") body.epoch.0 ∷ labelled (codes " server=") body.server ∷ labelled (codes " reflected=") (reflected_number body)
    ∷ labelled (codes " changes=") (length body.changes) ∷ labelled (codes " end=") end ∷ [])

-- all lines of an epoch: its own and one for each of its changes
unfoldable pub body_text : EpochBody → (end : ℕ) → List ℕ
body_text body end = text_of_lines (epoch_line body end ∷ map (change_line body.tables) body.changes)

-- the line of a rotation: the next file's name, and the position in it
unfoldable pub rotate_line : (position : ℕ) → (name : List ℕ) → List ℕ
rotate_line position name = concat (codes "rotate name=" ∷ name_text name ∷ labelled (codes " position=") position ∷ [])

-- the last line, with the number of bytes after the last event that is outside an epoch or ends one
unfoldable pub rest_line : (rest : ℕ) → List ℕ
rest_line rest = labelled (codes "end rest=") rest
