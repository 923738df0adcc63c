-- Values against columns, and columns against the bytes of a row.
use Rattle.std.proofs.Common.{◌≡◌, ◌<◌, ◌≤◌, ℕ, suc, List, [], ◌∷◌, length, map, false, refl, ap, arith}
use Rattle.std.specs.List.{slice_index_or}
use Rattle.std.proofs.lemmas.Bool.{and_right}
use Rattle.std.proofs.lemmas.List.{get_or-map, length-map}
use Rattle.std.proofs.lemmas.List.Sums.{get_or-le-sum_by}
use Rattle.rb_base.specs.declared.schema.Column.{Column}
use Rattle.rb_base.specs.declared.row.Value.{Value}
use Rattle.rb_text_defs.specs.Script.{column_bytes, row_bytes, suits_column, suits_columns}
use Rattle.rb_script.specs.declared.column.ColumnType.{ColumnType}
use Rattle.rb_script.specs.Seen.{column_seen}

-- as many values as columns, or they do not suit
pub suits_columns_other : (columns : List Column) (values : List Value) → (length columns ≡ length values → ⊥) → suits_columns columns values ≡ false
suits_columns_other [] [] other = absurd (other refl)
suits_columns_other [] (value ∷ values) other = refl
suits_columns_other (column ∷ columns) [] other = refl
suits_columns_other (column ∷ columns) (value ∷ values) other =
    and_right (suits_column column value) (suits_columns columns values) (suits_columns_other columns values (λ same. other (ap suc same)))

-- a column takes no more bytes than its row
pub column_in_row : (types : List ColumnType) (index : ℕ) (default : ColumnType) → index < length types → column_bytes (column_seen (slice_index_or types index default)) ≤ row_bytes (map column_seen types)
column_in_row types index default within =
    let columns = map column_seen types in
    let same : slice_index_or columns index (column_seen default) ≡ column_seen (slice_index_or types index default) = get_or-map column_seen types index default (column_seen default) within in
    omega (arith, ap column_bytes same, get_or-le-sum_by column_bytes columns index (column_seen default) (omega (arith, length-map types column_seen)))
