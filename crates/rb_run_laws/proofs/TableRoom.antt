-- The tables of a legal script have room in the log, and so do the rows that fit them.
use Rattle.std.proofs.Common.{◌≡◌, ℕ, ◌+◌, ◌<◌, ◌≤◌, List, [], ◌∷◌, length, map, refl, arith}
use Rattle.std.specs.Prelude.{sum_by}
use Rattle.std.specs.List.{AllByRecursion, enumerate_from}
use Rattle.std.proofs.lemmas.List.Elements.{All-from_recursion}
use Rattle.std.proofs.lemmas.List.Sums.{sum_by-append}
use Rattle.rb_base.specs.declared.schema.Column.{Column}
use Rattle.rb_base.specs.declared.schema.Column.TheVariants.{Num, Long, Text}
use Rattle.rb_base.specs.declared.schema.Mapped.{Mapped}
use Rattle.rb_base.specs.declared.schema.Schema.{Schema}
use Rattle.rb_base.specs.declared.row.Value.TheVariants as values
use Rattle.rb_log_defs.proofs.Bounds.{AreShort, IsNarrow}
use Rattle.rb_journal_defs.specs.Body.{mapped_table}
use Rattle.rb_text_defs.specs.Script.{column_bytes}
use Rattle.rb_text_defs.specs.Legal.{IsLegalTable}
use Rattle.rb_play_defs.proofs.Columns.{values_short}
use Rattle.rb_read_defs.specs.Readable.{IsColumn, IsReadableTable}

-- a column of a short row has a short maximum length
column_room : (column : Column) → column_bytes column ≤ 1000 → IsColumn column
column_room Num few = tt
column_room Long few = tt
column_room (Text most) few = omega arith

columns_room : (columns : List Column) → sum_by column_bytes columns ≤ 1000 → AllByRecursion IsColumn columns
columns_room [] few = tt
columns_room (column ∷ columns) few =
    let most : sum_by column_bytes (column ∷ columns) ≡ sum_by column_bytes (column ∷ []) + sum_by column_bytes columns = sum_by-append column_bytes (column ∷ []) columns in
    (column_room column (omega arith), columns_room columns (omega arith))

-- a table that has room in the log
pub record TableHasRoom (table : Mapped) : Type 0 where
  pub readable : IsReadableTable table
  pub above : 0 < table.id
  pub narrow : IsNarrow table
  pub short : AreShort table.columns

table_room : (id : ℕ) (table : Schema) → IsLegalTable table → 0 < id → id < 65536 → TableHasRoom (mapped_table (id, table))
table_room id table legal some few =
    let columns : List Column = Num ∷ table.columns in
    let short : sum_by column_bytes columns ≤ 1000 = omega (arith, legal.bytes, sum_by-append column_bytes (Num ∷ []) table.columns) in
    let count : length columns ≤ 16 = (let most = legal.few in omega arith) in
    let name : length table.name ≤ 32 = legal.name in record {
      readable = record {
        mapped = record { schema = omega arith; name = omega arith; some = omega arith; few = omega arith };
        id = few;
        data_table = refl;
        key = refl;
        columns = All-from_recursion IsColumn columns (columns_room columns short);
      };
      above = some;
      narrow = record { few = count; schema = refl; name = name };
      short = record { few = count; short = λ row fits. omega (arith, values_short columns row fits) };
    }

pub tables_room : (n : ℕ) (tables : List Schema) → AllByRecursion IsLegalTable tables → 0 < n → n + length tables ≤ 65536 → AllByRecursion TableHasRoom (map mapped_table (enumerate_from n tables))
tables_room n [] legal some few = tt
tables_room n (table ∷ tables) legal some few = (table_room n table legal.0 some (omega arith), tables_room (n + 1) tables legal.1 (omega arith) (omega arith))
