-- The operations of a legal script fit its tables as the log maps them.
use Rattle.std.proofs.Common.{◌≡◌, ℕ, zero, suc, ◌+◌, ◌<◌, ◌≤◌, Bool, true, List, [], ◌∷◌, length, map, sym, ap, subst, ◌∙◌, arith}
use Rattle.std.specs.Prelude.{◌==◌, ◌-◌, Option, Some, None, if◌then◌else◌}
use Rattle.std.specs.List.{AllByRecursion, enumerate_from, find, slice_get}
use Rattle.std.specs.Option.{option_map_or}
use Rattle.std.proofs.lemmas.Bool.{and_parts, eq-eqb, leb-true, ne_eqb}
use Rattle.std.proofs.lemmas.List.{length-map}
use Rattle.std.proofs.lemmas.List.FromFn.{length-enumerate_from}
use Rattle.rb_base.specs.declared.schema.Column.{Column}
use Rattle.rb_base.specs.declared.schema.Column.TheVariants as columns
use Rattle.rb_base.specs.declared.schema.Schema.{Schema}
use Rattle.rb_base.specs.declared.row.Row.{Row}
use Rattle.rb_base.specs.declared.row.Value.{Value}
use Rattle.rb_base.specs.declared.row.Value.TheVariants as values
use Rattle.rb_base.specs.declared.script.Op.{Op}
use Rattle.rb_base.specs.declared.script.Op.TheVariants.{Ins, Upd, Put, Del}
use Rattle.rb_base.specs.declared.script.ClientOp.{ClientOp}
use Rattle.rb_log_defs.specs.Table.{columns_of}
use Rattle.rb_log_defs.specs.Fits.{FitsColumn, FitsColumns}
use Rattle.rb_journal_defs.specs.Body.{mapped_table, mapped_tables}
use Rattle.rb_journal_defs.specs.Table.{key_in}
use Rattle.rb_text_defs.specs.Script.{suits_column, suits_columns}
use Rattle.rb_text_defs.specs.Legal.{columns_at, HasLegalRow, IsLegalOperation}
use Rattle.rb_play_defs.specs.Fitting.{IsRowOf, PutsRow, OperationFits}

pub count_mapped : (tables : List Schema) → length (mapped_tables tables) ≡ length tables
count_mapped tables = length-map (enumerate_from 1 tables) mapped_table ∙ length-enumerate_from 1 tables

-- the columns of a table as the log maps it: the key, and those that the script declares
columns_from : (tables : List Schema) (n k : ℕ) → k < length tables → columns_of (map mapped_table (enumerate_from n tables)) (n + k) ≡ columns.Num ∷ option_map_or (λ table. table.columns) (slice_get tables k) []
columns_from [] n k within = absurd (omega arith)
columns_from (table ∷ tables) n zero within =
    ap (λ (b : Bool). option_map_or (λ table. table.columns) (if b then Some (mapped_table (n, table)) else find (λ other. other.id == n + zero) (map mapped_table (enumerate_from (n + 1) tables))) [])
    (eq-eqb n (n + zero) (omega arith))
columns_from (table ∷ tables) n (suc k) within =
    ap (λ (b : Bool). option_map_or (λ table. table.columns) (if b then Some (mapped_table (n, table)) else find (λ other. other.id == n + suc k) (map mapped_table (enumerate_from (n + 1) tables))) [])
    (ne_eqb n (n + suc k) (λ same. absurd (omega arith)))
    ∙ ap (columns_of (map mapped_table (enumerate_from (n + 1) tables))) (let same : n + suc k ≡ n + 1 + k = omega arith in same)
    ∙ columns_from tables (n + 1) k (omega arith)

mapped_columns : (tables : List Schema) (number : ℕ) → 1 ≤ number → number ≤ length tables → columns_of (mapped_tables tables) number ≡ columns.Num ∷ columns_at tables number
mapped_columns tables number some within =
    ap (columns_of (mapped_tables tables)) (let same : number ≡ 1 + (number - 1) = omega arith in same) ∙ columns_from tables 1 (number - 1) (omega arith)

column_fits : (column : Column) (value : Value) → suits_column column value ≡ true → FitsColumn column value
column_fits columns.Num (values.Num number) suits = tt
column_fits columns.Num (values.Text text) suits = absurd cc
column_fits columns.Long value suits = absurd cc
column_fits (columns.Text most) (values.Num number) suits = absurd cc
column_fits (columns.Text most) (values.Text text) suits = leb-true (length text) most suits

-- values that suit columns also fit them
suits_fits : (all : List Column) (others : List Value) → suits_columns all others ≡ true → FitsColumns all others
suits_fits [] [] suits = tt
suits_fits [] (value ∷ others) suits = absurd cc
suits_fits (column ∷ all) [] suits = absurd cc
suits_fits (column ∷ all) (value ∷ others) suits =
    let both = and_parts (suits_column column value) (suits_columns all others) suits in
    (column_fits column value both.0, suits_fits all others both.1)

is_row : (tables : List Schema) (number key : ℕ) (row : Row) (others : List Value) → columns_of (mapped_tables tables) number ≡ columns.Num ∷ columns_at tables number → row.values ≡ values.Num key ∷ others → suits_columns (columns_at tables number) others ≡ true → IsRowOf (columns_of (mapped_tables tables) number) key row
is_row tables number key row others same is suits = record {
  keyed = ap key_in is;
  fits = subst (λ (vs : List Value). FitsColumns (columns_of (mapped_tables tables) number) vs) (sym is)
      (subst (λ (cs : List Column). FitsColumns cs (values.Num key ∷ others)) (sym same) (tt, suits_fits (columns_at tables number) others suits));
}

row_fits : (tables : List Schema) (number key : ℕ) (row : Option Row) (o : Op) → columns_of (mapped_tables tables) number ≡ columns.Num ∷ columns_at tables number → HasLegalRow o (columns_at tables number) key row → PutsRow o (columns_of (mapped_tables tables) number) key row
row_fits tables number key None Ins same legal = legal
row_fits tables number key (Some row) Ins same legal = is_row tables number key row legal.0 same legal.1 legal.2
row_fits tables number key None Upd same legal = legal
row_fits tables number key (Some row) Upd same legal = is_row tables number key row legal.0 same legal.1 legal.2
row_fits tables number key None Put same legal = legal
row_fits tables number key (Some row) Put same legal = is_row tables number key row legal.0 same legal.1 legal.2
row_fits tables number key row Del same legal = tt

operation_fits : (tables : List Schema) (operation : ClientOp) → IsLegalOperation tables operation → OperationFits (mapped_tables tables) operation
operation_fits tables operation legal = record {
  declared = (legal.some, (let n = count_mapped tables in let d = legal.declared in omega arith));
  row = row_fits tables operation.table operation.key operation.row operation.op (mapped_columns tables operation.table legal.some legal.declared) legal.row;
}

pub operations_fit : (tables : List Schema) (operations : List ClientOp) → AllByRecursion (IsLegalOperation tables) operations → AllByRecursion (OperationFits (mapped_tables tables)) operations
operations_fit tables [] legal = tt
operations_fit tables (operation ∷ operations) legal = (operation_fits tables operation legal.0, operations_fit tables operations legal.1)
