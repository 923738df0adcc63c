-- The columns of the tables that changes name, and the lengths of their rows.
use Rattle.std.proofs.Common.{◌≡◌, ℕ, ◌+◌, ◌≤◌, Bool, true, false, cond, List, [], ◌∷◌, length, filter, refl, sym, ap, ◌∙◌, arith, eq-eqb, eqb-true, length-append}
use Rattle.std.specs.Prelude.{◌==◌, ◌||◌, sum_by, Some, find}
use Rattle.std.specs.List.{AllByRecursion, list_any}
use Rattle.std.specs.Option.{option_map_or}
use Rattle.std.proofs.lemmas.List.Sums.{sum_by-append}
use Rattle.rb_base.specs.declared.schema.Column.{Column}
use Rattle.rb_base.specs.declared.schema.Column.TheVariants.{Num, Long, Text}
use Rattle.rb_base.specs.declared.schema.Mapped.{Mapped}
use Rattle.rb_base.specs.declared.row.Value.{Value}
use Rattle.rb_base.specs.declared.row.Value.TheVariants as values
use Rattle.rb_base.specs.declared.change.Change.{Change}
use Rattle.rb_log_defs.specs.Table.{columns_of}
use Rattle.rb_log_defs.specs.Rows.{value_bytes, values_bytes}
use Rattle.rb_log_defs.specs.Fits.{FitsColumn, FitsColumns}
use Rattle.rb_log_defs.proofs.Bounds.{AreShort, text_bound}
use Rattle.rb_journal_defs.specs.Body.{is_named_in}
use Rattle.rb_message_defs.proofs.Messages.{all_more}
use Rattle.rb_text_defs.specs.Script.{column_bytes}

-- one of these changes is of this table
abbrev pub names : List Change → (id : ℕ) → Bool
names changes id = list_any (λ change. change.table == id) changes

-- each change names a table that changes name
pub named_here : (changes : List Change) → AllByRecursion (λ change. names changes change.table ≡ true) changes
named_here [] = tt
named_here (c ∷ changes) = (
  ap (λ (b : Bool). b || names changes c.table) (eq-eqb c.table c.table refl),
  all_more (λ change. names changes change.table ≡ true) (λ change. names (c ∷ changes) change.table ≡ true) changes (λ change there. or_more (c.table == change.table) _ there) (named_here changes),
)
  where
    or_more : (a b : Bool) → b ≡ true → (a || b) ≡ true
    or_more true b there = refl
    or_more false b there = there

-- the columns of a named table are the same among the named tables and among all tables
pub columns_kept : (changes : List Change) (tables : List Mapped) (n : ℕ) → names changes n ≡ true → columns_of (filter (is_named_in changes) tables) n ≡ columns_of tables n
columns_kept changes [] n named = refl
columns_kept changes (t ∷ tables) n named = go (t.id == n) (is_named_in changes t) refl refl (columns_kept changes tables n named)
  where
    go : (is kept : Bool) → (t.id == n) ≡ is → is_named_in changes t ≡ kept → columns_of (filter (is_named_in changes) tables) n ≡ columns_of tables n →
        columns_of (cond kept (t ∷ filter (is_named_in changes) tables) (filter (is_named_in changes) tables)) n ≡ columns_of (t ∷ tables) n
    go true true q k rest = rw q refl
    go true false q k rest = absurd (let tn : t.id ≡ n = eqb-true t.id n q in let g : true ≡ false = sym named ∙ ap (names changes) (sym tn) ∙ k in cc)
    go false true q k rest = rw q rest
    go false false q k rest = rw q rest

value_short : (column : Column) (value : Value) → FitsColumn column value → length (value_bytes column value) ≤ column_bytes column
value_short Num (values.Num n) fits = omega arith
value_short Num (values.Text text) fits = absurd fits
value_short Long (values.Num n) fits = omega arith
value_short Long (values.Text text) fits = absurd fits
value_short (Text most) (values.Num n) fits = absurd fits
value_short (Text most) (values.Text text) fits = text_bound most text fits

-- values that fit are at most as long as their columns allow
pub values_short : (columns : List Column) (row : List Value) → FitsColumns columns row → length (values_bytes columns row) ≤ sum_by column_bytes columns
values_short [] [] fits = omega arith
values_short [] (value ∷ row) fits = absurd fits
values_short (column ∷ columns) [] fits = absurd fits
values_short (column ∷ columns) (value ∷ row) fits =
    let bytes : length (values_bytes (column ∷ columns) (value ∷ row)) ≡ length (value_bytes column value) + length (values_bytes columns row) = length-append (value_bytes column value) (values_bytes columns row) in
    let most : sum_by column_bytes (column ∷ columns) ≡ sum_by column_bytes (column ∷ []) + sum_by column_bytes columns = sum_by-append column_bytes (column ∷ []) columns in
    omega (arith, bytes, most, value_short column value fits.0, values_short columns row fits.1)

-- if all tables have short rows, so has each of them
pub short_of : (tables : List Mapped) (n : ℕ) → AllByRecursion (λ table. AreShort table.columns) tables → AreShort (columns_of tables n)
short_of [] n short = record { few = omega arith; short = λ row fits. omega (arith, values_short [] row fits) }
short_of (t ∷ tables) n short = go (t.id == n) (short_of tables n short.1)
  where
    go : (b : Bool) → AreShort (columns_of tables n) → AreShort (option_map_or (λ (table : Mapped). table.columns) (cond b (Some t) (find (λ (table : Mapped). table.id == n) tables)) [])
    go true rest = short.0
    go false rest = rest
