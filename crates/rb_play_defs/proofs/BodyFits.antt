-- The body of an epoch can be written, and takes few bytes.
use Rattle.std.proofs.Common.{◌≡◌, ℕ, ◌+◌, ◌*◌, ◌<◌, ◌≤◌, true, List, [], ◌∷◌, length, filter, sym, subst, arith}
use Rattle.std.specs.Prelude.{Option, Some, None, IfSome}
use Rattle.std.specs.List.{AllByRecursion}
use Rattle.std.proofs.lemmas.List.Elements.{All-from_recursion}
use Rattle.rb_base.specs.declared.schema.Column.{Column}
use Rattle.rb_base.specs.declared.schema.Mapped.{Mapped}
use Rattle.rb_base.specs.declared.row.Row.{Row}
use Rattle.rb_base.specs.declared.row.Value.{Value}
use Rattle.rb_base.specs.declared.change.Kind.{Kind}
use Rattle.rb_base.specs.declared.change.Kind.TheVariants.{Insert, Update, Remove}
use Rattle.rb_base.specs.declared.change.Change.{Change}
use Rattle.rb_log_defs.specs.Table.{columns_of}
use Rattle.rb_log_defs.specs.Fits.{FitsColumns, IsImage, FitsKind, Fits, CanBeMapped, CanBeWritten}
use Rattle.rb_log_defs.specs.Epoch.{epoch_bytes}
use Rattle.rb_log_defs.proofs.Bounds.{AreShort, IsNarrow, epoch_bound}
use Rattle.rb_journal_defs.specs.Table.{key_in}
use Rattle.rb_journal_defs.specs.Journal.{Journal}
use Rattle.rb_journal_defs.specs.Body.{Shape, is_named_in, body_changes, body_of}
use Rattle.rb_journal_defs.proofs.Counts.{filter_length}
use Rattle.rb_message_defs.proofs.Messages.{all_more}
use Rattle.rb_play_defs.specs.Fitting.{FitsTables, JournalFits}
use Rattle.rb_play_defs.proofs.Columns.{names, named_here, columns_kept, values_short, short_of}
use Rattle.rb_play_defs.proofs.Fits.{all_filtered, body_fits}
use Rattle.rb_play_defs.specs.Point.{IsSmallTable, AreDeclared}

some_column : (columns : List Column) (values : List Value) (key : ℕ) → FitsColumns columns values → key_in values ≡ Some key → 0 < length columns
some_column [] [] key fits keyed = absurd (let g : None ≡ Some key = keyed in cc)
some_column [] (v ∷ values) key fits keyed = absurd fits
some_column (c ∷ columns) values key fits keyed = omega arith

image_columns : (columns : List Column) (row : Option Row) (key : ℕ) → IsImage columns row → IfSome row (λ row. key_in row.values ≡ Some key) → 0 < length columns
image_columns columns None key image keyed = absurd image
image_columns columns (Some row) key image keyed = some_column columns row.values key image keyed

-- a change that fits has columns
kind_columns : (kind : Kind) (columns : List Column) (before after : Option Row) (key : ℕ) → FitsKind kind columns before after →
    IfSome before (λ row. key_in row.values ≡ Some key) → IfSome after (λ row. key_in row.values ≡ Some key) → 0 < length columns
kind_columns Insert columns before after key fits b a = image_columns columns after key fits.1 a
kind_columns Update columns before after key fits b a = image_columns columns after key fits.1 a
kind_columns Remove columns before after key fits b a = image_columns columns before key fits.0 b

-- what a change of a body keeps to
IsWritable : List Mapped → Change → Type 0
IsWritable tables change = AreShort (columns_of tables change.table) × Fits (columns_of tables change.table) change × (0 < length (columns_of tables change.table))

-- the rows of a small table are short
small_short : (table : Mapped) → IsSmallTable table → AreShort table.columns
small_short table small = record { few = small.few; short = λ row fits. omega (arith, values_short table.columns row fits, small.short) }

all_writable : (tables : List Mapped) (whole changes : List Change) → AllByRecursion (λ table. AreShort table.columns) tables → AllByRecursion (FitsTables tables) changes → AllByRecursion (λ change. names whole change.table ≡ true) changes → AllByRecursion (IsWritable (filter (is_named_in whole) tables)) changes
unfolding IsWritable
all_writable tables whole [] short fits named = tt
all_writable tables whole (c ∷ changes) short fits named =
    let same : columns_of (filter (is_named_in whole) tables) c.table ≡ columns_of tables c.table = columns_kept whole tables c.table named.0 in (
      subst (λ (columns : List Column). AreShort columns × Fits columns c × (0 < length columns)) (sym same)
          (short_of tables c.table short, fits.0.fits, kind_columns c.kind (columns_of tables c.table) c.before c.after c.key fits.0.fits fits.0.before fits.0.after),
      all_writable tables whole changes short fits.1 named.1,
    )

pub can_be_mapped : (table : Mapped) → IsSmallTable table → CanBeMapped table
can_be_mapped table small = let s = small.schema in let n = small.name in let f = small.few in record { schema = omega arith; name = omega arith; some = small.some; few = omega arith }

narrow : (table : Mapped) → IsSmallTable table → IsNarrow table
narrow table small = record { few = small.few; schema = small.schema; name = small.name }

-- the body of an epoch can be written
pub can_be_written : (shape : Shape) (e : ℕ) (j : Journal) → AreDeclared shape → JournalFits shape j → CanBeWritten (body_of shape e j)
unfolding body_of IsWritable
can_be_written shape e j declared fits =
    let changes = body_changes shape e j in
    let tables = filter (is_named_in changes) shape.tables in
    let writable = all_writable shape.tables changes changes (all_more IsSmallTable (λ table. AreShort table.columns) shape.tables small_short declared.small) (body_fits shape e j fits) (named_here changes) in
    let small = all_filtered IsSmallTable (is_named_in changes) shape.tables declared.small in record {
      tables = All-from_recursion CanBeMapped tables (all_more IsSmallTable CanBeMapped tables can_be_mapped small);
      fit = All-from_recursion (λ change. Fits (columns_of tables change.table) change) changes (all_more (IsWritable tables) (λ change. Fits (columns_of tables change.table) change) changes (λ change held. held.1) writable);
      mapped = All-from_recursion (λ change. (0 < length (columns_of tables change.table)) × (length (columns_of tables change.table) ≤ 64)) changes
          (all_more (IsWritable tables) (λ change. (0 < length (columns_of tables change.table)) × (length (columns_of tables change.table) ≤ 64)) changes (λ change held. (held.2, (let f = held.0.few in omega arith))) writable);
    }

-- it takes few bytes for each of its tables and its changes
pub few_bytes : (shape : Shape) (e : ℕ) (j : Journal) (start : ℕ) → AreDeclared shape → JournalFits shape j → length (epoch_bytes (body_of shape e j) start) ≤ 218 + 117 * length shape.tables + 2047 * length (body_of shape e j).changes
unfolding body_of IsWritable
few_bytes shape e j start declared fits =
    let changes = body_changes shape e j in
    let tables = filter (is_named_in changes) shape.tables in
    let writable = all_writable shape.tables changes changes (all_more IsSmallTable (λ table. AreShort table.columns) shape.tables small_short declared.small) (body_fits shape e j fits) (named_here changes) in
    let small = all_filtered IsSmallTable (is_named_in changes) shape.tables declared.small in
    let bound = epoch_bound (body_of shape e j) start (all_more IsSmallTable IsNarrow tables narrow small)
    (all_more (IsWritable tables) (λ change. AreShort (columns_of tables change.table) × Fits (columns_of tables change.table) change) changes (λ change held. (held.0, held.1)) writable) in
    omega (arith, bound, filter_length (is_named_in changes) shape.tables)
