-- The body of an epoch of site A is readable if the changes of its journal fit the tables and have
-- room.
use Rattle.std.proofs.Common.{◌≡◌, ℕ, ◌+◌, ◌*◌, ◌<◌, ◌≤◌, ◌^◌, Bool, true, false, cond, List, [], ◌∷◌, length, map, filter, refl, sym, subst, arith, eqb-true}
use Rattle.std.specs.Prelude.{◌==◌, not, codes, Option, Some, None, IfSome}
use Rattle.std.specs.List.{AllByRecursion, flat_map}
use Rattle.std.proofs.lemmas.Bool.{and_parts}
use Rattle.std.proofs.lemmas.List.Elements.{All-from_recursion}
use Rattle.rb_base.specs.declared.site.SiteId.TheVariants.{A}
use Rattle.rb_base.specs.declared.schema.Column.{Column}
use Rattle.rb_base.specs.declared.schema.Mapped.{Mapped}
use Rattle.rb_base.specs.declared.schema.Schema.{Schema}
use Rattle.rb_base.specs.declared.row.Row.{Row}
use Rattle.rb_base.specs.declared.row.Value.{Value}
use Rattle.rb_base.specs.declared.row.Value.TheVariants as values
use Rattle.rb_base.specs.declared.change.Change.{Change}
use Rattle.rb_base.specs.Length.{length_bytes}
use Rattle.rb_base.specs.declared.body.EpochBody.{EpochBody}
use Rattle.rb_journal_defs.proofs.Counts.{filter_length}
use Rattle.rb_log_defs.specs.Event.{Placed, xid_event}
use Rattle.rb_log_defs.specs.Table.{columns_of, table_map_payload, table_map_event, status_table}
use Rattle.rb_log_defs.specs.Rows.{text_bytes, row_image, rows_payload, status_payload, end_flag, ends_statement}
use Rattle.rb_log_defs.specs.Epoch.{change_events, epoch_bytes, epoch_events}
use Rattle.rb_log_defs.specs.Fits.{Fits}
use Rattle.rb_log_defs.proofs.Sizes.{event_length, query_length, xid_length}
use Rattle.rb_log_defs.proofs.Bounds.{AreShort, IsNarrow, map_bound, change_bound, epoch_bound}
use Rattle.rb_journal_defs.specs.Journal.{Journal}
use Rattle.rb_journal_defs.specs.Body.{Shape, mapped_tables, is_named_in, is_logged, body_changes, body_of, body_with, part_of, numbers_below}
use Rattle.rb_journal_defs.specs.Table.{key_in}
use Rattle.rb_message_defs.proofs.Messages.{all_more, all_joined}
use Rattle.rb_text_defs.specs.Script.{most_tables}
use Rattle.rb_text_defs.specs.Legal.{IsLegalTable}
use Rattle.rb_play_defs.specs.Fitting.{FitsTables, JournalFits}
use Rattle.rb_play_defs.proofs.Columns.{names, named_here, columns_kept, short_of}
use Rattle.rb_play_defs.proofs.Fits.{all_filtered, body_fits}
use Rattle.rb_read_defs.specs.Readable.{HasKey, IsReadableTable, IsReadableChange, IsReadable}
use Rattle.rb_read_defs.specs.Rows.{number_in}
use Rattle.rb_run_laws.proofs.LegalFits.{count_mapped}
use Rattle.rb_run_laws.proofs.NamedTables.{named_as_read}
use Rattle.rb_run_laws.proofs.Room.{HasRoom, JournalHasRoom, body_room}
use Rattle.rb_run_laws.proofs.TableRoom.{TableHasRoom, tables_room}

-- site A with the tables of a script
abbrev pub primary : (buckets : ℕ) → List Schema → Shape
primary buckets schemas = record { site = A; buckets = buckets; tables = mapped_tables schemas }

-- the key of a row image is the first value
keyed : (key : ℕ) (row : Option Row) → IfSome row (λ row. key_in row.values ≡ Some key) → HasKey key row
keyed key None is = tt
keyed key (Some row) is = first row.values is
  where
    first : (all : List Value) → key_in all ≡ Some key → number_in (record { values = all }) 0 ≡ key
    first [] is = absurd (let no : None ≡ Some key = is in cc)
    first (values.Num n ∷ all) is = let same : Some n ≡ Some key = is in cc
    first (values.Text text ∷ all) is = absurd (let no : None ≡ Some key = is in cc)

-- each item that a filter keeps passes its test
all_pass : {X : Type 0} → (test : X → Bool) (xs : List X) → AllByRecursion (λ x. test x ≡ true) (filter test xs)
all_pass test [] = tt
all_pass test (x ∷ xs) = go (test x) refl (all_pass test xs)
  where
    go : (b : Bool) → test x ≡ b → AllByRecursion (λ x. test x ≡ true) (filter test xs) → AllByRecursion (λ x. test x ≡ true) (cond b (x ∷ filter test xs) (filter test xs))
    go true is rest = (is, rest)
    go false is rest = rest

-- what is required of a change of a body to be readable
record Reads (columns : List Column) (change : Change) : Type 0 where
  short : AreShort columns
  readable : IsReadableChange 1 columns change

all_read : (tables : List Mapped) (whole changes : List Change) → AllByRecursion (λ table. AreShort table.columns) tables → AllByRecursion (FitsTables tables) changes → AllByRecursion HasRoom changes → AllByRecursion (λ change. is_logged A change ≡ true) changes →
    AllByRecursion (λ change. names whole change.table ≡ true) changes → AllByRecursion (λ change. Reads (columns_of (filter (is_named_in whole) tables) change.table) change) changes
all_read tables whole [] short fits room logged named = tt
all_read tables whole (c ∷ changes) short fits room logged named =
    let same : columns_of (filter (is_named_in whole) tables) c.table ≡ columns_of tables c.table = columns_kept whole tables c.table named.0 in (
      subst (λ (columns : List Column). Reads columns c) (sym same) (record {
        short = short_of tables c.table short;
        readable = record {
          fits = fits.0.fits;
          before = room.0.before;
          after = room.0.after;
          key_before = keyed c.key c.before fits.0.before;
          key_after = keyed c.key c.after fits.0.after;
          author = eqb-true c.author 1 (and_parts (not (c.table == 0)) (c.author == 1) logged.0).1;
          transid = room.0.transid;
        };
      }),
      all_read tables whole changes short fits.1 room.1 logged.1 named.1,
    )

-- an event whose length a reader accepts
abbrev IsShortEvent : Placed → Type 0
IsShortEvent event = length (event 0) ≤ 2147483647

status_map_length : length (table_map_payload status_table) ≡ 43
unfolding table_map_payload length_bytes
status_map_length = refl

status_length : (epoch : ℕ) (tables : List Mapped) (changes : List Change) → length (status_payload (record { server = 1; epoch = record { 0 = epoch }; reflected = None; tables = tables; changes = changes })) ≤ 72
unfolding status_payload rows_payload row_image length_bytes text_bytes
status_length epoch tables changes = omega arith

maps_short : (tables : List Mapped) → AllByRecursion TableHasRoom tables → AllByRecursion IsShortEvent (map (table_map_event 1) tables)
maps_short [] room = tt
maps_short (table ∷ tables) room = (omega (arith, map_bound 1 table 0 room.0.narrow), maps_short tables room.1)

changes_short : (tables : List Mapped) (changes : List Change) → AllByRecursion (λ change. Reads (columns_of tables change.table) change) changes → AllByRecursion IsShortEvent (change_events 1 tables changes)
changes_short tables [] all = tt
changes_short tables (change ∷ changes) all = (
  omega (arith, change_bound 1 (columns_of tables change.table) change (end_flag (ends_statement changes)) 0 all.0.short all.0.readable.fits),
  changes_short tables changes all.1,
)

events_short : (epoch : ℕ) (tables : List Mapped) (changes : List Change) → AllByRecursion TableHasRoom tables → AllByRecursion (λ change. Reads (columns_of tables change.table) change) changes →
    AllByRecursion IsShortEvent (epoch_events (record { server = 1; epoch = record { 0 = epoch }; reflected = None; tables = tables; changes = changes }))
events_short epoch tables changes room all = (
  omega (arith, query_length 1 (codes "BEGIN") 0),
  (
    omega (arith, event_length 19 1 (table_map_payload status_table) 0, status_map_length),
    all_joined IsShortEvent (map (table_map_event 1) tables) _ (maps_short tables room) (
      omega (arith, event_length 30 1 (status_payload (record { server = 1; epoch = record { 0 = epoch }; reflected = None; tables = tables; changes = changes })) 0, status_length epoch tables changes),
      all_joined IsShortEvent (change_events 1 tables changes) (xid_event 1 epoch ∷ []) (changes_short tables changes all) (omega (arith, xid_length 1 epoch 0), tt),
    ),
  ),
)

-- what is required of the changes of a body to be readable, with the tables of the script
record AreRead (schemas : List Schema) (changes : List Change) : Type 0 where
  declared : AllByRecursion (FitsTables (mapped_tables schemas)) changes
  tables : AllByRecursion TableHasRoom (filter (is_named_in changes) (mapped_tables schemas))
  each : AllByRecursion (λ change. Reads (columns_of (filter (is_named_in changes) (mapped_tables schemas)) change.table) change) changes

are_read : (buckets : ℕ) (schemas : List Schema) (epoch : ℕ) (journal : Journal) → AllByRecursion IsLegalTable schemas → length schemas ≤ most_tables → JournalFits (primary buckets schemas) journal → JournalHasRoom (primary buckets schemas) journal →
    AreRead schemas (body_changes (primary buckets schemas) epoch journal)
are_read buckets schemas epoch journal legal few fits room =
    let shape = primary buckets schemas in
    let changes = body_changes shape epoch journal in
    let whole = tables_room 1 schemas legal (omega arith) (omega arith) in
    let here = body_fits shape epoch journal fits in
    record {
      declared = here;
      tables = all_filtered TableHasRoom (is_named_in changes) (mapped_tables schemas) whole;
      each = all_read (mapped_tables schemas) changes changes (all_more TableHasRoom (λ table. AreShort table.columns) (mapped_tables schemas) (λ table held. held.short) whole) here (body_room shape epoch journal room) (all_pass (is_logged A) (flat_map (λ bucket. part_of shape epoch bucket journal) (numbers_below buckets))) (named_here changes);
    }

-- the body of an epoch is readable
pub body_reads : (buckets : ℕ) (schemas : List Schema) (epoch : ℕ) (journal : Journal) → AllByRecursion IsLegalTable schemas → length schemas ≤ most_tables → epoch < 2 ^ 64 → JournalFits (primary buckets schemas) journal →
    JournalHasRoom (primary buckets schemas) journal → IsReadable (body_of (primary buckets schemas) epoch journal)
unfolding body_of
body_reads buckets schemas epoch journal legal few below fits room =
    let changes = body_changes (primary buckets schemas) epoch journal in
    let tables = filter (is_named_in changes) (mapped_tables schemas) in
    let are = are_read buckets schemas epoch journal legal few fits room in
    let count : length (mapped_tables schemas) ≡ length schemas = count_mapped schemas in record {
      server = omega arith;
      epoch = below;
      reflected = tt;
      own = λ one. refl;
      named = named_as_read schemas changes (all_more (FitsTables (mapped_tables schemas)) (λ change. (1 ≤ change.table) × (change.table ≤ length schemas)) changes
          (λ change held. (held.declared.0, (let most = held.declared.1 in omega arith))) are.declared);
      tables = All-from_recursion IsReadableTable tables (all_more TableHasRoom IsReadableTable tables (λ table held. held.readable) are.tables);
      above = All-from_recursion (λ (table : Mapped). 0 < table.id) tables (all_more TableHasRoom (λ (table : Mapped). 0 < table.id) tables (λ table held. held.above) are.tables);
      changes = All-from_recursion (λ (change : Change). IsReadableChange 1 (columns_of tables change.table) change) changes
          (all_more (λ (change : Change). Reads (columns_of tables change.table) change) (λ (change : Change). IsReadableChange 1 (columns_of tables change.table) change) changes (λ change held. held.readable) are.each);
      sizes = All-from_recursion IsShortEvent (epoch_events (body_with (primary buckets schemas) epoch None changes)) (events_short epoch tables changes are.tables are.each);
    }

-- a bound on the length of an epoch in bytes: a constant, and a constant for each change
abbrev pub most_bytes_of : EpochBody → ℕ
most_bytes_of body = 3962 + 2047 * length body.changes

-- the length of an epoch is within that bound at every position
abbrev pub IsShortBody : EpochBody → Type 0
IsShortBody body = (start : ℕ) → length (epoch_bytes body start) ≤ most_bytes_of body

-- the body of an epoch is within that bound
pub body_short : (buckets : ℕ) (schemas : List Schema) (epoch : ℕ) (journal : Journal) → AllByRecursion IsLegalTable schemas → length schemas ≤ most_tables → JournalFits (primary buckets schemas) journal → JournalHasRoom (primary buckets schemas) journal →
    IsShortBody (body_of (primary buckets schemas) epoch journal)
unfolding body_of
body_short buckets schemas epoch journal legal few fits room start =
    let changes = body_changes (primary buckets schemas) epoch journal in
    let tables = filter (is_named_in changes) (mapped_tables schemas) in
    let are = are_read buckets schemas epoch journal legal few fits room in
    omega (
      arith,
      epoch_bound (body_of (primary buckets schemas) epoch journal) start (all_more TableHasRoom IsNarrow tables (λ table held. held.narrow) are.tables)
          (all_more (λ (change : Change). Reads (columns_of tables change.table) change) (λ (change : Change). AreShort (columns_of tables change.table) × Fits (columns_of tables change.table) change) changes (λ change held. (held.short, held.readable.fits)) are.each),
      filter_length (is_named_in changes) (mapped_tables schemas),
      count_mapped schemas,
    )
