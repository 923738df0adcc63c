-- The tables of a report, one after the other.
use Rattle.std.proofs.Common.{◌≡◌, ℕ, ◌+◌, ◌<◌, List, [], ◌∷◌, ◌++◌, length, map, take, get_or, sym, ap, ◌∙◌, arith, append_assoc}
use Rattle.std.specs.Prelude.{Option}
use Rattle.std.specs.List.{flat_map, enumerate_from}
use Rattle.std.proofs.lemmas.List.{append-nil, take_more, map-append, length-take-le}
use Rattle.std.proofs.lemmas.Grind.{flat_map-append}
use Rattle.rb_base.specs.declared.site.SiteId.TheVariants.{A}
use Rattle.rb_base.specs.declared.schema.Schema.{Schema}
use Rattle.rb_base.specs.declared.row.Row.{Row}
use Rattle.rb_journal_defs.specs.Journal.{Journal, row_at}
use Rattle.rb_journal_defs.specs.Table.{IsTable, rows_of_table}
use Rattle.rb_text_defs.specs.Report.{NamedRows, table_lines, text_of_lines}
use Rattle.rb_play_defs.specs.Play.{tables_left}
use Rattle.rb_play_defs.proofs.Tables.{table_is}
use Rattle.rb_journal_defs.proofs.Mapped.{numbered_more}
use Rattle.rb_store.specs.declared.tables.Tables.{Tables}
use Rattle.rb_store.specs.Table.{row_of}
use Rattle.rb_store.specs.Tables.{rows_in, held_at}
use Rattle.rb_store.specs.Left.{held_by}
use Rattle.rb_store.proofs.LeftLaws.{row_of_held}

-- the text of tables
abbrev pub text_of_tables : List NamedRows → List ℕ
text_of_tables tables = flat_map (λ table. text_of_lines (table_lines A table)) tables

-- a numbered table with the rows that a journal leaves
abbrev pub named : Journal → ℕ × Schema → NamedRows
named journal numbered = record { name = numbered.1.name; rows = rows_of_table numbered.0 journal }

tables_more : (schemas : List Schema) (i : ℕ) (schema d : Schema) (journal : Journal) → i < length schemas → schema ≡ get_or schemas i d → tables_left (take (i + 1) schemas) journal ≡ tables_left (take i schemas) journal ++ named journal (i + 1, schema) ∷ []
tables_more schemas i schema d journal within is =
    ap (λ (front : List Schema). tables_left front journal) (take_more schemas i d within ∙ ap (λ (s : Schema). take i schemas ++ s ∷ []) (sym is))
    ∙ ap (map (named journal)) (numbered_more 1 (take i schemas) schema)
    ∙ map-append (named journal) (enumerate_from 1 (take i schemas)) ((1 + length (take i schemas), schema) ∷ [])
    ∙ ap (λ (n : ℕ). tables_left (take i schemas) journal ++ named journal (n, schema) ∷ []) (let l : length (take i schemas) ≡ i = length-take-le i schemas (omega arith) in let n : 1 + length (take i schemas) ≡ i + 1 = omega arith in n)

-- the text of the tables so far, and of one more
pub text_more : (schemas : List Schema) (i number : ℕ) (schema d : Schema) (journal : Journal) (row_of : ℕ → Option Row) (rows : List Row) (start text lines : List ℕ) → i < length schemas → schema ≡ get_or schemas i d → number ≡ i + 1 →
    ((key : ℕ) → row_of key ≡ row_at number key journal) → IsTable row_of rows → lines ≡ text_of_lines (table_lines A (record { name = schema.name; rows = rows })) →
    text ≡ start ++ text_of_tables (tables_left (take i schemas) journal) → text ++ lines ≡ start ++ text_of_tables (tables_left (take (i + 1) schemas) journal)
text_more schemas i number schema d journal row_of rows start text lines within is place same dumped printed so_far =
    let rows_are : rows ≡ rows_of_table (i + 1) journal = table_is number journal row_of rows same dumped ∙ ap (λ (n : ℕ). rows_of_table n journal) place in
    ap (λ (front : List ℕ). front ++ lines) so_far
    ∙ append_assoc start (text_of_tables (tables_left (take i schemas) journal)) lines
    ∙ ap (λ (more : List ℕ). start ++ more)
    (ap (λ (more : List ℕ). text_of_tables (tables_left (take i schemas) journal) ++ more) (printed ∙ ap (λ (rs : List Row). text_of_lines (table_lines A (record { name = schema.name; rows = rs }))) rows_are ∙ sym (append-nil _))
    ∙ sym (flat_map-append (λ table. text_of_lines (table_lines A table)) (tables_left (take i schemas) journal) (record { name = schema.name; rows = rows_of_table (i + 1) journal } ∷ []))
    ∙ ap text_of_tables (sym (tables_more schemas i schema d journal within is)))

-- the rows of tables that hold what a journal leaves
pub rows_left : (tables : Tables) (journal : Journal) → ((table key : ℕ) → held_at tables table key ≡ held_by table key journal) → (table key : ℕ) → rows_in tables table key ≡ row_at table key journal
rows_left tables journal held table key = ap row_of (held table key) ∙ row_of_held table key journal
