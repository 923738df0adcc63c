-- The tables that changes name, among those that a script declares, are the ones that a reader
-- collects: each id once, in ascending order.
use Rattle.std.proofs.Common.{◌≡◌, ℕ, ◌+◌, ◌<◌, ◌≤◌, Bool, true, false, cond, List, [], ◌∷◌, length, map, filter, refl, sym, ap, subst, ◌∙◌, inl, inr, arith, eq-eqb, eqb-true}
use Rattle.std.specs.Prelude.{◌⊎◌, ◌==◌, ◌||◌}
use Rattle.std.specs.List.{AllByRecursion, enumerate_from}
use Rattle.rb_base.specs.declared.schema.Mapped.{Mapped}
use Rattle.rb_base.specs.declared.schema.Schema.{Schema}
use Rattle.rb_base.specs.declared.change.Change.{Change}
use Rattle.rb_journal_defs.specs.Body.{is_named_in, mapped_table, mapped_tables}
use Rattle.rb_read_defs.specs.Stream.{names, tables_named}
use Rattle.rb_read_defs.proofs.Ids.{Ascend, has, order_of, same_ids}
use Rattle.rb_read_defs.proofs.TablesNamed.{ids_of, tables_ascend, has_named}

-- the tables that pass a test are in ascending order
ids_from : (test : Mapped → Bool) (n low : ℕ) (schemas : List Schema) → low < n → AllByRecursion (λ other. low < other) (ids_of (filter test (map mapped_table (enumerate_from n schemas))))
ids_from test n low [] above = tt
ids_from test n low (schema ∷ schemas) above = go (test (mapped_table (n, schema))) (ids_from test (n + 1) low schemas (omega arith))
  where
    later : List Mapped
    later = filter test (map mapped_table (enumerate_from (n + 1) schemas))

    go : (b : Bool) → AllByRecursion (λ other. low < other) (ids_of later) → AllByRecursion (λ other. low < other) (ids_of (cond b (mapped_table (n, schema) ∷ later) later))
    go true rest = (above, rest)
    go false rest = rest

ids_ascend : (test : Mapped → Bool) (n : ℕ) (schemas : List Schema) → Ascend (ids_of (filter test (map mapped_table (enumerate_from n schemas))))
ids_ascend test n [] = tt
ids_ascend test n (schema ∷ schemas) = go (test (mapped_table (n, schema))) (ids_ascend test (n + 1) schemas)
  where
    later : List Mapped
    later = filter test (map mapped_table (enumerate_from (n + 1) schemas))

    go : (b : Bool) → Ascend (ids_of later) → Ascend (ids_of (cond b (mapped_table (n, schema) ∷ later) later))
    go true rest = (ids_from test (n + 1) n schemas (omega arith), rest)
    go false rest = rest

-- a named table is among the named tables
has_kept : (changes : List Change) (n : ℕ) (tables : List Mapped) → names changes n ≡ true → has n (ids_of (filter (is_named_in changes) tables)) ≡ has n (ids_of tables)
has_kept changes n [] named = refl
has_kept changes n (table ∷ tables) named = go (is_named_in changes table) (table.id == n) refl refl (has_kept changes n tables named)
  where
    later : List Mapped
    later = filter (is_named_in changes) tables

    go : (kept is : Bool) → is_named_in changes table ≡ kept → (table.id == n) ≡ is → has n (ids_of later) ≡ has n (ids_of tables) → has n (ids_of (cond kept (table ∷ later) later)) ≡ ((table.id == n) || has n (ids_of tables))
    go true is k q rest = ap (λ (b : Bool). (table.id == n) || b) rest
    go false true k q rest = absurd (let no : true ≡ false = sym named ∙ ap (names changes) (sym (eqb-true table.id n q)) ∙ k in cc)
    go false false k q rest = rest ∙ sym (ap (λ (b : Bool). b || has n (ids_of tables)) q)

-- a table that is not named is not among them
not_kept : (changes : List Change) (n : ℕ) (tables : List Mapped) → names changes n ≡ false → has n (ids_of (filter (is_named_in changes) tables)) ≡ false
not_kept changes n [] none = refl
not_kept changes n (table ∷ tables) none = go (is_named_in changes table) (table.id == n) refl refl (not_kept changes n tables none)
  where
    later : List Mapped
    later = filter (is_named_in changes) tables

    go : (kept is : Bool) → is_named_in changes table ≡ kept → (table.id == n) ≡ is → has n (ids_of later) ≡ false → has n (ids_of (cond kept (table ∷ later) later)) ≡ false
    go true true k q rest = absurd (let no : true ≡ false = sym k ∙ ap (names changes) (eqb-true table.id n q) ∙ none in cc)
    go true false k q rest = ap (λ (b : Bool). b || has n (ids_of later)) q ∙ rest
    go false is k q rest = rest

-- the ids of the declared tables
has_declared : (n id : ℕ) (schemas : List Schema) → n ≤ id → id < n + length schemas → has id (ids_of (map mapped_table (enumerate_from n schemas))) ≡ true
has_declared n id [] low high = absurd (omega arith)
has_declared n id (schema ∷ schemas) low high = go (n == id) refl (has_declared (n + 1) id schemas)
  where
    above : (n == id) ≡ false → (n < id) ⊎ ((id < n) ⊎ (n ≡ id)) → n + 1 ≤ id
    above q (inl less) = omega arith
    above q (inr (inl more)) = absurd (omega arith)
    above q (inr (inr is)) = absurd (let no : true ≡ false = sym (eq-eqb n id is) ∙ q in cc)

    go : (b : Bool) → (n == id) ≡ b → (n + 1 ≤ id → id < n + 1 + length schemas → has id (ids_of (map mapped_table (enumerate_from (n + 1) schemas))) ≡ true) → ((n == id) || has id (ids_of (map mapped_table (enumerate_from (n + 1) schemas)))) ≡ true
    go true q rest = ap (λ (b : Bool). b || has id (ids_of (map mapped_table (enumerate_from (n + 1) schemas)))) q
    go false q rest =
        ap (λ (b : Bool). b || has id (ids_of (map mapped_table (enumerate_from (n + 1) schemas)))) q
        ∙ rest (above q (order_of n id)) (omega arith)

-- if all changes are of declared tables, each named table is declared
names_declared : (count n : ℕ) (changes : List Change) → AllByRecursion (λ change. (1 ≤ change.table) × (change.table ≤ count)) changes → names changes n ≡ true → (1 ≤ n) × (n ≤ count)
names_declared count n [] all named = absurd (let no : false ≡ true = named in cc)
names_declared count n (change ∷ changes) all named = go (change.table == n) refl named (names_declared count n changes all.1)
  where
    go : (b : Bool) → (change.table == n) ≡ b → (b || names changes n) ≡ true → (names changes n ≡ true → (1 ≤ n) × (n ≤ count)) → (1 ≤ n) × (n ≤ count)
    go true q is rest = subst (λ (m : ℕ). (1 ≤ m) × (m ≤ count)) (eqb-true change.table n q) all.0
    go false q is rest = rest is

pub named_as_read : (schemas : List Schema) (changes : List Change) → AllByRecursion (λ change. (1 ≤ change.table) × (change.table ≤ length schemas)) changes → ids_of (filter (is_named_in changes) (mapped_tables schemas)) ≡ tables_named changes
named_as_read schemas changes declared =
    same_ids (ids_of (filter (is_named_in changes) (mapped_tables schemas))) (tables_named changes) (ids_ascend (is_named_in changes) 1 schemas) (tables_ascend changes)
    (λ n. go n (names changes n) refl ∙ sym (has_named n changes))
  where
    go : (n : ℕ) (b : Bool) → names changes n ≡ b → has n (ids_of (filter (is_named_in changes) (mapped_tables schemas))) ≡ names changes n
    go n true q =
        let within = names_declared (length schemas) n changes declared q in
        let low : 1 ≤ n = within.0 in
        let high : n ≤ length schemas = within.1 in
        has_kept changes n (mapped_tables schemas) q ∙ has_declared 1 n schemas low (omega arith) ∙ sym q
    go n false q = not_kept changes n (mapped_tables schemas) q ∙ sym q
