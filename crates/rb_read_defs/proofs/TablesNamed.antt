-- The tables that changes name are in ascending order of their ids, so each id has one table,
-- whichever end the search starts from.
use Rattle.std.proofs.Common.{◌≡◌, ℕ, zero, suc, ◌<◌, ◌≤◌, Bool, true, false, List, [], ◌∷◌, ◌++◌, map, refl, sym, ap, ◌∙◌, ◌⊎◌, inl, inr, arith, eqb-true}
use Rattle.std.specs.Prelude.{◌==◌, ◌||◌, ◌&&◌, find, Option, Some}
use Rattle.std.specs.List.{flat_map, AllByRecursion}
use Rattle.std.specs.Option.{option_map_or}
use Rattle.std.proofs.lemmas.Bool.{or_left, or_right, cases_lt}
use Rattle.std.proofs.lemmas.Bool.Decides.{nat_tests}
use Rattle.std.proofs.lemmas.List.Folds.{list_any-append}
use Rattle.std.proofs.lemmas.Map.Views.{any-filter_same}
use Rattle.rb_base.specs.declared.schema.Mapped.{Mapped}
use Rattle.rb_base.specs.declared.change.Change.{Change}
use Rattle.rb_read_defs.specs.Stream.{names, greatest_id, ids_to, tables_named}
use Rattle.rb_read_defs.proofs.Ids.{Ascend, has, same_id, same_ids, filter_ascends, all_end, ascends_end, among, among_ascends, has_among}

-- the ids up to a last one
ids_within : (last : ℕ) → AllByRecursion (λ id. id < suc last) (ids_to last)
ids_within zero = (omega arith, tt)
ids_within (suc last) =
    all_end (λ id. id < suc (suc last)) (ids_to last) (suc last)
    (wider (ids_to last) (ids_within last)) (omega arith)
  where
    wider : (ids : List ℕ) → AllByRecursion (λ id. id < suc last) ids →
        AllByRecursion (λ id. id < suc (suc last)) ids
    wider [] all = tt
    wider (id ∷ ids) all = (let first : id < suc last = all.0 in omega arith, wider ids all.1)

ids_ascend : (last : ℕ) → Ascend (ids_to last)
ids_ascend zero = (tt, tt)
ids_ascend (suc last) = ascends_end (ids_to last) (suc last) (ids_ascend last) (ids_within last)

ids_have : (n last : ℕ) → n ≤ last → has n (ids_to last) ≡ true
ids_have n zero within =
    or_left (0 == n) false (let first : (0 == n) ≡ true = grind (arith, nat_tests) in first)
ids_have n (suc last) within =
    list_any-append (λ other. other == n) (ids_to last) (suc last ∷ [])
    ∙ go (cases_lt last n) (ids_have n last)
  where
    go : (last < n) ⊎ (n ≤ last) → (n ≤ last → has n (ids_to last) ≡ true) →
        (has n (ids_to last) || has n (suc last ∷ [])) ≡ true
    go (inl above) rest =
        let here : (suc last == n) ≡ true = grind (arith, nat_tests) in
        or_right (has n (ids_to last)) (has n (suc last ∷ [])) (or_left (suc last == n) false here)
    go (inr below) rest = or_left (has n (ids_to last)) (has n (suc last ∷ [])) (rest below)

-- no named id is above the greatest
named_within : (n : ℕ) (changes : List Change) → names changes n ≡ true → n ≤ greatest_id changes
named_within n [] named = absurd (let no : false ≡ true = named in cc)
named_within n (change ∷ changes) named = go (change.table == n) refl named (named_within n changes)
  where
    go : (b : Bool) → (change.table == n) ≡ b → (b || names changes n) ≡ true →
        (names changes n ≡ true → n ≤ greatest_id changes) → n ≤ greatest_id (change ∷ changes)
    go true here is rest = let same : change.table ≡ n = eqb-true change.table n here in omega arith
    go false here is rest = let later : n ≤ greatest_id changes = rest is in omega arith

-- the named ids are those of the changes
pub has_named : (n : ℕ) (changes : List Change) → has n (tables_named changes) ≡ names changes n
has_named n changes =
    any-filter_same (λ other. other == n) (names changes) (names changes n)
    (λ id is. ap (names changes) (eqb-true id n is)) (ids_to (greatest_id changes))
    ∙ go (names changes n) refl
  where
    go : (b : Bool) → names changes n ≡ b → (b && has n (ids_to (greatest_id changes))) ≡ b
    go true named = ids_have n (greatest_id changes) (named_within n changes named)
    go false none = refl

pub tables_ascend : (changes : List Change) → Ascend (tables_named changes)
tables_ascend changes =
    filter_ascends (names changes) (ids_to (greatest_id changes)) (ids_ascend (greatest_id changes))

names_each : (whole changes : List Change) →
    ((n : ℕ) → names changes n ≡ true → names whole n ≡ true) →
    AllByRecursion (λ change. has change.table (tables_named whole) ≡ true) changes
names_each whole [] within = tt
names_each whole (change ∷ changes) within =
    (has_named change.table whole ∙ within change.table here, names_each whole changes later)
  where
    here : ((change.table == change.table) || names changes change.table) ≡ true
    here = or_left (change.table == change.table) (names changes change.table) (same_id change.table)

    later : (n : ℕ) → names changes n ≡ true → names whole n ≡ true
    later n named = within n (or_right (change.table == n) (names changes n) named)

pub tables_all : (changes : List Change) →
    AllByRecursion (λ change. has change.table (tables_named changes) ≡ true) changes
tables_all changes = names_each changes changes (λ n named. named)

-- one more change inserts the id of its table
pub named_more : (changes : List Change) (change : Change) →
    tables_named (changes ++ change ∷ []) ≡ among change.table (tables_named changes)
named_more changes change =
    same_ids (tables_named (changes ++ change ∷ [])) (among change.table (tables_named changes))
    (tables_ascend (changes ++ change ∷ []))
    (among_ascends change.table (tables_named changes) (tables_ascend changes))
    (λ n. has_named n (changes ++ change ∷ []) ∙ names_more n
    ∙ ap (λ (b : Bool). (change.table == n) || b) (sym (has_named n changes))
    ∙ sym (has_among n change.table (tables_named changes)))
  where
    turned : (a b : Bool) → (a || (b || false)) ≡ (b || a)
    turned true true = refl
    turned true false = refl
    turned false true = refl
    turned false false = refl

    names_more : (n : ℕ) →
        names (changes ++ change ∷ []) n ≡ ((change.table == n) || names changes n)
    names_more n =
        list_any-append (λ other. other.table == n) changes (change ∷ [])
        ∙ turned (names changes n) (change.table == n)

-- these tables before the others, the last one first
abbrev pub prefix_of : List Mapped → List Mapped → List Mapped
prefix_of [] others = others
prefix_of (table ∷ tables) others = prefix_of tables (table ∷ others)

-- the ids of tables
abbrev pub ids_of : List Mapped → List ℕ
ids_of tables = map (λ table. table.id) tables

-- the first table with this id
abbrev pub find_id : ℕ → List Mapped → Option Mapped
find_id id tables = find (λ table. table.id == id) tables

pub not_later : (id : ℕ) (tables others : List Mapped) → AllByRecursion (λ other. id < other) (ids_of tables) → find_id id (prefix_of tables others) ≡ find_id id others
not_later id [] others all = refl
not_later id (table ∷ tables) others all =
    let more : id < table.id = all.0 in
    let no : (table.id == id) ≡ false = grind (arith, nat_tests) in
    not_later id tables (table ∷ others) all.1 ∙ rw no refl

-- looking up the ids of these tables gives these tables
pub tables_back : (tables others : List Mapped) → Ascend (ids_of tables) → flat_map (λ id. option_map_or (λ table. table ∷ []) (find_id id (prefix_of tables others)) []) (ids_of tables) ≡ tables
tables_back [] others up = refl
tables_back (table ∷ tables) others up =
    let found : find_id table.id (prefix_of tables (table ∷ others)) ≡ Some table = not_later table.id tables (table ∷ others) up.0 ∙ rw (same_id table.id) refl in
    rw found (ap (λ (rest : List Mapped). table ∷ rest) (tables_back tables (table ∷ others) up.1))

-- a table with an id that these tables have; it is the same from either end
pub record IsTable (P : Mapped → Type 0) (id : ℕ) (tables others : List Mapped) : Type 0 where
  pub table : Mapped
  pub first : find_id id tables ≡ Some table
  pub last : find_id id (prefix_of tables others) ≡ Some table
  pub id_is : table.id ≡ id
  pub passes : P table

pub table_there : (P : Mapped → Type 0) (id : ℕ) (tables others : List Mapped) → Ascend (ids_of tables) → has id (ids_of tables) ≡ true → AllByRecursion P tables → IsTable P id tables others
table_there P id [] others up is all = absurd (let no : false ≡ true = is in cc)
table_there P id (table ∷ tables) others up is all = go (table.id == id) refl is (λ later. table_there P id tables (table ∷ others) up.1 later all.1)
  where
    go : (b : Bool) → (table.id == id) ≡ b → (b || has id (ids_of tables)) ≡ true → (has id (ids_of tables) ≡ true → IsTable P id tables (table ∷ others)) → IsTable P id (table ∷ tables) others
    go true here is rest =
        let same : table.id ≡ id = grind (arith, nat_tests) in
        record { table = table; first = rw here refl; last = rw (← same) (not_later table.id tables (table ∷ others) up.0 ∙ rw (same_id table.id) refl); id_is = same; passes = all.0 }
    go false here is rest =
        let later = rest is in
        record { table = later.table; first = rw here later.first; last = later.last; id_is = later.id_is; passes = later.passes }
