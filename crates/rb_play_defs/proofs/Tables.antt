-- The rows of a table do not depend on the list of keys by which they are read.
use Rattle.std.proofs.Common.{◌≡◌, ℕ, ◌<◌, Bool, true, false, cond, List, [], ◌∷◌, map, filter, filter_map, fold, refl, sym, ap, subst, ◌∙◌, Ordering, Less, Equal, Greater, nat_cmp}
use Rattle.std.specs.Prelude.{◌==◌, ◌||◌, ◌&&◌, Option, Some, None, IsSome, is_some}
use Rattle.std.specs.List.{list_any, flat_map, cons_option}
use Rattle.std.specs.List.Sorted.{IsStrictlySortedBy}
use Rattle.std.specs.Ordering.{MatchOrdering, match_ordering, ordering_reverse, eq_by_cmp}
use Rattle.std.specs.BTreeSet.{insert_key}
use Rattle.std.specs.Cmp.{ranks, unsigned_ties}
use Rattle.std.proofs.Math.Bool.{or_assoc, or_comm, or_self_left}
use Rattle.std.proofs.lemmas.Cmp.{nat_cmp_total, nat_eq_equiv, eq_by_cmp_equiv}
use Rattle.std.proofs.lemmas.List.Elements.{All-weaker, All-from_recursion, recursion_from_All}
use Rattle.std.proofs.lemmas.List.Folds.{list_any-append}
use Rattle.std.proofs.lemmas.List.Kept.{IsStrictlySortedBy-filter}
use Rattle.std.proofs.lemmas.Map.Keys.{sorted_from_strictly_increasing}
use Rattle.std.proofs.lemmas.Map.Lookups.{btree_set_from_contains, exact_unsigned}
use Rattle.std.proofs.lemmas.Map.Views.{All-insert_key, any-filter_same, list_any-from_Contains, tells_apart}
use Rattle.rb_base.specs.declared.row.Row.{Row}
use Rattle.rb_base.specs.declared.change.Change.{Change}
use Rattle.rb_journal_defs.specs.Journal.{Journal, row_changes_of, names_key, of_key, row_left, row_at}
use Rattle.rb_journal_defs.specs.Table.{keys_named, keys_of_table, rows_of_table, IsTable}

-- keys in strictly ascending order
abbrev Ordered : List ℕ → Type 0
Ordered keys = IsStrictlySortedBy nat_cmp keys

-- a key is one of these
abbrev is_among : (key : ℕ) → List ℕ → Bool
is_among key keys = list_any (eq_by_cmp nat_cmp key) keys

-- ascending keys with one more key inserted are ascending
inserted_ordered : (key : ℕ) (keys : List ℕ) → Ordered keys → Ordered (insert_key nat_cmp keys key)
unfolding IsStrictlySortedBy
inserted_ordered key [] ordered = (tt, tt)
inserted_ordered key (x ∷ keys) ordered = go (nat_cmp key x) refl (inserted_ordered key keys ordered.1)
  where
    Above : ℕ → ℕ → Type 0
    Above low later = nat_cmp low later ≡ Less

    go : (order : Ordering) → nat_cmp key x ≡ order → Ordered (insert_key nat_cmp keys key) → Ordered (match_ordering order (key ∷ x ∷ keys) (x ∷ keys) (x ∷ insert_key nat_cmp keys key))
    go Less is rest = ((is, recursion_from_All (Above key) keys (All-weaker (Above x) (Above key) (λ later. nat_cmp_total.trans key x later is) keys (All-from_recursion (Above x) keys ordered.0))), ordered)
    go Equal is rest = ordered
    go Greater is rest = (recursion_from_All (Above x) (insert_key nat_cmp keys key) (All-insert_key nat_cmp key (Above x) keys (All-from_recursion (Above x) keys ordered.0) (nat_cmp_total.antisymm x key ∙ ap ordering_reverse is)), rest)

-- keys inserted one after another are ascending
all_ordered : (keys before : List ℕ) → Ordered before → Ordered (fold (insert_key nat_cmp) before keys)
all_ordered [] before ordered = ordered
all_ordered (key ∷ keys) before ordered = all_ordered keys (insert_key nat_cmp before key) (inserted_ordered key before ordered)

-- the first two of three conditions may change places
or_swap : (a b c : Bool) → (a || (b || c)) ≡ (b || (a || c))
or_swap a b c = sym (or_assoc a b c) ∙ ap (λ (first : Bool). first || c) (or_comm a b) ∙ or_assoc b a c

-- a test of one more key
any_inserted : (test : ℕ → Bool) (key : ℕ) (keys : List ℕ) → list_any test (insert_key nat_cmp keys key) ≡ (test key || list_any test keys)
any_inserted test key [] = refl
any_inserted test key (x ∷ keys) = go (nat_cmp key x) (ranks key x) (any_inserted test key keys)
  where
    go : (order : Ordering) → MatchOrdering order (key < x) (key ≡ x) (x < key) → list_any test (insert_key nat_cmp keys key) ≡ (test key || list_any test keys)
        → list_any test (match_ordering order (key ∷ x ∷ keys) (x ∷ keys) (x ∷ insert_key nat_cmp keys key)) ≡ (test key || (test x || list_any test keys))
    go Less below rest = refl
    go Equal same rest = sym (or_self_left (test x) (list_any test keys)) ∙ ap (λ (k : ℕ). test k || (test x || list_any test keys)) (sym same)
    go Greater above rest = ap (λ (b : Bool). test x || b) rest ∙ or_swap (test x) (test key) (list_any test keys)

-- a test of keys that were inserted one after another
any_ordered : (test : ℕ → Bool) (keys before : List ℕ) → list_any test (fold (insert_key nat_cmp) before keys) ≡ (list_any test keys || list_any test before)
any_ordered test [] before = refl
any_ordered test (key ∷ keys) before =
    any_ordered test keys (insert_key nat_cmp before key) ∙ ap (λ (b : Bool). list_any test keys || b) (any_inserted test key before)
    ∙ or_swap (list_any test keys) (test key) (list_any test before) ∙ sym (or_assoc (test key) (list_any test keys) (list_any test before))

-- a change names the key if the key is one of those that the changes name
any_named : (table key : ℕ) (changes : List Change) → list_any (names_key table key) changes ≡ list_any (λ other. other == key) (keys_named table changes)
any_named table key [] = refl
any_named table key (change ∷ changes) = go (change.table == table) (any_named table key changes)
  where
    go : (b : Bool) → list_any (names_key table key) changes ≡ list_any (λ other. other == key) (keys_named table changes)
        → ((b && (change.key == key)) || list_any (names_key table key) changes) ≡ list_any (λ other. other == key) (map (λ c. c.key) (cond b (change ∷ filter (λ c. c.table == table) changes) (filter (λ c. c.table == table) changes)))
    go true more = ap (λ (b : Bool). (change.key == key) || b) more
    go false more = more

-- if changes leave a row, one of them names its key, or the row was there before
left_by_any : (table key : ℕ) (changes : List Change) (row : Option Row) → IsSome (row_left (of_key table key changes) row) → (list_any (names_key table key) changes || is_some row) ≡ true
left_by_any table key [] row some = some
left_by_any table key (change ∷ changes) row some = go (names_key table key change) some (left_by_any table key changes row)
  where
    go : (b : Bool) → IsSome (row_left (cond b (change ∷ of_key table key changes) (of_key table key changes)) row) → (IsSome (row_left (of_key table key changes) row) → (list_any (names_key table key) changes || is_some row) ≡ true)
        → ((b || list_any (names_key table key) changes) || is_some row) ≡ true
    go true some more = refl
    go false some more = more some

-- if a journal leaves a row, one of its changes names the key
at_by_any : (table key : ℕ) (journal : Journal) → IsSome (row_at table key journal) → list_any (names_key table key) (flat_map row_changes_of journal) ≡ true
at_by_any table key [] some = some
at_by_any table key (entry ∷ older) some =
    list_any-append (names_key table key) (row_changes_of entry) (flat_map row_changes_of older)
    ∙ go (list_any (names_key table key) (row_changes_of entry)) (left_by_any table key (row_changes_of entry) (row_at table key older) some) (at_by_any table key older)
  where
    go : (b : Bool) → (b || is_some (row_at table key older)) ≡ true → (IsSome (row_at table key older) → list_any (names_key table key) (flat_map row_changes_of older) ≡ true) → (b || list_any (names_key table key) (flat_map row_changes_of older)) ≡ true
    go true some more = refl
    go false some more = more some

-- a key that has a row is among the keys of the table
is_complete : (table : ℕ) (journal : Journal) (key : ℕ) → IsSome (row_at table key journal) → is_among key (keys_of_table table journal) ≡ true
is_complete table journal key some =
    let changes = flat_map row_changes_of journal in
    let tests : eq_by_cmp nat_cmp key ≡ (λ other. other == key) = λ i other. (sym (unsigned_ties key other) ∙ nat_eq_equiv.symm key other) i in
    ap (λ (test : ℕ → Bool). list_any test (keys_of_table table journal)) tests ∙ any_ordered (λ other. other == key) (keys_named table changes) []
    ∙ ap (λ (b : Bool). b || false) (sym (any_named table key changes) ∙ at_by_any table key journal some)

-- the keys among these that have a row
abbrev with_row : (ℕ → Option Row) → List ℕ → List ℕ
with_row row_of keys = filter (λ key. is_some (row_of key)) keys

-- keys without a row give no rows
rows_kept : (row_of : ℕ → Option Row) (keys : List ℕ) → filter_map row_of keys ≡ filter_map row_of (with_row row_of keys)
rows_kept row_of [] = refl
rows_kept row_of (key ∷ keys) = go (row_of key) refl (rows_kept row_of keys)
  where
    go : (row : Option Row) → row_of key ≡ row → filter_map row_of keys ≡ filter_map row_of (with_row row_of keys) → cons_option row (filter_map row_of keys) ≡ filter_map row_of (cond (is_some row) (key ∷ with_row row_of keys) (with_row row_of keys))
    go None is more = more
    go (Some row) is more = ap (cons_option (Some row)) more ∙ ap (λ (r : Option Row). cons_option r (filter_map row_of (with_row row_of keys))) (sym is)

-- two ascending lists of keys give the same rows if both contain every key that has a row
same_rows : (row_of : ℕ → Option Row) (xs ys : List ℕ) → Ordered xs → Ordered ys → ((key : ℕ) → IsSome (row_of key) → is_among key xs ≡ true) → ((key : ℕ) → IsSome (row_of key) → is_among key ys ≡ true) → filter_map row_of xs ≡ filter_map row_of ys
same_rows row_of xs ys in_order_xs in_order_ys in_xs in_ys =
    let stay_ordered = IsStrictlySortedBy-filter nat_cmp (λ key. is_some (row_of key)) in
    rows_kept row_of xs
    ∙ ap (filter_map row_of) (btree_set_from_contains nat_cmp_total (record { keys = with_row row_of xs }) (record { keys = with_row row_of ys }) (stay_ordered xs in_order_xs) (stay_ordered ys in_order_ys) members exact_unsigned)
    ∙ sym (rows_kept row_of ys)
  where
    kept : (key : ℕ) (keys : List ℕ) → is_among key (with_row row_of keys) ≡ (is_some (row_of key) && is_among key keys)
    kept key = any-filter_same (eq_by_cmp nat_cmp key) (λ other. is_some (row_of other)) (is_some (row_of key)) (λ other tied. ap (λ (k : ℕ). is_some (row_of k)) (sym (tells_apart exact_unsigned key other tied)))

    both : (b s t : Bool) → (b ≡ true → s ≡ true) → (b ≡ true → t ≡ true) → (b && s) ≡ (b && t)
    both true s t is other = is refl ∙ sym (other refl)
    both false s t is other = refl

    members : (key : ℕ) → is_among key (with_row row_of xs) ≡ is_among key (with_row row_of ys)
    members key = kept key xs ∙ both (is_some (row_of key)) (is_among key xs) (is_among key ys) (in_xs key) (in_ys key) ∙ sym (kept key ys)

-- if rows are those of the table in which each key has the row that the journal leaves, they are
-- the table's rows
pub table_is : (table : ℕ) (journal : Journal) (row_of : ℕ → Option Row) (rows : List Row) → ((key : ℕ) → row_of key ≡ row_at table key journal) → IsTable row_of rows → rows ≡ rows_of_table table journal
unfolding rows_of_table IsStrictlySortedBy
table_is table journal row_of rows same is =
    is.listed ∙ same_rows row_of is.keys (keys_of_table table journal) (sorted_from_strictly_increasing is.keys is.rising) (all_ordered (keys_named table (flat_map row_changes_of journal)) [] tt)
    (λ key some. list_any-from_Contains (eq_by_cmp_equiv nat_cmp_total) key is.keys (is.complete key some))
    (λ key some. is_complete table journal key (subst (λ (row : Option Row). IsSome row) (same key) some))
    ∙ (λ i. filter_map (λ key. same key i) (keys_of_table table journal))
