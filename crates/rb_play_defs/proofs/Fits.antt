-- All changes and rows of a site fit its tables.
use Rattle.std.proofs.Common.{◌≡◌, ℕ, ◌+◌, Bool, true, false, cond, List, [], ◌∷◌, ◌++◌, filter, take, refl, subst, inl, inr, eq-eqb, eqb-true}
use Rattle.std.specs.Prelude.{◌⊎◌, ◌==◌, ◌&&◌, not, Option, Some, None, IfSome, if◌then◌else◌, map}
use Rattle.std.specs.List.{AllByRecursion, flat_map, filter_map, cons_option, list_any, enumerate_from}
use Rattle.rb_base.specs.declared.row.Row.{Row}
use Rattle.rb_base.specs.declared.schema.Mapped.{Mapped}
use Rattle.rb_base.specs.declared.schema.Column.{Column}
use Rattle.rb_base.specs.declared.change.Change.{Change}
use Rattle.rb_base.specs.declared.change.Kind.{Kind}
use Rattle.rb_base.specs.declared.change.Kind.TheVariants.{Insert, Update, Remove}
use Rattle.rb_base.specs.declared.script.Op.{Op}
use Rattle.rb_base.specs.declared.script.Op.TheVariants.{Ins, Upd, Put, Del}
use Rattle.rb_base.specs.declared.script.ClientOp.{ClientOp}
use Rattle.rb_log_defs.specs.Table.{columns_of}
use Rattle.rb_log_defs.specs.Fits.{IsImage, FitsKind}
use Rattle.rb_base.specs.Site.{server_of}
use Rattle.rb_base.specs.declared.site.SiteId.{SiteId}
use Rattle.rb_journal_defs.specs.Journal.{Entry, Client, Applied, Closed, Journal, row_changes_of, changes_of, status_change, epoch_of, names_key, of_key, row_after_kind, row_after, row_left, row_at}
use Rattle.rb_journal_defs.specs.Body.{Shape, changes_in, part_of, numbers_below, is_logged, body_changes}
use Rattle.rb_journal_defs.specs.Table.{key_in}
use Rattle.rb_journal_defs.specs.Transaction.{Refusal, RowTwice, NoKey, is_same_row, refused_over, refusal_after, first_of, refusal_of, kind_over, before_image, after_image, change_over, changes_made}
use Rattle.rb_message_defs.proofs.Messages.{all_joined}
use Rattle.rb_play_defs.specs.Fitting.{IsRowOf, FitsTables, JournalFits, PutsRow, OperationFits}

pub all_filtered : {X : Type 0} → (P : X → Type 0) (test : X → Bool) (xs : List X) → AllByRecursion P xs → AllByRecursion P (filter test xs)
all_filtered P test [] all = tt
all_filtered P test (x ∷ xs) all = go (test x) (all_filtered P test xs all.1)
  where
    go : (b : Bool) → AllByRecursion P (filter test xs) → AllByRecursion P (cond b (x ∷ filter test xs) (filter test xs))
    go true rest = (all.0, rest)
    go false rest = rest

all_flat : {X Y : Type 0} → (P : Y → Type 0) (f : X → List Y) (xs : List X) → ((x : X) → AllByRecursion P (f x)) → AllByRecursion P (flat_map f xs)
all_flat P f [] all = tt
all_flat P f (x ∷ xs) all = all_joined P (f x) (flat_map f xs) (all x) (all_flat P f xs all)

-- a change that fits its table, or is of the apply-status table
FitsOrStatus : List Mapped → Change → Type 0
FitsOrStatus tables change = (change.table ≡ 0) ⊎ FitsTables tables change

all_weaker : (tables : List Mapped) (changes : List Change) → AllByRecursion (FitsTables tables) changes → AllByRecursion (FitsOrStatus tables) changes
unfolding FitsOrStatus
all_weaker tables [] fits = tt
all_weaker tables (change ∷ changes) fits = (inr fits.0, all_weaker tables changes fits.1)

-- the changes of an entry fit their tables, but for the applier's progress
entry_fits : (tables : List Mapped) (site : SiteId) (entry : Entry) → AllByRecursion (FitsTables tables) (row_changes_of entry) → AllByRecursion (FitsOrStatus tables) (changes_of site entry)
unfolding FitsOrStatus
entry_fits tables site (Client epoch transid changes) fits = all_weaker tables changes fits
entry_fits tables site (Applied epoch source transid accepted refreshes) fits =
    all_joined (FitsOrStatus tables) (accepted ++ refreshes) (status_change site source transid ∷ []) (all_weaker tables (accepted ++ refreshes) fits) (inl refl, tt)
entry_fits tables site (Closed epoch) fits = tt

-- so do the changes of an epoch
epoch_fits : (shape : Shape) (e : ℕ) (j : Journal) → JournalFits shape j → AllByRecursion (FitsOrStatus shape.tables) (changes_in shape.site e j)
epoch_fits shape e [] fits = tt
epoch_fits shape e (x ∷ j) fits =
    all_joined (FitsOrStatus shape.tables) (changes_in shape.site e j) (if epoch_of x == e then changes_of shape.site x else []) (epoch_fits shape e j fits.1) (go (epoch_of x == e))
  where
    go : (b : Bool) → AllByRecursion (FitsOrStatus shape.tables) (cond b (changes_of shape.site x) [])
    go true = entry_fits shape.tables shape.site x fits.0
    go false = tt

-- the changes that are logged fit their tables
logged_fit : (tables : List Mapped) (site : SiteId) (changes : List Change) → AllByRecursion (FitsOrStatus tables) changes → AllByRecursion (FitsTables tables) (filter (is_logged site) changes)
unfolding FitsOrStatus
logged_fit tables site [] fits = tt
logged_fit tables site (change ∷ changes) fits = go fits.0 (change.author == server_of site) (logged_fit tables site changes fits.1)
  where
    none : (b : Bool) → AllByRecursion (FitsTables tables) (filter (is_logged site) changes) → AllByRecursion (FitsTables tables) (cond (false && b) (change ∷ filter (is_logged site) changes) (filter (is_logged site) changes))
    none b rest = rest

    some : (b : Bool) → FitsTables tables change → AllByRecursion (FitsTables tables) (filter (is_logged site) changes) → AllByRecursion (FitsTables tables) (cond b (change ∷ filter (is_logged site) changes) (filter (is_logged site) changes))
    some true own rest = (own, rest)
    some false own rest = rest

    go : (change.table ≡ 0) ⊎ FitsTables tables change → (b : Bool) → AllByRecursion (FitsTables tables) (filter (is_logged site) changes) → AllByRecursion (FitsTables tables) (cond (not (change.table == 0) && b) (change ∷ filter (is_logged site) changes) (filter (is_logged site) changes))
    go (inl status) b rest = rw (eq-eqb change.table 0 status) (none b rest)
    go (inr own) b rest = some (not (change.table == 0) && b) own rest

-- the changes of a body fit their tables
pub body_fits : (shape : Shape) (e : ℕ) (j : Journal) → JournalFits shape j → AllByRecursion (FitsTables shape.tables) (body_changes shape e j)
body_fits shape e j fits =
    logged_fit shape.tables shape.site (flat_map (λ bucket. part_of shape e bucket j) (numbers_below shape.buckets))
    (all_flat (FitsOrStatus shape.tables) (λ bucket. part_of shape e bucket j) (numbers_below shape.buckets)
    (λ bucket. all_filtered (FitsOrStatus shape.tables) _ (changes_in shape.site e j) (epoch_fits shape e j fits)))

-- a row of a table fits it
RowFits : List Mapped → (table key : ℕ) → Option Row → Type 0
RowFits tables table key row = IfSome row (IsRowOf (columns_of tables table) key)

after_fits : (tables : List Mapped) (change : Change) → FitsTables tables change → IfSome (row_after change) (IsRowOf (columns_of tables change.table) change.key)
after_fits tables change fits = go change.kind change.before change.after fits.fits fits.after
  where
    image : (row : Option Row) → IsImage (columns_of tables change.table) row → IfSome row (λ r. key_in r.values ≡ Some change.key) → IfSome row (IsRowOf (columns_of tables change.table) change.key)
    image None is keyed = absurd is
    image (Some row) is keyed = record { keyed = keyed; fits = is }

    go : (kind : Kind) (before after : Option Row) → FitsKind kind (columns_of tables change.table) before after → IfSome after (λ r. key_in r.values ≡ Some change.key) → IfSome (row_after_kind kind after) (IsRowOf (columns_of tables change.table) change.key)
    go Insert before after fits keyed = image after fits.1 keyed
    go Update before after fits keyed = image after fits.1 keyed
    go Remove before after fits keyed = tt

named_key : (table key : ℕ) (change : Change) → names_key table key change ≡ true → (change.table ≡ table) × (change.key ≡ key)
named_key table key change names = go (change.table == table) (change.key == key) refl refl names
  where
    go : (a b : Bool) → (change.table == table) ≡ a → (change.key == key) ≡ b → (a && b) ≡ true → (change.table ≡ table) × (change.key ≡ key)
    go true true p q names = (eqb-true change.table table p, eqb-true change.key key q)
    go true false p q names = absurd (let g : false ≡ true = names in cc)
    go false b p q names = absurd (let g : false ≡ true = names in cc)

left_fits : (tables : List Mapped) (table key : ℕ) (changes : List Change) (row : Option Row) → AllByRecursion (FitsTables tables) changes → RowFits tables table key row → RowFits tables table key (row_left (of_key table key changes) row)
unfolding RowFits
left_fits tables table key [] row fits is = is
left_fits tables table key (change ∷ changes) row fits is = go (names_key table key change) refl (left_fits tables table key changes)
  where
    go : (b : Bool) → names_key table key change ≡ b → ((row : Option Row) → AllByRecursion (FitsTables tables) changes → RowFits tables table key row → RowFits tables table key (row_left (of_key table key changes) row)) → IfSome (row_left (cond b (change ∷ of_key table key changes) (of_key table key changes)) row) (IsRowOf (columns_of tables table) key)
    go false q more = more row fits.1 is
    go true q more =
        let named = named_key table key change q in
        more (row_after change) fits.1
        (subst (λ (k : ℕ). IfSome (row_after change) (IsRowOf (columns_of tables table) k)) named.1
        (subst (λ (t : ℕ). IfSome (row_after change) (IsRowOf (columns_of tables t) change.key)) named.0 (after_fits tables change fits.0)))

-- the row of a key fits its table
pub row_fits : (shape : Shape) (table key : ℕ) (j : Journal) → JournalFits shape j → IfSome (row_at table key j) (IsRowOf (columns_of shape.tables table) key)
unfolding RowFits
row_fits shape table key [] fits = tt
row_fits shape table key (x ∷ j) fits = left_fits shape.tables table key (row_changes_of x) (row_at table key j) fits.0 (row_fits shape table key j fits.1)

-- if a transaction is not refused, none of its operations is
not_refused : (rows : ℕ → ℕ → Option Row) (all : List ClientOp) (from : ℕ) (later : List ClientOp) → first_of (filter_map (λ numbered. refusal_after rows (take numbered.0 all) numbered.0 numbered.1) (enumerate_from from later)) ≡ None → AllByRecursion (λ operation. (n : ℕ) × (refused_over n operation.op (rows operation.table operation.key) ≡ None)) later
not_refused rows all from [] none = tt
not_refused rows all from (operation ∷ later) none = go (refusal_after rows (take from all) from operation) refl none (λ more. not_refused rows all (from + 1) later more)
  where
    rest : List Refusal
    rest = filter_map (λ (numbered : ℕ × ClientOp). refusal_after rows (take numbered.0 all) numbered.0 numbered.1) (enumerate_from (from + 1) later)

    own : (b : Bool) → cond b (Some (RowTwice from)) (refused_over from operation.op (rows operation.table operation.key)) ≡ None → refused_over from operation.op (rows operation.table operation.key) ≡ None
    own true none = absurd (let g : Some (RowTwice from) ≡ None = none in cc)
    own false none = none

    go : (x : Option Refusal) → refusal_after rows (take from all) from operation ≡ x → first_of (cons_option x rest) ≡ None → (first_of rest ≡ None → AllByRecursion (λ operation. (n : ℕ) × (refused_over n operation.op (rows operation.table operation.key) ≡ None)) later) → AllByRecursion (λ operation. (n : ℕ) × (refused_over n operation.op (rows operation.table operation.key) ≡ None)) (operation ∷ later)
    go None q none more = ((from, own (list_any (is_same_row operation) (take from all)) q), more none)
    go (Some refusal) q none more = absurd (let g : Some refusal ≡ None = none in cc)

keyed_row : (columns : List Column) (key : ℕ) (row : Option Row) → IfSome row (IsRowOf columns key) → IfSome row (λ r. key_in r.values ≡ Some key)
keyed_row columns key None is = tt
keyed_row columns key (Some row) is = is.keyed

there_is : (columns : List Column) (key : ℕ) (row : Option Row) → (row ≡ None → ⊥) → IfSome row (IsRowOf columns key) → IsImage columns row
there_is columns key None some is = absurd (some refl)
there_is columns key (Some row) some is = is.fits

-- the change that an operation makes fits the table
made_fits : (tables : List Mapped) (author transid n : ℕ) (operation : ClientOp) (row : Option Row) → OperationFits tables operation → IfSome row (IsRowOf (columns_of tables operation.table) operation.key) → refused_over n operation.op row ≡ None → FitsTables tables (change_over author transid row operation)
made_fits tables author transid n operation row fits is free = record {
  declared = fits.declared;
  fits = images operation.op row operation.row fits.row is free;
  before = before_keyed (kind_over operation.op row) row is;
  after = after_keyed operation.op row operation.row fits.row;
}
  where
    columns : List Column
    columns = columns_of tables operation.table

    put_is : (put : Option Row) → (put ≡ None → ⊥) → IfSome put (IsRowOf columns operation.key) → IsImage columns put
    put_is put some is = there_is columns operation.key put some is

    images : (op : Op) (row put : Option Row) → PutsRow op columns operation.key put → IfSome row (IsRowOf columns operation.key) → refused_over n op row ≡ None → FitsKind (kind_over op row) columns (before_image (kind_over op row) row) (after_image (kind_over op row) put)
    images Ins row None puts is free = absurd puts
    images Ins row (Some put) puts is free = (refl, puts.fits)
    images Upd None put puts is free = absurd (let g : Some (NoKey n) ≡ None = free in cc)
    images Upd (Some row) None puts is free = absurd puts
    images Upd (Some row) (Some put) puts is free = (is.fits, puts.fits)
    images Put None None puts is free = absurd puts
    images Put None (Some put) puts is free = (refl, puts.fits)
    images Put (Some row) None puts is free = absurd puts
    images Put (Some row) (Some put) puts is free = (is.fits, puts.fits)
    images Del None put puts is free = absurd (let g : Some (NoKey n) ≡ None = free in cc)
    images Del (Some row) put puts is free = (is.fits, refl)

    before_keyed : (kind : Kind) (row : Option Row) → IfSome row (IsRowOf columns operation.key) → IfSome (before_image kind row) (λ r. key_in r.values ≡ Some operation.key)
    before_keyed Insert row is = tt
    before_keyed Update row is = keyed_row columns operation.key row is
    before_keyed Remove row is = keyed_row columns operation.key row is

    put_keyed : (kind : Kind) (put : Row) → key_in put.values ≡ Some operation.key → IfSome (after_image kind (Some put)) (λ r. key_in r.values ≡ Some operation.key)
    put_keyed Insert put keyed = keyed
    put_keyed Update put keyed = keyed
    put_keyed Remove put keyed = tt

    after_keyed : (op : Op) (row put : Option Row) → PutsRow op columns operation.key put → IfSome (after_image (kind_over op row) put) (λ r. key_in r.values ≡ Some operation.key)
    after_keyed Ins row None puts = absurd puts
    after_keyed Ins row (Some put) puts = puts.keyed
    after_keyed Upd row None puts = absurd puts
    after_keyed Upd row (Some put) puts = puts.keyed
    after_keyed Put row None puts = absurd puts
    after_keyed Put row (Some put) puts = put_keyed (kind_over Put row) put puts.keyed
    after_keyed Del row put puts = tt

all_made : (tables : List Mapped) (author transid : ℕ) (rows : ℕ → ℕ → Option Row) (operations : List ClientOp) → AllByRecursion (OperationFits tables) operations → ((table key : ℕ) → IfSome (rows table key) (IsRowOf (columns_of tables table) key)) → AllByRecursion (λ operation. (n : ℕ) × (refused_over n operation.op (rows operation.table operation.key) ≡ None)) operations → AllByRecursion (FitsTables tables) (map (λ operation. change_over author transid (rows operation.table operation.key) operation) operations)
all_made tables author transid rows [] fits is free = tt
all_made tables author transid rows (operation ∷ operations) fits is free =
    (made_fits tables author transid free.0.0 operation (rows operation.table operation.key) fits.0 (is operation.table operation.key) free.0.1, all_made tables author transid rows operations fits.1 is free.1)

-- the changes of an accepted transaction fit their tables
pub changes_fit : (shape : Shape) (author transid : ℕ) (operations : List ClientOp) (j : Journal) → JournalFits shape j → AllByRecursion (OperationFits shape.tables) operations → refusal_of (λ table key. row_at table key j) operations ≡ None → AllByRecursion (FitsTables shape.tables) (changes_made (λ table key. row_at table key j) author transid operations)
unfolding refusal_of changes_made
changes_fit shape author transid operations j fits ops free =
    all_made shape.tables author transid (λ table key. row_at table key j) operations ops (λ table key. row_fits shape table key j fits) (not_refused (λ table key. row_at table key j) operations 0 operations free)
