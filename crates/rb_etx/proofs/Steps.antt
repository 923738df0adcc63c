-- One more table or change is written: the events that remain of an epoch.
use Rattle.std.proofs.Common.{◌≡◌, ◌<◌, ℕ, ◌+◌, ◌^◌, suc, List, ◌∷◌, ◌++◌, length, get_or, drop, map, sym, arith, add-one, drop-cons, subst}
use Rattle.rb_base.specs.declared.schema.Mapped.{Mapped}
use Rattle.rb_base.specs.declared.change.Change.{Change}
use Rattle.rb_log_defs.specs.Event.{Placed}
use Rattle.rb_log_defs.specs.Table.{table_map_event, columns_of}
use Rattle.rb_log_defs.specs.Rows.{change_event, end_flag, ends_statement}
use Rattle.rb_log_defs.specs.Epoch.{joined_from, change_events}
use Rattle.rb_log_defs.proofs.Joined.{IsLeft, one_fits, more_fits}

-- the maps of the tables from `i` on are the map of the table `i` and the maps after it
pub table_left : (start server : ℕ) (written : List ℕ) (tables : List Mapped) (i : ℕ) (table : Mapped) (total : List ℕ) →
    i < length tables → table ≡ get_or tables i table → IsLeft start written (map (table_map_event server) (drop i tables)) total →
    IsLeft start written (table_map_event server table ∷ map (table_map_event server) (drop (i + 1) tables)) total
table_left start server written tables i table total inside is left =
    let first : drop i tables ≡ table ∷ drop (suc i) tables = subst (λ (x : Mapped). drop i tables ≡ x ∷ drop (suc i) tables) (sym is) (drop-cons tables i table inside) in
    rw add-one (subst (λ (xs : List Mapped). IsLeft start written (map (table_map_event server) xs) total) first left)

-- the events of the changes from `i` on are the event of the change `i` and the events after it
pub change_left : (start server : ℕ) (written : List ℕ) (tables : List Mapped) (changes : List Change) (i : ℕ) (change : Change) (total : List ℕ) →
    i < length changes → change ≡ get_or changes i change → IsLeft start written (change_events server tables (drop i changes)) total →
    IsLeft start written (change_event server (columns_of tables change.table) change (end_flag (ends_statement (drop (i + 1) changes))) ∷ change_events server tables (drop (i + 1) changes)) total
change_left start server written tables changes i change total inside is left =
    let first : drop i changes ≡ change ∷ drop (suc i) changes = subst (λ (x : Change). drop i changes ≡ x ∷ drop (suc i) changes) (sym is) (drop-cons changes i change inside) in
    rw add-one (subst (λ (xs : List Change). IsLeft start written (change_events server tables xs) total) first left)

-- the next event ends within 32 bits
pub one_within : (start : ℕ) (written : List ℕ) (event : Placed) (left : List Placed) (total : List ℕ) →
    start + length total < 2 ^ 32 → IsLeft start written (event ∷ left) total →
    start + (length written + length (event (start + length written))) < 2 ^ 32
one_within start written event left total within before = omega (arith, one_fits start written event left total before)

-- the next events end within 32 bits
pub more_within : (start : ℕ) (written : List ℕ) (events left : List Placed) (total : List ℕ) →
    start + length total < 2 ^ 32 → IsLeft start written (events ++ left) total →
    start + (length written + length (joined_from (start + length written) events)) < 2 ^ 32
more_within start written events left total within before = omega (arith, more_fits start written events left total before)
