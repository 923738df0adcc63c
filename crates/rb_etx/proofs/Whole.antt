-- The events of an epoch that remain after each of its parts.
use Rattle.std.proofs.Common.{◌≡◌, ◌<◌, ℕ, ◌+◌, ◌^◌, List, [], ◌∷◌, ◌++◌, length, length-append, map, codes, refl, sym, ap, ap₂, ◌∙◌, arith, subst}
use Rattle.rb_base.specs.declared.change.Change.{Change}
use Rattle.rb_base.specs.declared.schema.Mapped.{Mapped}
use Rattle.rb_base.specs.declared.body.EpochBody.{EpochBody}
use Rattle.rb_log_defs.specs.Event.{Placed, query_event, xid_event}
use Rattle.rb_log_defs.specs.Table.{table_map_event, status_table}
use Rattle.rb_log_defs.specs.Rows.{status_event}
use Rattle.rb_log_defs.specs.Epoch.{joined_from, change_events, epoch_bytes}
use Rattle.rb_log_defs.proofs.Joined.{IsLeft, one_written, more_written, all_written}

-- the events after the changes
abbrev pub after_changes : EpochBody → List Placed
after_changes body = xid_event body.server body.epoch.0 ∷ []

-- the events after the apply-status rows
abbrev pub after_status : EpochBody → List Placed
after_status body = change_events body.server body.tables body.changes ++ after_changes body

-- the events after the table maps
abbrev pub after_maps : EpochBody → List Placed
after_maps body = status_event body ∷ after_status body

-- the events after the map of the apply-status table
abbrev pub after_status_map : EpochBody → List Placed
after_status_map body = map (table_map_event body.server) body.tables ++ after_maps body

-- the events after BEGIN
abbrev pub after_begin : EpochBody → List Placed
after_begin body = table_map_event body.server status_table ∷ after_status_map body

-- the old bytes and then the whole epoch
abbrev pub whole : EpochBody → (start : ℕ) (old : List ℕ) → List ℕ
whole body start old = old ++ epoch_bytes body (start + length old)

-- the whole ends within 32 bits
pub whole_fits : (body : EpochBody) (start : ℕ) (old : List ℕ) → start + (length old + length (epoch_bytes body (start + length old))) < 2 ^ 32 → start + length (whole body start old) < 2 ^ 32
whole_fits body start old fits = omega (arith, length-append old (epoch_bytes body (start + length old)))

pub at_start : (body : EpochBody) (start : ℕ) (old : List ℕ) → IsLeft start old (query_event body.server (codes "BEGIN") ∷ after_begin body) (whole body start old)
unfolding epoch_bytes
at_start body start old = record { same = refl }

-- one more event, at the position after the written bytes
pub with_one : (start : ℕ) (written next : List ℕ) (event : Placed) (left : List Placed) (total : List ℕ) (at : ℕ) →
    at ≡ start + length written → next ≡ written ++ event at → IsLeft start written (event ∷ left) total → IsLeft start next left total
with_one start written next event left total at place is before =
    subst (λ (xs : List ℕ). IsLeft start xs left total) (sym (is ∙ ap (λ (n : ℕ). written ++ event n) place)) (one_written start written event left total before)

-- several more events
pub with_more : (start : ℕ) (written next : List ℕ) (events left : List Placed) (total : List ℕ) →
    next ≡ written ++ joined_from (start + length written) events → IsLeft start written (events ++ left) total → IsLeft start next left total
with_more start written next events left total is before =
    subst (λ (xs : List ℕ). IsLeft start xs left total) (sym is) (more_written start written events left total before)

-- BEGIN is written
pub left_1 : (body : EpochBody) (start : ℕ) (old written : List ℕ) (at : ℕ) → at ≡ start + length old → written ≡ old ++ query_event body.server (codes "BEGIN") at →
    IsLeft start written (after_begin body) (whole body start old)
left_1 body start old written at place is = with_one start old written (query_event body.server (codes "BEGIN")) (after_begin body) (whole body start old) at place is (at_start body start old)

-- the map of the apply-status table is written
pub left_2 : (body : EpochBody) (start : ℕ) (old written next : List ℕ) (table : Mapped) (at : ℕ) → table ≡ status_table → at ≡ start + length written → next ≡ written ++ table_map_event body.server table at →
    IsLeft start written (after_begin body) (whole body start old) → IsLeft start next (after_status_map body) (whole body start old)
left_2 body start old written next table at status place is before =
    with_one start written next (table_map_event body.server status_table) (after_status_map body) (whole body start old) at place
    (is ∙ ap (λ (t : Mapped). written ++ table_map_event body.server t at) status) before

-- the maps of the epoch's tables are written
pub left_3 : (body : EpochBody) (start : ℕ) (old written next : List ℕ) (tables : List Mapped) → tables ≡ body.tables → next ≡ written ++ joined_from (start + length written) (map (table_map_event body.server) tables) →
    IsLeft start written (after_status_map body) (whole body start old) → IsLeft start next (after_maps body) (whole body start old)
left_3 body start old written next tables same is before =
    with_more start written next (map (table_map_event body.server) body.tables) (after_maps body) (whole body start old)
    (is ∙ ap (λ (ts : List Mapped). written ++ joined_from (start + length written) (map (table_map_event body.server) ts)) same) before

-- the apply-status rows are written
pub left_4 : (body : EpochBody) (start : ℕ) (old written next : List ℕ) (at : ℕ) → at ≡ start + length written → next ≡ written ++ status_event body at →
    IsLeft start written (after_maps body) (whole body start old) → IsLeft start next (after_status body) (whole body start old)
left_4 body start old written next at place is before = with_one start written next (status_event body) (after_status body) (whole body start old) at place is before

-- the changes are written
pub left_5 : (body : EpochBody) (start : ℕ) (old written next : List ℕ) (tables : List Mapped) (changes : List Change) → tables ≡ body.tables → changes ≡ body.changes → next ≡ written ++ joined_from (start + length written) (change_events body.server tables changes) →
    IsLeft start written (after_status body) (whole body start old) → IsLeft start next (after_changes body) (whole body start old)
left_5 body start old written next tables changes same alike is before =
    with_more start written next (change_events body.server body.tables body.changes) (after_changes body) (whole body start old)
    (is ∙ ap₂ (λ (ts : List Mapped) (cs : List Change). written ++ joined_from (start + length written) (change_events body.server ts cs)) same alike) before

-- the XID is written, and no event remains
pub none_left : (body : EpochBody) (start : ℕ) (old written next : List ℕ) (at : ℕ) → at ≡ start + length written → next ≡ written ++ xid_event body.server body.epoch.0 at →
    IsLeft start written (after_changes body) (whole body start old) → next ≡ whole body start old
none_left body start old written next at place is before =
    all_written start next (whole body start old) (with_one start written next (xid_event body.server body.epoch.0) [] (whole body start old) at place is before)
