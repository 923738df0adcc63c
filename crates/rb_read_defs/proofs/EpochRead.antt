-- A written epoch is read event by event, and its only step is that epoch.
use Rattle.std.proofs.Common.{◌≡◌, ℕ, ◌+◌, ◌^◌, ◌<◌, ◌≤◌, ◌≢◌, Bool, true, false, List, [], ◌∷◌, ◌++◌, length, map, refl, sym, ap, subst, ◌∙◌, arith, append_assoc, length-append}
use Rattle.std.specs.Prelude.{◌==◌, codes, Option, Some, None, IsNone}
use Rattle.std.specs.List.{list_any, AllByRecursion}
use Rattle.std.specs.Option.{option_map_or}
use Rattle.std.proofs.lemmas.Bool.Decides.{nat_tests}
use Rattle.std.proofs.lemmas.List.{append-nil}
use Rattle.std.proofs.lemmas.List.Elements.{recursion_from_All}
use Rattle.rb_base.specs.declared.schema.Column.{Column}
use Rattle.rb_base.specs.declared.schema.Mapped.{Mapped}
use Rattle.rb_base.specs.declared.change.Kind.{Kind}
use Rattle.rb_base.specs.declared.change.Kind.TheVariants.{Insert, Update, Remove}
use Rattle.rb_base.specs.declared.change.Change.{Change}
use Rattle.rb_base.specs.declared.epoch.Epoch.{Epoch}
use Rattle.rb_base.specs.declared.body.EpochBody.{EpochBody}
use Rattle.rb_log_defs.specs.Event.{Placed, event_bytes, query_payload, xid_payload, xid_event}
use Rattle.rb_log_defs.specs.Table.{table_map_payload, table_map_event, columns_of, status_table}
use Rattle.rb_log_defs.specs.Rows.{rows_type, end_flag, ends_statement, change_payload, status_payload, status_event}
use Rattle.rb_log_defs.specs.Epoch.{joined_from, change_events, epoch_events, epoch_bytes}
use Rattle.rb_log_defs.proofs.Sizes.{event_length}
use Rattle.rb_read_defs.specs.Reading.{Read, number}
use Rattle.rb_read_defs.specs.Rows.{changes, statuses}
use Rattle.rb_read_defs.specs.Events.{is_known}
use Rattle.rb_read_defs.specs.declared.answers.Content.{Content}
use Rattle.rb_read_defs.specs.declared.answers.Content.TheVariants.{Begins, Ends as EndsEpoch, Maps, Changes, Statuses}
use Rattle.rb_read_defs.specs.Stream.{Known, open_epoch, is_open, maps_of, map_in_force, statuses_of, own_rows, other_rows, is_single, is_rotated, is_in_order, rows_in, kind_of, content_in, has_statuses, seen_from, cut_from, changes_read, tables_named, tables_read, first_epoch_of, body_read, steps_of, settled_at}
use Rattle.rb_read_defs.specs.Readable.{IsReadableTable, IsReadableChange, status_rows_of, IsReadable, IsReadBack}
use Rattle.rb_read_defs.specs.declared.answers.StatusRow.{StatusRow}
use Rattle.rb_read_defs.specs.declared.answers.Step.{Step}
use Rattle.rb_read_defs.specs.declared.answers.Step.TheVariants as steps
use Rattle.rb_read_defs.proofs.Fields.{ends_at_start, gives_ends}
use Rattle.rb_read_defs.proofs.EventsRead.{begin_read, status_map_read, xid_ends, table_map_gives}
use Rattle.rb_read_defs.proofs.RowsRead.{change_ends, statuses_end, change_table_first, status_table_first, end_flag_small}
use Rattle.rb_read_defs.proofs.EventSeen.{head_of, Sees, same_cuts, one_seen}
use Rattle.rb_read_defs.proofs.Ids.{Ascend, same_id, has}
use Rattle.rb_read_defs.proofs.TablesNamed.{prefix_of, ids_of, find_id, not_later, tables_ascend, tables_all, tables_back, IsTable, table_there}

-- after these events an epoch is open, with these events and contents so far; none of the epoch's
-- events gives a step
record InEpoch (earlier known inner : List Known) (maps : List Mapped) (rows : List (ℕ × StatusRow)) (changes : List Change) : Type 0 where
  opened : open_epoch known ≡ Some inner
  rotated : is_rotated known ≡ false
  maps_are : maps_of inner ≡ maps
  rows_are : statuses_of inner ≡ rows
  changes_are : changes_read inner ≡ changes
  steps_are : steps_of known ≡ steps_of earlier

-- the reading of an epoch's remaining events, from one of them to the epoch's end
record IsTold (events : List Placed) (known : List Known) (at end : ℕ) (told : List Step) : Type 0 where
  seen : List Known
  sees : Sees events known at end seen
  steps_are : steps_of (seen ++ known) ≡ told
  closed : is_open (seen ++ known) ≡ false
  goes_on : is_rotated (seen ++ known) ≡ false
  settled : (first : ℕ) → settled_at first (seen ++ known) ≡ end

-- the events have room: each has a length that its header can hold, and all of them end within 32
-- bits
record HaveRoom (events : List Placed) (at end : ℕ) : Type 0 where
  sizes : AllByRecursion (λ event. length (event 0) ≤ 2147483647) events
  ends : at + length (joined_from at events) ≡ end
  small : end < 2 ^ 32

-- one more event, and the events after it
event_told : (kind server : ℕ) (payload : List ℕ) (at end : ℕ) (known : List Known) (says : Content) (after : ℕ) (rest : List Placed) (told : List Step) →
    is_known kind ≡ true → server < 2 ^ 32 → HaveRoom (event_bytes kind server payload ∷ rest) at end → is_rotated known ≡ false → is_in_order at known kind ≡ true →
    content_in at known (head_of kind server payload at) payload 0 ≡ Read says after → has_statuses known server says ≡ true →
    (HaveRoom rest (at + (19 + length payload)) end → IsTold rest (record { end = at + (19 + length payload); server = server; says = says } ∷ known) (at + (19 + length payload)) end told) →
    IsTold (event_bytes kind server payload ∷ rest) known at end told
event_told kind server payload at end known says after rest told is_kind one room rotated order content statuses later = go (later next_room)
  where
    size : ℕ
    size = 19 + length payload

    event : Known
    event = record { end = at + (19 + length payload); server = server; says = says }

    long : (place : ℕ) → length (event_bytes kind server payload place) ≡ 19 + length payload
    long place = event_length kind server payload place

    whole : at + length (event_bytes kind server payload at ++ joined_from (at + (19 + length payload)) rest) ≡ end
    whole = subst (λ (n : ℕ). at + length (event_bytes kind server payload at ++ joined_from (at + n) rest) ≡ end) (long at) room.ends

    next_room : HaveRoom rest (at + (19 + length payload)) end
    next_room = record {
      sizes = room.sizes.1;
      ends = let l = length-append (event_bytes kind server payload at) (joined_from (at + (19 + length payload)) rest) in let e = long at in let w = whole in omega arith;
      small = room.small;
    }

    go : IsTold rest (record { end = at + (19 + length payload); server = server; says = says } ∷ known) (at + (19 + length payload)) end told → IsTold (event_bytes kind server payload ∷ rest) known at end told
    go tail =
        let same : (tail.seen ++ event ∷ []) ++ known ≡ tail.seen ++ event ∷ known = append_assoc tail.seen (event ∷ []) known in
        record {
          seen = tail.seen ++ event ∷ [];
          sees = record {
            sees = λ n m more low high.
                let left : List ℕ = joined_from (at + (19 + length payload)) rest in
                let moved : joined_from at (event_bytes kind server payload ∷ rest) ++ more ≡ event_bytes kind server payload at ++ (left ++ more) =
                ap (λ (n : ℕ). (event_bytes kind server payload at ++ joined_from (at + n) rest) ++ more) (long at) ∙ append_assoc (event_bytes kind server payload at) left more in
                let fits : 19 + length payload ≤ 2147483647 = let first = room.sizes.0 in let e = long 0 in omega arith in
                let placed : at + (19 + length payload) < 2 ^ 32 = let ends = next_room.ends in let small = room.small in omega arith in
                ap (λ (bytes : List ℕ). seen_from known (cut_from n at bytes)) moved
                ∙ one_seen kind server payload at known says after n (length (left ++ more)) (left ++ more) is_kind one fits placed rotated order content statuses (subst (λ (bytes : List ℕ). length bytes ≤ n) moved low) (omega arith)
                ∙ tail.sees.sees (length (left ++ more)) m more (omega arith) high
                ∙ ap (λ (all : List Known). seen_from all (cut_from m end more)) (sym same);
          };
          steps_are = rw same tail.steps_are;
          closed = rw same tail.closed;
          goes_on = rw same tail.goes_on;
          settled = rw same tail.settled;
        }

-- the apply-status rows of an epoch, each with the server of its event: the own row, and then the
-- reflected one
abbrev rows_of : EpochBody → List (ℕ × StatusRow)
rows_of body = map (λ row. (body.server, row)) (status_rows_of body)

record HasRows (body : EpochBody) (rows : List (ℕ × StatusRow)) : Type 0 where
  own : own_rows rows ≡ record { server = body.server; epoch = body.epoch } ∷ []
  other : first_epoch_of (other_rows rows) ≡ body.reflected
  single : is_single rows ≡ true

not_one : (server : ℕ) → (server ≡ 1 → ⊥) → (1 == server) ≡ false
not_one server other = go (1 == server) refl
  where
    go : (b : Bool) → (1 == server) ≡ b → (1 == server) ≡ false
    go true is = absurd (other (grind (arith, nat_tests)))
    go false is = is

has_rows : (body : EpochBody) → (body.server ≡ 1 → IsNone body.reflected) → HasRows body (rows_of body)
has_rows body none = go body.reflected none
  where
    with_reflected : Option Epoch → EpochBody
    with_reflected reflected = record { server = body.server; epoch = body.epoch; reflected = reflected; tables = body.tables; changes = body.changes }

    go : (reflected : Option Epoch) → (body.server ≡ 1 → IsNone reflected) → HasRows (with_reflected reflected) (rows_of (with_reflected reflected))
    go None none = record { own = rw (same_id body.server) refl; other = rw (same_id body.server) refl; single = rw (same_id body.server) refl }
    go (Some epoch) none =
        let no : (1 == body.server) ≡ false = not_one body.server (λ one. let some : true ≡ false = none one in absurd (let same : true ≡ false = some in cc)) in
        record { own = rw (same_id body.server, no) refl; other = rw (same_id body.server, no) refl; single = rw (same_id body.server, no) refl }

-- the maps of an epoch, the newest first
abbrev maps_in : EpochBody → List Mapped
maps_in body = prefix_of body.tables (status_table ∷ [])

-- the body that is read of a whole epoch is the epoch's body
body_back : (body : EpochBody) (inner : List Known) → HasRows body (rows_of body) → map (λ table. table.id) body.tables ≡ tables_named body.changes → Ascend (ids_of body.tables) →
    maps_of inner ≡ maps_in body → statuses_of inner ≡ rows_of body → changes_read inner ≡ body.changes → body_read inner body.server ≡ body
body_back body inner rows named up maps statuses changes =
    let tables : tables_read inner (changes_read inner) ≡ body.tables = rw (changes, maps, ← named) (tables_back body.tables (status_table ∷ []) up) in
    rw (tables, changes, statuses, rows.own, rows.other) refl

-- a position after the first event of a file
not_first : (at : ℕ) → 4 < at → (at == 4) ≡ false
not_first at following = grind (arith, nat_tests)

-- the XID event that ends an epoch
xid_told : (body : EpochBody) (at end : ℕ) (earlier known inner : List Known) → IsReadable body → HasRows body (rows_of body) → Ascend (ids_of body.tables) → 4 < at →
    InEpoch earlier known inner (maps_in body) (rows_of body) body.changes → HaveRoom (xid_event body.server body.epoch.0 ∷ []) at end →
    IsTold (xid_event body.server body.epoch.0 ∷ []) known at end (steps_of earlier ++ steps.Epoch body end ∷ [])
unfolding content_in open_epoch steps_of
xid_told body at end earlier known inner readable rows up following within room =
    event_told 16 body.server payload at end known EndsEpoch (length (xid_payload body.epoch.0)) [] (steps_of earlier ++ steps.Epoch body end ∷ []) refl readable.server room within.rotated order content own later
  where
    payload : List ℕ
    payload = xid_payload body.epoch.0

    order : is_in_order at known 16 ≡ true
    order = rw (not_first at following, within.opened) refl

    content : content_in at known (head_of 16 body.server (xid_payload body.epoch.0) at) (xid_payload body.epoch.0) 0 ≡ Read EndsEpoch (length (xid_payload body.epoch.0))
    content = rw (ends_at_start (xid_ends body.epoch.0 readable.epoch)) refl

    own : has_statuses known body.server EndsEpoch ≡ true
    own =
        ap (λ (inner : Option (List Known)). list_any (λ row. row.server == body.server) (own_rows (option_map_or statuses_of inner []))) within.opened
        ∙ ap (λ (rows : List (ℕ × StatusRow)). list_any (λ row. row.server == body.server) (own_rows rows)) within.rows_are
        ∙ ap (λ (rows : List StatusRow). list_any (λ row. row.server == body.server) rows) rows.own
        ∙ rw (same_id body.server) refl

    later : HaveRoom [] (at + (19 + length (xid_payload body.epoch.0))) end → IsTold [] (record { end = at + (19 + length (xid_payload body.epoch.0)); server = body.server; says = EndsEpoch } ∷ known) (at + (19 + length (xid_payload body.epoch.0))) end (steps_of earlier ++ steps.Epoch body end ∷ [])
    later rest =
        let here : at + (19 + length (xid_payload body.epoch.0)) ≡ end = let ends = rest.ends in omega arith in
        let whole : body_read inner body.server ≡ body = body_back body inner rows readable.named up within.maps_are within.rows_are within.changes_are in
        record {
          seen = [];
          sees = record { sees = λ n m more low high. rw here (ap (seen_from (record { end = end; server = body.server; says = EndsEpoch } ∷ known)) (same_cuts n m end more low high)) };
          steps_are = rw (within.opened, within.steps_are, whole, here) refl;
          closed = refl;
          goes_on = refl;
          settled = λ first. here;
        }

-- one more event of the open epoch
next_changes : (earlier known inner : List Known) (maps : List Mapped) (rows : List (ℕ × StatusRow)) (changes all : List Change) (server end : ℕ) → InEpoch earlier known inner maps rows changes →
    InEpoch earlier (record { end = end; server = server; says = Changes all } ∷ known) (record { end = end; server = server; says = Changes all } ∷ inner) maps rows (changes ++ all)
unfolding open_epoch steps_of
next_changes earlier known inner maps rows changes all server end within = record {
  opened = rw within.opened refl;
  rotated = refl;
  maps_are = within.maps_are;
  rows_are = within.rows_are;
  changes_are = ap (λ (before : List Change). before ++ all) within.changes_are;
  steps_are = append-nil (steps_of known) ∙ within.steps_are;
}

next_map : (earlier known inner : List Known) (maps : List Mapped) (rows : List (ℕ × StatusRow)) (changes : List Change) (table : Mapped) (server end : ℕ) → InEpoch earlier known inner maps rows changes →
    InEpoch earlier (record { end = end; server = server; says = Maps table } ∷ known) (record { end = end; server = server; says = Maps table } ∷ inner) (table ∷ maps) rows changes
unfolding open_epoch steps_of
next_map earlier known inner maps rows changes table server end within = record {
  opened = rw within.opened refl;
  rotated = refl;
  maps_are = ap (λ (before : List Mapped). table ∷ before) within.maps_are;
  rows_are = within.rows_are;
  changes_are = append-nil (changes_read inner) ∙ within.changes_are;
  steps_are = append-nil (steps_of known) ∙ within.steps_are;
}

next_statuses : (earlier known inner : List Known) (maps : List Mapped) (changes : List Change) (all : List StatusRow) (server end : ℕ) → InEpoch earlier known inner maps [] changes →
    InEpoch earlier (record { end = end; server = server; says = Statuses all } ∷ known) (record { end = end; server = server; says = Statuses all } ∷ inner) maps (map (λ row. (server, row)) all) changes
unfolding open_epoch steps_of
next_statuses earlier known inner maps changes all server end within = record {
  opened = rw within.opened refl;
  rotated = refl;
  maps_are = within.maps_are;
  rows_are = ap (λ (before : List (ℕ × StatusRow)). map (λ row. (server, row)) all ++ before) within.rows_are ∙ append-nil (map (λ row. (server, row)) all);
  changes_are = append-nil (changes_read inner) ∙ within.changes_are;
  steps_are = append-nil (steps_of known) ∙ within.steps_are;
}

-- the map of a table in the open epoch
in_force : (earlier known inner : List Known) (maps : List Mapped) (rows : List (ℕ × StatusRow)) (changes : List Change) (id : ℕ) → InEpoch earlier known inner maps rows changes → map_in_force known id ≡ find_id id maps
in_force earlier known inner maps rows changes id within = rw (within.opened, within.maps_are) refl

-- the rows events of each kind
rows_known : (kind : Kind) → is_known (rows_type kind) ≡ true
rows_known Insert = refl
rows_known Update = refl
rows_known Remove = refl

rows_kind : (kind : Kind) → kind_of (rows_type kind) ≡ kind
rows_kind Insert = refl
rows_kind Update = refl
rows_kind Remove = refl

rows_in_order : (kind : Kind) (at : ℕ) (known : List Known) → (at == 4) ≡ false → is_open known ≡ true → is_in_order at known (rows_type kind) ≡ true
rows_in_order Insert at known following opened = rw (following, opened) refl
rows_in_order Update at known following opened = rw (following, opened) refl
rows_in_order Remove at known following opened = rw (following, opened) refl

rows_content : (kind : Kind) (at : ℕ) (known : List Known) (server : ℕ) (payload : List ℕ) → content_in at known (head_of (rows_type kind) server payload at) ≡ rows_in known (head_of (rows_type kind) server payload at)
unfolding content_in
rows_content Insert at known server payload = refl
rows_content Update at known server payload = refl
rows_content Remove at known server payload = refl

-- the content of a change's rows event
change_content : (at : ℕ) (known : List Known) (server flags : ℕ) (all : List Column) (change : Change) (table : Mapped) → IsReadableTable table → IsReadableChange server all change → all ≡ table.columns → table.id ≡ change.table → flags < 2 ^ 16 →
    map_in_force known change.table ≡ Some table →
    content_in at known (head_of (rows_type change.kind) server (change_payload all change flags) at) (change_payload all change flags) 0 ≡ Read (Changes (change ∷ [])) (length (change_payload all change flags))
change_content at known server flags all change table readable fits same id two force =
    let payload : List ℕ = change_payload all change flags in
    let read : changes change.kind server table payload 0 ≡ Read (change ∷ []) (length payload) =
    subst (λ (all : List Column). changes change.kind server table (change_payload all change flags) 0 ≡ Read (change ∷ []) (length (change_payload all change flags))) (sym same)
    (ends_at_start (change_ends table server flags change readable (subst (λ (all : List Column). IsReadableChange server all change) same fits) (sym id) two)) in
    let first : number 6 payload 0 ≡ Read change.table 6 = change_table_first all change flags (let small = readable.id in omega arith) in
    rw (rows_content change.kind at known server payload, first)
    (rw force (rw (readable.data_table, rows_kind change.kind, read) refl))

-- a change whose table is among the epoch's tables
record HasTable (body : EpochBody) (change : Change) : Type 0 where
  table : IsTable IsReadableTable change.table body.tables (status_table ∷ [])
  fits : IsReadableChange body.server (columns_of body.tables change.table) change

-- the changes of an epoch, from one of them on
changes_told : (body : EpochBody) (end : ℕ) (earlier : List Known) → IsReadable body → HasRows body (rows_of body) → Ascend (ids_of body.tables) →
    (later : List Change) (at : ℕ) (known inner : List Known) (done : List Change) → AllByRecursion (HasTable body) later → done ++ later ≡ body.changes → 4 < at →
    InEpoch earlier known inner (maps_in body) (rows_of body) done → HaveRoom (change_events body.server body.tables later ++ xid_event body.server body.epoch.0 ∷ []) at end →
    IsTold (change_events body.server body.tables later ++ xid_event body.server body.epoch.0 ∷ []) known at end (steps_of earlier ++ steps.Epoch body end ∷ [])
changes_told body end earlier readable rows up [] at known inner done all whole following within room =
    xid_told body at end earlier known inner readable rows up following (subst (λ (changes : List Change). InEpoch earlier known inner (maps_in body) (rows_of body) changes) (sym (append-nil done) ∙ whole) within) room
changes_told body end earlier readable rows up (change ∷ later) at known inner done all whole following within room =
    let one = all.0 in
    let there = one.table in
    let columns : List Column = columns_of body.tables change.table in
    let payload : List ℕ = change_payload columns change (end_flag (ends_statement later)) in
    let same : columns_of body.tables change.table ≡ there.table.columns = rw there.first refl in
    let force : map_in_force known change.table ≡ Some there.table = in_force earlier known inner (maps_in body) (rows_of body) done change.table within ∙ there.last in
    event_told (rows_type change.kind) body.server payload at end known (Changes (change ∷ [])) (length payload) (change_events body.server body.tables later ++ xid_event body.server body.epoch.0 ∷ []) (steps_of earlier ++ steps.Epoch body end ∷ [])
    (rows_known change.kind) readable.server room within.rotated (rows_in_order change.kind at known (not_first at following) (rw within.opened refl))
    (change_content at known body.server (end_flag (ends_statement later)) columns change there.table there.passes one.fits same there.id_is (end_flag_small (ends_statement later)) force) refl
    (λ next. changes_told body end earlier readable rows up later (at + (19 + length payload))
    (record { end = at + (19 + length payload); server = body.server; says = Changes (change ∷ []) } ∷ known) (record { end = at + (19 + length payload); server = body.server; says = Changes (change ∷ []) } ∷ inner) (done ++ change ∷ [])
    all.1 (append_assoc done (change ∷ []) later ∙ whole) (omega arith) (next_changes earlier known inner (maps_in body) (rows_of body) done (change ∷ []) body.server (at + (19 + length payload)) within) next)

-- the apply-status table's map; all maps after it are of data tables
status_there : (body : EpochBody) → AllByRecursion (λ id. 0 < id) (ids_of body.tables) → find_id 0 (maps_in body) ≡ Some status_table
status_there body above = not_later 0 body.tables (status_table ∷ []) above ∙ refl

-- the apply-status rows of an epoch and its changes
rows_told : (body : EpochBody) (at end : ℕ) (earlier known inner : List Known) → IsReadable body → HasRows body (rows_of body) → Ascend (ids_of body.tables) → AllByRecursion (HasTable body) body.changes → AllByRecursion (λ id. 0 < id) (ids_of body.tables) → 4 < at →
    InEpoch earlier known inner (maps_in body) [] [] → HaveRoom (status_event body ∷ (change_events body.server body.tables body.changes ++ xid_event body.server body.epoch.0 ∷ [])) at end →
    IsTold (status_event body ∷ (change_events body.server body.tables body.changes ++ xid_event body.server body.epoch.0 ∷ [])) known at end (steps_of earlier ++ steps.Epoch body end ∷ [])
unfolding content_in
rows_told body at end earlier known inner readable rows up tables above following within room =
    event_told 30 body.server (status_payload body) at end known (Statuses (status_rows_of body)) (length (status_payload body)) (change_events body.server body.tables body.changes ++ xid_event body.server body.epoch.0 ∷ []) (steps_of earlier ++ steps.Epoch body end ∷ [])
    refl readable.server room within.rotated (rw (not_first at following, within.opened) refl) content single
    (λ next. changes_told body end earlier readable rows up body.changes (at + (19 + length (status_payload body)))
    (record { end = at + (19 + length (status_payload body)); server = body.server; says = Statuses (status_rows_of body) } ∷ known) (record { end = at + (19 + length (status_payload body)); server = body.server; says = Statuses (status_rows_of body) } ∷ inner) []
    tables refl (omega arith) (next_statuses earlier known inner (maps_in body) [] (status_rows_of body) body.server (at + (19 + length (status_payload body))) within) next)
  where
    force : map_in_force known 0 ≡ Some status_table
    force = in_force earlier known inner (maps_in body) [] [] 0 within ∙ status_there body above

    content : content_in at known (head_of 30 body.server (status_payload body) at) (status_payload body) 0 ≡ Read (Statuses (status_rows_of body)) (length (status_payload body))
    content = rw (status_table_first body) (rw force (rw (ends_at_start (statuses_end body readable.server readable.epoch readable.reflected)) refl))

    single : has_statuses known body.server (Statuses (status_rows_of body)) ≡ true
    single =
        ap (λ (inner : Option (List Known)). is_single (rows_of body ++ option_map_or statuses_of inner [])) within.opened
        ∙ ap (λ (before : List (ℕ × StatusRow)). is_single (rows_of body ++ before)) within.rows_are
        ∙ ap is_single (append-nil (rows_of body)) ∙ rows.single

-- the maps of an epoch's tables, from one of them on, and the epoch's rows
maps_told : (body : EpochBody) (end : ℕ) (earlier : List Known) → IsReadable body → HasRows body (rows_of body) → Ascend (ids_of body.tables) → AllByRecursion (HasTable body) body.changes → AllByRecursion (λ id. 0 < id) (ids_of body.tables) →
    (later : List Mapped) (at : ℕ) (known inner : List Known) (maps : List Mapped) → AllByRecursion IsReadableTable later → prefix_of later maps ≡ maps_in body → 4 < at →
    InEpoch earlier known inner maps [] [] → HaveRoom (map (table_map_event body.server) later ++ (status_event body ∷ (change_events body.server body.tables body.changes ++ xid_event body.server body.epoch.0 ∷ []))) at end →
    IsTold (map (table_map_event body.server) later ++ (status_event body ∷ (change_events body.server body.tables body.changes ++ xid_event body.server body.epoch.0 ∷ []))) known at end (steps_of earlier ++ steps.Epoch body end ∷ [])
unfolding content_in
maps_told body end earlier readable rows up tables above [] at known inner maps all whole following within room =
    rows_told body at end earlier known inner readable rows up tables above following (subst (λ (maps : List Mapped). InEpoch earlier known inner maps [] []) whole within) room
maps_told body end earlier readable rows up tables above (table ∷ later) at known inner maps all whole following within room =
    let payload : List ℕ = table_map_payload table in
    let read = ends_at_start (gives_ends (table_map_gives table all.0)) in
    event_told 19 body.server payload at end known (Maps table) (length payload) (map (table_map_event body.server) later ++ (status_event body ∷ (change_events body.server body.tables body.changes ++ xid_event body.server body.epoch.0 ∷ []))) (steps_of earlier ++ steps.Epoch body end ∷ [])
    refl readable.server room within.rotated (rw (not_first at following, within.opened) refl) (rw read refl) refl
    (λ next. maps_told body end earlier readable rows up tables above later (at + (19 + length payload))
    (record { end = at + (19 + length payload); server = body.server; says = Maps table } ∷ known) (record { end = at + (19 + length payload); server = body.server; says = Maps table } ∷ inner) (table ∷ maps)
    all.1 whole (omega arith) (next_map earlier known inner maps [] [] table body.server (at + (19 + length payload)) within) next)

-- a whole epoch
begin_told : (body : EpochBody) (start end : ℕ) (earlier : List Known) → IsReadable body → HasRows body (rows_of body) → Ascend (ids_of body.tables) → AllByRecursion (HasTable body) body.changes → AllByRecursion (λ id. 0 < id) (ids_of body.tables) →
    start ≢ 4 → is_open earlier ≡ false → is_rotated earlier ≡ false → HaveRoom (epoch_events body) start end → IsTold (epoch_events body) earlier start end (steps_of earlier ++ steps.Epoch body end ∷ [])
unfolding content_in open_epoch steps_of
begin_told body start end earlier readable rows up tables above place closed rotated room =
    event_told 2 body.server (query_payload (codes "BEGIN")) start end earlier Begins 19 (table_map_event body.server status_table ∷ (map (table_map_event body.server) body.tables ++ (status_event body ∷ (change_events body.server body.tables body.changes ++ xid_event body.server body.epoch.0 ∷ [])))) (steps_of earlier ++ steps.Epoch body end ∷ [])
    refl readable.server room rotated refl (rw (begin_read) (rw (not_four, closed) refl)) refl
    (λ next. status_map (start + (19 + length (query_payload (codes "BEGIN")))) (record { end = start + (19 + length (query_payload (codes "BEGIN"))); server = body.server; says = Begins } ∷ earlier) (omega arith)
    (record { opened = refl; rotated = refl; maps_are = refl; rows_are = refl; changes_are = refl; steps_are = append-nil (steps_of earlier) }) next)
  where
    not_four : (start == 4) ≡ false
    not_four = go (start == 4) refl
      where
        go : (b : Bool) → (start == 4) ≡ b → (start == 4) ≡ false
        go true is = absurd (place (grind (arith, nat_tests)))
        go false is = is

    status_map : (at : ℕ) (known : List Known) → 4 < at → InEpoch earlier known [] [] [] [] →
        HaveRoom (table_map_event body.server status_table ∷ (map (table_map_event body.server) body.tables ++ (status_event body ∷ (change_events body.server body.tables body.changes ++ xid_event body.server body.epoch.0 ∷ [])))) at end →
        IsTold (table_map_event body.server status_table ∷ (map (table_map_event body.server) body.tables ++ (status_event body ∷ (change_events body.server body.tables body.changes ++ xid_event body.server body.epoch.0 ∷ [])))) known at end (steps_of earlier ++ steps.Epoch body end ∷ [])
    status_map at known following within room =
        let payload : List ℕ = table_map_payload status_table in
        event_told 19 body.server payload at end known (Maps status_table) (length payload) (map (table_map_event body.server) body.tables ++ (status_event body ∷ (change_events body.server body.tables body.changes ++ xid_event body.server body.epoch.0 ∷ []))) (steps_of earlier ++ steps.Epoch body end ∷ [])
        refl readable.server room within.rotated (rw (not_first at following, within.opened) refl) (rw status_map_read refl) refl
        (λ next. maps_told body end earlier readable rows up tables above body.tables (at + (19 + length payload))
        (record { end = at + (19 + length payload); server = body.server; says = Maps status_table } ∷ known) (record { end = at + (19 + length payload); server = body.server; says = Maps status_table } ∷ []) (status_table ∷ [])
        (recursion_from_All IsReadableTable body.tables readable.tables) refl (omega arith) (next_map earlier known [] [] [] [] status_table body.server (at + (19 + length payload)) within) next)

-- the facts about all changes, one change at a time
changes_have : (body : EpochBody) → Ascend (ids_of body.tables) → AllByRecursion IsReadableTable body.tables → (later : List Change) → AllByRecursion (λ change. has change.table (ids_of body.tables) ≡ true) later →
    AllByRecursion (λ change. IsReadableChange body.server (columns_of body.tables change.table) change) later → AllByRecursion (HasTable body) later
changes_have body up tables [] named fit = tt
changes_have body up tables (change ∷ later) named fit =
    (record { table = table_there IsReadableTable change.table body.tables (status_table ∷ []) up named.0 tables; fits = fit.0 }, changes_have body up tables later named.1 fit.1)

above_ids : (tables : List Mapped) → AllByRecursion (λ table. 0 < table.id) tables → AllByRecursion (λ id. 0 < id) (ids_of tables)
above_ids [] all = tt
above_ids (table ∷ tables) all = (all.0, above_ids tables all.1)

-- a readable epoch is read as it was written
pub epoch_back : (body : EpochBody) (start : ℕ) (earlier : List Known) → IsReadable body → start ≢ 4 → is_open earlier ≡ false → is_rotated earlier ≡ false → start + length (epoch_bytes body start) < 2 ^ 32 → IsReadBack body start earlier
unfolding epoch_bytes
epoch_back body start earlier readable place closed rotated small =
    let up : Ascend (ids_of body.tables) = subst Ascend (sym readable.named) (tables_ascend body.changes) in
    let named : AllByRecursion (λ change. has change.table (ids_of body.tables) ≡ true) body.changes =
    subst (λ (ids : List ℕ). AllByRecursion (λ change. has change.table ids ≡ true) body.changes) (sym readable.named) (tables_all body.changes) in
    let tables = changes_have body up (recursion_from_All IsReadableTable body.tables readable.tables) body.changes named (recursion_from_All (λ (change : Change). IsReadableChange body.server (columns_of body.tables change.table) change) body.changes readable.changes) in
    let above = above_ids body.tables (recursion_from_All (λ (table : Mapped). 0 < table.id) body.tables readable.above) in
    let room : HaveRoom (epoch_events body) start (start + length (joined_from start (epoch_events body))) =
    record { sizes = recursion_from_All (λ (event : Placed). length (event 0) ≤ 2147483647) (epoch_events body) readable.sizes; ends = refl; small = small } in
    let told = begin_told body start (start + length (joined_from start (epoch_events body))) earlier readable (has_rows body readable.own) up tables above place closed rotated room in
    record { events = told.seen; steps = told.steps_are; closed = told.closed; goes_on = told.goes_on; settled = told.settled; seen = λ more. told.sees.sees (length (joined_from start (epoch_events body) ++ more)) (length more) more (omega arith) (omega arith) }
