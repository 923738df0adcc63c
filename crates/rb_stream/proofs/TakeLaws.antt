-- The effects of events on the open epoch.
use Rattle.std.proofs.Common.{◌≡◌, ℕ, List, [], ◌∷◌, ◌++◌, Option, Some, None, true, false, Bool, Ok, refl, sym, ap, ap₂, subst, ◌∙◌, arith}
use Rattle.std.specs.Prelude.{◌==◌, ◌||◌, if◌then◌else◌, map, find, unwrap_or, option_to_list}
use Rattle.std.specs.List.{flat_map, list_any}
use Rattle.std.proofs.lemmas.Bool.Decides.{nat_tests}
use Rattle.std.specs.Option.{option_map, option_map_or}
use Rattle.std.proofs.lemmas.List.{append-nil}
use Rattle.rb_base.specs.declared.schema.Mapped.{Mapped}
use Rattle.rb_base.specs.declared.change.Change.{Change}
use Rattle.rb_base.specs.declared.epoch.Epoch.{Epoch}
use Rattle.rb_base.specs.declared.body.EpochBody.{EpochBody}
use Rattle.rb_read_defs.specs.Stream.{Known, open_epoch, maps_of, statuses_of, statuses_so_far, own_rows, other_rows, changes_read, tables_named, tables_read, first_epoch_of, body_read, has_statuses, step_of}
use Rattle.rb_read_defs.specs.declared.answers.Content.{Content}
use Rattle.rb_read_defs.specs.declared.answers.RotateTo.{RotateTo}
use Rattle.rb_read_defs.specs.declared.answers.Step.{Step}
use Rattle.rb_read_defs.specs.declared.answers.Step.TheVariants as steps
use Rattle.rb_read_defs.specs.declared.answers.Content.TheVariants.{Formats, Begins, Ends, Rotates, Maps, Changes, Statuses, Skipped}
use Rattle.rb_read_defs.specs.declared.answers.StatusRow.{StatusRow}
use Rattle.rb_stream.specs.declared.epoch.OpenEpoch.{OpenEpoch}
use Rattle.rb_stream.specs.declared.epoch_status.EpochStatus.{EpochStatus}
use Rattle.rb_stream.specs.EpochStatus.{HoldsStatus}
use Rattle.rb_stream.specs.Epoch.{IsOpen, HoldsEpoch, table_in, named_tables}
use Rattle.rb_stream.specs.Taking.{Closes}

-- the epoch that the decoder holds is the open one
pub opened : (current : Option OpenEpoch) (epoch : OpenEpoch) (events : Option (List Known)) → current ≡ Some epoch → IsOpen current events → IsOpen (Some epoch) events
opened current epoch events is held = subst (λ (which : Option OpenEpoch). IsOpen which events) is held

-- an event in the open epoch
with_event : (before after : OpenEpoch) (event : Known) (events : Option (List Known)) → IsOpen (Some before) events → ((inner : List Known) → HoldsEpoch before inner → HoldsEpoch after (event ∷ inner)) → IsOpen (Some after) (option_map (λ inner. event ∷ inner) events)
with_event before after event (Some inner) held step = step inner held
with_event before after event None held step = absurd held

-- an event outside an epoch
pub none_open : (event : Known) (events : Option (List Known)) → IsOpen None events → IsOpen None (option_map (λ inner. event ∷ inner) events)
none_open event None held = tt
none_open event (Some inner) held = absurd held

pub map_taken : (before after : OpenEpoch) (end server : ℕ) (table : Mapped) (known : List Known) → IsOpen (Some before) (open_epoch known) →
    ((id : ℕ) → table_in after id ≡ (if table.id == id then Some table else table_in before id)) → after.epoch_status ≡ before.epoch_status → after.changes ≡ before.changes →
    IsOpen (Some after) (open_epoch (record { end = end; server = server; says = Maps table } ∷ known))
unfolding open_epoch
map_taken before after end server table known held tables epoch_status changes =
    with_event before after (record { end = end; server = server; says = Maps table }) (open_epoch known) held (λ inner holds. record {
      tables = λ id. tables id ∙ ap (λ (other : Option Mapped). if table.id == id then Some table else other) (holds.tables id);
      epoch_status = rw epoch_status holds.epoch_status;
      changes = rw changes (holds.changes ∙ sym (append-nil _));
    })

pub changes_taken : (before after : OpenEpoch) (end server : ℕ) (changes : List Change) (known : List Known) → IsOpen (Some before) (open_epoch known) →
    after.changes.items ≡ before.changes.items ++ changes → after.epoch_status ≡ before.epoch_status → after.tables ≡ before.tables →
    IsOpen (Some after) (open_epoch (record { end = end; server = server; says = Changes changes } ∷ known))
unfolding open_epoch
changes_taken before after end server changes known held more epoch_status tables =
    with_event before after (record { end = end; server = server; says = Changes changes }) (open_epoch known) held (λ inner holds. record {
      tables = λ id. rw tables (holds.tables id);
      epoch_status = rw epoch_status holds.epoch_status;
      changes = more ∙ ap (λ (all : List Change). all ++ changes) holds.changes;
    })

pub statuses_taken : (before after : OpenEpoch) (end server : ℕ) (rows : List StatusRow) (epoch_status : EpochStatus) (known : List Known) → IsOpen (Some before) (open_epoch known) →
    HoldsStatus epoch_status (map (λ row. (server, row)) rows ++ statuses_so_far known) → after.epoch_status ≡ epoch_status → after.tables ≡ before.tables → after.changes ≡ before.changes →
    IsOpen (Some after) (open_epoch (record { end = end; server = server; says = Statuses rows } ∷ known))
unfolding open_epoch
statuses_taken before after end server rows epoch_status known held tells same tables changes = go (open_epoch known) held tells
  where
    event : Known
    event = record { end = end; server = server; says = Statuses rows }

    go : (events : Option (List Known)) → IsOpen (Some before) events → HoldsStatus epoch_status (map (λ row. (server, row)) rows ++ option_map_or statuses_of events []) → IsOpen (Some after) (option_map (λ inner. event ∷ inner) events)
    go None held tells = absurd held
    go (Some inner) holds tells = record {
      tables = λ id. rw tables (holds.tables id);
      epoch_status = rw same tells;
      changes = rw changes (holds.changes ∙ sym (append-nil _));
    }

-- a table map outside an epoch
pub map_outside : (current : Option OpenEpoch) (end server : ℕ) (table : Mapped) (known : List Known) → current ≡ None → IsOpen current (open_epoch known) → IsOpen current (open_epoch (record { end = end; server = server; says = Maps table } ∷ known))
unfolding open_epoch
map_outside (Some epoch) end server table known is held = absurd (let no : ◌≡◌ {A = Option OpenEpoch} (Some epoch) None = is in cc)
map_outside None end server table known is held = none_open (record { end = end; server = server; says = Maps table }) (open_epoch known) held

pub changes_outside : (current : Option OpenEpoch) (end server : ℕ) (changes : List Change) (known : List Known) → current ≡ None → IsOpen current (open_epoch known) → IsOpen current (open_epoch (record { end = end; server = server; says = Changes changes } ∷ known))
unfolding open_epoch
changes_outside (Some epoch) end server changes known is held = absurd (let no : ◌≡◌ {A = Option OpenEpoch} (Some epoch) None = is in cc)
changes_outside None end server changes known is held = none_open (record { end = end; server = server; says = Changes changes }) (open_epoch known) held

pub statuses_outside : (current : Option OpenEpoch) (end server : ℕ) (rows : List StatusRow) (known : List Known) → current ≡ None → IsOpen current (open_epoch known) → IsOpen current (open_epoch (record { end = end; server = server; says = Statuses rows } ∷ known))
unfolding open_epoch
statuses_outside (Some epoch) end server rows known is held = absurd (let no : ◌≡◌ {A = Option OpenEpoch} (Some epoch) None = is in cc)
statuses_outside None end server rows known is held = none_open (record { end = end; server = server; says = Statuses rows }) (open_epoch known) held

-- an event that leaves the open epoch unchanged
same_epoch : (current : Option OpenEpoch) (event : Known) (events : Option (List Known)) → ((epoch : OpenEpoch) (inner : List Known) → HoldsEpoch epoch inner → HoldsEpoch epoch (event ∷ inner)) → IsOpen current events → IsOpen current (option_map (λ inner. event ∷ inner) events)
same_epoch None event events step held = none_open event events held
same_epoch (Some epoch) event events step held = with_event epoch epoch event events held (step epoch)

-- the result of taking an event with this content
abbrev pub IsTaken : Option OpenEpoch → (end server : ℕ) → List Step → (known : List Known) → Content → Type 0
IsTaken current end server given known says =
    (has_statuses known server says ≡ true) × IsOpen current (open_epoch (record { end = end; server = server; says = says } ∷ known)) × (given ≡ step_of known (record { end = end; server = server; says = says }))

pub formats_taken : (current : Option OpenEpoch) (end server : ℕ) (known : List Known) (says : Content) → says ≡ Formats → IsOpen current (open_epoch known) → IsTaken current end server (steps.Format ∷ []) known says
unfolding open_epoch
formats_taken current end server known says is held = subst (IsTaken current end server (steps.Format ∷ []) known) (sym is)
    (refl, same_epoch current (record { end = end; server = server; says = Formats }) (open_epoch known) (λ epoch inner holds. record { tables = holds.tables; epoch_status = holds.epoch_status; changes = holds.changes ∙ sym (append-nil _) }) held, refl)

pub rotates_taken : (current : Option OpenEpoch) (end server : ℕ) (known : List Known) (says : Content) (to : RotateTo) → says ≡ Rotates to → IsOpen current (open_epoch known) → IsTaken current end server (steps.Rotate to.position to.name ∷ []) known says
unfolding open_epoch
rotates_taken current end server known says to is held = subst (IsTaken current end server (steps.Rotate to.position to.name ∷ []) known) (sym is)
    (refl, same_epoch current (record { end = end; server = server; says = Rotates to }) (open_epoch known) (λ epoch inner holds. record { tables = holds.tables; epoch_status = holds.epoch_status; changes = holds.changes ∙ sym (append-nil _) }) held, refl)

pub skipped_taken : (current : Option OpenEpoch) (end server : ℕ) (known : List Known) (says : Content) → says ≡ Skipped → IsOpen current (open_epoch known) → IsTaken current end server [] known says
unfolding open_epoch
skipped_taken current end server known says is held = subst (IsTaken current end server [] known) (sym is)
    (refl, same_epoch current (record { end = end; server = server; says = Skipped }) (open_epoch known) (λ epoch inner holds. record { tables = holds.tables; epoch_status = holds.epoch_status; changes = holds.changes ∙ sym (append-nil _) }) held, refl)

pub begins_taken : (epoch : OpenEpoch) (end server : ℕ) (known : List Known) (says : Content) → says ≡ Begins → HoldsEpoch epoch [] → IsTaken (Some epoch) end server [] known says
unfolding open_epoch
begins_taken epoch end server known says is holds = subst (IsTaken (Some epoch) end server [] known) (sym is) (refl, holds, refl)

-- the tables at the end of an epoch
same_tables : (f g : ℕ → List Mapped) → ((id : ℕ) → f id ≡ g id) → (ids : List ℕ) → flat_map f ids ≡ flat_map g ids
same_tables f g same [] = refl
same_tables f g same (id ∷ ids) = ap₂ (λ (front rest : List Mapped). front ++ rest) (same id) (same_tables f g same ids)

listed : (table : Option Mapped) → option_to_list table ≡ option_map_or (λ t. t ∷ []) table []
listed None = refl
listed (Some table) = refl

tables_are : (epoch : OpenEpoch) (events : List Known) → HoldsEpoch epoch events → named_tables epoch ≡ tables_read events (changes_read events)
tables_are epoch events holds =
    ap (λ (changes : List Change). flat_map (λ id. option_to_list (table_in epoch id)) (tables_named changes)) holds.changes
    ∙ same_tables (λ id. option_to_list (table_in epoch id)) (λ id. option_map_or (λ table. table ∷ []) (find (λ table. table.id == id) (maps_of events)) [])
    (λ id. ap option_to_list (holds.tables id) ∙ listed (find (λ table. table.id == id) (maps_of events))) (tables_named (changes_read events))

first_of_one : (row : Option StatusRow) (rows : List StatusRow) → option_to_list row ≡ rows → option_map (λ epoch_status. epoch_status.epoch) row ≡ first_epoch_of rows
first_of_one None rows is = ap first_epoch_of is
first_of_one (Some row) rows is = ap first_epoch_of is

-- the body of an epoch that ends
pub body_is : (epoch : OpenEpoch) (events : List Known) (server : ℕ) (row : StatusRow) → HoldsEpoch epoch events → epoch.epoch_status.own ≡ Some row →
    record { server = server; epoch = row.epoch; reflected = option_map (λ epoch_status. epoch_status.epoch) epoch.epoch_status.other; tables = named_tables epoch; changes = epoch.changes.items } ≡ body_read events server
body_is epoch events server row holds own =
    let first : row.epoch ≡ unwrap_or (first_epoch_of (own_rows (statuses_of events))) (record { 0 = 0 }) =
    ap (λ (epoch_status : Option Epoch). unwrap_or epoch_status (record { 0 = 0 })) (sym (ap (λ (epoch_status : Option StatusRow). option_map (λ one. one.epoch) epoch_status) own) ∙ first_of_one epoch.epoch_status.own (own_rows (statuses_of events)) holds.epoch_status.own) in
    let other = first_of_one epoch.epoch_status.other (other_rows (statuses_of events)) holds.epoch_status.other in
    ap (λ (e : Epoch). record { server = server; epoch = e; reflected = option_map (λ epoch_status. epoch_status.epoch) epoch.epoch_status.other; tables = named_tables epoch; changes = epoch.changes.items }) first
    ∙ ap (λ (r : Option Epoch). record { server = server; epoch = unwrap_or (first_epoch_of (own_rows (statuses_of events))) (record { 0 = 0 }); reflected = r; tables = named_tables epoch; changes = epoch.changes.items }) other
    ∙ ap (λ (t : List Mapped). record { server = server; epoch = unwrap_or (first_epoch_of (own_rows (statuses_of events))) (record { 0 = 0 }); reflected = first_epoch_of (other_rows (statuses_of events)); tables = t; changes = epoch.changes.items }) (tables_are epoch events holds)
    ∙ ap (λ (c : List Change). record { server = server; epoch = unwrap_or (first_epoch_of (own_rows (statuses_of events))) (record { 0 = 0 }); reflected = first_epoch_of (other_rows (statuses_of events)); tables = tables_read events (changes_read events); changes = c }) holds.changes

pub ends_taken : (current after : Option OpenEpoch) (epoch : OpenEpoch) (at end server : ℕ) (known : List Known) (own : Epoch) (tables : List Mapped) (body : EpochBody) → current ≡ Some epoch → after ≡ None → IsOpen current (open_epoch known) →
    Closes epoch at server (Ok (own, tables)) → body ≡ record { server = server; epoch = own; reflected = option_map (λ epoch_status. epoch_status.epoch) epoch.epoch_status.other; tables = tables; changes = epoch.changes.items } →
    IsTaken after end server (steps.Epoch body end ∷ []) known Ends
unfolding open_epoch
ends_taken current after epoch at end server known own tables body is none held (row, mine, serves, first, named) made =
    go (open_epoch known) (opened current epoch (open_epoch known) is held)
  where
    event : Known
    event = record { end = end; server = server; says = Ends }

    go : (events : Option (List Known)) → IsOpen (Some epoch) events →
        (list_any (λ epoch_status. epoch_status.server == server) (own_rows (option_map_or statuses_of events [])) ≡ true) × IsOpen after None × (steps.Epoch body end ∷ [] ≡ option_map_or (λ inner. steps.Epoch (body_read inner server) end ∷ []) events [])
    go None holds = absurd holds
    go (Some inner) holds =
        let rows : row ∷ [] ≡ own_rows (statuses_of inner) = sym (ap option_to_list mine) ∙ holds.epoch_status.own in (
          ap (λ (all : List StatusRow). list_any (λ epoch_status. epoch_status.server == server) all) (sym rows) ∙ ap (λ (b : Bool). b || false) (let same : (row.server == server) ≡ true = grind (arith, nat_tests) in same),
          subst (λ (o : Option OpenEpoch). IsOpen o None) (sym none) tt,
          ap (λ (b : EpochBody). steps.Epoch b end ∷ []) (made
              ∙ ap (λ (e : Epoch). record { server = server; epoch = e; reflected = option_map (λ epoch_status. epoch_status.epoch) epoch.epoch_status.other; tables = tables; changes = epoch.changes.items }) first
              ∙ ap (λ (t : List Mapped). record { server = server; epoch = row.epoch; reflected = option_map (λ epoch_status. epoch_status.epoch) epoch.epoch_status.other; tables = t; changes = epoch.changes.items }) named
              ∙ body_is epoch inner server row holds mine),
        )
