-- The logs that the tests write and recover.
use Rattle.std.proofs.Common.{◌≡◌, inl, inr, ℕ, ◌<◌, ◌≤◌, List, [], ◌∷◌, ◌++◌, length, refl, ap, sym, subst, ◌∙◌, arith, Bool}
use Rattle.std.specs.Prelude.{All, Option, None, IfSome, Result, Ok, Err, IfOk, OnErr}
use Rattle.std.specs.List.{last_or}
use Rattle.std.specs.Option.{option_map_or}
use Rattle.std.proofs.lemmas.List.Elements.{All-nil, All-cons}
use Rattle.std.proofs.lemmas.List.Sorted.{IsNonDecreasingBy-short, IsNonDecreasingBy-push}
use Rattle.rb_base.specs.Length.{length_bytes}
use Rattle.rb_base.specs.declared.site.SiteId.TheVariants.{A}
use Rattle.rb_base.specs.declared.schema.Mapped.{Mapped}
use Rattle.rb_base.specs.declared.change.Change.{Change}
use Rattle.rb_base.specs.declared.body.EpochBody.{EpochBody}
use Rattle.rb_base.specs.declared.body.IndexRow.{IndexRow}
use Rattle.rb_log_defs.specs.Event.{header_bytes, event_bytes, query_payload, xid_payload}
use Rattle.rb_log_defs.specs.Table.{table_map_payload, columns_of}
use Rattle.rb_log_defs.specs.Rows.{text_bytes, row_image, rows_payload, change_payload, status_payload}
use Rattle.rb_log_defs.specs.Epoch.{epoch_bytes}
use Rattle.rb_log_defs.specs.File.{index_rows}
use Rattle.rb_log_defs.specs.Fits.{CanBeMapped, CanBeWritten, Fits}
use Rattle.rb_log_defs.specs.Worked.{table_t, insert, first_path, epoch_of_inserts}
use Rattle.rb_device_defs.specs.Image.{IsLogImage, HasRoomInLog, CanBeLogged}
use Rattle.rb_device_defs.specs.Index.{last_epoch_of}
use Rattle.rb_device_defs.proofs.RowLaws.{few_full}
use Rattle.rb_device_defs.proofs.ImageLaws.{last_row, whole_is_image}
use Rattle.rb_disk.specs.declared.fault.DiskLogFault.{DiskLogFault}
use Rattle.rb_message_defs.specs.declared.answers.Assembled.{Assembled}
use Rattle.rb_inject.specs.Body.{body_of_assembled}
use Rattle.rb_inject.specs.Injector.{LogSetup, StandsFor, CanBeRecovered, LeavesImage, written_of, last_file_of, body_for, bodies_with}
use Rattle.rb_inject.specs.declared.injector.Injector.{Injector}
use Rattle.rb_inject.specs.declared.fault.InjectFault.{InjectFault}
use Rattle.rb_inject.proofs.LogLaws.{new_log, body_is}

-- the last epoch of a log without one, and of a log with one
pub none_written : (injector : Injector) (setup : LogSetup) (seen : ℕ → List ℕ) → StandsFor injector setup [] seen → written_of injector ≡ 0
none_written injector setup seen stands = ap last_epoch_of (stands.rows ∙ (new_log setup.site setup.limit).1)

pub one_written : (injector : Injector) (setup : LogSetup) (body : EpochBody) (seen : ℕ → List ℕ) → StandsFor injector setup (body ∷ []) seen → written_of injector ≡ body.epoch.0
one_written injector setup body seen stands =
    ap last_epoch_of stands.rows ∙ ap (λ (row : Option IndexRow). option_map_or (λ r. r.epoch.0) row 0) (last_row setup.site setup.limit [] body)

-- a log of few epochs has few files
pub few_there : (injector : Injector) (setup : LogSetup) (bodies : List EpochBody) (seen : ℕ → List ℕ) → StandsFor injector setup bodies seen → length bodies < 3 → last_file_of injector < 4294967294
few_there injector setup bodies seen stands few = omega (arith, stands.files.number_is, few_full setup.site setup.limit bodies, few)

-- what it logs can be written if this body can
pub writable_as : (injector : Injector) (setup : LogSetup) (bodies : List EpochBody) (seen : ℕ → List ℕ) (assembled : Assembled) (body : EpochBody) → StandsFor injector setup bodies seen → body_of_assembled setup.site setup.tables assembled ≡ body → CanBeWritten body → CanBeWritten (body_for injector assembled)
writable_as injector setup bodies seen assembled body stands is can = subst CanBeWritten (sym (body_is injector setup bodies seen assembled (body_for injector assembled) stands refl ∙ is)) can

-- table t can be mapped, and an insert fits it
t_can_be_mapped : All CanBeMapped (table_t ∷ [])
t_can_be_mapped = All-cons CanBeMapped table_t [] (record { schema = omega arith; name = omega arith; some = omega arith; few = omega arith }) (All-nil CanBeMapped)

abbrev pub IsMapped : Change → Type 0
IsMapped change = (0 < length (columns_of (table_t ∷ []) change.table)) × (length (columns_of (table_t ∷ []) change.table) ≤ 64)

abbrev pub FitsTable : Change → Type 0
FitsTable change = Fits (columns_of (table_t ∷ []) change.table) change

insert_fits : (key value transid : ℕ) → FitsTable (insert key value transid)
insert_fits key value transid = (refl, (tt, (tt, tt)))

pub one_fits : (epoch key value transid : ℕ) → CanBeWritten (epoch_of_inserts epoch (insert key value transid ∷ []))
one_fits epoch key value transid = record {
  tables = t_can_be_mapped;
  fit = All-cons FitsTable (insert key value transid) [] (insert_fits key value transid) (All-nil FitsTable);
  mapped = All-cons IsMapped (insert key value transid) [] (omega arith, omega arith) (All-nil IsMapped);
}

pub two_fit : CanBeWritten first_path
two_fit = record {
  tables = t_can_be_mapped;
  fit = All-cons FitsTable (insert 5 7 1) (insert 6 8 2 ∷ []) (insert_fits 5 7 1) (All-cons FitsTable (insert 6 8 2) [] (insert_fits 6 8 2) (All-nil FitsTable));
  mapped = All-cons IsMapped (insert 5 7 1) (insert 6 8 2 ∷ []) (omega arith, omega arith) (All-cons IsMapped (insert 6 8 2) [] (omega arith, omega arith) (All-nil IsMapped));
}

-- the log that is recovered: two epochs of one insert, the second of which may be there
abbrev pub opened_setup : LogSetup
opened_setup = record { site = A; limit = 512; tables = table_t ∷ [] }

abbrev pub first : EpochBody
first = epoch_of_inserts 4294967296 (insert 1 1 1 ∷ [])

abbrev pub second : EpochBody
second = epoch_of_inserts 8589934593 (insert 2 2 2 ∷ [])

size_of_first : length (epoch_bytes first 0) ≡ 284
unfolding event_bytes header_bytes query_payload xid_payload table_map_payload text_bytes row_image rows_payload change_payload status_payload epoch_bytes length_bytes
size_of_first = refl

size_of_second : length (epoch_bytes second 0) ≡ 284
unfolding event_bytes header_bytes query_payload xid_payload table_map_payload text_bytes row_image rows_payload change_payload status_payload epoch_bytes length_bytes
size_of_second = refl

first_has_room : HasRoomInLog first
first_has_room = record { written = one_fits 4294967296 1 1 1; small = omega (arith, size_of_first); few = omega arith; epoch = omega arith }

second_has_room : HasRoomInLog second
second_has_room = record { written = one_fits 8589934593 2 2 2; small = omega (arith, size_of_second); few = omega arith; epoch = omega arith }

one_logged : CanBeLogged (first ∷ [])
one_logged = record {
  room = All-cons HasRoomInLog first [] first_has_room (All-nil HasRoomInLog);
  in_order = IsNonDecreasingBy-short (λ body. body.epoch.0) (first ∷ []) (omega arith);
}

two_logged : CanBeLogged (first ∷ second ∷ [])
two_logged = record {
  room = All-cons HasRoomInLog first (second ∷ []) first_has_room (All-cons HasRoomInLog second [] second_has_room (All-nil HasRoomInLog));
  in_order = IsNonDecreasingBy-push (λ body. body.epoch.0) (first ∷ []) second one_logged.in_order (λ d some. omega arith);
}

-- the last row of a log of few epochs is of a file with a small number
few_of : (earlier : List EpochBody) (body : EpochBody) → length earlier < 3 → IfSome (last_or None (index_rows A 512 (earlier ++ body ∷ []))) (λ row. row.file < 4294967294)
few_of earlier body few = subst (λ (row : Option IndexRow). IfSome row (λ r. r.file < 4294967294)) (sym (last_row A 512 earlier body)) (omega (arith, few_full A 512 earlier, few))

abbrev pub CanOpen : (seen : ℕ → List ℕ) → Type 0
CanOpen seen = (bodies : List EpochBody) × CanBeRecovered opened_setup bodies seen

none_logged : CanBeLogged []
none_logged = record { room = All-nil HasRoomInLog; in_order = IsNonDecreasingBy-short (λ (body : EpochBody). body.epoch.0) [] (omega arith) }

pub none_opens : (seen : ℕ → List ℕ) → IsLogImage A 512 [] seen → CanOpen seen
none_opens seen image = (
  [],
  record {
    image = image;
    logged = none_logged;
    few = subst (λ (rows : List IndexRow). IfSome (last_or None rows) (λ row. row.file < 4294967294)) (sym (new_log A 512).1) tt;
  },
)

one_opens : (seen : ℕ → List ℕ) → IsLogImage A 512 (first ∷ []) seen → CanOpen seen
one_opens seen image = (first ∷ [], record { image = image; logged = one_logged; few = few_of [] first (omega arith) })

two_open : (seen : ℕ → List ℕ) → IsLogImage A 512 (first ∷ second ∷ []) seen → CanOpen seen
two_open seen image = (first ∷ second ∷ [], record { image = image; logged = two_logged; few = few_of (first ∷ []) second (omega arith) })

perhaps_two : (seen : ℕ → List ℕ) → LeavesImage opened_setup (first ∷ []) second seen → CanOpen seen
perhaps_two seen (inl one) = one_opens seen one
perhaps_two seen (inr two) = two_open seen two.1

-- what a call leaves that was to log the second, whether it did or failed
pub left_by : (injector : Injector) (assembled : Assembled) (result : Result (Injector × Bool) InjectFault) (old new : ℕ → List ℕ) → StandsFor injector opened_setup (first ∷ []) old → body_of_assembled A (table_t ∷ []) assembled ≡ second → IfOk result (λ pair. (setup : LogSetup) (bodies : List EpochBody) → StandsFor injector setup bodies old → StandsFor pair.0 setup (bodies_with bodies (body_of_assembled setup.site setup.tables assembled)) new) → OnErr result ((setup : LogSetup) (bodies : List EpochBody) → StandsFor injector setup bodies old → LeavesImage setup bodies (body_of_assembled setup.site setup.tables assembled) new) → CanOpen new
left_by injector assembled (Ok pair) old new stands is taken stopped =
    two_open new (whole_is_image A 512 (first ∷ second ∷ []) new (subst (λ (body : EpochBody). StandsFor pair.0 opened_setup (bodies_with (first ∷ []) body) new) is (taken opened_setup (first ∷ []) stands)).held)
left_by injector assembled (Err fault) old new stands is taken stopped =
    perhaps_two new (subst (λ (body : EpochBody). LeavesImage opened_setup (first ∷ []) body new) is (stopped opened_setup (first ∷ []) stands))

-- a log of site A with files of 512 bytes, for these tables
abbrev setup_with : List Mapped → LogSetup
setup_with tables = record { site = A; limit = 512; tables = tables }

-- an opening did its work, and it failed
abbrev Opened : List Mapped → Result Injector DiskLogFault → (old new : ℕ → List ℕ) → Type 0
Opened tables result old new = IfOk result (λ injector. (bodies : List EpochBody) → CanBeRecovered (setup_with tables) bodies old → StandsFor injector (setup_with tables) bodies new)

abbrev Kept : List Mapped → Result Injector DiskLogFault → (old new : ℕ → List ℕ) → Type 0
Kept tables result old new = OnErr result ((bodies : List EpochBody) → CanBeRecovered (setup_with tables) bodies old → IsLogImage A 512 bodies new)

-- what it leaves, whether it did or failed
pub left_open : (tables : List Mapped) (result : Result Injector DiskLogFault) (old new : ℕ → List ℕ) → tables ≡ table_t ∷ [] → CanOpen old → Opened tables result old new → Kept tables result old new → CanOpen new
left_open tables result old new is can opened kept =
    go result can (subst (λ (ts : List Mapped). Opened ts result old new) is opened) (subst (λ (ts : List Mapped). Kept ts result old new) is kept)
  where
    go : (result : Result Injector DiskLogFault) → CanOpen old → Opened (table_t ∷ []) result old new → Kept (table_t ∷ []) result old new → CanOpen new
    go (Ok injector) (bodies, can) opened kept = (bodies, record { image = whole_is_image A 512 bodies new (opened bodies can).held; logged = can.logged; few = can.few })
    go (Err fault) (bodies, can) opened kept = (bodies, record { image = kept bodies can; logged = can.logged; few = can.few })

-- a log of one epoch after the call that logged it
pub first_logged : (injector next : Injector) (assembled : Assembled) (old new : ℕ → List ℕ) → StandsFor injector opened_setup [] old → body_of_assembled A (table_t ∷ []) assembled ≡ first → ((setup : LogSetup) (bodies : List EpochBody) → StandsFor injector setup bodies old → StandsFor next setup (bodies_with bodies (body_of_assembled setup.site setup.tables assembled)) new) → StandsFor next opened_setup (first ∷ []) new
first_logged injector next assembled old new stands is taken = subst (λ (body : EpochBody). StandsFor next opened_setup (bodies_with [] body) new) is (taken opened_setup [] stands)

-- what a call that was to log the first epoch leaves if it failed
perhaps_one : (seen : ℕ → List ℕ) → LeavesImage opened_setup [] first seen → CanOpen seen
perhaps_one seen (inl none) = none_opens seen none
perhaps_one seen (inr one) = one_opens seen one.1

pub left_by_first : (injector : Injector) (assembled : Assembled) (old new : ℕ → List ℕ) → StandsFor injector opened_setup [] old → body_of_assembled A (table_t ∷ []) assembled ≡ first → ((setup : LogSetup) (bodies : List EpochBody) → StandsFor injector setup bodies old → LeavesImage setup bodies (body_of_assembled setup.site setup.tables assembled) new) → CanOpen new
left_by_first injector assembled old new stands is stopped = perhaps_one new (subst (λ (body : EpochBody). LeavesImage opened_setup [] body new) is (stopped opened_setup [] stands))
