-- The index rows of a log: their epochs, and the room for their numbers.
use Rattle.std.proofs.Common.{◌≡◌, ℕ, ◌+◌, ◌<◌, ◌≤◌, List, [], ◌∷◌, ◌++◌, length, get_or, map, fold, refl, ap, sym, subst, ◌∙◌, arith, length-append, append_assoc, append-nil}
use Rattle.std.proofs.lemmas.List.{get_or-map, length-map}
use Rattle.std.proofs.lemmas.List.Elements.{All-append, All-cons, All-tail}
use Rattle.std.proofs.lemmas.Bool.{leb-false}
use Rattle.std.proofs.lemmas.List.Sums.{count_by-le-length}
use Rattle.std.proofs.Math.Nat.{div-lt_iff_lt-mul}
use Rattle.std.specs.Prelude.{Bool, true, false, nat_le, if◌then◌else◌, All, None, count_by}
use Rattle.std.specs.List.Sorted.{IsNonDecreasingBy}
use Rattle.rb_base.specs.Site.{server_of}
use Rattle.rb_base.specs.declared.site.SiteId.{SiteId}
use Rattle.rb_base.specs.declared.site.SiteId.TheVariants.{A, B}
use Rattle.rb_base.specs.declared.body.EpochBody.{EpochBody}
use Rattle.rb_base.specs.declared.body.IndexRow.{IndexRow}
use Rattle.rb_log_defs.specs.Epoch.{epoch_bytes}
use Rattle.rb_log_defs.specs.File.{file_start, Binlog, new_binlog, rotated, rotated_at, with_epoch, binlog_of, index_rows}
use Rattle.rb_log_defs.specs.Index.{index_row, is_insert, is_update, is_remove}
use Rattle.rb_log_defs.proofs.Sizes.{epoch_same_length, format_length}
use Rattle.rb_device_defs.specs.Index.{HasRoom, NeverFall}
use Rattle.rb_device_defs.specs.Image.{HasRoomInLog}

-- one more epoch at the end of the last file, before any rotation
abbrev pub unrotated : SiteId → Binlog → EpochBody → Binlog
unrotated site log body = record {
  closed = log.closed;
  last = log.last ++ epoch_bytes body (length log.last);
  rows = log.rows ++ index_row site (length log.closed + 1) (length log.last) (length log.last + length (epoch_bytes body (length log.last))) body ∷ [];
}

pub with_epoch_is : (site : SiteId) (limit : ℕ) (log : Binlog) (body : EpochBody) → with_epoch site limit log body ≡ rotated_at site limit (unrotated site log body)
with_epoch_is site limit log body = refl

-- a rotation leaves the index rows unchanged
rows_chosen : (site : SiteId) (log : Binlog) (full : Bool) → (if full then record log { closed = log.closed ++ rotated site (length log.closed + 1) log.last ∷ []; last = file_start site } else log).rows ≡ log.rows
rows_chosen site log true = refl
rows_chosen site log false = refl

pub rotated_rows : (site : SiteId) (limit : ℕ) (log : Binlog) → (rotated_at site limit log).rows ≡ log.rows
rotated_rows site limit log = rows_chosen site log (nat_le limit (length log.last))

-- the epochs of rows
abbrev epochs_in : List IndexRow → List ℕ
epochs_in rows = map (λ row. row.epoch.0) rows

epochs_more : (rows : List IndexRow) (row : IndexRow) → epochs_in (rows ++ row ∷ []) ≡ epochs_in rows ++ row.epoch.0 ∷ []
epochs_more [] row = refl
epochs_more (first ∷ rows) row = ap (λ (epochs : List ℕ). first.epoch.0 ∷ epochs) (epochs_more rows row)

epochs_after : (site : SiteId) (limit : ℕ) (bodies : List EpochBody) (log : Binlog) → epochs_in (fold (with_epoch site limit) log bodies).rows ≡ epochs_in log.rows ++ map (λ body. body.epoch.0) bodies
epochs_after site limit [] log = sym (append-nil (epochs_in log.rows))
epochs_after site limit (body ∷ bodies) log =
    epochs_after site limit bodies (with_epoch site limit log body)
    ∙ ap (λ (rows : List IndexRow). epochs_in rows ++ map (λ b. b.epoch.0) bodies) (rotated_rows site limit (unrotated site log body))
    ∙ ap (λ (epochs : List ℕ). epochs ++ map (λ b. b.epoch.0) bodies) (epochs_more log.rows (index_row site (length log.closed + 1) (length log.last) (length log.last + length (epoch_bytes body (length log.last))) body))
    ∙ append_assoc (epochs_in log.rows) (body.epoch.0 ∷ []) (map (λ b. b.epoch.0) bodies)

-- each row has the epoch of its body
pub row_epochs : (site : SiteId) (limit : ℕ) (bodies : List EpochBody) → map (λ row. row.epoch.0) (index_rows site limit bodies) ≡ map (λ body. body.epoch.0) bodies
unfolding binlog_of
row_epochs site limit bodies = epochs_after site limit bodies (new_binlog site)

-- if two lists have the same numbers and those of one never fall, neither do those of the other
pub never_fall_by : {X Y : Type 0} (n : X → ℕ) (m : Y → ℕ) (xs : List X) (ys : List Y) (d : X) → map m ys ≡ map n xs → IsNonDecreasingBy n xs → IsNonDecreasingBy m ys
never_fall_by {X} {Y} n m xs ys d same order i j e up within =
    let long : length ys ≡ length xs = sym (length-map ys m) ∙ ap length same ∙ length-map xs n in
    let read : (k : ℕ) → k < length ys → m (get_or ys k e) ≡ n (get_or xs k d) = λ k below. sym (get_or-map m ys k e 0 below) ∙ ap (λ (numbers : List ℕ). get_or numbers k 0) same ∙ get_or-map n xs k d 0 (omega (arith, long, below)) in
    let lower : n (get_or xs i d) ≤ n (get_or xs j d) = order i j d up (omega (arith, long, within)) in
    omega (arith, read i (omega (arith, up, within)), read j within, lower)

-- if the epochs of bodies never fall, neither do those of their index rows
pub rows_never_fall : (site : SiteId) (limit : ℕ) (bodies : List EpochBody) → IsNonDecreasingBy (λ body. body.epoch.0) bodies → NeverFall (index_rows site limit bodies)
rows_never_fall site limit [] order = never_fall_by {X = EpochBody} {Y = IndexRow} (λ body. body.epoch.0) (λ row. row.epoch.0) [] (index_rows site limit []) no_body (row_epochs site limit []) order
  where
    no_body : EpochBody
    no_body = record { server = 0; epoch = record { 0 = 0 }; reflected = None; tables = []; changes = [] }
rows_never_fall site limit (body ∷ bodies) order = never_fall_by {X = EpochBody} {Y = IndexRow} (λ b. b.epoch.0) (λ row. row.epoch.0) (body ∷ bodies) (index_rows site limit (body ∷ bodies)) body (row_epochs site limit (body ∷ bodies)) order

-- the length of the start of a file
pub start_length : (site : SiteId) → length (file_start site) ≡ 115
unfolding file_start
start_length site = omega (arith, format_length (server_of site) 4)

-- after a rotation the last file is below the limit
last_chosen : (site : SiteId) (limit : ℕ) (log : Binlog) (full : Bool) → length (file_start site) < limit → nat_le limit (length log.last) ≡ full → length (if full then record log { closed = log.closed ++ rotated site (length log.closed + 1) log.last ∷ []; last = file_start site } else log).last < limit
last_chosen site limit log true short is = short
last_chosen site limit log false short is = leb-false limit (length log.last) is

pub rotated_below : (site : SiteId) (limit : ℕ) (log : Binlog) → length (file_start site) < limit → length (rotated_at site limit log).last < limit
rotated_below site limit log short = last_chosen site limit log (nat_le limit (length log.last)) short refl

-- files are only added
closed_chosen : (site : SiteId) (log : Binlog) (full : Bool) → length log.closed ≤ length (if full then record log { closed = log.closed ++ rotated site (length log.closed + 1) log.last ∷ []; last = file_start site } else log).closed
closed_chosen site log true = omega (arith, length-append log.closed (rotated site (length log.closed + 1) log.last ∷ []))
closed_chosen site log false = omega arith

closed_grow : (site : SiteId) (limit : ℕ) (bodies : List EpochBody) (log : Binlog) → length log.closed ≤ length (fold (with_epoch site limit) log bodies).closed
closed_grow site limit [] log = omega arith
closed_grow site limit (body ∷ bodies) log = omega (arith, closed_chosen site (unrotated site log body) (nat_le limit (length (unrotated site log body).last)), closed_grow site limit bodies (with_epoch site limit log body))

server_small : (site : SiteId) → server_of site < 4294967296
server_small A = omega arith
server_small B = omega arith

-- the index row of an epoch has room if the epoch starts early enough in its file
row_has_room : (site : SiteId) (file start : ℕ) (body : EpochBody) → HasRoomInLog body → file < 4294967296 → start ≤ 67108864 → HasRoom (index_row site file start (start + length (epoch_bytes body start)) body)
row_has_room site file start body room few short =
    let size : length (epoch_bytes body start) ≤ 2147483647 = omega (arith, epoch_same_length body start 0, room.small) in
    let counted : (p : Rattle.rb_base.specs.declared.change.Change.Change → Bool) → count_by p body.changes < 4294967296 = λ p. omega (arith, count_by-le-length p body.changes, room.few) in
    record {
      epoch = room.epoch;
      orig_epoch = room.epoch;
      position = omega (arith, short);
      next_position = omega (arith, short, size);
      file = few;
      next_file = few;
      inserts = counted (λ change. is_insert change.kind);
      updates = counted (λ change. is_update change.kind);
      deletes = counted (λ change. is_remove change.kind);
      schemaops = omega arith;
      orig_server_id = server_small site;
      gci = (div-lt_iff_lt-mul {k = 4294967296} {x = body.epoch.0} {y = 4294967296} (omega arith)).1 room.epoch;
    }

rows_after_have_room : (site : SiteId) (limit : ℕ) (bodies : List EpochBody) (log : Binlog) → length (file_start site) < limit → limit ≤ 67108864 → All HasRoomInLog bodies → length log.last < limit → All HasRoom log.rows → length (fold (with_epoch site limit) log bodies).closed + 1 < 4294967296 → All HasRoom (fold (with_epoch site limit) log bodies).rows
rows_after_have_room site limit [] log short most room below earlier few = earlier
rows_after_have_room site limit (body ∷ bodies) log short most room below earlier few =
    rows_after_have_room site limit bodies (with_epoch site limit log body) short most (All-tail HasRoomInLog body bodies room)
    (rotated_below site limit (unrotated site log body) short)
    (let row : IndexRow = index_row site (length log.closed + 1) (length log.last) (length log.last + length (epoch_bytes body (length log.last))) body in
    let here : HasRoom row = row_has_room site (length log.closed + 1) (length log.last) body (room 0 body (omega arith)) (omega (arith, few, closed_grow site limit (body ∷ bodies) log)) (omega (arith, below, most)) in
    subst (All HasRoom) (sym (rotated_rows site limit (unrotated site log body)))
    (All-append HasRoom log.rows (row ∷ []) earlier (All-cons HasRoom row [] here (λ k d below. absurd (omega (arith, below))))))
    few

-- the index rows of a log have room
pub rows_have_room : (site : SiteId) (limit : ℕ) (bodies : List EpochBody) → 512 ≤ limit → limit ≤ 67108864 → All HasRoomInLog bodies → length (binlog_of site limit bodies).closed + 1 < 4294967296 → All HasRoom (index_rows site limit bodies)
unfolding binlog_of
rows_have_room site limit bodies least most room few =
    rows_after_have_room site limit bodies (new_binlog site) (omega (arith, start_length site, least)) most room (omega (arith, start_length site, least)) (λ k d below. absurd (omega (arith, below))) few

-- the last file of a log is below the limit
last_after_below : (site : SiteId) (limit : ℕ) (bodies : List EpochBody) (log : Binlog) → length (file_start site) < limit → length log.last < limit → length (fold (with_epoch site limit) log bodies).last < limit
last_after_below site limit [] log short below = below
last_after_below site limit (body ∷ bodies) log short below = last_after_below site limit bodies (with_epoch site limit log body) short (rotated_below site limit (unrotated site log body) short)

pub last_below : (site : SiteId) (limit : ℕ) (bodies : List EpochBody) → 512 ≤ limit → length (binlog_of site limit bodies).last < limit
unfolding binlog_of
last_below site limit bodies least = last_after_below site limit bodies (new_binlog site) (omega (arith, start_length site, least)) (omega (arith, start_length site, least))

-- at most one more file is full
pub full_chosen : (site : SiteId) (log : Binlog) (full : Bool) → length (if full then record log { closed = log.closed ++ rotated site (length log.closed + 1) log.last ∷ []; last = file_start site } else log).closed ≤ length log.closed + 1
full_chosen site log true = omega (arith, length-append log.closed (rotated site (length log.closed + 1) log.last ∷ []))
full_chosen site log false = omega arith

-- there are at most as many full files as bodies
full_after : (site : SiteId) (limit : ℕ) (bodies : List EpochBody) (log : Binlog) → length (fold (with_epoch site limit) log bodies).closed ≤ length log.closed + length bodies
full_after site limit [] log = omega arith
full_after site limit (body ∷ bodies) log = omega (arith, full_chosen site (unrotated site log body) (nat_le limit (length (unrotated site log body).last)), full_after site limit bodies (with_epoch site limit log body))

pub few_full : (site : SiteId) (limit : ℕ) (bodies : List EpochBody) → length (binlog_of site limit bodies).closed ≤ length bodies
unfolding binlog_of
few_full site limit bodies = omega (arith, full_after site limit bodies (new_binlog site))
