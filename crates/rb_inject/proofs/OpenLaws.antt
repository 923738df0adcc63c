-- How a log is recovered.
use Rattle.std.proofs.Common.{◌≡◌, ℕ, ◌+◌, ◌-◌, ◌<◌, ◌≤◌, List, [], ◌∷◌, ◌++◌, length, take, get_or, refl, ap, sym, subst, ◌∙◌, inl, inr, arith, length-append, zero, suc}
use Rattle.std.specs.Prelude.{◌⊎◌, Option, Some, None, IfSome, nat_le, All}
use Rattle.std.specs.List.{last_or}
use Rattle.std.proofs.lemmas.List.{length-take}
use Rattle.std.proofs.Math.Seq.{get_or-append_seam}
use Rattle.rb_base.specs.declared.site.SiteId.{SiteId}
use Rattle.rb_base.specs.declared.body.EpochBody.{EpochBody}
use Rattle.rb_base.specs.declared.body.IndexRow.{IndexRow}
use Rattle.rb_log_defs.specs.Epoch.{epoch_bytes}
use Rattle.rb_log_defs.specs.File.{Binlog, files_in, new_binlog, rotated_at, binlog_of, binlog_files, index_rows}
use Rattle.rb_log_defs.proofs.Sizes.{epoch_same_length}
use Rattle.rb_device_defs.specs.Files.{file_at, HoldsPrefix}
use Rattle.rb_device_defs.specs.Index.{HasRoom}
use Rattle.rb_device_defs.specs.Image.{HoldsUpTo, IsLogImage, HasRoomInLog, CanBeLogged}
use Rattle.rb_device_defs.proofs.PrefixLaws.{HoldsToEnd, after_front, to_end_when_rotated}
use Rattle.rb_device_defs.proofs.RowLaws.{unrotated, last_below, full_chosen, few_full, rows_have_room}
use Rattle.rb_device_defs.proofs.ImageLaws.{row_of, last_row, last_body, up_to_epoch, epoch_up_to, binlog_with}
use Rattle.rb_binlog.specs.Binlog as binlog
use Rattle.rb_binlog.specs.declared.binlog.BinlogFiles.{BinlogFiles}
use Rattle.rb_inject.specs.Injector.{IsLimit, HoldsBinlogTo}
use Rattle.rb_inject.proofs.LogLaws.{SameBinlog}

-- what holds of all holds of the last one
All-last : (P : EpochBody → Type 0) (earlier : List EpochBody) (body : EpochBody) → All P (earlier ++ body ∷ []) → P body
All-last P earlier body all = subst P (get_or-append_seam earlier body [] body) (all (length earlier) body (omega (arith, length-append earlier (body ∷ []))))

-- files of which the first is empty are all empty
only_empty : (k : ℕ) → get_or {A = List ℕ} ([] ∷ []) k [] ≡ []
only_empty zero = refl
only_empty (suc k) = refl

-- a binlog of an empty file
abbrev pub no_file : Binlog
no_file = record { closed = []; last = []; rows = [] }

pub none_there : (files : BinlogFiles) (site : SiteId) (seen : ℕ → List ℕ) → binlog.StandsFor files site no_file seen → (number : ℕ) → 1 ≤ number → seen number ≡ []
none_there files site seen stands number some = stands.held number some ∙ only_empty (number - 1)

-- nothing of it has to be there
pub prefix_of_none : (seen : ℕ → List ℕ) → HoldsPrefix 1 0 ([] ∷ []) seen
prefix_of_none seen = record { before = λ earlier some below. absurd (omega (arith, some, below)); front = refl }

-- what the row at the end of a log says of the log that is recovered
pub record Opens (site : SiteId) (limit : ℕ) (row : IndexRow) (bodies : List EpochBody) (seen : ℕ → List ℕ) : Type 0 where
  pub earlier : List EpochBody
  pub body : EpochBody
  pub is : bodies ≡ earlier ++ body ∷ []
  pub number : row.next_file ≡ length (binlog_of site limit earlier).closed + 1
  pub position : row.next_position ≡ length (unrotated site (binlog_of site limit earlier) body).last
  pub front : HoldsPrefix row.next_file row.next_position (files_in (unrotated site (binlog_of site limit earlier) body)) seen
  pub few : row.next_file < 4294967294
  pub fits : row.next_position ≤ 2214592511
  pub within : row.next_position ≤ length (seen row.next_file)

-- the length of a file that has this prefix
long_enough : (position : ℕ) (file whole : List ℕ) → take position file ≡ take position whole → position ≤ length whole → position ≤ length file
long_enough position file whole same within = omega (arith, length-take position file, length-take position whole, ap length same)

-- some row is no row of a log without bodies
no_row : (site : SiteId) (limit : ℕ) → last_or None (index_rows site limit []) ≡ None
unfolding binlog_of
no_row site limit = refl

some_is : (a b : IndexRow) → Some a ≡ Some b → a ≡ b
some_is a b same = cc

pub opens : (site : SiteId) (limit : ℕ) (last : Option IndexRow) (row : IndexRow) (bodies : List EpochBody) (seen : ℕ → List ℕ) → IsLimit limit → last ≡ Some row → HoldsBinlogTo site limit last bodies seen → Opens site limit row bodies seen
opens site limit last row bodies seen legal some held = go (last_body bodies)
  where
    go : (bodies ≡ []) ⊎ ((earlier : List EpochBody) × (body : EpochBody) × (bodies ≡ earlier ++ body ∷ [])) → Opens site limit row bodies seen
    go (inl none) =
        let nothing : Some row ≡ None = sym some ∙ held.last_is ∙ ap (λ (b : List EpochBody). last_or None (index_rows site limit b)) none ∙ no_row site limit in
        absurd cc
    go (inr (earlier, body, is)) =
        let log : Binlog = binlog_of site limit earlier in
        let next : Binlog = unrotated site log body in
        let row_is : row ≡ row_of site log body = some_is row (row_of site log body) (sym some ∙ held.last_is ∙ ap (λ (b : List EpochBody). last_or None (index_rows site limit b)) is ∙ last_row site limit earlier body) in
        let there : HoldsUpTo (last_or None (index_rows site limit (earlier ++ body ∷ []))) (binlog_files site limit (earlier ++ body ∷ [])) seen =
        subst (λ (b : List EpochBody). HoldsUpTo (last_or None (index_rows site limit b)) (binlog_files site limit b) seen) is (subst (λ (r : Option IndexRow). HoldsUpTo r (binlog_files site limit bodies) seen) held.last_is held.files) in
        let to_end : HoldsToEnd next (files_in next) seen = epoch_up_to site limit earlier body seen there in
        let number : row.next_file ≡ length log.closed + 1 = ap (λ (r : IndexRow). r.next_file) row_is in
        let position : row.next_position ≡ length next.last = ap (λ (r : IndexRow). r.next_position) row_is ∙ sym (length-append log.last (epoch_bytes body (length log.last))) in
        let here : HoldsPrefix row.next_file row.next_position (files_in next) seen = subst (λ (n : ℕ). HoldsPrefix n row.next_position (files_in next) seen) (sym number) (subst (λ (p : ℕ). HoldsPrefix (length log.closed + 1) p (files_in next) seen) (sym position) to_end) in
        let all : All HasRoomInLog (earlier ++ body ∷ []) = subst (All HasRoomInLog) is held.logged.room in
        let room : HasRoomInLog body = All-last HasRoomInLog earlier body all in
        let named : row.next_file ≡ row.file = ap (λ (r : IndexRow). r.next_file) row_is ∙ sym (ap (λ (r : IndexRow). r.file) row_is) in
        let few : row.file < 4294967294 = subst (λ (r : Option IndexRow). IfSome r (λ found. found.file < 4294967294)) some held.few in
        record {
          earlier = earlier;
          body = body;
          is = is;
          number = number;
          position = position;
          front = here;
          few = omega (arith, named, few);
          fits = omega (arith, position, length-append log.last (epoch_bytes body (length log.last)), epoch_same_length body (length log.last) 0, room.small, last_below site limit earlier legal.0, legal.1);
          within = long_enough row.next_position (seen row.next_file) (file_at (files_in next) row.next_file) here.front (omega (arith, position, ap length (ap (file_at (files_in next)) number ∙ after_front log.closed next.last [])));
        }

-- the binlog is open at the end of its last epoch, and rotated if it came to the limit
pub opened : (site : SiteId) (limit : ℕ) (row : IndexRow) (bodies : List EpochBody) (files : BinlogFiles) (old new : ℕ → List ℕ) (open_log : Opens site limit row bodies old) → binlog.StandsFor files site (rotated_at site limit (unrotated site (binlog_of site limit open_log.earlier) open_log.body)) new → binlog.StandsFor files site (binlog_of site limit bodies) new
opened site limit row bodies files old new open_log stands =
    subst (λ (b : List EpochBody). binlog.StandsFor files site (binlog_of site limit b) new) (sym open_log.is)
    (subst (λ (log : Binlog). binlog.StandsFor files site log new) (sym (binlog_with site limit open_log.earlier open_log.body)) stands)

-- a rotation that failed leaves it there
pub still_there : (site : SiteId) (limit : ℕ) (last : Option IndexRow) (row : IndexRow) (bodies : List EpochBody) (files : BinlogFiles) (old between new : ℕ → List ℕ) (open_log : Opens site limit row bodies old) → HoldsBinlogTo site limit last bodies old → binlog.StandsFor files site (unrotated site (binlog_of site limit open_log.earlier) open_log.body) between → HoldsPrefix (binlog.number_of files) (binlog.length_of files) (files_in (unrotated site (binlog_of site limit open_log.earlier) open_log.body)) new → HoldsUpTo last (binlog_files site limit bodies) new
still_there site limit last row bodies files old between new open_log held stands front =
    let next : Binlog = unrotated site (binlog_of site limit open_log.earlier) open_log.body in
    let to_end : HoldsToEnd next (files_in next) new = subst (λ (n : ℕ). HoldsPrefix n (length next.last) (files_in next) new) stands.number_is (subst (λ (p : ℕ). HoldsPrefix (binlog.number_of files) p (files_in next) new) stands.length_is front) in
    subst (λ (r : Option IndexRow). HoldsUpTo r (binlog_files site limit bodies) new) (sym held.last_is)
    (subst (λ (b : List EpochBody). HoldsUpTo (last_or None (index_rows site limit b)) (binlog_files site limit b) new) (sym open_log.is)
    (up_to_epoch site limit open_log.earlier open_log.body new (to_end_when_rotated site limit next new to_end)))

-- the index remains an image, and the binlog is unchanged
pub same_up_to : (site : SiteId) (limit : ℕ) (bodies : List EpochBody) (old new : ℕ → List ℕ) → SameBinlog old new → HoldsUpTo (last_or None (index_rows site limit bodies)) (binlog_files site limit bodies) old → HoldsUpTo (last_or None (index_rows site limit bodies)) (binlog_files site limit bodies) new
same_up_to site limit bodies old new same held = go (last_body bodies)
  where
    go : (bodies ≡ []) ⊎ ((earlier : List EpochBody) × (body : EpochBody) × (bodies ≡ earlier ++ body ∷ [])) → HoldsUpTo (last_or None (index_rows site limit bodies)) (binlog_files site limit bodies) new
    go (inl none) =
        let nothing : last_or None (index_rows site limit bodies) ≡ None = ap (λ (b : List EpochBody). last_or None (index_rows site limit b)) none ∙ no_row site limit in
        subst (λ (r : Option IndexRow). HoldsUpTo r (binlog_files site limit bodies) new) (sym nothing) tt
    go (inr (earlier, body, is)) =
        let row : IndexRow = row_of site (binlog_of site limit earlier) body in
        let last : last_or None (index_rows site limit bodies) ≡ Some row = ap (λ (b : List EpochBody). last_or None (index_rows site limit b)) is ∙ last_row site limit earlier body in
        let there : HoldsPrefix row.next_file row.next_position (binlog_files site limit bodies) old = subst (λ (r : Option IndexRow). HoldsUpTo r (binlog_files site limit bodies) old) last held in
        let moved : HoldsPrefix row.next_file row.next_position (binlog_files site limit bodies) new = record {
          before = λ number some below. same number (λ zero. omega (arith, zero, some)) ∙ there.before number some below;
          front = ap (take row.next_position) (same row.next_file (λ zero. omega (arith, zero))) ∙ there.front;
        } in
        subst (λ (r : Option IndexRow). HoldsUpTo r (binlog_files site limit bodies) new) (sym last) moved

-- there is room for the number of one more file than are full
pub closed_small : (site : SiteId) (limit : ℕ) (bodies : List EpochBody) → IfSome (last_or None (index_rows site limit bodies)) (λ row. row.file < 4294967294) → length (binlog_of site limit bodies).closed + 1 < 4294967296
closed_small site limit bodies few = go (last_body bodies)
  where
    go : (bodies ≡ []) ⊎ ((earlier : List EpochBody) × (body : EpochBody) × (bodies ≡ earlier ++ body ∷ [])) → length (binlog_of site limit bodies).closed + 1 < 4294967296
    go (inl none) = omega (arith, few_full site limit bodies, ap length none)
    go (inr (earlier, body, is)) =
        let next : Binlog = unrotated site (binlog_of site limit earlier) body in
        let last : last_or None (index_rows site limit bodies) ≡ Some (row_of site (binlog_of site limit earlier) body) = ap (λ (b : List EpochBody). last_or None (index_rows site limit b)) is ∙ last_row site limit earlier body in
        let below : length (binlog_of site limit earlier).closed + 1 < 4294967294 = subst (λ (r : Option IndexRow). IfSome r (λ row. row.file < 4294967294)) last few in
        let count : length (binlog_of site limit bodies).closed ≡ length (rotated_at site limit next).closed = ap (λ (b : List EpochBody). length (binlog_of site limit b).closed) is ∙ ap (λ (log : Binlog). length log.closed) (binlog_with site limit earlier body) in
        omega (arith, below, count, full_chosen site next (nat_le limit (length next.last)))

-- if there is no row, there is no body either, and the binlog is a new one
pub anew : (site : SiteId) (limit : ℕ) (last : Option IndexRow) (bodies : List EpochBody) (files : BinlogFiles) (old new : ℕ → List ℕ) → last ≡ None → HoldsBinlogTo site limit last bodies old → binlog.StandsFor files site (new_binlog site) new → binlog.StandsFor files site (binlog_of site limit bodies) new
unfolding binlog_of
anew site limit last bodies files old new none held stands = go (last_body bodies)
  where
    go : (bodies ≡ []) ⊎ ((earlier : List EpochBody) × (body : EpochBody) × (bodies ≡ earlier ++ body ∷ [])) → binlog.StandsFor files site (binlog_of site limit bodies) new
    go (inl empty) = subst (λ (b : List EpochBody). binlog.StandsFor files site (binlog_of site limit b) new) (sym empty) stands
    go (inr (earlier, body, is)) =
        let some : None ≡ Some (row_of site (binlog_of site limit earlier) body) = sym none ∙ held.last_is ∙ ap (λ (b : List EpochBody). last_or None (index_rows site limit b)) is ∙ last_row site limit earlier body in
        absurd cc

-- the binlog is there up to the last row that was recovered
pub holds_to : (site : SiteId) (limit : ℕ) (last : Option IndexRow) (bodies : List EpochBody) (old new : ℕ → List ℕ) → last ≡ last_or None (index_rows site limit bodies) → SameBinlog old new → IsLogImage site limit bodies old → CanBeLogged bodies → IfSome (last_or None (index_rows site limit bodies)) (λ row. row.file < 4294967294) → HoldsBinlogTo site limit last bodies new
holds_to site limit last bodies old new is same image logged few = record {
  last_is = is;
  files = subst (λ (r : Option IndexRow). HoldsUpTo r (binlog_files site limit bodies) new) (sym is) (same_up_to site limit bodies old new same image.files);
  logged = logged;
  few = subst (λ (r : Option IndexRow). IfSome r (λ row. row.file < 4294967294)) (sym is) few;
}

-- the rows of a log that can be recovered have room
pub rows_fit : (site : SiteId) (limit : ℕ) (bodies : List EpochBody) → IsLimit limit → CanBeLogged bodies → IfSome (last_or None (index_rows site limit bodies)) (λ row. row.file < 4294967294) → All HasRoom (index_rows site limit bodies)
rows_fit site limit bodies legal logged few = rows_have_room site limit bodies legal.0 legal.1 logged.room (closed_small site limit bodies few)
