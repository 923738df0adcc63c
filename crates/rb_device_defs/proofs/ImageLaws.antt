-- Images of a log: the whole log, and the log after a call that was cut off.
use Rattle.std.proofs.Common.{◌≡◌, ℕ, ◌+◌, ◌<◌, ◌≤◌, List, [], ◌∷◌, ◌++◌, length, take, refl, ap, sym, subst, ◌∙◌, inl, inr, arith, length-append, Bool, true, false}
use Rattle.std.specs.Prelude.{◌⊎◌, Bool, true, false, nat_le, if◌then◌else◌, Option, Some, None}
use Rattle.std.specs.List.{last_or}
use Rattle.rb_base.specs.declared.site.SiteId.{SiteId}
use Rattle.rb_base.specs.declared.body.EpochBody.{EpochBody}
use Rattle.rb_base.specs.declared.body.IndexRow.{IndexRow}
use Rattle.rb_log_defs.specs.Epoch.{epoch_bytes}
use Rattle.rb_log_defs.specs.File.{file_start, Binlog, files_in, rotated, rotated_at, binlog_of, binlog_files, index_rows}
use Rattle.rb_log_defs.specs.Index.{index_row, index_file}
use Rattle.rb_log_defs.proofs.Files.{binlog_more}
use Rattle.rb_device_defs.specs.Files.{HoldsFiles, HoldsPrefix}
use Rattle.rb_device_defs.specs.Index.{IsIndexImage}
use Rattle.rb_device_defs.specs.Image.{HoldsLog, HoldsUpTo, IsLogImage}
use Rattle.rb_device_defs.proofs.PrefixLaws.{HoldsToEnd, prefix_of_all, last_snoc, to_end_when_rotated, to_end_before_rotation}
use Rattle.rb_device_defs.proofs.RowLaws.{unrotated, rotated_rows}

-- a device that holds a prefix of files holds every shorter prefix
pub prefix_of_later : (number position lower shorter : ℕ) (files : List (List ℕ)) (seen : ℕ → List ℕ) → 1 ≤ lower → lower < number → HoldsPrefix number position files seen → HoldsPrefix lower shorter files seen
prefix_of_later number position lower shorter files seen some below held = record {
  before = λ earlier first under. held.before earlier first (omega (arith, under, below));
  front = ap (take shorter) (held.before lower some below);
}

-- a device that holds a binlog to its end after a rotation, or without one, holds it to the end
-- before that rotation
pub end_chosen : (site : SiteId) (log : Binlog) (full : Bool) (seen : ℕ → List ℕ) → HoldsToEnd (if full then record log { closed = log.closed ++ rotated site (length log.closed + 1) log.last ∷ []; last = file_start site } else log) (files_in (if full then record log { closed = log.closed ++ rotated site (length log.closed + 1) log.last ∷ []; last = file_start site } else log)) seen → HoldsToEnd log (files_in (if full then record log { closed = log.closed ++ rotated site (length log.closed + 1) log.last ∷ []; last = file_start site } else log)) seen
end_chosen site log true seen held =
    prefix_of_later _ _ (length log.closed + 1) (length log.last) _ seen (omega arith) (omega (arith, length-append log.closed (rotated site (length log.closed + 1) log.last ∷ []))) held
end_chosen site log false seen held = held

-- the index row of an epoch at the end of a binlog
abbrev pub row_of : SiteId → Binlog → EpochBody → IndexRow
row_of site log body = index_row site (length log.closed + 1) (length log.last) (length log.last + length (epoch_bytes body (length log.last))) body

-- the binlog of bodies with one more is the binlog with that epoch at its end, rotated if it
-- reached the limit
pub binlog_with : (site : SiteId) (limit : ℕ) (earlier : List EpochBody) (body : EpochBody) → binlog_of site limit (earlier ++ body ∷ []) ≡ rotated_at site limit (unrotated site (binlog_of site limit earlier) body)
binlog_with site limit earlier body = binlog_more site limit earlier body

-- the last row of that binlog's index
pub last_row : (site : SiteId) (limit : ℕ) (earlier : List EpochBody) (body : EpochBody) → last_or None (index_rows site limit (earlier ++ body ∷ [])) ≡ Some (row_of site (binlog_of site limit earlier) body)
last_row site limit earlier body =
    ap (λ (log : Binlog). last_or None log.rows) (binlog_with site limit earlier body)
    ∙ ap (last_or None) (rotated_rows site limit (unrotated site (binlog_of site limit earlier) body))
    ∙ last_snoc None (binlog_of site limit earlier).rows (row_of site (binlog_of site limit earlier) body)

-- the end of an epoch at the end of a binlog, as its row gives it
pub row_end : (site : SiteId) (log : Binlog) (body : EpochBody) → length (unrotated site log body).last ≡ (row_of site log body).next_position
row_end site log body = length-append log.last (epoch_bytes body (length log.last))

-- a device that holds a binlog to the end of its last epoch holds its log up to its last row
pub up_to_epoch : (site : SiteId) (limit : ℕ) (earlier : List EpochBody) (body : EpochBody) (seen : ℕ → List ℕ) → HoldsToEnd (unrotated site (binlog_of site limit earlier) body) (files_in (rotated_at site limit (unrotated site (binlog_of site limit earlier) body))) seen → HoldsUpTo (last_or None (index_rows site limit (earlier ++ body ∷ []))) (binlog_files site limit (earlier ++ body ∷ [])) seen
up_to_epoch site limit earlier body seen held =
    let log : Binlog = binlog_of site limit earlier in
    let next : Binlog = unrotated site log body in
    let there : HoldsPrefix (length log.closed + 1) (row_of site log body).next_position (files_in (rotated_at site limit next)) seen = subst (λ (position : ℕ). HoldsPrefix (length log.closed + 1) position (files_in (rotated_at site limit next)) seen) (row_end site log body) held in
    subst (λ (row : Option IndexRow). HoldsUpTo row (binlog_files site limit (earlier ++ body ∷ [])) seen) (sym (last_row site limit earlier body))
    (subst (λ (files : Binlog). HoldsPrefix (length log.closed + 1) (row_of site log body).next_position (files_in files) seen) (sym (binlog_with site limit earlier body)) there)

-- a device that holds a log up to its last row holds its binlog to the end of the last epoch
pub epoch_up_to : (site : SiteId) (limit : ℕ) (earlier : List EpochBody) (body : EpochBody) (seen : ℕ → List ℕ) → HoldsUpTo (last_or None (index_rows site limit (earlier ++ body ∷ []))) (binlog_files site limit (earlier ++ body ∷ [])) seen → HoldsToEnd (unrotated site (binlog_of site limit earlier) body) (files_in (unrotated site (binlog_of site limit earlier) body)) seen
epoch_up_to site limit earlier body seen held =
    let log : Binlog = binlog_of site limit earlier in
    let next : Binlog = unrotated site log body in
    let row : HoldsUpTo (Some (row_of site log body)) (binlog_files site limit (earlier ++ body ∷ [])) seen = subst (λ (row : Option IndexRow). HoldsUpTo row (binlog_files site limit (earlier ++ body ∷ [])) seen) (last_row site limit earlier body) held in
    let files : HoldsPrefix (length log.closed + 1) (row_of site log body).next_position (files_in (rotated_at site limit next)) seen = subst (λ (files : Binlog). HoldsPrefix (length log.closed + 1) (row_of site log body).next_position (files_in files) seen) (binlog_with site limit earlier body) row in
    to_end_before_rotation site limit next seen (subst (λ (position : ℕ). HoldsPrefix (length log.closed + 1) position (files_in (rotated_at site limit next)) seen) (sym (row_end site log body)) files)

-- a list of bodies is empty or has a last body
pub last_body : (bodies : List EpochBody) → (bodies ≡ []) ⊎ ((earlier : List EpochBody) × (body : EpochBody) × (bodies ≡ earlier ++ body ∷ []))
last_body [] = inl refl
last_body (body ∷ bodies) = inr (following body bodies (last_body bodies))
  where
    following : (body : EpochBody) (bodies : List EpochBody) → (bodies ≡ []) ⊎ ((earlier : List EpochBody) × (last : EpochBody) × (bodies ≡ earlier ++ last ∷ [])) → (earlier : List EpochBody) × (last : EpochBody) × (body ∷ bodies ≡ earlier ++ last ∷ [])
    following body bodies (inl none) = ([], body, ap (λ (rest : List EpochBody). body ∷ rest) none)
    following body bodies (inr (earlier, last, is)) = (body ∷ earlier, last, ap (λ (rest : List EpochBody). body ∷ rest) is)

-- a device that holds all files of a log to their end holds them up to the last row
pub to_last_row : (site : SiteId) (limit : ℕ) (bodies : List EpochBody) (seen : ℕ → List ℕ) → (bodies ≡ []) ⊎ ((earlier : List EpochBody) × (body : EpochBody) × (bodies ≡ earlier ++ body ∷ [])) → HoldsToEnd (binlog_of site limit bodies) (binlog_files site limit bodies) seen → HoldsUpTo (last_or None (index_rows site limit bodies)) (binlog_files site limit bodies) seen
unfolding binlog_of
to_last_row site limit bodies seen (inl none) held = subst (λ (b : List EpochBody). HoldsUpTo (last_or None (index_rows site limit b)) (binlog_files site limit b) seen) (sym none) tt
to_last_row site limit bodies seen (inr (earlier, body, is)) held =
    let next : Binlog = unrotated site (binlog_of site limit earlier) body in
    let there : HoldsToEnd (binlog_of site limit (earlier ++ body ∷ [])) (binlog_files site limit (earlier ++ body ∷ [])) seen = subst (λ (b : List EpochBody). HoldsToEnd (binlog_of site limit b) (binlog_files site limit b) seen) is held in
    let chosen : HoldsToEnd (rotated_at site limit next) (files_in (rotated_at site limit next)) seen = subst (λ (log : Binlog). HoldsToEnd log (files_in log) seen) (binlog_with site limit earlier body) there in
    subst (λ (b : List EpochBody). HoldsUpTo (last_or None (index_rows site limit b)) (binlog_files site limit b) seen) (sym is)
    (up_to_epoch site limit earlier body seen (end_chosen site next (nat_le limit (length next.last)) seen chosen))

-- a whole index is an image of itself
pub index_is_image : (rows : List IndexRow) → IsIndexImage rows (index_file rows)
unfolding index_file
index_is_image rows = record { following = 0 ∷ []; bytes = refl; more = λ some. omega arith; ended = refl }

-- a device that holds a log's files to their end and an image of its index holds an image of the
-- log
pub image_to_end : (site : SiteId) (limit : ℕ) (bodies : List EpochBody) (seen : ℕ → List ℕ) → IsIndexImage (index_rows site limit bodies) (seen 0) → HoldsToEnd (binlog_of site limit bodies) (binlog_files site limit bodies) seen → IsLogImage site limit bodies seen
image_to_end site limit bodies seen index held = record { index = index; files = to_last_row site limit bodies seen (last_body bodies) held }

-- a whole log is an image of itself
pub whole_is_image : (site : SiteId) (limit : ℕ) (bodies : List EpochBody) (seen : ℕ → List ℕ) → HoldsLog site limit bodies seen → IsLogImage site limit bodies seen
whole_is_image site limit bodies seen held =
    image_to_end site limit bodies seen
    (subst (λ (file : List ℕ). IsIndexImage (index_rows site limit bodies) file) (sym held.index) (index_is_image (index_rows site limit bodies)))
    (prefix_of_all _ _ (binlog_files site limit bodies) seen (omega arith) held.files)

-- the index rows of a log with one more epoch
pub rows_with : (site : SiteId) (limit : ℕ) (bodies : List EpochBody) (body : EpochBody) → index_rows site limit (bodies ++ body ∷ []) ≡ index_rows site limit bodies ++ row_of site (binlog_of site limit bodies) body ∷ []
rows_with site limit bodies body =
    ap (λ (log : Binlog). log.rows) (binlog_with site limit bodies body) ∙ rotated_rows site limit (unrotated site (binlog_of site limit bodies) body)

-- an image of the index with an epoch's row, and the binlog to that epoch's end, are an image of
-- the log with that epoch
pub image_with : (site : SiteId) (limit : ℕ) (bodies : List EpochBody) (body : EpochBody) (seen : ℕ → List ℕ) → IsIndexImage (index_rows site limit bodies ++ row_of site (binlog_of site limit bodies) body ∷ []) (seen 0) → HoldsToEnd (unrotated site (binlog_of site limit bodies) body) (files_in (unrotated site (binlog_of site limit bodies) body)) seen → IsLogImage site limit (bodies ++ body ∷ []) seen
image_with site limit bodies body seen index held = record {
  index = subst (λ (rows : List IndexRow). IsIndexImage rows (seen 0)) (sym (rows_with site limit bodies body)) index;
  files = up_to_epoch site limit bodies body seen (to_end_when_rotated site limit (unrotated site (binlog_of site limit bodies) body) seen held);
}

-- the log with one more epoch is whole if its row is in the index and its file was rotated if it
-- reached the limit
pub log_with : (site : SiteId) (limit : ℕ) (bodies : List EpochBody) (body : EpochBody) (seen : ℕ → List ℕ) → seen 0 ≡ index_file (index_rows site limit bodies ++ row_of site (binlog_of site limit bodies) body ∷ []) → HoldsFiles (files_in (rotated_at site limit (unrotated site (binlog_of site limit bodies) body))) seen → HoldsLog site limit (bodies ++ body ∷ []) seen
log_with site limit bodies body seen index held = record {
  index = index ∙ ap index_file (sym (rows_with site limit bodies body));
  files = subst (λ (log : Binlog). HoldsFiles (files_in log) seen) (sym (binlog_with site limit bodies body)) held;
}

-- the image of a log without an epoch requires nothing of the binlog
pub image_of_none : (site : SiteId) (limit : ℕ) (seen : ℕ → List ℕ) → IsIndexImage [] (seen 0) → IsLogImage site limit [] seen
unfolding binlog_of
image_of_none site limit seen index = record { index = index; files = tt }

-- files that read the same are the same image
pub prefix_same : (row : Option IndexRow) (files : List (List ℕ)) (seen now : ℕ → List ℕ) → ((file : ℕ) → now file ≡ seen file) → HoldsUpTo row files seen → HoldsUpTo row files now
prefix_same None files seen now same held = tt
prefix_same (Some row) files seen now same held = record {
  before = λ earlier from below. same earlier ∙ held.before earlier from below;
  front = ap (take row.next_position) (same row.next_file) ∙ held.front;
}

pub image_same : (site : SiteId) (limit : ℕ) (bodies : List EpochBody) (seen now : ℕ → List ℕ) → ((file : ℕ) → now file ≡ seen file) → IsLogImage site limit bodies seen → IsLogImage site limit bodies now
image_same site limit bodies seen now same image = record {
  index = subst (IsIndexImage (index_rows site limit bodies)) (sym (same 0)) image.index;
  files = prefix_same (last_or None (index_rows site limit bodies)) (binlog_files site limit bodies) seen now same image.files;
}
