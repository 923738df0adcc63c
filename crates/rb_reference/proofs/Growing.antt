-- The growth of a binlog body by body: if its files have room at the end, they have room after each
-- body.
use Rattle.std.proofs.Common.{◌≡◌, ◌≤◌, ◌<◌, ◌^◌, ℕ, ◌+◌, List, [], ◌∷◌, ◌++◌, length, take, drop, get_or, refl, sym, ap, subst, ◌∙◌, arith, length-append, length-take, add-one}
use Rattle.std.specs.Prelude.{All, Bool, true, false, Some, nat_le, if◌then◌else◌, fold}
use Rattle.std.proofs.lemmas.List.{take-append-drop}
use Rattle.std.proofs.Math.Seq.{drop-cons}
use Rattle.std.proofs.lemmas.List.Sums.{fold_more, fold-append}
use Rattle.std.proofs.lemmas.List.Elements.{All-pop, All-get_or}
use Rattle.rb_base.specs.Site.{server_of}
use Rattle.rb_base.specs.declared.site.SiteId.{SiteId}
use Rattle.rb_base.specs.declared.body.EpochBody.{EpochBody}
use Rattle.rb_log_defs.specs.Event.{rotate_event}
use Rattle.rb_log_defs.specs.Epoch.{epoch_bytes}
use Rattle.rb_log_defs.specs.Fits.{CanBeWritten}
use Rattle.rb_log_defs.specs.Index.{index_row}
use Rattle.rb_log_defs.specs.File.{file_name, file_start, rotated, Binlog, new_binlog, rotated_at, with_epoch, binlog_of, binlog_files}
use Rattle.rb_log_defs.proofs.Sizes.{rotate_length}
use Rattle.rb_reference.specs.Standing.{IsSmall, AreSmall}

-- the length of a file with its rotate event
pub rotated_length : (site : SiteId) (number : ℕ) (file : List ℕ) → length (rotated site number file) ≡ length file + (27 + length (file_name site (number + 1)))
rotated_length site number file =
    let name : List ℕ = file_name site (number + 1) in
    omega (arith, length-append file (rotate_event (server_of site) 4 name (length file)), rotate_length (server_of site) 4 name (length file))

-- a binlog has room if all its files do
pub small_files : (log : Binlog) → All IsSmall (log.closed ++ log.last ∷ []) → AreSmall log
small_files log small =
    let parts = All-pop IsSmall (log.closed ++ log.last ∷ []) log.closed (Some log.last) refl small in
    record { closed = parts.0; last = parts.1 }

-- the binlog after its last file was rotated, or not
abbrev rotated_if : Bool → SiteId → Binlog → Binlog
rotated_if full site log = if full then record log { closed = log.closed ++ rotated site (length log.closed + 1) log.last ∷ []; last = file_start site } else log

before_if : (full : Bool) (site : SiteId) (log : Binlog) → AreSmall (rotated_if full site log) → AreSmall log
before_if true site log small =
    let file : List ℕ = rotated site (length log.closed + 1) log.last in
    let parts = All-pop IsSmall (log.closed ++ file ∷ []) log.closed (Some file) refl small.closed in
    let fits : length file < 2 ^ 32 = parts.1 in
    record { closed = parts.0; last = omega (arith, rotated_length site (length log.closed + 1) log.last) }
before_if false site log small = small

-- a binlog that has room after the rotation had room before it
pub small_before_rotation : (site : SiteId) (limit : ℕ) (log : Binlog) → AreSmall (rotated_at site limit log) → AreSmall log
small_before_rotation site limit log small = before_if (nat_le limit (length log.last)) site log small

-- a binlog with one more epoch, before the rotation
abbrev pub grown : SiteId → Binlog → EpochBody → Binlog
grown site log body =
    let start = length log.last in
    let bytes = epoch_bytes body start in
    record log { last = log.last ++ bytes; rows = log.rows ++ index_row site (length log.closed + 1) start (start + length bytes) body ∷ [] }

-- a binlog that has room after the epoch had room before it
pub small_before_epoch : (site : SiteId) (limit : ℕ) (log : Binlog) (body : EpochBody) → AreSmall (with_epoch site limit log body) → AreSmall log
small_before_epoch site limit log body small =
    let after : AreSmall (grown site log body) = small_before_rotation site limit (grown site log body) small in
    let fits : length (log.last ++ epoch_bytes body (length log.last)) < 2 ^ 32 = after.last in
    record { closed = after.closed; last = omega (arith, length-append log.last (epoch_bytes body (length log.last))) }

-- a binlog that has room after these bodies had room before them
small_before : (site : SiteId) (limit : ℕ) (log : Binlog) (bodies : List EpochBody) → AreSmall (fold (with_epoch site limit) log bodies) → AreSmall log
small_before site limit log [] small = small
small_before site limit log (body ∷ bodies) small = small_before_epoch site limit log body (small_before site limit (with_epoch site limit log body) bodies small)

-- one more body
pub one_more : (site : SiteId) (limit : ℕ) (bodies : List EpochBody) (i : ℕ) (d : EpochBody) → i < length bodies → binlog_of site limit (take (i + 1) bodies) ≡ with_epoch site limit (binlog_of site limit (take i bodies)) (get_or bodies i d)
unfolding binlog_of
one_more site limit bodies i d within = fold_more (with_epoch site limit) (new_binlog site) bodies i d within

-- the binlog of some bodies as a fold
as_fold : (site : SiteId) (limit : ℕ) (bodies : List EpochBody) → binlog_of site limit bodies ≡ fold (with_epoch site limit) (new_binlog site) bodies
unfolding binlog_of
as_fold site limit bodies = refl

-- all bodies are those before `i`, the body `i`, and the others
all_of : (site : SiteId) (limit : ℕ) (bodies : List EpochBody) (i : ℕ) (d : EpochBody) → i < length bodies → binlog_of site limit bodies ≡ fold (with_epoch site limit) (with_epoch site limit (binlog_of site limit (take i bodies)) (get_or bodies i d)) (drop (i + 1) bodies)
all_of site limit bodies i d within =
    let step : Binlog → EpochBody → Binlog = with_epoch site limit in
    let here : drop i bodies ≡ get_or bodies i d ∷ drop (i + 1) bodies = subst (λ (n : ℕ). drop i bodies ≡ get_or bodies i d ∷ drop n bodies) (sym (add-one i)) (drop-cons bodies i d within) in
    as_fold site limit bodies
    ∙ ap (fold step (new_binlog site)) (sym (take-append-drop i bodies))
    ∙ fold-append step (new_binlog site) (take i bodies) (drop i bodies)
    ∙ ap (λ (log : Binlog). fold step log (drop i bodies)) (sym (as_fold site limit (take i bodies)))
    ∙ ap (fold step (binlog_of site limit (take i bodies))) here

-- if all files have room, they have room after each body
pub small_on_the_way : (site : SiteId) (limit : ℕ) (bodies : List EpochBody) (i : ℕ) (d : EpochBody) → i < length bodies → All IsSmall (binlog_files site limit bodies) → AreSmall (with_epoch site limit (binlog_of site limit (take i bodies)) (get_or bodies i d))
small_on_the_way site limit bodies i d within small =
    small_before site limit (with_epoch site limit (binlog_of site limit (take i bodies)) (get_or bodies i d)) (drop (i + 1) bodies)
    (subst AreSmall (all_of site limit bodies i d within) (small_files (binlog_of site limit bodies) small))

one_closed_if : (full : Bool) (site : SiteId) (log : Binlog) → length (rotated_if full site log).closed ≤ length log.closed + 1
one_closed_if true site log = omega (arith, length-append log.closed (rotated site (length log.closed + 1) log.last ∷ []))
one_closed_if false site log = omega arith

few_closed_from : (site : SiteId) (limit : ℕ) (log : Binlog) (bodies : List EpochBody) → length (fold (with_epoch site limit) log bodies).closed ≤ length log.closed + length bodies
few_closed_from site limit log [] = omega arith
few_closed_from site limit log (body ∷ bodies) =
    omega (arith, one_closed_if (nat_le limit (length (grown site log body).last)) site (grown site log body), few_closed_from site limit (with_epoch site limit log body) bodies)

-- each body closes at most one file
pub few_closed : (site : SiteId) (limit : ℕ) (bodies : List EpochBody) → length (binlog_of site limit bodies).closed ≤ length bodies
few_closed site limit bodies =
    let same : length (binlog_of site limit bodies).closed ≡ length (fold (with_epoch site limit) (new_binlog site) bodies).closed = ap (λ (log : Binlog). length log.closed) (as_fold site limit bodies) in
    omega (arith, few_closed_from site limit (new_binlog site) bodies)

-- the binlog before the first body
pub none_yet : (site : SiteId) (limit : ℕ) → binlog_of site limit [] ≡ new_binlog site
unfolding binlog_of
none_yet site limit = refl

-- the current body of a loop over the bodies can be written
pub written_here : (bodies : List EpochBody) (i : ℕ) (body : EpochBody) → i < length bodies → body ≡ get_or bodies i body → All CanBeWritten bodies → CanBeWritten body
written_here bodies i body within is all = subst CanBeWritten (sym is) (All-get_or CanBeWritten bodies i body within all)

-- the binlog with the current body has room
pub small_here : (site : SiteId) (limit : ℕ) (bodies : List EpochBody) (i : ℕ) (body : EpochBody) (log : Binlog) → i < length bodies → body ≡ get_or bodies i body → log ≡ binlog_of site limit (take i bodies) → All IsSmall (binlog_files site limit bodies) → AreSmall (with_epoch site limit log body)
small_here site limit bodies i body log within is before small =
    subst (λ (l : Binlog). AreSmall (with_epoch site limit l body)) (sym before)
    (subst (λ (b : EpochBody). AreSmall (with_epoch site limit (binlog_of site limit (take i bodies)) b)) (sym is) (small_on_the_way site limit bodies i body within small))

-- at most as many files are full as bodies were written
pub few_here : (site : SiteId) (limit : ℕ) (bodies : List EpochBody) (i : ℕ) (log : Binlog) → i < length bodies → log ≡ binlog_of site limit (take i bodies) → length log.closed ≤ i
few_here site limit bodies i log within before =
    let same : length log.closed ≡ length (binlog_of site limit (take i bodies)).closed = ap (λ (l : Binlog). length l.closed) before in
    omega (arith, few_closed site limit (take i bodies), length-take i bodies)

-- the current body is written
pub one_here : (site : SiteId) (limit : ℕ) (bodies : List EpochBody) (i : ℕ) (body : EpochBody) (log next : Binlog) → i < length bodies → body ≡ get_or bodies i body → log ≡ binlog_of site limit (take i bodies) → next ≡ with_epoch site limit log body → next ≡ binlog_of site limit (take (i + 1) bodies)
one_here site limit bodies i body log next within is before after =
    after
    ∙ ap (λ (l : Binlog). with_epoch site limit l body) before
    ∙ ap (with_epoch site limit (binlog_of site limit (take i bodies))) is
    ∙ sym (one_more site limit bodies i body within)
