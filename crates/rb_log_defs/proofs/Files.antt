-- The growth of a binlog by one epoch.
use Rattle.std.proofs.Common.{◌≡◌, ℕ, ◌+◌, ◌<◌, List, [], ◌∷◌, ◌++◌, length, length-append, drop, refl, ap, ◌∙◌, arith}
use Rattle.std.proofs.lemmas.Bool.{lt-leb}
use Rattle.std.proofs.lemmas.List.Sums.{fold-append}
use Rattle.rb_base.specs.declared.site.SiteId.{SiteId}
use Rattle.rb_base.specs.declared.body.EpochBody.{EpochBody}
use Rattle.rb_base.specs.declared.body.IndexRow.{IndexRow}
use Rattle.rb_log_defs.specs.Epoch.{epoch_bytes}
use Rattle.rb_log_defs.specs.File.{file_start, Binlog, new_binlog, rotated_at, with_epoch, binlog_of, binlog_files}
use Rattle.rb_log_defs.specs.Index.{index_row}

pub binlog_more : (site : SiteId) (limit : ℕ) (bodies : List EpochBody) (body : EpochBody) → binlog_of site limit (bodies ++ body ∷ []) ≡ with_epoch site limit (binlog_of site limit bodies) body
unfolding binlog_of
binlog_more site limit bodies body = fold-append (with_epoch site limit) (new_binlog site) bodies (body ∷ [])

-- a binlog whose only file is this one
pub record IsOneFile (log : Binlog) (file : List ℕ) : Type 0 where
  pub closed : log.closed ≡ []
  pub last : log.last ≡ file

-- the only item of a list
only_item : (front : List (List ℕ)) (x y : List ℕ) → front ++ x ∷ [] ≡ y ∷ [] → (front ≡ []) × (x ≡ y)
only_item [] x y same = (refl, cc)
only_item (a ∷ front) x y same = absurd (let counted : length (front ++ x ∷ []) ≡ 0 = ap (λ (files : List (List ℕ)). length (drop 1 files)) same in omega (arith, length-append front (x ∷ [])))

one_file : (site : SiteId) (limit : ℕ) (bodies : List EpochBody) (file : List ℕ) → binlog_files site limit bodies ≡ file ∷ [] → IsOneFile (binlog_of site limit bodies) file
one_file site limit bodies file one =
    let parts = only_item (binlog_of site limit bodies).closed (binlog_of site limit bodies).last file one in
    record { closed = parts.0; last = parts.1 }

-- below the limit no file is rotated
stays : (site : SiteId) (limit : ℕ) (log : Binlog) → length log.last < limit → rotated_at site limit log ≡ log
stays site limit log below = rw (lt-leb limit (length log.last) below) refl

-- a binlog of one file stays one file while it is below the limit
pub one_file_more : (site : SiteId) (limit : ℕ) (bodies : List EpochBody) (body : EpochBody) (file : List ℕ) → binlog_files site limit bodies ≡ file ∷ [] → length (file ++ epoch_bytes body (length file)) < limit → binlog_files site limit (bodies ++ body ∷ []) ≡ (file ++ epoch_bytes body (length file)) ∷ []
one_file_more site limit bodies body file one below =
    let log : Binlog = binlog_of site limit bodies in
    let is : IsOneFile log file = one_file site limit bodies file one in
    let last : log.last ++ epoch_bytes body (length log.last) ≡ file ++ epoch_bytes body (length file) = ap (λ (f : List ℕ). f ++ epoch_bytes body (length f)) is.last in
    let row : IndexRow = index_row site (length log.closed + 1) (length log.last) (length log.last + length (epoch_bytes body (length log.last))) body in
    let next : Binlog = record log { last = log.last ++ epoch_bytes body (length log.last); rows = log.rows ++ row ∷ [] } in
    let same : binlog_of site limit (bodies ++ body ∷ []) ≡ next = binlog_more site limit bodies body ∙ stays site limit next (let n : length (log.last ++ epoch_bytes body (length log.last)) ≡ length (file ++ epoch_bytes body (length file)) = ap length last in omega arith) in
    ap (λ (l : Binlog). l.closed ++ l.last ∷ []) same
    ∙ ap (λ (closed : List (List ℕ)). closed ++ (log.last ++ epoch_bytes body (length log.last)) ∷ []) is.closed
    ∙ ap (λ (f : List ℕ). f ∷ []) last

pub one_file_first : (site : SiteId) (limit : ℕ) → binlog_files site limit [] ≡ file_start site ∷ []
unfolding binlog_of
one_file_first site limit = refl
