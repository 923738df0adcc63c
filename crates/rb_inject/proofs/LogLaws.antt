-- What logging a body leaves, step by step.
use Rattle.std.proofs.Common.{◌≡◌, ◌≢◌, ℕ, ◌+◌, ◌≤◌, List, [], ◌∷◌, ◌++◌, length, refl, ap, sym, subst, ◌∙◌, inl, inr, arith}
use Rattle.std.specs.Prelude.{◌⊎◌, Result, Ok, Err, true}
use Rattle.rb_base.specs.declared.site.SiteId.{SiteId}
use Rattle.rb_base.specs.declared.body.EpochBody.{EpochBody}
use Rattle.rb_base.specs.declared.body.IndexRow.{IndexRow}
use Rattle.rb_log_defs.specs.Epoch.{epoch_bytes}
use Rattle.rb_log_defs.specs.File.{Binlog, files_in, new_binlog, rotated_at, binlog_of, index_rows}
use Rattle.rb_log_defs.specs.Index.{index_row, index_file}
use Rattle.rb_log_defs.proofs.Sizes.{epoch_same_length}
use Rattle.rb_device_defs.specs.Files.{HoldsPrefix}
use Rattle.rb_device_defs.specs.Index.{IsIndexImage}
use Rattle.rb_device_defs.specs.Image.{IsLogImage}
use Rattle.rb_device_defs.proofs.PrefixLaws.{prefix_of_all, to_end_of_longer}
use Rattle.rb_device_defs.proofs.RowLaws.{unrotated, last_below}
use Rattle.rb_device_defs.proofs.ImageLaws.{row_of, index_is_image, image_to_end, image_with, log_with, binlog_with, rows_with}
use Rattle.rb_binlog.specs.Binlog as binlog
use Rattle.rb_binlog.specs.declared.binlog.BinlogFiles.{BinlogFiles}
use Rattle.rb_etx.specs.declared.fault.EncodeFault.{EncodeFault}
use Rattle.rb_etx.specs.declared.fault.EncodeFault.TheVariants as encodes
use Rattle.rb_inject.specs.Fault.{too_large_of}
use Rattle.rb_inject.specs.declared.fault.InjectFault.{InjectFault}
use Rattle.rb_inject.specs.declared.fault.InjectFault.TheVariants as faults
use Rattle.rb_base.specs.declared.schema.Mapped.{Mapped}
use Rattle.rb_message_defs.specs.declared.answers.Assembled.{Assembled}
use Rattle.rb_journal_defs.specs.Body.{has_something_to_log}
use Rattle.rb_inject.specs.Body.{body_of_assembled}
use Rattle.rb_inject.specs.Injector.{LogSetup, IsLogSetup, StandsFor, LeavesImage, bodies_with}
use Rattle.rb_inject.specs.declared.injector.Injector.{Injector}

-- the binlog of these bodies
abbrev pub log_of : LogSetup → List EpochBody → Binlog
log_of setup bodies = binlog_of setup.site setup.limit bodies

-- the end of an injector's last file
pub end_small : (injector : Injector) (setup : LogSetup) (bodies : List EpochBody) (seen : ℕ → List ℕ) → StandsFor injector setup bodies seen → binlog.length_of injector.files ≤ 67108864
end_small injector setup bodies seen stands = omega (arith, stands.files.length_is, last_below setup.site setup.limit bodies stands.legal.limit.0, stands.legal.limit.1)

-- files that represent a binlog represent it whatever its rows are
pub other_rows : (files : BinlogFiles) (site : SiteId) (log : Binlog) (rows : List IndexRow) (seen : ℕ → List ℕ) → binlog.StandsFor files site log seen → binlog.StandsFor files site (record { closed = log.closed; last = log.last; rows = rows }) seen
other_rows files site log rows seen stands = record { site_is = stands.site_is; number_is = stands.number_is; few = stands.few; length_is = stands.length_is; held = stands.held }

-- files 1 and on did not change
abbrev pub SameBinlog : (old new : ℕ → List ℕ) → Type 0
SameBinlog old new = (number : ℕ) → number ≢ 0 → new number ≡ old number

pub same_files : (files : BinlogFiles) (site : SiteId) (log : Binlog) (old new : ℕ → List ℕ) → SameBinlog old new → binlog.StandsFor files site log old → binlog.StandsFor files site log new
same_files files site log old new same stands = record {
  site_is = stands.site_is;
  number_is = stands.number_is;
  few = stands.few;
  length_is = stands.length_is;
  held = λ number some. same number (λ zero. omega (arith, zero, some)) ∙ stands.held number some;
}

-- the files after an epoch's bytes represent the binlog with the epoch, before any rotation
pub grown : (files : BinlogFiles) (site : SiteId) (log : Binlog) (body : EpochBody) (bytes : List ℕ) (seen : ℕ → List ℕ) → bytes ≡ epoch_bytes body (length log.last) → binlog.StandsFor files site (record log { last = log.last ++ bytes }) seen → binlog.StandsFor files site (unrotated site log body) seen
grown files site log body bytes seen same stands =
    other_rows files site (record log { last = log.last ++ epoch_bytes body (length log.last) }) (unrotated site log body).rows seen
    (subst (λ (b : List ℕ). binlog.StandsFor files site (record log { last = log.last ++ b }) seen) same stands)

-- the row of an epoch that is appended there
pub row_is : (site other : SiteId) (log : Binlog) (body : EpochBody) (file position next : ℕ) → other ≡ site → file ≡ length log.closed + 1 → position ≡ length log.last → next ≡ position + length (epoch_bytes body position) → index_row other file position next body ≡ row_of site log body
row_is site other log body file position next same_site same_file same_position end =
    ap (λ (n : ℕ). index_row other file position n body) end
    ∙ ap (λ (p : ℕ). index_row other file p (p + length (epoch_bytes body p)) body) same_position
    ∙ ap (λ (f : ℕ). index_row other f (length log.last) (length log.last + length (epoch_bytes body (length log.last))) body) same_file
    ∙ ap (λ (s : SiteId). index_row s (length log.closed + 1) (length log.last) (length log.last + length (epoch_bytes body (length log.last))) body) same_site

-- a prefix by other numbers
prefix_by : (number position other end : ℕ) (files : List (List ℕ)) (seen : ℕ → List ℕ) → number ≡ other → position ≡ end → HoldsPrefix number position files seen → HoldsPrefix other end files seen
prefix_by number position other end files seen same ends held = subst (λ (n : ℕ). HoldsPrefix n end files seen) same (subst (λ (p : ℕ). HoldsPrefix number p files seen) ends held)

-- the epoch's bytes were not appended, or not all
pub append_failed : (injector : Injector) (setup : LogSetup) (bodies : List EpochBody) (old new : ℕ → List ℕ) → StandsFor injector setup bodies old → new 0 ≡ old 0 → HoldsPrefix (binlog.number_of injector.files) (binlog.length_of injector.files) (files_in (log_of setup bodies)) new → IsLogImage setup.site setup.limit bodies new
append_failed injector setup bodies old new stands same held =
    image_to_end setup.site setup.limit bodies new
    (subst (λ (file : List ℕ). IsIndexImage (index_rows setup.site setup.limit bodies) file) (sym (same ∙ stands.held.index)) (index_is_image (index_rows setup.site setup.limit bodies)))
    (prefix_by _ _ _ _ (files_in (log_of setup bodies)) new stands.files.number_is stands.files.length_is held)

-- its row was not appended, or its gate not synced
pub row_failed : (injector : Injector) (files : BinlogFiles) (setup : LogSetup) (bodies : List EpochBody) (body : EpochBody) (row : IndexRow) (old between new : ℕ → List ℕ) → StandsFor injector setup bodies old → binlog.StandsFor files setup.site (unrotated setup.site (log_of setup bodies) body) between → SameBinlog between new → row ≡ row_of setup.site (log_of setup bodies) body → length (epoch_bytes body 0) ≤ 2147483647 → IsIndexImage injector.index (new 0) ⊎ IsIndexImage (injector.index ++ row ∷ []) (new 0) → LeavesImage setup bodies body new
row_failed injector files setup bodies body row old between new stands appended same is small image =
    go image
  where
    whole : binlog.StandsFor files setup.site (unrotated setup.site (log_of setup bodies) body) new
    whole = same_files files setup.site (unrotated setup.site (log_of setup bodies) body) between new same appended

    go : IsIndexImage injector.index (new 0) ⊎ IsIndexImage (injector.index ++ row ∷ []) (new 0) → LeavesImage setup bodies body new
    go (inl without) = inl (image_to_end setup.site setup.limit bodies new (subst (λ (rows : List IndexRow). IsIndexImage rows (new 0)) stands.rows without) (to_end_of_longer (log_of setup bodies) (epoch_bytes body (length (log_of setup bodies).last)) new whole.held))
    go (inr with_row) = inr (
      small,
      image_with setup.site setup.limit bodies body new
          (subst (λ (r : IndexRow). IsIndexImage (index_rows setup.site setup.limit bodies ++ r ∷ []) (new 0)) is (subst (λ (rows : List IndexRow). IsIndexImage (rows ++ row ∷ []) (new 0)) stands.rows with_row))
          (prefix_of_all _ _ (files_in (unrotated setup.site (log_of setup bodies) body)) new (omega arith) whole.held),
    )

-- the file was not rotated, or not to the end
pub rotation_failed : (files : BinlogFiles) (setup : LogSetup) (bodies : List EpochBody) (body : EpochBody) (old new : ℕ → List ℕ) → binlog.StandsFor files setup.site (unrotated setup.site (log_of setup bodies) body) old → old 0 ≡ index_file (index_rows setup.site setup.limit bodies ++ row_of setup.site (log_of setup bodies) body ∷ []) → new 0 ≡ old 0 → HoldsPrefix (binlog.number_of files) (binlog.length_of files) (files_in (unrotated setup.site (log_of setup bodies) body)) new → length (epoch_bytes body 0) ≤ 2147483647 → LeavesImage setup bodies body new
rotation_failed files setup bodies body old new stands index same held small =
    let rows : List IndexRow = index_rows setup.site setup.limit bodies ++ row_of setup.site (log_of setup bodies) body ∷ [] in
    inr (
      small,
      image_with setup.site setup.limit bodies body new
          (subst (λ (file : List ℕ). IsIndexImage rows file) (sym (same ∙ index)) (index_is_image rows))
          (prefix_by _ _ _ _ (files_in (unrotated setup.site (log_of setup bodies) body)) new stands.number_is stands.length_is held),
    )

-- all was done
pub logged : (injector next : Injector) (setup : LogSetup) (bodies : List EpochBody) (body : EpochBody) (row : IndexRow) (old new : ℕ → List ℕ) → StandsFor injector setup bodies old → next.site ≡ injector.site → next.limit ≡ injector.limit → next.tables ≡ injector.tables → next.index ≡ injector.index ++ row ∷ [] → row ≡ row_of setup.site (log_of setup bodies) body → new 0 ≡ index_file next.index → binlog.StandsFor next.files setup.site (rotated_at setup.site setup.limit (unrotated setup.site (log_of setup bodies) body)) new → StandsFor next setup (bodies ++ body ∷ []) new
logged injector next setup bodies body row old new stands same_site same_limit same_tables index is file files =
    let rows : next.index ≡ index_rows setup.site setup.limit bodies ++ row_of setup.site (log_of setup bodies) body ∷ [] =
    index ∙ ap (λ (r : List IndexRow). r ++ row ∷ []) stands.rows ∙ ap (λ (r : IndexRow). index_rows setup.site setup.limit bodies ++ r ∷ []) is in
    record {
      site_is = same_site ∙ stands.site_is;
      limit_is = same_limit ∙ stands.limit_is;
      tables_are = same_tables ∙ stands.tables_are;
      legal = stands.legal;
      files = subst (λ (log : Binlog). binlog.StandsFor next.files setup.site log new) (sym (binlog_with setup.site setup.limit bodies body)) files;
      rows = rows ∙ sym (rows_with setup.site setup.limit bodies body);
      held = log_with setup.site setup.limit bodies body new (file ∙ ap index_file rows) files.held;
    }

-- how long an epoch is, by its length at the start of a file
pub size_there : (body : EpochBody) (position size : ℕ) → size ≡ length (epoch_bytes body position) → size ≡ length (epoch_bytes body 0)
size_there body position size is = is ∙ epoch_same_length body position 0

-- what an injector's fault says of the encoder's
pub too_large_is : (fault : EncodeFault) (size : ℕ) → too_large_of fault ≡ faults.TooLarge size → fault ≡ encodes.TooLarge size
too_large_is (encodes.TooLarge n) size same = let e : n ≡ size = cc in ap (λ (m : ℕ). encodes.TooLarge m) e
too_large_is encodes.NoMemory size same = absurd cc

-- which fault an error is
same_error : (a : InjectFault) (result : Result (Unit {0}) InjectFault) → result ≡ Err a → (b : InjectFault) → result ≡ Err b → a ≡ b
same_error a (Ok value) is b other = absurd cc
same_error a (Err fault) is b other = cc

pub error_is : (a b : InjectFault) (result : Result (Unit {0}) InjectFault) → result ≡ Err a → result ≡ Err b → a ≡ b
error_is a b result one other = same_error a result one b other

-- the log without a body is a new binlog, and has no row
pub new_log : (site : SiteId) (limit : ℕ) → (binlog_of site limit [] ≡ new_binlog site) × (index_rows site limit [] ≡ [])
unfolding binlog_of
new_log site limit = (refl, refl)

-- a log that was begun
pub begun : (injector : Injector) (setup : LogSetup) (new : ℕ → List ℕ) → injector.site ≡ setup.site → injector.limit ≡ setup.limit → injector.tables ≡ setup.tables → IsLogSetup setup → injector.index ≡ [] → new 0 ≡ index_file [] → binlog.StandsFor injector.files setup.site (new_binlog setup.site) new → StandsFor injector setup [] new
begun injector setup new site limit tables legal rows file files =
    let new_files : binlog.StandsFor injector.files setup.site (binlog_of setup.site setup.limit []) new = subst (λ (log : Binlog). binlog.StandsFor injector.files setup.site log new) (sym (new_log setup.site setup.limit).0) files in
    record {
      site_is = site;
      limit_is = limit;
      tables_are = tables;
      legal = legal;
      files = new_files;
      rows = rows ∙ sym (new_log setup.site setup.limit).1;
      held = record { index = file ∙ ap index_file (sym (new_log setup.site setup.limit).1); files = new_files.held };
    }

-- the body is that of the setup
pub body_is : (injector : Injector) (setup : LogSetup) (bodies : List EpochBody) (seen : ℕ → List ℕ) (assembled : Assembled) (body : EpochBody) → StandsFor injector setup bodies seen → body ≡ body_of_assembled injector.site injector.tables assembled → body ≡ body_of_assembled setup.site setup.tables assembled
body_is injector setup bodies seen assembled body stands is =
    is ∙ ap (λ (site : SiteId). body_of_assembled site injector.tables assembled) stands.site_is ∙ ap (λ (tables : List Mapped). body_of_assembled setup.site tables assembled) stands.tables_are

-- bodies with one that has something to log
pub with_logged : (bodies : List EpochBody) (body : EpochBody) → has_something_to_log body ≡ true → bodies ++ body ∷ [] ≡ bodies_with bodies body
with_logged bodies body some = rw some refl
