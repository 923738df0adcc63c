-- A rotation on the device: the last file ends with its rotate event, and the next one begins.
use Rattle.std.proofs.Common.{◌≡◌, ◌≢◌, ◌≤◌, ◌<◌, ◌+◌, ℕ, List, [], ◌∷◌, ◌++◌, length, sym, ap, subst, ◌∙◌, arith, length-append}
use Rattle.std.proofs.lemmas.Bool.{le-leb}
use Rattle.std.proofs.lemmas.Grind.{common_steps}
use Rattle.std.specs.Prelude.{Bool, true, nat_le, if◌then◌else◌}
use Rattle.rb_base.specs.declared.site.SiteId.{SiteId}
use Rattle.rb_log_defs.specs.File.{Binlog, files_in, rotated, rotated_at, file_start}
use Rattle.rb_log_defs.proofs.Sizes.{name_length}
use Rattle.rb_device_defs.specs.Files.{HoldsFiles, file_at}
use Rattle.rb_device_defs.proofs.PrefixLaws.{after_front}
use Rattle.rb_binlog.specs.declared.binlog.BinlogFiles.{BinlogFiles}
use Rattle.rb_binlog.specs.Binlog.{StandsFor, rotation_size}

-- a rotate event has at most 43 bytes
pub rotation_small : (files : BinlogFiles) → files.number < 4294967295 → rotation_size files ≤ 43
rotation_small files few = omega (arith, name_length files.site (files.number + 1) (omega (arith, few)))

-- the last file is another
pub last_changed : (closed : List (List ℕ)) (last file : List ℕ) (seen now : ℕ → List ℕ) → HoldsFiles (closed ++ last ∷ []) seen → now (length closed + 1) ≡ file → ((other : ℕ) → other ≢ length closed + 1 → now other ≡ seen other) → HoldsFiles (closed ++ file ∷ []) now
last_changed closed last file seen now held here others number some = grind (arith, common_steps, held number some)

-- a file more
pub one_more : (files : List (List ℕ)) (file : List ℕ) (seen now : ℕ → List ℕ) → HoldsFiles files seen → now (length files + 1) ≡ file → ((other : ℕ) → other ≢ length files + 1 → now other ≡ seen other) → HoldsFiles (files ++ file ∷ []) now
one_more files file seen now held here others number some = grind (arith, common_steps, held number some)

-- a rotated log, whatever the test of its length says
abbrev rotated_where : SiteId → Binlog → Bool → Binlog
rotated_where site log full = if full then record log { closed = log.closed ++ rotated site (length log.closed + 1) log.last ∷ []; last = file_start site } else log

-- files that represent a log whose last file has come to the limit, and for the rotated one after
-- both writes
pub rotates : (files grown : BinlogFiles) (site : SiteId) (limit : ℕ) (log : Binlog) (before ended now : ℕ → List ℕ) → StandsFor files site log before → files.number < 4294967294 → limit ≤ files.length → ended files.number ≡ rotated files.site files.number (before files.number) → ((other : ℕ) → other ≢ files.number → ended other ≡ before other) → now (files.number + 1) ≡ file_start files.site → ((other : ℕ) → other ≢ files.number + 1 → now other ≡ ended other) → grown.site ≡ files.site → grown.number ≡ files.number + 1 → grown.length ≡ length (file_start files.site) → StandsFor grown site (rotated_at site limit log) now × (true ≡ nat_le limit (length log.last))
rotates files grown site limit log before ended now stands few reached end others start rest same next size =
    let at : files.number ≡ length log.closed + 1 = stands.number_is in
    let full : nat_le limit (length log.last) ≡ true = le-leb limit (length log.last) (let e = stands.length_is in omega arith) in
    let last : before files.number ≡ log.last = stands.held files.number (omega (arith, at)) ∙ ap (file_at (files_in log)) at ∙ after_front log.closed log.last [] in
    let event : List ℕ = rotated site (length log.closed + 1) log.last in
    let ended_is : ended (length log.closed + 1) ≡ event = let s = stands.site_is in cc in
    let closed_held : HoldsFiles (log.closed ++ event ∷ []) ended = last_changed log.closed log.last event before ended stands.held ended_is (λ other away. others other (λ e. away (e ∙ at))) in
    let count : length (log.closed ++ event ∷ []) + 1 ≡ files.number + 1 = omega (arith, at, length-append log.closed (event ∷ [])) in
    let held : HoldsFiles (log.closed ++ event ∷ [] ++ file_start site ∷ []) now = one_more (log.closed ++ event ∷ []) (file_start site) ended now closed_held (ap now count ∙ start ∙ ap file_start stands.site_is) (λ other away. rest other (λ e. away (e ∙ sym count))) in
    let stood : StandsFor grown site (rotated_where site log true) now = record {
      site_is = same ∙ stands.site_is;
      number_is = next ∙ sym count;
      few = omega arith;
      length_is = size ∙ ap (λ (s : SiteId). length (file_start s)) stands.site_is;
      held = held;
    } in
    (subst (λ (b : Bool). StandsFor grown site (rotated_where site log b) now) (sym full) stood, sym full)
