-- The binlog of a site: its files with their rotation, and the index rows of its epochs. As the
-- MySQL manual describes, each file begins with a magic number and a format description, and a file
-- that is full ends with a rotate event.
use Rattle.std.specs.Prelude.{ℕ, ◌+◌, ◌-◌, nat_le, if◌then◌else◌, List, [], ◌∷◌, ◌++◌, length, fold, replicate, codes}
use Rattle.std.specs.Fmt.{decimal}
use Rattle.rb_base.specs.Site.{server_of}
use Rattle.rb_base.specs.declared.site.SiteId.{SiteId}
use Rattle.rb_base.specs.declared.site.SiteId.TheVariants.{A, B}
use Rattle.rb_base.specs.declared.body.EpochBody.{EpochBody}
use Rattle.rb_base.specs.declared.body.IndexRow.{IndexRow}
use Rattle.rb_log_defs.specs.Event.{format_event, rotate_event}
use Rattle.rb_log_defs.specs.Epoch.{epoch_bytes}
use Rattle.rb_log_defs.specs.Index.{index_row}

-- the base name of a site's files
abbrev pub base_name : SiteId → List ℕ
base_name A = codes "a-bin."
base_name B = codes "b-bin."

-- the name of a file: the base name and the file's number in at least six digits
abbrev pub file_name : SiteId → (number : ℕ) → List ℕ
file_name site number = base_name site ++ (replicate (6 - length (decimal number)) 48 ++ decimal number)

-- the start of every file: the magic number and the format description
unfoldable pub file_start : SiteId → List ℕ
file_start site = 254 ∷ 98 ∷ 105 ∷ 110 ∷ format_event (server_of site) 4

-- a full file, whose last event is a rotate event that names the next file
abbrev pub rotated : SiteId → (number : ℕ) → (file : List ℕ) → List ℕ
rotated site number file = file ++ rotate_event (server_of site) 4 (file_name site (number + 1)) (length file)

-- a site's binlog: the full files, file 1 first; the last file, to which the next event is
-- appended; and the index rows
pub record Binlog : Type 0 where
  pub closed : List (List ℕ)
  pub last : List ℕ
  pub rows : List IndexRow

-- the files of a binlog, file 1 first
abbrev pub files_in : Binlog → List (List ℕ)
files_in log = log.closed ++ log.last ∷ []

-- a binlog without an epoch
abbrev pub new_binlog : SiteId → Binlog
new_binlog site = record { closed = []; last = file_start site; rows = [] }

-- if the length of the last file is at least the limit, that file is rotated and the next one
-- begins
abbrev pub rotated_at : SiteId → (limit : ℕ) → Binlog → Binlog
rotated_at site limit log =
    if nat_le limit (length log.last) then
    record log { closed = log.closed ++ rotated site (length log.closed + 1) log.last ∷ []; last = file_start site }
    else log

-- the binlog with one more epoch at the end of the last file, and the epoch's index row
abbrev pub with_epoch : SiteId → (limit : ℕ) → Binlog → EpochBody → Binlog
with_epoch site limit log body =
    let start = length log.last in
    let bytes = epoch_bytes body start in
    let row = index_row site (length log.closed + 1) start (start + length bytes) body in
    rotated_at site limit (record log { last = log.last ++ bytes; rows = log.rows ++ row ∷ [] })

-- the binlog of these bodies, written in this order
unfoldable pub binlog_of : SiteId → (limit : ℕ) → List EpochBody → Binlog
binlog_of site limit bodies = fold (with_epoch site limit) (new_binlog site) bodies

-- the files of that binlog, file 1 first
abbrev pub binlog_files : SiteId → (limit : ℕ) → List EpochBody → List (List ℕ)
binlog_files site limit bodies = files_in (binlog_of site limit bodies)

-- the index rows of that binlog, the oldest first
abbrev pub index_rows : SiteId → (limit : ℕ) → List EpochBody → List IndexRow
index_rows site limit bodies = (binlog_of site limit bodies).rows
