-- What the binlog files of a site represent.
use Rattle.std.specs.Prelude.{◌≡◌, ℕ, ◌+◌, ◌-◌, ◌^◌, ◌<◌, List, length}
use Rattle.rb_base.specs.declared.site.SiteId.{SiteId}
use Rattle.rb_log_defs.specs.File.{Binlog, file_name, files_in}
use Rattle.rb_device_defs.specs.Files.{HoldsFiles}
use Rattle.rb_binlog.specs.declared.binlog.BinlogFiles.{BinlogFiles}

-- the number of the last file
abbrev pub number_of : BinlogFiles → ℕ
number_of files = files.number

-- the length of the last file
abbrev pub length_of : BinlogFiles → ℕ
length_of files = files.length

-- the size of the rotate event that would end the last file and name the next one
abbrev pub rotation_size : BinlogFiles → ℕ
rotation_size files = 27 + length (file_name files.site (files.number + 1))

-- the files of this site represent a binlog, over a device that holds it
pub record StandsFor (files : BinlogFiles) (site : SiteId) (log : Binlog) (seen : ℕ → List ℕ) : Type 0 where
  pub site_is : files.site ≡ site
  pub number_is : files.number ≡ length log.closed + 1
  pub few : files.number < 2 ^ 32 - 1
  pub length_is : files.length ≡ length log.last
  pub held : HoldsFiles (files_in log) seen

-- the files represent some binlog
abbrev pub Stands : BinlogFiles → (seen : ℕ → List ℕ) → Type 0
Stands files seen = (site : SiteId) × (log : Binlog) × StandsFor files site log seen
