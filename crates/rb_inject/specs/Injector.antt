-- What an injector represents.
use Rattle.std.specs.Prelude.{◌≡◌, ℕ, ◌≤◌, ◌<◌, ◌⊎◌, if◌then◌else◌, List, [], ◌∷◌, ◌++◌, length, All, Option, None, IfSome}
use Rattle.std.specs.List.{last_or}
use Rattle.rb_base.specs.declared.site.SiteId.{SiteId}
use Rattle.rb_base.specs.declared.schema.Mapped.{Mapped}
use Rattle.rb_base.specs.declared.body.EpochBody.{EpochBody}
use Rattle.rb_base.specs.declared.body.IndexRow.{IndexRow}
use Rattle.rb_message_defs.specs.declared.answers.Assembled.{Assembled}
use Rattle.rb_journal_defs.specs.Body.{has_something_to_log}
use Rattle.rb_log_defs.specs.Epoch.{epoch_bytes}
use Rattle.rb_log_defs.specs.Fits.{CanBeMapped}
use Rattle.rb_log_defs.specs.File.{binlog_of, binlog_files, index_rows}
use Rattle.rb_device_defs.specs.Index.{last_epoch_of}
use Rattle.rb_device_defs.specs.Image.{HoldsLog, HoldsUpTo, IsLogImage, CanBeLogged}
use Rattle.rb_binlog.specs.Binlog as binlog
use Rattle.rb_inject.specs.Body.{body_of_assembled}
use Rattle.rb_inject.specs.declared.injector.Injector.{Injector}

-- what a log is written for: the site, the limit of its files in bytes, and its tables
pub record LogSetup : Type 0 where
  pub site : SiteId
  pub limit : ℕ
  pub tables : List Mapped

-- a limit that files can have
abbrev pub IsLimit : ℕ → Type 0
IsLimit limit = (512 ≤ limit) × (limit ≤ 67108864)

-- a legal setup: files can have its limit, its tables can be mapped, and there are at most 65536 of
-- them
pub record IsLogSetup (setup : LogSetup) : Type 0 where
  pub limit : IsLimit setup.limit
  pub tables : All CanBeMapped setup.tables
  pub few : length setup.tables ≤ 65536

-- an injector of this setup has logged these bodies, over a device that holds their log
pub record StandsFor (injector : Injector) (setup : LogSetup) (bodies : List EpochBody) (seen : ℕ → List ℕ) : Type 0 where
  pub site_is : injector.site ≡ setup.site
  pub limit_is : injector.limit ≡ setup.limit
  pub tables_are : injector.tables ≡ setup.tables
  pub legal : IsLogSetup setup
  pub files : binlog.StandsFor injector.files setup.site (binlog_of setup.site setup.limit bodies) seen
  pub rows : injector.index ≡ index_rows setup.site setup.limit bodies
  pub held : HoldsLog setup.site setup.limit bodies seen

-- the injector has logged the bodies of some list, possibly empty, with some setup
abbrev pub Stands : Injector → (seen : ℕ → List ℕ) → Type 0
Stands injector seen = (setup : LogSetup) × (bodies : List EpochBody) × StandsFor injector setup bodies seen

-- the number of the last binlog file
abbrev pub last_file_of : Injector → ℕ
last_file_of injector = binlog.number_of injector.files

-- the epoch of the last row of the index, or 0
abbrev pub written_of : Injector → ℕ
written_of injector = last_epoch_of injector.index

-- what an injector logs of an assembled epoch
abbrev pub body_for : Injector → Assembled → EpochBody
body_for injector assembled = body_of_assembled injector.site injector.tables assembled

-- these bodies, and one more if it has something to log
abbrev pub bodies_with : List EpochBody → EpochBody → List EpochBody
bodies_with bodies body = if has_something_to_log body then bodies ++ body ∷ [] else bodies

-- what a fault leaves: an image of the log without the epoch that is logged, or with it if it is not too
-- large
abbrev pub LeavesImage : LogSetup → List EpochBody → EpochBody → (seen : ℕ → List ℕ) → Type 0
LeavesImage setup bodies body seen =
    IsLogImage setup.site setup.limit bodies seen
    ⊎ ((length (epoch_bytes body 0) ≤ 2147483647) × IsLogImage setup.site setup.limit (bodies ++ body ∷ []) seen)

-- a device from which a log of these bodies can be recovered: it holds an image of it, the bodies
-- can be logged, and the last row's file has a number that leaves room for one more
pub record CanBeRecovered (setup : LogSetup) (bodies : List EpochBody) (seen : ℕ → List ℕ) : Type 0 where
  pub image : IsLogImage setup.site setup.limit bodies seen
  pub logged : CanBeLogged bodies
  pub few : IfSome (last_or None (index_rows setup.site setup.limit bodies)) (λ row. row.file < 4294967294)

-- `last` is the last index row of these bodies, or `None`; the device holds their binlog up to the
-- end of that row's epoch; the bodies can be logged, and the row's file number leaves room for one
-- more
pub record HoldsBinlogTo (site : SiteId) (limit : ℕ) (last : Option IndexRow) (bodies : List EpochBody) (seen : ℕ → List ℕ) : Type 0 where
  pub last_is : last ≡ last_or None (index_rows site limit bodies)
  pub files : HoldsUpTo last (binlog_files site limit bodies) seen
  pub logged : CanBeLogged bodies
  pub few : IfSome last (λ row. row.file < 4294967294)

-- the limit of an injector's files, in bytes
abbrev pub limit_of : Injector → ℕ
limit_of injector = injector.limit
