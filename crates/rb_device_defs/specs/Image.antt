-- A site's log on its device: the whole log, and the images of it that recovery may find.
use Rattle.std.specs.Prelude.{◌≡◌, ℕ, ⊤, ◌<◌, ◌≤◌, ◌^◌, List, length, All, Option, Some, None}
use Rattle.std.specs.List.{last_or}
use Rattle.std.specs.List.Sorted.{IsNonDecreasingBy}
use Rattle.rb_base.specs.declared.site.SiteId.{SiteId}
use Rattle.rb_base.specs.declared.body.EpochBody.{EpochBody}
use Rattle.rb_base.specs.declared.body.IndexRow.{IndexRow}
use Rattle.rb_log_defs.specs.Epoch.{epoch_bytes}
use Rattle.rb_log_defs.specs.Fits.{CanBeWritten}
use Rattle.rb_log_defs.specs.File.{binlog_files, index_rows}
use Rattle.rb_log_defs.specs.Index.{index_file}
use Rattle.rb_device_defs.specs.Files.{HoldsFiles, HoldsPrefix}
use Rattle.rb_device_defs.specs.Index.{IsIndexImage}

-- the device holds the whole log of these bodies: the index in file 0, and the binlog in files 1
-- and following
pub record HoldsLog (site : SiteId) (limit : ℕ) (bodies : List EpochBody) (seen : ℕ → List ℕ) : Type 0 where
  pub index : seen 0 ≡ index_file (index_rows site limit bodies)
  pub files : HoldsFiles (binlog_files site limit bodies) seen

-- the device holds these binlog files up to the end of this row's epoch; without a row it need hold
-- nothing
abbrev pub HoldsUpTo : Option IndexRow → List (List ℕ) → (seen : ℕ → List ℕ) → Type 0
HoldsUpTo None files seen = ⊤
HoldsUpTo (Some row) files seen = HoldsPrefix row.next_file row.next_position files seen

-- an image of the log of these bodies, which recovery may find on the device: file 0 has the
-- records of their rows and no further record that recovery accepts, and the binlog is there up to
-- the end of the last epoch; all other bytes are arbitrary
pub record IsLogImage (site : SiteId) (limit : ℕ) (bodies : List EpochBody) (seen : ℕ → List ℕ) : Type 0 where
  pub index : IsIndexImage (index_rows site limit bodies) (seen 0)
  pub files : HoldsUpTo (last_or None (index_rows site limit bodies)) (binlog_files site limit bodies) seen

-- a body that can be written, and whose length, counts and epoch have room in the fields of the log
pub record HasRoomInLog (body : EpochBody) : Type 0 where
  pub written : CanBeWritten body
  pub small : length (epoch_bytes body 0) ≤ 2147483647
  pub few : length body.changes < 2 ^ 32
  pub epoch : body.epoch.0 < 2 ^ 64

-- bodies that a log can have: each has room in the log, and no epoch is below the one before it
pub record CanBeLogged (bodies : List EpochBody) : Type 0 where
  pub room : All HasRoomInLog bodies
  pub in_order : IsNonDecreasingBy (λ body. body.epoch.0) bodies
