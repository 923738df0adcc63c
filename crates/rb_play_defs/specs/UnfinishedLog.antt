-- The log of a run that stopped before its end.
use Rattle.std.specs.Prelude.{ℕ, ◌≤◌, List, length, take}
use Rattle.rb_base.specs.declared.site.SiteId.{SiteId}
use Rattle.rb_base.specs.declared.body.EpochBody.{EpochBody}
use Rattle.rb_device_defs.specs.Image.{IsLogImage}

-- the site's device holds an image of the log of the first `count` of these bodies, at least
-- `least` of them; recovery accepts that image
pub record HoldsUnfinishedLog (site : SiteId) (limit least : ℕ) (bodies : List EpochBody) (seen : ℕ → List ℕ) : Type 0 where
  pub count : ℕ
  pub least_are_there : least ≤ count
  pub within : count ≤ length bodies
  pub image : IsLogImage site limit (take count bodies) seen
