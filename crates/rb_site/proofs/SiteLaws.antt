-- What a site shows of the point of a run that it represents.
use Rattle.std.proofs.Common.{◌≡◌, ℕ, List}
use Rattle.rb_base.specs.declared.site.SiteId.TheVariants.{A}
use Rattle.rb_device_defs.specs.Image.{HoldsLog}
use Rattle.rb_journal_defs.specs.Body.{Shape}
use Rattle.rb_play_defs.specs.Step.{Progress, written_bodies}
use Rattle.rb_play_defs.specs.Sound.{IsSound}
use Rattle.rb_site.specs.Site.{IsSite, limit_of}
use Rattle.rb_site.specs.declared.site.Site.{Site}

-- it is the primary
pub is_primary : (shape : Shape) (site : Site) (seen : ℕ → List ℕ) (run : Progress) → IsSite shape site seen run → shape.site ≡ A
is_primary shape site seen run held = held.cluster.rest.point.declared.primary

-- the point is sound
pub is_sound : (shape : Shape) (site : Site) (seen : ℕ → List ℕ) (run : Progress) → IsSite shape site seen run → IsSound shape run
is_sound shape site seen run held = held.cluster.rest.point.sound

-- its device holds the log of what is written
pub holds_log : (shape : Shape) (site : Site) (seen : ℕ → List ℕ) (run : Progress) → IsSite shape site seen run → HoldsLog shape.site (limit_of site) (written_bodies shape run) seen
holds_log shape site seen run held = held.cluster.log.injector.held
