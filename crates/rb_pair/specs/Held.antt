-- Devices that are empty, and the first file that is not.
use Rattle.std.specs.Prelude.{◌≡◌, ℕ, List, []}
use Rattle.rb_base.specs.declared.site.SiteId.{SiteId}
use Rattle.rb_base.specs.declared.site.SiteId.TheVariants.{A, B}
use Rattle.rb_disk.specs.Disk.{IsLowestFile}

-- both devices are empty
abbrev pub AreEmpty : (seen_a seen_b : ℕ → List ℕ) → Type 0
AreEmpty seen_a seen_b = ((file : ℕ) → seen_a file ≡ []) × ((file : ℕ) → seen_b file ≡ [])

-- this file of this site is the first that is not empty, site A before site B and the lowest file
-- first, and has this length
abbrev pub IsFirstHeld : SiteId → (file size : ℕ) → (seen_a seen_b : ℕ → List ℕ) → Type 0
IsFirstHeld A file size seen_a seen_b = IsLowestFile file size seen_a
IsFirstHeld B file size seen_a seen_b = ((other : ℕ) → seen_a other ≡ []) × IsLowestFile file size seen_b
