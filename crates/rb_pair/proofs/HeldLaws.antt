-- Empty devices have no first file that is not empty.
use Rattle.std.proofs.Common.{◌≡◌, ℕ, List, [], length, ap, arith}
use Rattle.rb_base.specs.declared.site.SiteId.{SiteId}
use Rattle.rb_base.specs.declared.site.SiteId.TheVariants.{A, B}
use Rattle.rb_disk.specs.Disk.{IsLowestFile}
use Rattle.rb_pair.specs.Held.{AreEmpty, IsFirstHeld}

-- no file of an empty device is the lowest that is not empty
pub none_lowest : (file size : ℕ) (seen : ℕ → List ℕ) → ((other : ℕ) → seen other ≡ []) → IsLowestFile file size seen → ⊥
none_lowest file size seen empty held = omega (arith, ap length (empty file), held.there, held.some)

-- nor is one of two empty devices the first
pub none_first : (site : SiteId) (file size : ℕ) (seen_a seen_b : ℕ → List ℕ) → AreEmpty seen_a seen_b → IsFirstHeld site file size seen_a seen_b → ⊥
none_first A file size seen_a seen_b empty held = none_lowest file size seen_a empty.0 held
none_first B file size seen_a seen_b empty held = none_lowest file size seen_b empty.1 held.1
