-- The two sites.
use Rattle.std.specs.Prelude.{ℕ}
use Rattle.rb_base.specs.declared.site.SiteId.{SiteId}
use Rattle.rb_base.specs.declared.site.SiteId.TheVariants.{A, B}

-- the server id of a site
abbrev pub server_of : SiteId → ℕ
server_of A = 1
server_of B = 2

-- the site that replicates with it
abbrev pub peer_of : SiteId → SiteId
peer_of A = B
peer_of B = A
