-- The order of a journal's epochs, and the authors of its changes.
use Rattle.std.specs.Prelude.{◌≡◌, ◌⊎◌, ℕ, ◌<◌, List, [], ◌∷◌}
use Rattle.std.specs.List.{AllByRecursion}
use Rattle.rb_base.specs.Site.{server_of, peer_of}
use Rattle.rb_base.specs.declared.site.SiteId.{SiteId}
use Rattle.rb_base.specs.declared.change.Change.{Change}
use Rattle.rb_journal_defs.specs.Journal.{Entry, Client, Applied, Closed, Journal}

-- the journal of a site with this open epoch: each entry belongs to the epoch that was open at the
-- time, and each epoch has a greater number than the one before
abbrev pub InOrder : (opened : ℕ) → Journal → Type 0
InOrder opened [] = 0 < opened
InOrder opened (Client epoch transid changes ∷ older) = (epoch ≡ opened) × InOrder opened older
InOrder opened (Applied epoch source transid accepted refreshes ∷ older) = (epoch ≡ opened) × InOrder opened older
InOrder opened (Closed epoch ∷ older) = (epoch < opened) × InOrder epoch older

-- this epoch is closed
abbrev pub IsClosed : (epoch : ℕ) → Journal → Type 0
IsClosed epoch [] = ⊥
IsClosed epoch (Client own transid changes ∷ older) = IsClosed epoch older
IsClosed epoch (Applied own source transid accepted refreshes ∷ older) = IsClosed epoch older
IsClosed epoch (Closed own ∷ older) = (own ≡ epoch) ⊎ IsClosed epoch older

-- an entry that adds changes to this epoch: a client's transaction or an applied epoch of the peer
abbrev pub AddsTo : (epoch : ℕ) → Entry → Type 0
AddsTo epoch (Client own transid changes) = own ≡ epoch
AddsTo epoch (Applied own source transid accepted refreshes) = own ≡ epoch
AddsTo epoch (Closed own) = ⊥

-- this server made each of these changes
abbrev pub MadeBy : (server : ℕ) → List Change → Type 0
MadeBy server changes = AllByRecursion (λ change. change.author ≡ server) changes

-- each change of an entry has its author: the site made its clients' changes and its refreshes, and
-- the peer made the changes that were accepted
abbrev pub HasAuthors : SiteId → Entry → Type 0
HasAuthors site (Client epoch transid changes) = MadeBy (server_of site) changes
HasAuthors site (Applied epoch source transid accepted refreshes) = MadeBy (server_of (peer_of site)) accepted × MadeBy (server_of site) refreshes
HasAuthors site (Closed epoch) = Unit {0}

-- each change of a journal has its author
abbrev pub AreAuthored : SiteId → Journal → Type 0
AreAuthored site journal = AllByRecursion (HasAuthors site) journal
