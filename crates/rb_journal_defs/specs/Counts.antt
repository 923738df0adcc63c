-- The numbers of a journal's changes.
use Rattle.std.specs.Prelude.{ℕ, List, [], ◌∷◌, ◌++◌, length, sum_by}
use Rattle.rb_base.specs.declared.site.SiteId.{SiteId}
use Rattle.rb_base.specs.declared.change.Change.{Change}
use Rattle.rb_journal_defs.specs.Journal.{Entry, Client, Applied, Closed, Journal, changes_of, own_of, status_change}

-- the number of changes that the site made itself: those of its clients, and its refreshes
abbrev pub own_changes : Journal → ℕ
own_changes journal = sum_by (λ entry. length (own_of entry)) journal

-- the number of all changes, with those of the peer and the applier's progress
abbrev pub all_changes : SiteId → Journal → ℕ
all_changes site journal = sum_by (λ entry. length (changes_of site entry)) journal

-- the changes of an entry that an applier made: the accepted changes of the peer, and its progress
abbrev pub applied_of : SiteId → Entry → List Change
applied_of site (Client epoch transid changes) = []
applied_of site (Applied epoch source transid accepted refreshes) = accepted ++ status_change site source transid ∷ []
applied_of site (Closed epoch) = []

-- the number of these changes in a journal
abbrev pub applied_changes : SiteId → Journal → ℕ
applied_changes site journal = sum_by (λ entry. length (applied_of site entry)) journal
