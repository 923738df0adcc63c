-- The journal of a site, its rows and its closed epochs. As the MySQL manual describes for NDB
-- Cluster Replication, an epoch holds whole transactions, and the applier writes its progress in
-- the same transaction as the rows.
use Rattle.std.specs.Prelude.{ℕ, ◌==◌, ◌&&◌, nat_lt, List, [], ◌∷◌, ◌++◌, map, filter, fold, Bool, Option, Some, None, unwrap_or}
use Rattle.std.specs.List.{last_or}
use Rattle.rb_base.specs.Site.{server_of, peer_of}
use Rattle.rb_base.specs.declared.site.SiteId.{SiteId}
use Rattle.rb_base.specs.declared.row.Row.{Row}
use Rattle.rb_base.specs.declared.row.Value.TheVariants as values
use Rattle.rb_base.specs.declared.change.Kind.{Kind}
use Rattle.rb_base.specs.declared.change.Kind.TheVariants.{Insert, Update, Remove}
use Rattle.rb_base.specs.declared.change.Change.{Change}

-- what a site does: it commits a client's transaction in its open epoch, applies an epoch of its
-- peer within its open epoch, or closes its open epoch
pub data Entry : Type 0 where
  Client : (epoch transid : ℕ) → (changes : List Change) → Entry
  Applied : (epoch source transid : ℕ) → (accepted refreshes : List Change) → Entry
  Closed : (epoch : ℕ) → Entry

-- all that a site did, the newest entry first
abbrev pub Journal : Type 0
Journal = List Entry

-- the site's own epoch to which an entry belongs
abbrev pub epoch_of : Entry → ℕ
epoch_of (Client epoch transid changes) = epoch
epoch_of (Applied epoch source transid accepted refreshes) = epoch
epoch_of (Closed epoch) = epoch

-- the applier's progress: the peer's row of the apply-status table gets the number of the epoch
-- that was applied
abbrev pub status_change : SiteId → (source transid : ℕ) → Change
status_change site source transid =
    let peer = server_of (peer_of site) in record {
      table = 0;
      key = peer;
      kind = Update;
      before = None;
      after = Some (record { values = values.Num peer ∷ values.Num source ∷ [] });
      author = peer;
      transid = transid;
    }

-- the changes that an entry makes to rows of the user tables, in order
abbrev pub row_changes_of : Entry → List Change
row_changes_of (Client epoch transid changes) = changes
row_changes_of (Applied epoch source transid accepted refreshes) = accepted ++ refreshes
row_changes_of (Closed epoch) = []

-- those of these changes that the site made itself: its clients' changes, and its refreshes
abbrev pub own_of : Entry → List Change
own_of (Client epoch transid changes) = changes
own_of (Applied epoch source transid accepted refreshes) = refreshes
own_of (Closed epoch) = []

-- all changes of an entry, in order; the last change of an applied epoch is the applier's progress
abbrev pub changes_of : SiteId → Entry → List Change
changes_of site (Client epoch transid changes) = changes
changes_of site (Applied epoch source transid accepted refreshes) = (accepted ++ refreshes) ++ status_change site source transid ∷ []
changes_of site (Closed epoch) = []

-- a change is of this key of this table
abbrev pub names_key : (table key : ℕ) → Change → Bool
names_key table key change = (change.table == table) && (change.key == key)

-- those of these changes that are of the key
abbrev pub of_key : (table key : ℕ) → List Change → List Change
of_key table key changes = filter (names_key table key) changes

-- the row that a change of this kind leaves: the after image of an insert or an update, and none of
-- a remove
abbrev pub row_after_kind : Kind → Option Row → Option Row
row_after_kind Insert after = after
row_after_kind Update after = after
row_after_kind Remove after = None

-- the row that a change leaves, if it leaves one
abbrev pub row_after : Change → Option Row
row_after change = row_after_kind change.kind change.after

-- the row that changes of one key leave of a row, one change after the other
abbrev pub row_left : List Change → Option Row → Option Row
row_left changes row = fold (λ left change. row_after change) row changes

-- the row that the last change of a key left; none if the key was never changed
abbrev pub row_at : (table key : ℕ) → Journal → Option Row
row_at table key [] = None
row_at table key (entry ∷ older) = row_left (of_key table key (row_changes_of entry)) (row_at table key older)

-- the closed epochs, in order
abbrev pub closed_epochs : Journal → List ℕ
closed_epochs [] = []
closed_epochs (Client epoch transid changes ∷ older) = closed_epochs older
closed_epochs (Applied epoch source transid accepted refreshes ∷ older) = closed_epochs older
closed_epochs (Closed epoch ∷ older) = closed_epochs older ++ epoch ∷ []

-- the last closed epoch below this one, or 0
abbrev pub previous_closed : (epoch : ℕ) → Journal → ℕ
previous_closed epoch journal = unwrap_or (last_or None (filter (λ closed. nat_lt closed epoch) (closed_epochs journal))) 0

-- the closed epochs of a journal, each with the one closed before it
abbrev pub closes_of : Journal → List (ℕ × ℕ)
closes_of journal = map (λ epoch. (epoch, previous_closed epoch journal)) (closed_epochs journal)
