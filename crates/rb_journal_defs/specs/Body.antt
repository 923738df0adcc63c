-- The body of an epoch, which the injector logs. As the MySQL manual describes for NDB Cluster
-- Replication, the injector writes each epoch as one transaction of the binlog, in order, and skips
-- empty epochs. The buckets are this project's own.
use Rattle.std.specs.Prelude.{ℕ, zero, suc, ◌==◌, ◌&&◌, ◌||◌, not, Bool, true, false, if◌then◌else◌, List, [], ◌∷◌, ◌++◌, filter, map, take, Option, Some, None, is_some, codes}
use Rattle.std.specs.List.{flat_map, list_any, enumerate_from}
use Rattle.rb_base.specs.Bucket.{bucket_number}
use Rattle.rb_base.specs.Site.{server_of}
use Rattle.rb_base.specs.declared.epoch.Epoch.{Epoch}
use Rattle.rb_base.specs.declared.site.SiteId.{SiteId}
use Rattle.rb_base.specs.declared.site.SiteId.TheVariants.{A, B}
use Rattle.rb_base.specs.declared.schema.Column.TheVariants.{Num}
use Rattle.rb_base.specs.declared.schema.Schema.{Schema}
use Rattle.rb_base.specs.declared.schema.Mapped.{Mapped}
use Rattle.rb_base.specs.declared.change.Change.{Change}
use Rattle.rb_base.specs.declared.body.EpochBody.{EpochBody}
use Rattle.rb_journal_defs.specs.Journal.{Client, Applied, Closed, Journal, epoch_of, changes_of, closed_epochs}

-- a declared table as the log maps it: its schema is `db`, its id is its number, and the key comes
-- before its columns
abbrev pub mapped_table : ℕ × Schema → Mapped
mapped_table pair = record { id = pair.0; schema = codes "db"; name = pair.1.name; columns = Num ∷ pair.1.columns }

-- the tables of a script as the log maps them, numbered from 1
abbrev pub mapped_tables : List Schema → List Mapped
mapped_tables schemas = map mapped_table (enumerate_from 1 schemas)

-- what the log depends on at a site: which site it is, the number of its buckets, and its tables
pub record Shape : Type 0 where
  pub site : SiteId
  pub buckets : ℕ
  pub tables : List Mapped

-- all changes of an epoch, the oldest first
abbrev pub changes_in : SiteId → (epoch : ℕ) → Journal → List Change
changes_in site epoch [] = []
changes_in site epoch (entry ∷ older) =
    changes_in site epoch older ++ (if epoch_of entry == epoch then changes_of site entry else [])

-- those of these changes whose key is in the bucket
abbrev pub in_bucket : (buckets bucket : ℕ) → List Change → List Change
in_bucket buckets bucket changes = filter (λ change. bucket_number change.table change.key buckets == bucket) changes

-- a bucket's part of an epoch: the changes of the epoch whose key is in the bucket
abbrev pub part_of : Shape → (epoch bucket : ℕ) → Journal → List Change
part_of shape epoch bucket journal = in_bucket shape.buckets bucket (changes_in shape.site epoch journal)

-- the numbers from 0 to `n - 1`, in ascending order
abbrev pub numbers_below : ℕ → List ℕ
numbers_below zero = []
numbers_below (suc n) = numbers_below n ++ n ∷ []

-- a change that is logged: it is of a user table, and its author is this site
abbrev pub is_logged : SiteId → Change → Bool
is_logged site change = not (change.table == 0) && (change.author == server_of site)

-- the changes that an epoch logs: the logged changes of each part, in the order of the buckets
abbrev pub body_changes : Shape → (epoch : ℕ) → Journal → List Change
body_changes shape epoch journal =
    filter (is_logged shape.site) (flat_map (λ bucket. part_of shape epoch bucket journal) (numbers_below shape.buckets))

-- the last epoch of the peer that was applied in this epoch, if any was
abbrev pub last_source : (epoch : ℕ) → Journal → Option Epoch
last_source epoch [] = None
last_source epoch (Client own transid changes ∷ older) = last_source epoch older
last_source epoch (Applied own source transid accepted refreshes ∷ older) =
    if own == epoch then Some (record { 0 = source }) else last_source epoch older
last_source epoch (Closed own ∷ older) = last_source epoch older

-- the reflected epoch: the secondary records the last epoch of the primary that it applied within
-- this epoch, if any; the primary records none
abbrev pub reflected_in : SiteId → (epoch : ℕ) → Journal → Option Epoch
reflected_in A epoch journal = None
reflected_in B epoch journal = last_source epoch journal

-- one of these changes is of this table
abbrev pub is_named_in : List Change → Mapped → Bool
is_named_in changes table = list_any (λ change. change.table == table.id) changes

-- a body of these changes and of the tables that they name
abbrev pub body_with : Shape → (epoch : ℕ) → (reflected : Option Epoch) → List Change → EpochBody
body_with shape epoch reflected changes = record {
  server = server_of shape.site;
  epoch = record { 0 = epoch };
  reflected = reflected;
  tables = filter (is_named_in changes) shape.tables;
  changes = changes;
}

-- the body of an epoch
unfoldable pub body_of : Shape → (epoch : ℕ) → Journal → EpochBody
body_of shape epoch journal = body_with shape epoch (reflected_in shape.site epoch journal) (body_changes shape epoch journal)

-- the list of changes is not empty
abbrev pub is_some_change : List Change → Bool
is_some_change [] = false
is_some_change (change ∷ changes) = true

-- a body has something to log if it has a change or a reflected epoch
abbrev pub has_something_to_log : EpochBody → Bool
has_something_to_log body = is_some_change body.changes || is_some body.reflected

-- the completed epochs: the closed epochs that have something to log, in order
unfoldable pub completed_epochs : Shape → Journal → List ℕ
completed_epochs shape journal = filter (λ epoch. has_something_to_log (body_of shape epoch journal)) (closed_epochs journal)

-- the bodies of the completed epochs, in order
unfoldable pub completed_bodies : Shape → Journal → List EpochBody
completed_bodies shape journal = map (λ epoch. body_of shape epoch journal) (completed_epochs shape journal)

-- the first `n` of these bodies: those that an injector has logged after `n` logged epochs
abbrev pub logged_bodies : Shape → (n : ℕ) → Journal → List EpochBody
logged_bodies shape n journal = take n (completed_bodies shape journal)
