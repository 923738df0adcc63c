-- The body of an assembled epoch. After the chapter of the MySQL manual on NDB Cluster Replication:
-- a site logs the changes of its own clients, and a secondary records which epoch of the primary it
-- has applied.
use Rattle.std.specs.Prelude.{◌==◌, ◌&&◌, if◌then◌else◌, List, [], ◌∷◌, filter, filter_map, Option, Some, None}
use Rattle.std.specs.List.{flat_map, last_or}
use Rattle.rb_base.specs.Site.{server_of}
use Rattle.rb_base.specs.declared.site.SiteId.{SiteId}
use Rattle.rb_base.specs.declared.site.SiteId.TheVariants.{A, B}
use Rattle.rb_base.specs.declared.epoch.Epoch.{Epoch}
use Rattle.rb_base.specs.declared.schema.Mapped.{Mapped}
use Rattle.rb_base.specs.declared.row.Value.{Value}
use Rattle.rb_base.specs.declared.row.Value.TheVariants as values
use Rattle.rb_base.specs.declared.row.Row.{Row}
use Rattle.rb_base.specs.declared.change.Change.{Change}
use Rattle.rb_base.specs.declared.body.EpochBody.{EpochBody}
use Rattle.rb_message_defs.specs.declared.answers.Assembled.{Assembled}
use Rattle.rb_journal_defs.specs.Body.{is_logged, is_named_in}

-- all changes of these parts, bucket 0 first
abbrev pub changes_in_parts : List (List Change) → List Change
changes_in_parts parts = flat_map (λ part. part) parts

-- the changes that are logged
abbrev pub logged_of : SiteId → List (List Change) → List Change
logged_of site parts = filter (is_logged site) (changes_in_parts parts)

-- the epoch after the server id, in a row of the apply-status table
abbrev pub epoch_following : List Value → Option Epoch
epoch_following [] = None
epoch_following (server ∷ []) = None
epoch_following (server ∷ values.Num epoch ∷ others) = Some (record { 0 = epoch })
epoch_following (server ∷ values.Text text ∷ others) = None

-- the same for an image that may be absent
abbrev pub epoch_in_image : Option Row → Option Epoch
epoch_in_image None = None
epoch_in_image (Some row) = epoch_following row.values

-- the epoch of the primary that a change of its row of the apply-status table records
abbrev pub applied_epoch_in : Change → Option Epoch
applied_epoch_in change = if (change.table == 0) && (change.key == 1) then epoch_in_image change.after else None

-- the reflected epoch: at the secondary, the last epoch that was recorded as applied
abbrev pub reflected_of : SiteId → List (List Change) → Option Epoch
reflected_of A parts = None
reflected_of B parts = last_or None (filter_map applied_epoch_in (changes_in_parts parts))

-- the body of an assembled epoch of a site with these tables
abbrev pub body_of_assembled : SiteId → List Mapped → Assembled → EpochBody
body_of_assembled site tables assembled = record {
  server = server_of site;
  epoch = assembled.epoch;
  reflected = reflected_of site assembled.parts;
  tables = filter (is_named_in (logged_of site assembled.parts)) tables;
  changes = logged_of site assembled.parts;
}
