-- The content of an epoch that has begun and not ended yet.
use Rattle.std.specs.Prelude.{◌≡◌, ℕ, ◌==◌, List, Option, Some, None, find, option_to_list}
use Rattle.std.specs.Ordering.{nat_cmp}
use Rattle.std.specs.BTreeMap.{get}
use Rattle.std.specs.List.{flat_map}
use Rattle.rb_base.specs.declared.schema.Mapped.{Mapped}
use Rattle.rb_read_defs.specs.Stream.{Known, maps_of, statuses_of, changes_read, tables_named}
use Rattle.rb_stream.specs.EpochStatus.{HoldsStatus}
use Rattle.rb_stream.specs.declared.epoch.OpenEpoch.{OpenEpoch}

-- the last map of a table id
abbrev pub table_in : OpenEpoch → (id : ℕ) → Option Mapped
table_in epoch id = get nat_cmp epoch.tables id

-- the tables that the changes name, in ascending order of the ids
abbrev pub named_tables : OpenEpoch → List Mapped
named_tables epoch = flat_map (λ id. option_to_list (table_in epoch id)) (tables_named epoch.changes.items)

-- an epoch holds the content of these events, the newest first, which follow its BEGIN
pub record HoldsEpoch (epoch : OpenEpoch) (events : List Known) : Type 0 where
  pub tables : (id : ℕ) → table_in epoch id ≡ find (λ table. table.id == id) (maps_of events)
  pub epoch_status : HoldsStatus epoch.epoch_status (statuses_of events)
  pub changes : epoch.changes.items ≡ changes_read events

-- a decoder's open epoch is the one of these events; if they have none, the decoder has none
abbrev pub IsOpen : Option OpenEpoch → Option (List Known) → Type 0
IsOpen None None = Unit {0}
IsOpen (Some epoch) (Some events) = HoldsEpoch epoch events
IsOpen None (Some events) = ⊥
IsOpen (Some epoch) None = ⊥
