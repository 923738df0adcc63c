-- The images of file 0 that recovery may find, and rows that can be read from them.
use Rattle.std.specs.Prelude.{◌≡◌, ◌≢◌, ℕ, ◌<◌, ◌^◌, ◌==◌, ◌&&◌, Bool, false, nat_lt, List, [], ◌∷◌, ◌++◌, length, get_or, None}
use Rattle.std.specs.List.{flat_map, last_or}
use Rattle.std.specs.List.Sorted.{IsNonDecreasingBy}
use Rattle.std.specs.Option.{option_map_or}
use Rattle.rb_base.specs.declared.body.IndexRow.{IndexRow}
use Rattle.rb_log_defs.specs.Index.{index_record}

-- the length in bytes of a record with its gate
abbrev pub record_size : ℕ
record_size = 65

-- the records of these rows, each after an open gate
abbrev pub open_records : List IndexRow → List ℕ
open_records rows = flat_map (λ row. 1 ∷ index_record row) rows

-- these bytes begin with a record that recovery accepts: its gate is open, all of the record is
-- there, and at least one byte follows it
abbrev pub begins_with_record : List ℕ → Bool
begins_with_record bytes = (get_or bytes 0 0 == 1) && nat_lt record_size (length bytes)

-- an image of file 0 for these rows: their records, at least one byte after them if there are rows,
-- and no further record that recovery accepts
pub record IsIndexImage (rows : List IndexRow) (file : List ℕ) : Type 0 where
  pub following : List ℕ
  pub bytes : file ≡ open_records rows ++ following
  pub more : rows ≢ [] → 0 < length following
  pub ended : begins_with_record following ≡ false

-- a row whose numbers fit into their fields
pub record HasRoom (row : IndexRow) : Type 0 where
  pub epoch : row.epoch.0 < 2 ^ 64
  pub orig_epoch : row.orig_epoch.0 < 2 ^ 64
  pub position : row.position < 2 ^ 64
  pub next_position : row.next_position < 2 ^ 64
  pub file : row.file < 2 ^ 32
  pub next_file : row.next_file < 2 ^ 32
  pub inserts : row.inserts < 2 ^ 32
  pub updates : row.updates < 2 ^ 32
  pub deletes : row.deletes < 2 ^ 32
  pub schemaops : row.schemaops < 2 ^ 32
  pub orig_server_id : row.orig_server_id < 2 ^ 32
  pub gci : row.gci < 2 ^ 32

-- no row's epoch is below that of the row before it
abbrev pub NeverFall : List IndexRow → Type 0
NeverFall rows = IsNonDecreasingBy (λ row. row.epoch.0) rows

-- the epoch of the last row, or 0 if there is no row
abbrev pub last_epoch_of : List IndexRow → ℕ
last_epoch_of rows = option_map_or (λ row. row.epoch.0) (last_or None rows) 0
