-- The worked example as a file, and changed copies of it.
use Rattle.std.specs.Prelude.{ℕ, ◌+◌, List, [], ◌∷◌, ◌++◌, length, take, drop, codes, Option}
use Rattle.rb_base.specs.declared.faults.Field.{Field}
use Rattle.rb_log_defs.specs.Types.{query_type, table_map_type, write_rows_type, update_rows_type}
use Rattle.rb_log_defs.specs.Event.{header_bytes, query_payload}
use Rattle.rb_log_defs.specs.Worked.{start_bytes, first_path_bytes}
use Rattle.rb_read_defs.specs.Stream.{seen_of}

-- file 1 of the worked example, 456 bytes
abbrev pub first_file : List ℕ
first_file = start_bytes ++ first_path_bytes

-- an event of type 99 after the file's last event, with the flag that allows it to be skipped
abbrev pub skipped_event : List ℕ
skipped_event = 0x00 ∷ 0x00 ∷ 0x00 ∷ 0x00 ∷ 0x63 ∷ 0x01 ∷ 0x00 ∷ 0x00 ∷ 0x00 ∷ 0x13 ∷ 0x00 ∷ 0x00 ∷ 0x00 ∷ 0xdb ∷ 0x01 ∷ 0x00 ∷ 0x00 ∷ 0x80 ∷ 0x00 ∷ []

-- an event of that type without the position after it
abbrev pub unplaced_event : List ℕ
unplaced_event = 0x00 ∷ 0x00 ∷ 0x00 ∷ 0x00 ∷ 0x63 ∷ 0x01 ∷ 0x00 ∷ 0x00 ∷ 0x00 ∷ 0x13 ∷ 0x00 ∷ 0x00 ∷ 0x00 ∷ 0x00 ∷ 0x00 ∷ 0x00 ∷ 0x00 ∷ 0x80 ∷ 0x00 ∷ []

-- a rotate event that names file 2, without the position after it
abbrev pub rotation : List ℕ
rotation =
    0x00 ∷ 0x00 ∷ 0x00 ∷ 0x00 ∷ 0x04 ∷ 0x01 ∷ 0x00 ∷ 0x00 ∷ 0x00 ∷ 0x27 ∷ 0x00 ∷ 0x00 ∷ 0x00 ∷ 0x00 ∷ 0x00 ∷ 0x00 ∷ 0x00 ∷ 0x00 ∷ 0x00 ∷ 0x04 ∷ 0x00 ∷ 0x00 ∷ 0x00 ∷ 0x00 ∷
    0x00 ∷ 0x00 ∷ 0x00 ∷ 0x61 ∷ 0x2d ∷ 0x62 ∷ 0x69 ∷ 0x6e ∷ 0x2e ∷ 0x30 ∷ 0x30 ∷ 0x30 ∷ 0x30 ∷ 0x30 ∷ 0x32 ∷ []

-- an event of site A without the position after it
abbrev pub unplaced : (kind : ℕ) → (payload : List ℕ) → List ℕ
unplaced kind payload = header_bytes kind 1 (19 + length payload) 0 0 ++ payload

-- a BEGIN event and a COMMIT event
abbrev pub begin : List ℕ
begin = unplaced query_type (query_payload (codes "BEGIN"))

abbrev pub commit : List ℕ
commit = unplaced query_type (query_payload (codes "COMMIT"))

-- the event between these positions of the file, without the position after it
abbrev pub again : (kind from until : ℕ) → List ℕ
again kind from until = unplaced kind (drop (from + 19) (take until first_file))

-- the file up to this position, and then these bytes
abbrev pub up_to : (position : ℕ) → (later : List ℕ) → List ℕ
up_to position later = take position first_file ++ later

-- the bytes of the file between these positions
abbrev pub between : (from until : ℕ) → List ℕ
between from until = drop from (take until first_file)

-- the bytes of the file between these positions, with another byte at one position
abbrev pub changed : (from until at byte : ℕ) → List ℕ
changed from until at byte = between from at ++ (byte ∷ between (at + 1) until)

-- the map of table 1 with a LONG column after its key, and with a VARCHAR of at most 2 bytes
abbrev pub narrow_map : List ℕ
narrow_map = unplaced table_map_type (changed 234 254 251 3)

abbrev pub text_map : List ℕ
text_map = unplaced table_map_type (between 234 251 ++ (15 ∷ 2 ∷ 2 ∷ 0 ∷ 0 ∷ []))

-- an update of the worked example's first row to the row between these positions
abbrev pub update_to : (from until : ℕ) → List ℕ
update_to from until = unplaced update_rows_type (between 334 355 ++ (3 ∷ between 355 372 ++ between from until))

-- a write of a row of server 3 to the apply-status table
abbrev pub other_status : List ℕ
other_status = unplaced write_rows_type (changed 273 315 286 3)

-- the fault of the file up to this position, followed by these bytes
abbrev pub fault_after : (position : ℕ) → (later : List ℕ) → Option (ℕ × Field)
fault_after position later = (seen_of 0 (up_to position later)).fault

-- the fault of the file with another byte at this position
abbrev pub fault_with : (at byte : ℕ) → Option (ℕ × Field)
fault_with at byte = (seen_of 0 (take at first_file ++ (byte ∷ drop (at + 1) first_file))).fault
