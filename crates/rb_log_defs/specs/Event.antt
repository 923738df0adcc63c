-- Events of the binary log, version 4: a header of 19 bytes and a payload. Numbers are
-- little-endian. This follows the MySQL manual on the binary log's format and event headers.
use Rattle.std.specs.Prelude.{ℕ, ◌+◌, List, ◌∷◌, ◌++◌, length, replicate, codes}
use Rattle.byteorder.specs.Endian.{little_bytes}
use Rattle.rb_log_defs.specs.Types.{query_type, rotate_type, format_type, xid_type}

-- the bytes of an event or an epoch, given the position in the file at which it starts
abbrev pub Placed : Type 0
Placed = ℕ → List ℕ

-- `n` zero bytes
abbrev pub zeros : ℕ → List ℕ
zeros n = replicate n 0

-- the length of a header in bytes
abbrev pub header_size : ℕ
header_size = 19

-- a header: timestamp (0), type, server id, length of the event, position after the event, flags
unfoldable pub header_bytes : (kind server size end flags : ℕ) → List ℕ
header_bytes kind server size end flags =
    zeros 4 ++ (kind ∷ (little_bytes 4 server ++ (little_bytes 4 size ++ (little_bytes 4 end ++ little_bytes 2 flags))))

-- an event: its header and its payload
unfoldable pub event_bytes : (kind server : ℕ) (payload : List ℕ) → Placed
event_bytes kind server payload start =
    let size = header_size + length payload in header_bytes kind server size (start + size) 0 ++ payload

-- the payload of QUERY_EVENT: thread id, time, length of the schema's name, error code, length of
-- the status variables, the zero byte that ends the schema's name, the text
unfoldable pub query_payload : List ℕ → List ℕ
query_payload text = zeros 4 ++ (zeros 4 ++ (zeros 1 ++ (zeros 2 ++ (zeros 2 ++ (zeros 1 ++ text)))))

-- the payload of ROTATE_EVENT: the position in the next file, and that file's name
unfoldable pub rotate_payload : (position : ℕ) (name : List ℕ) → List ℕ
rotate_payload position name = little_bytes 8 position ++ name

-- the length of the post-header of each event type from 1 to 35: QUERY 13, ROTATE 8,
-- FORMAT_DESCRIPTION 92, XID 0, TABLE_MAP 8, the three rows events 10, and 0 for types that are
-- never written
abbrev pub post_header_lengths : List ℕ
post_header_lengths =
    0 ∷ 13 ∷ 0 ∷ 8 ∷ (zeros 10 ++ (92 ∷ 0 ∷ 0 ∷ 0 ∷ 8 ∷ (zeros 10 ++ (10 ∷ 10 ∷ 10 ∷ zeros 3))))

-- the payload of FORMAT_DESCRIPTION_EVENT: binlog version, server version in 50 bytes, create time,
-- header length, post-header lengths
unfoldable pub format_payload : List ℕ
format_payload =
    little_bytes 2 4 ++ (codes "8.0-rb" ++ (zeros 44 ++ (zeros 4 ++ (header_size ∷ post_header_lengths))))

-- the payload of XID_EVENT: the transaction's number, which is the epoch
unfoldable pub xid_payload : ℕ → List ℕ
xid_payload xid = little_bytes 8 xid

-- the query event
abbrev pub query_event : (server : ℕ) (text : List ℕ) → Placed
query_event server text = event_bytes query_type server (query_payload text)

-- the rotate event
abbrev pub rotate_event : (server position : ℕ) (name : List ℕ) → Placed
rotate_event server position name = event_bytes rotate_type server (rotate_payload position name)

-- the format description event
abbrev pub format_event : (server : ℕ) → Placed
format_event server = event_bytes format_type server format_payload

-- the XID event, which ends a transaction
abbrev pub xid_event : (server xid : ℕ) → Placed
xid_event server xid = event_bytes xid_type server (xid_payload xid)
