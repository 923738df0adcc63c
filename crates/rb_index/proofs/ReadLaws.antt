-- What is taken from file 0, and one record read back.
use Rattle.std.proofs.Common.{◌≡◌, ℕ, ◌+◌, ◌-◌, ◌*◌, ◌<◌, ◌≤◌, ◌^◌, true, false, List, [], ◌∷◌, ◌++◌, length, take, drop, get_or, refl, sym, ap, subst, ◌∙◌, arith, append_assoc}
use Rattle.std.specs.Prelude.{◌==◌, nat_lt, All, slice_range}
use Rattle.std.proofs.lemmas.Bool.{true≢false, lt-ltb, and_parts, ltb-true}
use Rattle.std.proofs.lemmas.List.{append-nil, length-append, length-drop, length_push, drop_at, drop-drop, get_or_at, take_rest, take_all, drop_all}
use Rattle.byteorder.specs.Endian.{little_bytes, little_number}
use Rattle.byteorder.specs.Numbers.{little_number-reads_back}
use Rattle.rb_base.specs.declared.body.IndexRow.{IndexRow}
use Rattle.rb_log_defs.specs.Index.{index_record}
use Rattle.rb_device_defs.specs.Index.{HasRoom, IsIndexImage, open_records, begins_with_record}
use Rattle.rb_index.proofs.ImageLaws.{length_record, length_open}

-- the first row, if the bytes begin with a record that can be taken
pub record IsNext (rows : List IndexRow) (bytes : List ℕ) : Type 0 where
  pub row : IndexRow
  pub left : List IndexRow
  pub split : rows ≡ row ∷ left
  pub head : drop 1 bytes ≡ index_record row ++ drop 65 bytes
  pub image : IsIndexImage left (drop 65 bytes)

next_row : (rows : List IndexRow) (bytes : List ℕ) → IsIndexImage rows bytes → begins_with_record bytes ≡ true → IsNext rows bytes
next_row [] bytes image begins = absurd (true≢false (sym begins ∙ ap begins_with_record image.bytes ∙ image.ended))
next_row (row ∷ left) bytes image begins =
    let tail = open_records left ++ image.following in
    let head : drop 1 bytes ≡ index_record row ++ tail = ap (drop 1) image.bytes ∙ append_assoc (index_record row) (open_records left) image.following in
    let rest : drop 65 bytes ≡ tail = sym (drop-drop 64 1 bytes) ∙ ap (drop 64) head ∙ drop_at (index_record row) tail 64 (length_record row) in
    record {
      row = row;
      left = left;
      split = refl;
      head = head ∙ ap (λ (xs : List ℕ). index_record row ++ xs) (sym rest);
      image = record {
        following = image.following;
        bytes = rest;
        more = λ _. image.more (λ none. let none : row ∷ left ≡ [] = none in cc);
        ended = image.ended;
      };
    }

no_row : (rows : List IndexRow) (bytes : List ℕ) → IsIndexImage rows bytes → begins_with_record bytes ≡ false → rows ≡ []
no_row [] bytes image ended = refl
no_row (row ∷ left) bytes image ended =
    let more : 0 < length image.following = image.more (λ none. let none : row ∷ left ≡ [] = none in cc) in
    let size : 65 < length bytes = omega (arith, ap length image.bytes, length-append (open_records (row ∷ left)) image.following, length_open (row ∷ left)) in
    let gate : get_or bytes 0 0 ≡ 1 = ap (λ (xs : List ℕ). get_or xs 0 0) image.bytes in
    absurd (true≢false (sym (begins gate size) ∙ ended)) where
      begins : get_or bytes 0 0 ≡ 1 → 65 < length bytes → begins_with_record bytes ≡ true
      begins gate size = rw gate (lt-ltb 65 (length bytes) size)

-- the rows so far, and those that are left in the bytes from here on
pub record IsSplit (rows taken : List IndexRow) (rest : List ℕ) : Type 0 where
  pub left : List IndexRow
  pub count : length rows ≡ length taken + length left
  pub image : IsIndexImage left rest
  pub same : All HasRoom rows → rows ≡ taken ++ left

pub record IsTaken (bytes : List ℕ) (taken : List IndexRow) (place : ℕ) : Type 0 where
  pub at : place ≡ 65 * length taken
  pub within : place ≤ length bytes
  pub split : (rows : List IndexRow) → IsIndexImage rows bytes → IsSplit rows taken (drop place bytes)

pub nothing_taken : (bytes : List ℕ) → IsTaken bytes [] 0
nothing_taken bytes = record {
  at = refl;
  within = omega arith;
  split = λ rows image. record { left = rows; count = omega arith; image = image; same = λ _. refl };
}

room_at : (rows taken left : List IndexRow) (row : IndexRow) → All HasRoom rows → rows ≡ taken ++ row ∷ left → HasRoom row
room_at rows taken left row all is =
    let here : get_or rows (length taken) row ≡ row = ap (λ (xs : List IndexRow). get_or xs (length taken) row) is ∙ get_or_at taken row left row (length taken) refl in
    subst HasRoom here (all (length taken) row (omega (arith, ap length is, length-append taken (row ∷ left))))

-- one more record is read
pub one_taken : (bytes : List ℕ) (taken : List IndexRow) (place : ℕ) (read : IndexRow) → IsTaken bytes taken place → begins_with_record (drop place bytes) ≡ true
    → ((row : IndexRow) (rest : List ℕ) → HasRoom row → drop (place + 1) bytes ≡ index_record row ++ rest → read ≡ row) → IsTaken bytes (taken ++ read ∷ []) (place + 65)
one_taken bytes taken place read so_far begins reads = record {
  at = let at = so_far.at in omega (arith, length_push taken read);
  within = let far : 65 < length (drop place bytes) = ltb-true 65 (length (drop place bytes)) (and_parts (get_or (drop place bytes) 0 0 == 1) (nat_lt 65 (length (drop place bytes))) begins).1 in omega (arith, length-drop place bytes);
  split = λ rows image. split_more rows (so_far.split rows image);
} where
  split_more : (rows : List IndexRow) → IsSplit rows taken (drop place bytes) → IsSplit rows (taken ++ read ∷ []) (drop (place + 65) bytes)
  split_more rows split =
      let next = next_row split.left (drop place bytes) split.image begins in
      let head : drop (place + 1) bytes ≡ index_record next.row ++ drop 65 (drop place bytes) = sym (drop-drop 1 place bytes) ∙ next.head in
      record {
        left = next.left;
        count = let count = split.count in omega (arith, length_push taken read, ap length next.split);
        image = subst (IsIndexImage next.left) (drop-drop 65 place bytes) next.image;
        same = λ all.
            let whole : rows ≡ taken ++ next.row ∷ next.left = split.same all ∙ ap (λ (xs : List IndexRow). taken ++ xs) next.split in
            let back : read ≡ next.row = reads next.row (drop 65 (drop place bytes)) (room_at rows taken next.left next.row all whole) head in
            whole ∙ ap (λ (row : IndexRow). taken ++ row ∷ next.left) (sym back) ∙ sym (append_assoc taken (read ∷ []) next.left);
      }

-- no more can be taken
pub all_taken : (bytes : List ℕ) (taken : List IndexRow) (place : ℕ) → IsTaken bytes taken place → begins_with_record (drop place bytes) ≡ false → (rows : List IndexRow) → IsIndexImage rows bytes → length taken ≡ length rows
all_taken bytes taken place so_far ended rows image =
    let split = so_far.split rows image in
    let none : split.left ≡ [] = no_row split.left (drop place bytes) split.image ended in
    let count = split.count in
    omega (arith, ap length none)

pub same_taken : (bytes : List ℕ) (taken : List IndexRow) (place : ℕ) → IsTaken bytes taken place → begins_with_record (drop place bytes) ≡ false → (rows : List IndexRow) → IsIndexImage rows bytes → All HasRoom rows → taken ≡ rows
same_taken bytes taken place so_far ended rows image all =
    let split = so_far.split rows image in
    let none : split.left ≡ [] = no_row split.left (drop place bytes) split.image ended in
    sym (split.same all ∙ ap (λ (xs : List IndexRow). taken ++ xs) none ∙ append-nil taken)

-- a read of a whole file into a buffer of its size
pub whole_read : (seen filled buffer : List ℕ) (size : ℕ) → size ≡ length seen → length buffer ≡ size → filled ≡ slice_range seen 0 (0 + length buffer) → take size (filled ++ drop (length filled) buffer) ≡ seen
whole_read seen filled buffer size whole long read =
    let range : (0 + length buffer) - 0 ≡ length buffer = omega arith in
    let same : filled ≡ seen = read ∙ ap (λ (count : ℕ). take count seen) range ∙ take_all (length buffer) seen (omega arith) in
    let none : drop (length filled) buffer ≡ [] = drop_all (length filled) buffer (omega (arith, ap length same)) in
    ap (λ (rest : List ℕ). take size (filled ++ rest)) none ∙ ap (take size) (append-nil filled ∙ same) ∙ take_all size seen (omega arith)

-- a field of this width that stands at this place
field_read : (width at number : ℕ) (whole bytes : List ℕ) → bytes ≡ whole → drop at whole ≡ little_bytes width number ++ drop (at + width) whole → number < 256 ^ width
    → little_number width (take (length bytes - at) (drop at bytes)) ≡ number
field_read width at number whole bytes is here room =
    ap (little_number width) (take_rest bytes at ∙ ap (drop at) is ∙ here) ∙ little_number-reads_back width number (drop (at + width) whole) room

-- the numbers of a row that are read at its record's places
pub record AreRead (bytes : List ℕ) (read : IndexRow) : Type 0 where
  pub epoch : read.epoch.0 ≡ little_number 8 bytes
  pub orig_epoch : read.orig_epoch.0 ≡ little_number 8 (take (length bytes - 8) (drop 8 bytes))
  pub position : read.position ≡ little_number 8 (take (length bytes - 16) (drop 16 bytes))
  pub next_position : read.next_position ≡ little_number 8 (take (length bytes - 24) (drop 24 bytes))
  pub file : read.file ≡ little_number 4 (take (length bytes - 32) (drop 32 bytes))
  pub next_file : read.next_file ≡ little_number 4 (take (length bytes - 36) (drop 36 bytes))
  pub inserts : read.inserts ≡ little_number 4 (take (length bytes - 40) (drop 40 bytes))
  pub updates : read.updates ≡ little_number 4 (take (length bytes - 44) (drop 44 bytes))
  pub deletes : read.deletes ≡ little_number 4 (take (length bytes - 48) (drop 48 bytes))
  pub schemaops : read.schemaops ≡ little_number 4 (take (length bytes - 52) (drop 52 bytes))
  pub orig_server_id : read.orig_server_id ≡ little_number 4 (take (length bytes - 56) (drop 56 bytes))
  pub gci : read.gci ≡ little_number 4 (take (length bytes - 60) (drop 60 bytes))

-- a row of the same numbers
same_row : (b : IndexRow) (epoch orig_epoch position next_position file next_file inserts updates deletes schemaops orig_server_id gci : ℕ) → epoch ≡ b.epoch.0 → orig_epoch ≡ b.orig_epoch.0 → position ≡ b.position → next_position ≡ b.next_position → file ≡ b.file → next_file ≡ b.next_file
    → inserts ≡ b.inserts → updates ≡ b.updates → deletes ≡ b.deletes → schemaops ≡ b.schemaops → orig_server_id ≡ b.orig_server_id → gci ≡ b.gci
    → ◌≡◌ {A = IndexRow} (record {
      epoch = record { 0 = epoch };
      orig_epoch = record { 0 = orig_epoch };
      position = position;
      next_position = next_position;
      file = file;
      next_file = next_file;
      inserts = inserts;
      updates = updates;
      deletes = deletes;
      schemaops = schemaops;
      orig_server_id = orig_server_id;
      gci = gci;
    }) b
same_row b epoch orig_epoch position next_position file next_file inserts updates deletes schemaops orig_server_id gci e1 e2 e3 e4 e5 e6 e7 e8 e9 e10 e11 e12 = rw (e1, e2, e3, e4, e5, e6, e7, e8, e9, e10, e11, e12) refl

-- a record is read back
pub record_read : (bytes : List ℕ) (read row : IndexRow) (rest : List ℕ) → AreRead bytes read → HasRoom row → bytes ≡ index_record row ++ rest → read ≡ row
unfolding index_record
record_read bytes read row rest fields room is =
    let whole = index_record row ++ rest in
    same_row row read.epoch.0 read.orig_epoch.0 read.position read.next_position read.file read.next_file read.inserts read.updates read.deletes read.schemaops read.orig_server_id read.gci
    (fields.epoch ∙ ap (little_number 8) is ∙ little_number-reads_back 8 row.epoch.0 (drop 8 whole) room.epoch)
    (fields.orig_epoch ∙ field_read 8 8 row.orig_epoch.0 whole bytes is refl room.orig_epoch)
    (fields.position ∙ field_read 8 16 row.position whole bytes is refl room.position)
    (fields.next_position ∙ field_read 8 24 row.next_position whole bytes is refl room.next_position)
    (fields.file ∙ field_read 4 32 row.file whole bytes is refl room.file)
    (fields.next_file ∙ field_read 4 36 row.next_file whole bytes is refl room.next_file)
    (fields.inserts ∙ field_read 4 40 row.inserts whole bytes is refl room.inserts)
    (fields.updates ∙ field_read 4 44 row.updates whole bytes is refl room.updates)
    (fields.deletes ∙ field_read 4 48 row.deletes whole bytes is refl room.deletes)
    (fields.schemaops ∙ field_read 4 52 row.schemaops whole bytes is refl room.schemaops)
    (fields.orig_server_id ∙ field_read 4 56 row.orig_server_id whole bytes is refl room.orig_server_id)
    (fields.gci ∙ field_read 4 60 row.gci whole bytes is refl room.gci)
