-- What each call on the device makes of file 0.
use Rattle.std.proofs.Common.{◌≡◌, ◌≢◌, ◌⊎◌, inl, inr, ℕ, ◌+◌, ◌*◌, ◌<◌, ◌≤◌, true, false, List, [], ◌∷◌, ◌++◌, length, take, drop, get_or, refl, sym, ap, subst, ◌∙◌, arith, append_assoc}
use Rattle.std.specs.Prelude.{◌==◌, nat_lt, Err, IsErrOf}
use Rattle.std.proofs.lemmas.Bool.{eqb-true, le-ltb, ltb-false, and_left, and_right, and_cases, cases_Bool}
use Rattle.std.proofs.lemmas.List.{append-nil, length-append, length-drop, length-take-le, take-append-drop, take_at, drop_at, take-take, take_all, drop_all, get_or-take, get_or-drop, drop_more, flat_map_more}
use Rattle.rb_base.specs.declared.body.IndexRow.{IndexRow}
use Rattle.rb_base.specs.declared.faults.OutFault.{OutFault}
use Rattle.rb_base.specs.declared.faults.OutFault.TheVariants as outs
use Rattle.rb_log_defs.specs.Index.{index_record, index_file}
use Rattle.rb_device_defs.specs.Index.{IsIndexImage, open_records, begins_with_record}
use Rattle.rb_disk.specs.Disk.{Holds, Torn, CutShort}

-- a device's fault is one of two, and each has its cause
pub by_fault : {T A B P : Type 0} (fault : OutFault) → (IsErrOf {T = T} (Err fault) outs.Failed → A) → (IsErrOf {T = T} (Err fault) outs.NoMemory → B) → (A → P) → (B → P) → P
by_fault outs.Failed failed memory at_failed at_memory = at_failed (failed refl)
by_fault outs.NoMemory failed memory at_failed at_memory = at_memory (memory refl)

pub length_record : (row : IndexRow) → length (index_record row) ≡ 64
unfolding index_record
length_record row = refl

pub length_open : (rows : List IndexRow) → length (open_records rows) ≡ 65 * length rows
length_open [] = refl
length_open (row ∷ rows) = omega (arith, length-append (index_record row) (open_records rows), length_record row, length_open rows)

open_push : (rows : List IndexRow) (row : IndexRow) → open_records (rows ++ row ∷ []) ≡ open_records rows ++ 1 ∷ index_record row
open_push rows row = sym (flat_map_more (λ (row : IndexRow). 1 ∷ index_record row) [] rows row)

-- no record that is taken begins with a closed gate, or in few bytes
closed_ends : (xs : List ℕ) → get_or xs 0 0 ≡ 0 → begins_with_record xs ≡ false
closed_ends xs closed = and_left _ _ (ap (λ (gate : ℕ). gate == 1) closed)

pub short_ends : (xs : List ℕ) → length xs ≤ 65 → begins_with_record xs ≡ false
short_ends xs short = and_right _ _ (le-ltb 65 (length xs) short)

-- nor if none began before, and the gate is the same and there are no more bytes
still_ends : (xs ys : List ℕ) → get_or ys 0 0 ≡ get_or xs 0 0 → length ys ≤ length xs → begins_with_record xs ≡ false → begins_with_record ys ≡ false
still_ends xs ys same short ended = by_part (and_cases (get_or xs 0 0 == 1) (nat_lt 65 (length xs)) ended) where
  by_part : (get_or xs 0 0 == 1 ≡ false) ⊎ (nat_lt 65 (length xs) ≡ false) → begins_with_record ys ≡ false
  by_part (inl gate) = and_left _ _ (ap (λ (gate : ℕ). gate == 1) same ∙ gate)
  by_part (inr size) = short_ends ys (let few : length xs ≤ 65 = ltb-false 65 (length xs) size in omega arith)

-- the rows are unchanged if the bytes before the last gate are, and no record that can be taken
-- begins there
pub same_prefix : (rows : List IndexRow) (gate : ℕ) (file new : List ℕ) → length (open_records rows) ≡ gate → IsIndexImage rows file → take gate new ≡ take gate file → (rows ≢ [] → gate < length new) → begins_with_record (drop gate new) ≡ false
    → IsIndexImage rows new
same_prefix rows gate file new is image same far ended =
    let front : take gate file ≡ open_records rows = ap (take gate) image.bytes ∙ take_at (open_records rows) image.following gate is in
    record {
      following = drop gate new;
      bytes = sym (take-append-drop gate new) ∙ ap (λ (xs : List ℕ). xs ++ drop gate new) (same ∙ front);
      more = λ some. let more = far some in omega (arith, length-drop gate new);
      ended = ended;
    }

-- the records, a closed gate, and any bytes
pub closed_image : (rows : List IndexRow) (bytes new : List ℕ) → new ≡ open_records rows ++ 0 ∷ bytes → IsIndexImage rows new
closed_image rows bytes new is = record {
  following = 0 ∷ bytes;
  bytes = is;
  more = λ _. omega arith;
  ended = refl;
}

pub whole_image : (rows : List IndexRow) (file : List ℕ) → file ≡ index_file rows → IsIndexImage rows file
unfolding index_file
whole_image rows file is = closed_image rows [] file is

-- the size of a whole index, which ends after its last gate
pub whole_size : (rows : List IndexRow) (file : List ℕ) → file ≡ index_file rows → length file ≡ length (open_records rows) + 1
unfolding index_file
whole_size rows file is = ap length is ∙ length-append (open_records rows) (0 ∷ [])

-- the gate of a file that was the same up to after it
gate_kept : (gate : ℕ) (file new : List ℕ) → take (gate + 1) new ≡ take (gate + 1) file → get_or (drop gate new) 0 0 ≡ get_or (drop gate file) 0 0
gate_kept gate file new same =
    gate_of new ∙ ap (λ (xs : List ℕ). get_or xs gate 0) same ∙ sym (gate_of file) where
      gate_of : (xs : List ℕ) → get_or (drop gate xs) 0 0 ≡ get_or (take (gate + 1) xs) gate 0
      gate_of xs =
          let here : gate + 0 ≡ gate = omega arith in
          get_or-drop gate xs 0 0 ∙ ap (λ (i : ℕ). get_or xs i 0) here ∙ sym (get_or-take (gate + 1) xs gate 0 (omega arith))

prefix_kept : (gate : ℕ) (file new : List ℕ) → take (gate + 1) new ≡ take (gate + 1) file → take gate new ≡ take gate file
prefix_kept gate file new same = prefix_of new ∙ ap (take gate) same ∙ sym (prefix_of file) where
  prefix_of : (xs : List ℕ) → take gate xs ≡ take gate (take (gate + 1) xs)
  prefix_of xs = sym (take-take gate (gate + 1) xs (omega arith))

-- a record that was torn while it was written after the last gate
pub record_torn : (rows : List IndexRow) (at count : ℕ) (file new : List ℕ) → at ≡ length file → file ≡ index_file rows → Torn at count file new → IsIndexImage rows new
unfolding index_file
record_torn rows at count file new end is torn =
    let gate = length (open_records rows) in
    let size : at ≡ gate + 1 = end ∙ whole_size rows file is in
    let same : take (gate + 1) new ≡ take (gate + 1) file = subst (λ (at : ℕ). take at new ≡ take at file) size torn.before in
    let closed : get_or (drop gate file) 0 0 ≡ 0 = ap (λ (xs : List ℕ). get_or (drop gate xs) 0 0) is ∙ ap (λ (xs : List ℕ). get_or xs 0 0) (drop_at (open_records rows) (0 ∷ []) gate refl) in
    let longer = torn.no_shorter in
    same_prefix rows gate file new refl (whole_image rows file is) (prefix_kept gate file new same) (λ _. omega arith) (closed_ends (drop gate new) (gate_kept gate file new same ∙ closed))

-- a record that was written, after its gate that is still closed
pub record_written : (rows : List IndexRow) (at : ℕ) (bytes file new : List ℕ) → at ≡ length file → file ≡ index_file rows → Holds file at bytes new → new ≡ open_records rows ++ 0 ∷ bytes
unfolding index_file
record_written rows at bytes file new end is held =
    let all : take at file ≡ file = take_all at file (omega arith) in
    let none : drop (at + length bytes) file ≡ [] = drop_all (at + length bytes) file (omega arith) in
    held ∙ ap (λ (xs : List ℕ). xs ++ (bytes ++ drop (at + length bytes) file)) (all ∙ is)
    ∙ ap (λ (xs : List ℕ). (open_records rows ++ 0 ∷ []) ++ (bytes ++ xs)) none
    ∙ ap (λ (xs : List ℕ). (open_records rows ++ 0 ∷ []) ++ xs) (append-nil bytes)
    ∙ append_assoc (open_records rows) (0 ∷ []) bytes

-- the record counts
added : (rows : List IndexRow) (row : IndexRow) (new : List ℕ) → new ≡ open_records rows ++ 1 ∷ (index_record row ++ 0 ∷ []) → new ≡ index_file (rows ++ row ∷ [])
unfolding index_file
added rows row new is =
    is ∙ sym (append_assoc (open_records rows) (1 ∷ index_record row) (0 ∷ [])) ∙ ap (λ (xs : List ℕ). xs ++ 0 ∷ []) (sym (open_push rows row))

-- a gate whose write was torn is open or not
pub gate_torn : (rows : List IndexRow) (row : IndexRow) (gate : ℕ) (file new : List ℕ) → length (open_records rows) ≡ gate → file ≡ open_records rows ++ 0 ∷ (index_record row ++ 0 ∷ []) → Torn gate 1 file new
    → IsIndexImage rows new ⊎ IsIndexImage (rows ++ row ∷ []) new
gate_torn rows row gate file new is written torn = by_gate (cases_Bool (byte == 1)) where
  following : List ℕ
  following = index_record row ++ 0 ∷ []

  byte : ℕ
  byte = get_or new gate 0

  same : new ≡ open_records rows ++ byte ∷ following
  same =
      let size : length file ≡ gate + (1 + length following) = omega (arith, ap length written, length-append (open_records rows) (0 ∷ following)) in
      let longer = torn.no_shorter in
      let front : take gate new ≡ open_records rows = torn.before ∙ ap (take gate) written ∙ take_at (open_records rows) (0 ∷ following) gate is in
      let rest : drop (gate + 1) new ≡ following = torn.after ∙ ap (drop (gate + 1)) (written ∙ sym (append_assoc (open_records rows) (0 ∷ []) following))
      ∙ drop_at (open_records rows ++ 0 ∷ []) following (gate + 1) (omega (arith, length-append (open_records rows) (0 ∷ []))) in
      sym (take-append-drop gate new) ∙ ap (λ (xs : List ℕ). xs ++ drop gate new) front
      ∙ ap (λ (xs : List ℕ). open_records rows ++ xs) (drop_more new gate 0 (omega arith) ∙ ap (λ (xs : List ℕ). byte ∷ xs) rest)

  by_gate : (byte == 1 ≡ true) ⊎ (byte == 1 ≡ false) → IsIndexImage rows new ⊎ IsIndexImage (rows ++ row ∷ []) new
  by_gate (inl opened) =
      let whole : new ≡ open_records rows ++ 1 ∷ following = same ∙ ap (λ (gate : ℕ). open_records rows ++ gate ∷ following) (eqb-true byte 1 opened) in
      inr (whole_image (rows ++ row ∷ []) new (added rows row new whole))
  by_gate (inr closed) = inl (record {
    following = byte ∷ following;
    bytes = same;
    more = λ _. omega arith;
    ended = and_left _ _ closed;
  })

-- the gate was opened
pub gate_opened : (rows : List IndexRow) (row : IndexRow) (gate : ℕ) (file new : List ℕ) → length (open_records rows) ≡ gate → file ≡ open_records rows ++ 0 ∷ (index_record row ++ 0 ∷ []) → Holds file gate (1 ∷ []) new
    → new ≡ index_file (rows ++ row ∷ [])
gate_opened rows row gate file new is written held =
    let following = index_record row ++ 0 ∷ [] in
    let front : take gate file ≡ open_records rows = ap (take gate) written ∙ take_at (open_records rows) (0 ∷ following) gate is in
    let rest : drop (gate + 1) file ≡ following = ap (drop (gate + 1)) (written ∙ sym (append_assoc (open_records rows) (0 ∷ []) following))
    ∙ drop_at (open_records rows ++ 0 ∷ []) following (gate + 1) (omega (arith, length-append (open_records rows) (0 ∷ []))) in
    added rows row new (held ∙ ap (λ (xs : List ℕ). xs ++ 1 ∷ drop (gate + 1) file) front ∙ ap (λ (xs : List ℕ). open_records rows ++ 1 ∷ xs) rest)

-- the size of what may be found
size_of_image : (rows : List IndexRow) (gate : ℕ) (file : List ℕ) → length (open_records rows) ≡ gate → IsIndexImage rows file → rows ≢ [] → gate < length file
size_of_image rows gate file is image some = let more = image.more some in omega (arith, ap length image.bytes, length-append (open_records rows) image.following)

ended_at : (rows : List IndexRow) (gate : ℕ) (file : List ℕ) → length (open_records rows) ≡ gate → IsIndexImage rows file → begins_with_record (drop gate file) ≡ false
ended_at rows gate file is image = ap begins_with_record (ap (drop gate) image.bytes ∙ drop_at (open_records rows) image.following gate is) ∙ image.ended

-- a cut after the last gate that failed, and one that did not
pub cut_short : (rows : List IndexRow) (gate : ℕ) (file new : List ℕ) → length (open_records rows) ≡ gate → IsIndexImage rows file → CutShort (gate + 1) file new → IsIndexImage rows new
cut_short rows gate file new is image short =
    let longer = short.no_shorter in
    let shorter = short.no_longer in
    same_prefix rows gate file new is image (prefix_kept gate file new short.front) (λ _. omega arith)
    (still_ends (drop gate file) (drop gate new) (gate_kept gate file new short.front) (omega (arith, length-drop gate file, length-drop gate new)) (ended_at rows gate file is image))

pub cut_off : (rows : List IndexRow) (gate : ℕ) (file new : List ℕ) → length (open_records rows) ≡ gate → IsIndexImage rows file → gate + 1 ≤ length file → new ≡ take (gate + 1) file → IsIndexImage rows new
cut_off rows gate file new is image far cut =
    let size : length new ≡ gate + 1 = ap length cut ∙ length-take-le (gate + 1) file far in
    cut_short rows gate file new is image (record {
      no_shorter = omega arith;
      no_longer = omega arith;
      front = ap (take (gate + 1)) cut ∙ take-take (gate + 1) (gate + 1) file (omega arith);
    })

-- the gate at the end of the file, torn while it was closed, and closed
pub close_torn : (rows : List IndexRow) (gate : ℕ) (file new : List ℕ) → length (open_records rows) ≡ gate → length file ≤ gate + 1 → IsIndexImage rows file → Torn gate 1 file new → IsIndexImage rows new
close_torn rows gate file new is short image torn =
    let longer = torn.no_shorter in
    let shorter = torn.no_longer in
    same_prefix rows gate file new is image torn.before (λ some. let far = size_of_image rows gate file is image some in omega arith) (short_ends (drop gate new) (omega (arith, length-drop gate new)))

pub gate_closed : (rows : List IndexRow) (gate : ℕ) (file new : List ℕ) → length (open_records rows) ≡ gate → length file ≤ gate + 1 → IsIndexImage rows file → Holds file gate (0 ∷ []) new → new ≡ index_file rows
unfolding index_file
gate_closed rows gate file new is short image held =
    let front : take gate file ≡ open_records rows = ap (take gate) image.bytes ∙ take_at (open_records rows) image.following gate is in
    held ∙ ap (λ (xs : List ℕ). xs ++ 0 ∷ drop (gate + 1) file) front ∙ ap (λ (xs : List ℕ). open_records rows ++ 0 ∷ xs) (drop_all (gate + 1) file short)
