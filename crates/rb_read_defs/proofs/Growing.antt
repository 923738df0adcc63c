-- More bytes do not change what was read.
use Rattle.std.proofs.Common.{◌≡◌, ◌⊎◌, inl, inr, ℕ, zero, suc, ◌+◌, ◌*◌, ◌<◌, ◌≤◌, Bool, true, false, List, [], ◌∷◌, ◌++◌, length, take, drop, get_or, refl, sym, ap, subst, ◌∙◌, arith, length-append, append_assoc}
use Rattle.std.specs.Prelude.{◌==◌, ◌||◌, ◌&&◌, nat_le, nat_lt, if◌then◌else◌, Option, Some, None, is_some}
use Rattle.std.proofs.lemmas.Bool.{le-leb, lt-ltb, le-ltb, lt-leb, leb-true, cases_lt}
use Rattle.std.specs.Str.{bytes_eq}
use Rattle.std.proofs.lemmas.List.{append-nil, take-append-le, drop-append-le, length-drop, get_or_append_left}
use Rattle.byteorder.specs.Endian.{little_from, little_number}
use Rattle.rb_base.specs.declared.faults.Field.{Field}
use Rattle.rb_base.specs.declared.faults.Field.TheVariants as fields
use Rattle.rb_read_defs.specs.Reading.{Reading, Reader, Read, Short, Wrong, read_next, ◌>>=◌, give, number, that}
use Rattle.rb_read_defs.specs.Events.{header, event_type, may_be_type}
use Rattle.rb_read_defs.specs.Stream.{Cut, Known, Seen, Judged, Good, Bad, Unfinished, cuts, cut_from, judge, judge_head, header_fault, cut_by, seen_by, seen_from, seen_of, step_of, steps_of, magic}
use Rattle.rb_read_defs.specs.declared.answers.Header.{Header}
use Rattle.rb_read_defs.specs.declared.answers.Step.{Step}

-- a number within the first bytes
little_more : (i n : ℕ) (xs ys : List ℕ) → i + n ≤ length xs → little_from i n (xs ++ ys) ≡ little_from i n xs
little_more i zero xs ys fits = refl
little_more i (suc n) xs ys fits =
    ap (λ (x : ℕ). x + 256 * little_from (suc i) n (xs ++ ys)) (get_or_append_left xs ys 0 i (omega arith))
    ∙ ap (λ (rest : ℕ). get_or xs i 0 + 256 * rest) (little_more (suc i) n xs ys (omega arith))

number_more : (width : ℕ) (bytes more : List ℕ) (at : ℕ) → at + width ≤ length bytes → number width (bytes ++ more) at ≡ number width bytes at
unfolding number
number_more width bytes more at fits =
    let l = length-append bytes more in
    let d = length-drop at bytes in
    rw (le-leb (at + width) (length bytes) fits, le-leb (at + width) (length (bytes ++ more)) (omega arith))
    (ap (λ (n : ℕ). Read n (at + width)) (ap (λ (xs : List ℕ). little_number width xs) (drop-append-le at bytes more (omega arith)) ∙ little_more 0 width (drop at bytes) more (omega arith)))

-- the place after a number is `width` bytes after its start
number_after : (width : ℕ) (bytes : List ℕ) (at value after : ℕ) → number width bytes at ≡ Read value after → after ≡ at + width
unfolding number
number_after width bytes at value after is = go (nat_le (at + width) (length bytes)) is
  where
    go : (b : Bool) → (if b then Read (little_number width (drop at bytes)) (at + width) else Short at) ≡ Read value after → after ≡ at + width
    go true is = let same : Read (little_number width (drop at bytes)) (at + width) ≡ Read value after = is in cc
    go false is = absurd (let no : ◌≡◌ {A = Reading ℕ} (Short at) (Read value after) = is in cc)

-- a field that is read after another one
after_more : {X Y : Type 0} (next : X → Reader Y) (bytes more : List ℕ) (r : Reading X) → ((value : X) (after : ℕ) → r ≡ Read value after → next value (bytes ++ more) after ≡ next value bytes after) → read_next next (bytes ++ more) r ≡ read_next next bytes r
after_more next bytes more (Read value after) same = same value after refl
after_more next bytes more (Short at) same = refl
after_more next bytes more (Wrong at field) same = refl

step_more : {X Y : Type 0} (read : Reader X) (next : X → Reader Y) (bytes more : List ℕ) (at : ℕ) → read (bytes ++ more) at ≡ read bytes at →
    ((value : X) (after : ℕ) → read bytes at ≡ Read value after → next value (bytes ++ more) after ≡ next value bytes after) → (read >>= next) (bytes ++ more) at ≡ (read >>= next) bytes at
step_more read next bytes more at same rest = ap (read_next next (bytes ++ more)) same ∙ after_more next bytes more (read bytes at) rest

-- a field with a test
that_more : {X : Type 0} (field : Field) (passes : X → Bool) (read : Reader X) (bytes more : List ℕ) (at : ℕ) → read (bytes ++ more) at ≡ read bytes at → that field passes read (bytes ++ more) at ≡ that field passes read bytes at
that_more field passes read bytes more at same = rw same refl

that_passes : {X : Type 0} (field : Field) (passes : X → Bool) (read : Reader X) (bytes : List ℕ) (at after : ℕ) (value : X) → that field passes read bytes at ≡ Read value after → (read bytes at ≡ Read value after) × (passes value ≡ true)
that_passes {X} field passes read bytes at after value is = go (read bytes at) refl is
  where
    go : (r : Reading X) → read bytes at ≡ r → that field passes (λ bytes at. r) bytes at ≡ Read value after → (read bytes at ≡ Read value after) × (passes value ≡ true)
    go (Read found place) there is = by_test (passes found) refl is
      where
        by_test : (b : Bool) → passes found ≡ b → (if b then Read found place else Wrong at field) ≡ Read value after → (read bytes at ≡ Read value after) × (passes value ≡ true)
        by_test true passed is = let same : Read found place ≡ Read value after = is in (there ∙ same, subst (λ (x : X). passes x ≡ true) (let one : found ≡ value = cc in one) passed)
        by_test false passed is = absurd (let no : ◌≡◌ {A = Reading X} (Wrong at field) (Read value after) = is in cc)
    go (Short place) there is = absurd (let no : ◌≡◌ {A = Reading X} (Short place) (Read value after) = is in cc)
    go (Wrong place other) there is = absurd (let no : ◌≡◌ {A = Reading X} (Wrong place other) (Read value after) = is in cc)

-- the type of an event whose flags are complete
type_more : (bytes more : List ℕ) (at : ℕ) → at + 15 ≤ length bytes → event_type (bytes ++ more) at ≡ event_type bytes at
unfolding event_type
type_more bytes more at fits =
    ap (λ (flags : Reading ℕ). that fields.EventType (may_be_type flags) (number 1) (bytes ++ more) at) (number_more 2 bytes more (at + 13) (omega arith))
    ∙ that_more fields.EventType (may_be_type (number 2 bytes (at + 13))) (number 1) bytes more at (number_more 1 bytes more at (omega arith))

type_after : (bytes : List ℕ) (at value after : ℕ) → event_type bytes at ≡ Read value after → after ≡ at + 1
unfolding event_type
type_after bytes at value after is = number_after 1 bytes at value after (that_passes fields.EventType (may_be_type (number 2 bytes (at + 13))) (number 1) bytes at after value is).0

-- the fields of a header after each of its fields
after_end : (kind server size end : ℕ) → Reader Header
after_end kind server size end = number 2 >>= (λ flags. give (record { kind = kind; server = server; size = size; end = end; flags = flags }))

is_size : ℕ → Bool
is_size size = nat_le 19 size && nat_le size 2147483647

is_end : (start size end : ℕ) → Bool
is_end start size end = (end == 0) || (end == start + size)

after_size : (start kind server size : ℕ) → Reader Header
after_size start kind server size = that fields.EndPosition (is_end start size) (number 4) >>= (λ end. after_end kind server size end)

after_server : (start kind server : ℕ) → Reader Header
after_server start kind server = that fields.EventSize is_size (number 4) >>= (λ size. after_size start kind server size)

after_type : (start kind : ℕ) → Reader Header
after_type start kind = number 4 >>= (λ server. after_server start kind server)

end_more : (kind server size end : ℕ) (bytes more : List ℕ) (at : ℕ) → at + 2 ≤ length bytes → after_end kind server size end (bytes ++ more) at ≡ after_end kind server size end bytes at
unfolding after_end
end_more kind server size end bytes more at fits = step_more (number 2) (λ flags. give (record { kind = kind; server = server; size = size; end = end; flags = flags })) bytes more at (number_more 2 bytes more at fits) (λ flags after is. refl)

size_more : (start kind server size : ℕ) (bytes more : List ℕ) (at : ℕ) → at + 6 ≤ length bytes → after_size start kind server size (bytes ++ more) at ≡ after_size start kind server size bytes at
unfolding after_size is_end
size_more start kind server size bytes more at fits =
    step_more (that fields.EndPosition (is_end start size) (number 4)) (λ end. after_end kind server size end) bytes more at (that_more fields.EndPosition (is_end start size) (number 4) bytes more at (number_more 4 bytes more at (omega arith)))
    (λ end after is. let next = number_after 4 bytes at end after (that_passes fields.EndPosition (is_end start size) (number 4) bytes at after end is).0 in end_more kind server size end bytes more after (omega arith))

server_more : (start kind server : ℕ) (bytes more : List ℕ) (at : ℕ) → at + 10 ≤ length bytes → after_server start kind server (bytes ++ more) at ≡ after_server start kind server bytes at
unfolding after_server is_size
server_more start kind server bytes more at fits =
    step_more (that fields.EventSize is_size (number 4)) (λ size. after_size start kind server size) bytes more at (that_more fields.EventSize is_size (number 4) bytes more at (number_more 4 bytes more at (omega arith)))
    (λ size after is. let next = number_after 4 bytes at size after (that_passes fields.EventSize is_size (number 4) bytes at after size is).0 in size_more start kind server size bytes more after (omega arith))

kind_more : (start kind : ℕ) (bytes more : List ℕ) (at : ℕ) → at + 14 ≤ length bytes → after_type start kind (bytes ++ more) at ≡ after_type start kind bytes at
unfolding after_type
kind_more start kind bytes more at fits =
    step_more (number 4) (λ server. after_server start kind server) bytes more at (number_more 4 bytes more at (omega arith))
    (λ server after is. let next = number_after 4 bytes at server after is in server_more start kind server bytes more after (omega arith))

-- the header of an event of which at least 19 bytes are there
header_parts : (start : ℕ) (bytes : List ℕ) → header start bytes 0 ≡ (number 4 >>= (λ timestamp. event_type >>= (λ kind. after_type start kind))) bytes 0
unfolding header after_type after_server after_size after_end is_size is_end
header_parts start bytes = refl

pub header_more : (start : ℕ) (bytes more : List ℕ) → 19 ≤ length bytes → header start (bytes ++ more) 0 ≡ header start bytes 0
header_more start bytes more fits =
    header_parts start (bytes ++ more)
    ∙ step_more (number 4) (λ timestamp. event_type >>= (λ kind. after_type start kind)) bytes more 0 (number_more 4 bytes more 0 (omega arith))
    (λ timestamp after is. let next = number_after 4 bytes 0 timestamp after is in
    step_more event_type (λ kind. after_type start kind) bytes more after (type_more bytes more after (omega arith))
    (λ kind later there. let read_next = type_after bytes after kind later there in kind_more start kind bytes more later (omega arith)))
    ∙ sym (header_parts start bytes)

-- the value that was read, or a given one
value_or : {X : Type 0} → X → Reading X → X
value_or value (Read found after) = found
value_or value (Short at) = value
value_or value (Wrong at field) = value

-- a good header has a length of at least 19 bytes
pub header_size : (start : ℕ) (bytes : List ℕ) (head : Header) (after : ℕ) → header start bytes 0 ≡ Read head after → 19 ≤ head.size
unfolding after_type after_server after_size after_end is_size value_or
header_size start bytes head after is = from_parts (sym (header_parts start bytes) ∙ is)
  where
    split : {X Y : Type 0} (next : X → Reader Y) (r : Reading X) (value : Y) (place : ℕ) → read_next next bytes r ≡ Read value place → (x : X) × (at : ℕ) × (r ≡ Read x at) × (next x bytes at ≡ Read value place)
    split next (Read x at) value place is = (x, at, refl, is)
    split {X} {Y} next (Short at) value place is = absurd (let no : ◌≡◌ {A = Reading Y} (Short at) (Read value place) = is in cc)
    split {X} {Y} next (Wrong at field) value place is = absurd (let no : ◌≡◌ {A = Reading Y} (Wrong at field) (Read value place) = is in cc)

    both : (x y : Bool) → (x && y) ≡ true → x ≡ true
    both true y is = refl
    both false y is = is

    from_parts : (number 4 >>= (λ timestamp. event_type >>= (λ kind. after_type start kind))) bytes 0 ≡ Read head after → 19 ≤ head.size
    from_parts is =
        let (timestamp, a, r0, is0) = split (λ timestamp. event_type >>= (λ kind. after_type start kind)) (number 4 bytes 0) head after is in
        let (kind, b, r1, is1) = split (λ kind. after_type start kind) (event_type bytes a) head after is0 in
        let (server, c, r2, is2) = split (λ server. after_server start kind server) (number 4 bytes b) head after is1 in
        let (size, d, r3, is3) = split (λ size. after_size start kind server size) (that fields.EventSize is_size (number 4) bytes c) head after is2 in
        let (end, e, r4, is4) = split (λ end. after_end kind server size end) (that fields.EndPosition (is_end start size) (number 4) bytes d) head after is3 in
        let (flags, f, r5, is5) = split (λ flags. give (record { kind = kind; server = server; size = size; end = end; flags = flags })) (number 2 bytes e) head after is4 in
        let passed = (that_passes fields.EventSize is_size (number 4) bytes c d size r3).1 in
        let low = leb-true 19 size (both (nat_le 19 size) (nat_le size 2147483647) passed) in
        subst (λ (h : Header). 19 ≤ h.size) (ap (value_or head) is5) low

-- later events are listed before the earlier ones
pub seen_later : (earlier : List Known) (cuts : List Cut) → (later : List Known) × ((seen_from earlier cuts).known ≡ later ++ earlier)
unfolding seen_from
seen_later earlier [] = ([], refl)
seen_later earlier (cut ∷ cuts) = go (judge earlier cut) (λ event. seen_later (event ∷ earlier) cuts)
  where
    go : (j : Judged) → ((event : Known) → (later : List Known) × ((seen_from (event ∷ earlier) cuts).known ≡ later ++ (event ∷ earlier))) →
        (later : List Known) × ((seen_by cut.at earlier j (λ event. seen_from (event ∷ earlier) cuts)).known ≡ later ++ earlier)
    go (Good event) rest = let (later, is) = rest event in (later ++ event ∷ [], is ∙ sym (append_assoc later (event ∷ []) earlier))
    go (Bad field) rest = ([], refl)
    go Unfinished rest = ([], refl)

-- the reading of more bytes: it has the same events first, and is the same if one of them was bad
abbrev pub IsMore : Seen → Seen → Type 0
IsMore seen more = ((later : List Known) × (more.known ≡ later ++ seen.known)) × ((is_some seen.fault ≡ true) → more ≡ seen)

-- a reading without a bad event
only_more : (earlier : List Known) (cuts : List Cut) → IsMore (record { known = earlier; fault = None }) (seen_from earlier cuts)
only_more earlier cuts = (seen_later earlier cuts, λ some. absurd (let no : false ≡ true = some in cc))

same_seen : (seen : Seen) → IsMore seen seen
same_seen seen = (([], refl), λ some. refl)

-- a complete event
by_judged : (at : ℕ) (earlier : List Known) (j : Judged) (first then_more : Known → Seen) → ((event : Known) → IsMore (first event) (then_more event)) → IsMore (seen_by at earlier j first) (seen_by at earlier j then_more)
by_judged at earlier (Good event) first then_more rest = rest event
by_judged at earlier (Bad field) first then_more rest = same_seen (record { known = earlier; fault = Some (at, field) })
by_judged at earlier Unfinished first then_more rest = same_seen (record { known = earlier; fault = None })

-- an event that is not complete, whose header may already be bad
part_more : (at : ℕ) (earlier : List Known) (head : Header) (after : ℕ) (cut : Cut) (cuts : List Cut) → cut.at ≡ at → cut.head ≡ Read head after →
    IsMore (seen_from earlier (record { at = at; head = Read head after; payload = None } ∷ [])) (seen_from earlier (cut ∷ cuts))
unfolding seen_from judge
part_more at earlier head after cut cuts here is = go (header_fault at earlier head) refl
  where
    go : (fault : Option Field) → header_fault at earlier head ≡ fault → IsMore (seen_from earlier (record { at = at; head = Read head after; payload = None } ∷ [])) (seen_from earlier (cut ∷ cuts))
    go None fine = rw fine (only_more earlier (cut ∷ cuts))
    go (Some field) wrong = rw (is, here, wrong) (same_seen (record { known = earlier; fault = Some (at, field) }))

-- the first event of the bytes
by_header : (at : ℕ) (earlier : List Known) (bytes more : List ℕ) (r : Reading Header) (first then_more : ℕ → List Cut) →
    ((head : Header) (after : ℕ) (event : Known) → r ≡ Read head after → head.size ≤ length bytes → IsMore (seen_from (event ∷ earlier) (first head.size)) (seen_from (event ∷ earlier) (then_more head.size))) →
    IsMore (seen_from earlier (cut_by at bytes r first)) (seen_from earlier (cut_by at (bytes ++ more) r then_more))
unfolding seen_from judge
by_header at earlier bytes more (Short place) first then_more rest = same_seen (record { known = earlier; fault = None })
by_header at earlier bytes more (Wrong place field) first then_more rest = same_seen (record { known = earlier; fault = Some (at, field) })
by_header at earlier bytes more (Read head after) first then_more rest = by_size (cases_lt (length bytes) head.size)
  where
    part : (b : Bool) → IsMore (seen_from earlier (record { at = at; head = Read head after; payload = None } ∷ []))
        (seen_from earlier (if b then record { at = at; head = Read head after; payload = Some (drop 19 (take head.size (bytes ++ more))) } ∷ then_more head.size else record { at = at; head = Read head after; payload = None } ∷ []))
    part true = part_more at earlier head after (record { at = at; head = Read head after; payload = Some (drop 19 (take head.size (bytes ++ more))) }) (then_more head.size) refl refl
    part false = part_more at earlier head after (record { at = at; head = Read head after; payload = None }) [] refl refl

    by_size : (length bytes < head.size) ⊎ (head.size ≤ length bytes) → IsMore (seen_from earlier (cut_by at bytes (Read head after) first)) (seen_from earlier (cut_by at (bytes ++ more) (Read head after) then_more))
    by_size (inl short) = rw (lt-leb head.size (length bytes) short) (part (nat_le head.size (length (bytes ++ more))))
    by_size (inr whole) =
        let l = length-append bytes more in
        rw (le-leb head.size (length bytes) whole, le-leb head.size (length (bytes ++ more)) (omega arith), take-append-le head.size bytes more whole)
        (by_judged at earlier (judge_head earlier at (Read head after) (Some (drop 19 (take head.size bytes)))) (λ event. seen_from (event ∷ earlier) (first head.size)) (λ event. seen_from (event ∷ earlier) (then_more head.size)) (λ event. rest head after event refl whole))

-- all events of the bytes
more_from : (n m : ℕ) (earlier : List Known) (at : ℕ) (bytes more : List ℕ) → length bytes ≤ n → length (bytes ++ more) ≤ m → IsMore (seen_from earlier (cut_from n at bytes)) (seen_from earlier (cut_from m at (bytes ++ more)))
unfolding cut_from seen_from
more_from zero m earlier at bytes more low high = only_more earlier (cut_from m at (bytes ++ more))
more_from (suc n) zero earlier at bytes more low high = let l = length-append bytes more in rw (lt-ltb (length bytes) 19 (omega arith)) (only_more earlier [])
more_from (suc n) (suc m) earlier at bytes more low high =
    by_length (cases_lt (length bytes) 19) (λ event size fits some. subst (λ (xs : List ℕ). IsMore (seen_from (event ∷ earlier) (cut_from n (at + size) (drop size bytes))) (seen_from (event ∷ earlier) (cut_from m (at + size) xs))) (sym (drop-append-le size bytes more fits))
    (let d = length-drop size bytes in let l = length-append bytes more in let e = length-append (drop size bytes) more in more_from n m (event ∷ earlier) (at + size) (drop size bytes) more (omega arith) (omega arith)))
  where
    by_length : (length bytes < 19) ⊎ (19 ≤ length bytes) →
        ((event : Known) (size : ℕ) → size ≤ length bytes → 19 ≤ size → IsMore (seen_from (event ∷ earlier) (cut_from n (at + size) (drop size bytes))) (seen_from (event ∷ earlier) (cut_from m (at + size) (drop size (bytes ++ more))))) →
        IsMore (seen_from earlier (if nat_lt (length bytes) 19 then [] else cut_by at bytes (header at bytes 0) (λ size. cut_from n (at + size) (drop size bytes))))
        (seen_from earlier (if nat_lt (length (bytes ++ more)) 19 then [] else cut_by at (bytes ++ more) (header at (bytes ++ more) 0) (λ size. cut_from m (at + size) (drop size (bytes ++ more)))))
    by_length (inl short) rest = rw (lt-ltb (length bytes) 19 short) (only_more earlier (if nat_lt (length (bytes ++ more)) 19 then [] else cut_by at (bytes ++ more) (header at (bytes ++ more) 0) (λ size. cut_from m (at + size) (drop size (bytes ++ more)))))
    by_length (inr long) rest =
        let l = length-append bytes more in
        rw (le-ltb (length bytes) 19 long, le-ltb (length (bytes ++ more)) 19 (omega arith), header_more at bytes more long)
        (by_header at earlier bytes more (header at bytes 0) (λ size. cut_from n (at + size) (drop size bytes)) (λ size. cut_from m (at + size) (drop size (bytes ++ more)))
        (λ head after event is whole. rest event head.size whole (header_size at bytes head after is)))

-- the reading of a log to which bytes were added
pub seen_more : (position : ℕ) (bytes more : List ℕ) → IsMore (seen_of position bytes) (seen_of position (bytes ++ more))
unfolding seen_of
seen_more position bytes more = go (position == 0)
  where
    whole : (b : Bool) → List ℕ → Seen
    whole b xs = if b then (if nat_lt (length xs) 4 then record { known = []; fault = None } else (if bytes_eq (take 4 xs) magic then seen_from [] (cuts 4 (drop 4 xs)) else record { known = []; fault = Some (0, fields.Magic) })) else seen_from [] (cuts position xs)

    from_start : (b : Bool) → 4 ≤ length bytes → IsMore (if b then seen_from [] (cuts 4 (drop 4 bytes)) else record { known = []; fault = Some (0, fields.Magic) })
        (if b then seen_from [] (cuts 4 (drop 4 bytes ++ more)) else record { known = []; fault = Some (0, fields.Magic) })
    from_start true long = more_from (length (drop 4 bytes)) (length (drop 4 bytes ++ more)) [] 4 (drop 4 bytes) more (omega arith) (omega arith)
    from_start false long = same_seen (record { known = []; fault = Some (0, fields.Magic) })

    nothing : (seen : Seen) → ((later : List Known) × (seen.known ≡ later ++ [])) → IsMore (record { known = []; fault = None }) seen
    nothing seen later = (later, λ some. absurd (let no : false ≡ true = some in cc))

    at_start : (length bytes < 4) ⊎ (4 ≤ length bytes) → IsMore (whole true bytes) (whole true (bytes ++ more))
    at_start (inl short) = rw (lt-ltb (length bytes) 4 short) (nothing (whole true (bytes ++ more)) ((whole true (bytes ++ more)).known, sym (append-nil (whole true (bytes ++ more)).known)))
    at_start (inr long) =
        let l = length-append bytes more in
        rw (le-ltb (length bytes) 4 long, le-ltb (length (bytes ++ more)) 4 (omega arith), take-append-le 4 bytes more long, drop-append-le 4 bytes more long)
        (from_start (bytes_eq (take 4 bytes) magic) long)

    go : (b : Bool) → IsMore (whole b bytes) (whole b (bytes ++ more))
    go true = at_start (cases_lt (length bytes) 4)
    go false = more_from (length bytes) (length (bytes ++ more)) [] position bytes more (omega arith) (omega arith)

-- the steps of later events come after those of the earlier ones
pub steps_following : (later known : List Known) → (steps : List Step) × (steps_of (later ++ known) ≡ steps_of known ++ steps)
unfolding steps_of
steps_following [] known = ([], sym (append-nil (steps_of known)))
steps_following (event ∷ later) known =
    let (steps, is) = steps_following later known in
    (steps ++ step_of (later ++ known) event, ap (λ (all : List Step). all ++ step_of (later ++ known) event) is ∙ append_assoc (steps_of known) steps (step_of (later ++ known) event))

-- the steps of a log to which bytes were added
pub steps_more : (position : ℕ) (bytes more : List ℕ) → (later : List Step) × (steps_of (seen_of position (bytes ++ more)).known ≡ steps_of (seen_of position bytes).known ++ later)
steps_more position bytes more =
    let (later, is) = (seen_more position bytes more).0 in
    let (steps, read_next) = steps_following later (seen_of position bytes).known in
    (steps, ap steps_of is ∙ read_next)
