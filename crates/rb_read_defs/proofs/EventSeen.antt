-- A written event is cut out of the bytes as it is, and is read as its content.
use Rattle.std.proofs.Common.{◌≡◌, ◌⊎◌, ℕ, zero, suc, ◌+◌, ◌^◌, ◌<◌, ◌≤◌, true, false, List, [], ◌∷◌, ◌++◌, length, take, drop, refl, ap, ◌∙◌, arith, inl, inr, append_assoc, length-append, length-drop}
use Rattle.std.specs.Prelude.{nat_le, nat_lt, if◌then◌else◌, Some, None}
use Rattle.std.proofs.lemmas.Bool.{le-leb, lt-ltb, le-ltb, cases_lt}
use Rattle.std.proofs.lemmas.List.{drop_at, take_at}
use Rattle.rb_log_defs.specs.Event.{Placed, header_bytes, event_bytes}
use Rattle.rb_log_defs.specs.Epoch.{joined_from}
use Rattle.rb_log_defs.proofs.Sizes.{header_length, event_length}
use Rattle.rb_read_defs.specs.Reading.{Reading, Read, Short, Wrong}
use Rattle.rb_read_defs.specs.Events.{header, is_known}
use Rattle.rb_read_defs.specs.Stream.{Cut, Known, cut_by, cut_from, is_rotated, is_in_order, content_in, has_statuses, judge, judge_payload, seen_from}
use Rattle.rb_read_defs.specs.declared.answers.Content.{Content}
use Rattle.rb_read_defs.specs.declared.answers.Header.{Header}
use Rattle.rb_read_defs.proofs.Fields.{gives_at_start}
use Rattle.rb_read_defs.proofs.EventsRead.{header_gives}
use Rattle.rb_read_defs.proofs.Growing.{header_size}

-- the number of bytes is enough as the number of rounds
by_header : (at : ℕ) (bytes : List ℕ) (r : Reading Header) (first other : ℕ → List Cut) → ((head : Header) (after : ℕ) → r ≡ Read head after → first head.size ≡ other head.size) → cut_by at bytes r first ≡ cut_by at bytes r other
by_header at bytes (Read head after) first other same =
    ap (λ (later : List Cut). if nat_le head.size (length bytes) then record { at = at; head = Read head after; payload = Some (drop 19 (take head.size bytes)) } ∷ later else record { at = at; head = Read head after; payload = None } ∷ []) (same head after refl)
by_header at bytes (Short place) first other same = refl
by_header at bytes (Wrong place field) first other same = refl

pub same_cuts : (n m at : ℕ) (bytes : List ℕ) → length bytes ≤ n → length bytes ≤ m → cut_from n at bytes ≡ cut_from m at bytes
unfolding cut_from
same_cuts zero zero at bytes low high = refl
same_cuts zero (suc m) at bytes low high = rw (lt-ltb (length bytes) 19 (omega arith)) refl
same_cuts (suc n) zero at bytes low high = rw (lt-ltb (length bytes) 19 (omega arith)) refl
same_cuts (suc n) (suc m) at bytes low high = go (cases_lt (length bytes) 19) (λ size whole. let d = length-drop size bytes in same_cuts n m (at + size) (drop size bytes) (omega arith) (omega arith))
  where
    go : (length bytes < 19) ⊎ (19 ≤ length bytes) → ((size : ℕ) → 19 ≤ size → cut_from n (at + size) (drop size bytes) ≡ cut_from m (at + size) (drop size bytes)) →
        (if nat_lt (length bytes) 19 then [] else cut_by at bytes (header at bytes 0) (λ size. cut_from n (at + size) (drop size bytes))) ≡ (if nat_lt (length bytes) 19 then [] else cut_by at bytes (header at bytes 0) (λ size. cut_from m (at + size) (drop size bytes)))
    go (inl short) same = rw (lt-ltb (length bytes) 19 short) refl
    go (inr long) same =
        rw (le-ltb (length bytes) 19 long)
        (by_header at bytes (header at bytes 0) (λ size. cut_from n (at + size) (drop size bytes)) (λ size. cut_from m (at + size) (drop size bytes)) (λ head after is. same head.size (header_size at bytes head after is)))

-- the header of an event
abbrev pub head_of : (kind server : ℕ) (payload : List ℕ) (at : ℕ) → Header
head_of kind server payload at = record { kind = kind; server = server; size = 19 + length payload; end = at + (19 + length payload); flags = 0 }

-- an event with bytes after it, cut out of them
one_cut : (n kind server : ℕ) (payload : List ℕ) (at : ℕ) (more : List ℕ) → is_known kind ≡ true → server < 2 ^ 32 → 19 + length payload ≤ 2147483647 → at + (19 + length payload) < 2 ^ 32 →
    cut_from (suc n) at (event_bytes kind server payload at ++ more)
    ≡ record { at = at; head = Read (head_of kind server payload at) 19; payload = Some payload } ∷ cut_from n (at + (19 + length payload)) more
unfolding cut_from event_bytes
one_cut n kind server payload at more known one small placed =
    let size : ℕ = 19 + length payload in
    let head : List ℕ = header_bytes kind server size (at + size) 0 in
    let own : length head ≡ 19 = header_length kind server size (at + size) 0 in
    let long : length (head ++ payload) ≡ size = length-append head payload ∙ ap (λ (n : ℕ). n + length payload) own in
    let whole = length-append (head ++ payload) more in
    let read : header at ((head ++ payload) ++ more) 0 ≡ Read (head_of kind server payload at) 19 =
    ap (λ (bytes : List ℕ). header at bytes 0) (append_assoc head payload more)
    ∙ gives_at_start (header_gives kind server size at 0 known one (omega arith) small placed (omega arith)) (payload ++ more)
    ∙ ap (Read (head_of kind server payload at)) own in
    rw (le-ltb (length ((head ++ payload) ++ more)) 19 (omega arith), read)
    (rw (le-leb size (length ((head ++ payload) ++ more)) (omega arith), take_at (head ++ payload) more size long, drop_at (head ++ payload) more size long, drop_at head payload 19 own) refl)

-- these events, which span these positions, are read after the earlier events as these known events
pub record Sees (events : List Placed) (earlier : List Known) (at end : ℕ) (seen : List Known) : Type 0 where
  pub sees : (n m : ℕ) (more : List ℕ) → length (joined_from at events ++ more) ≤ n → length more ≤ m → seen_from earlier (cut_from n at (joined_from at events ++ more)) ≡ seen_from (seen ++ earlier) (cut_from m end more)

-- an event that is good after the earlier events
pub one_seen : (kind server : ℕ) (payload : List ℕ) (at : ℕ) (earlier : List Known) (says : Content) (after n m : ℕ) (more : List ℕ) → is_known kind ≡ true → server < 2 ^ 32 → 19 + length payload ≤ 2147483647 → at + (19 + length payload) < 2 ^ 32 →
    is_rotated earlier ≡ false → is_in_order at earlier kind ≡ true → content_in at earlier (head_of kind server payload at) payload 0 ≡ Read says after → has_statuses earlier server says ≡ true →
    length (event_bytes kind server payload at ++ more) ≤ n → length more ≤ m →
    seen_from earlier (cut_from n at (event_bytes kind server payload at ++ more)) ≡ seen_from (record { end = at + (19 + length payload); server = server; says = says } ∷ earlier) (cut_from m (at + (19 + length payload)) more)
unfolding seen_from judge judge_payload
one_seen kind server payload at earlier says after zero m more known one small placed rotated order content statuses low high =
    let long = event_length kind server payload at in
    let whole = length-append (event_bytes kind server payload at) more in
    absurd (omega arith)
one_seen kind server payload at earlier says after (suc n) m more known one small placed rotated order content statuses low high =
    let long = event_length kind server payload at in
    let whole = length-append (event_bytes kind server payload at) more in
    rw (one_cut n kind server payload at more known one small placed)
    (rw (rotated, order, content, statuses) (ap (seen_from (record { end = at + (19 + length payload); server = server; says = says } ∷ earlier)) (same_cuts n m (at + (19 + length payload)) more (omega arith) high)))
