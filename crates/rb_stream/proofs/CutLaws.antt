-- The reading of a log, one event at a time.
use Rattle.std.proofs.Common.{◌≡◌, ℕ, suc, ◌+◌, ◌<◌, ◌≤◌, Bool, true, false, List, [], ◌∷◌, ◌++◌, length, take, drop, Some, None, refl, ap, ◌∙◌, arith, length-append, length-drop}
use Rattle.std.specs.Prelude.{nat_le, if◌then◌else◌}
use Rattle.std.proofs.lemmas.Bool.{le-leb, lt-leb, lt-ltb, le-ltb}
use Rattle.std.proofs.lemmas.List.{take-append-le, drop-append-le}
use Rattle.rb_base.specs.declared.faults.Field.{Field}
use Rattle.rb_base.specs.declared.faults.Field.TheVariants.{EventSize, Status}
use Rattle.rb_read_defs.specs.Reading.{Reading, Read, Short, Wrong}
use Rattle.rb_read_defs.specs.Events.{header}
use Rattle.rb_read_defs.specs.Stream.{Cut, Known, cut_by, cut_from, cuts, header_fault, content_in, has_statuses, judge, judge_payload, seen_by, seen_from}
use Rattle.rb_read_defs.specs.declared.answers.Content.{Content}
use Rattle.rb_read_defs.specs.declared.answers.Header.{Header}
use Rattle.rb_read_defs.proofs.EventSeen.{same_cuts}
use Rattle.rb_read_defs.proofs.Growing.{header_more}
use Rattle.rb_stream.specs.Next.{Reads}

-- the first event and all events after it
by_reading : (at : ℕ) (bytes : List ℕ) (r : Reading Header) (first other : ℕ → List Cut) → ((size : ℕ) → first size ≡ other size) → cut_by at bytes r first ≡ cut_by at bytes r other
by_reading at bytes (Read head after) first other same =
    ap (λ (later : List Cut). if nat_le head.size (length bytes) then record { at = at; head = Read head after; payload = Some (drop 19 (take head.size bytes)) } ∷ later else record { at = at; head = Read head after; payload = None } ∷ []) (same head.size)
by_reading at bytes (Short place) first other same = refl
by_reading at bytes (Wrong place field) first other same = refl

pub next_cut : (at : ℕ) (bytes : List ℕ) → 19 ≤ length bytes → cuts at bytes ≡ cut_by at bytes (header at bytes 0) (λ size. cuts (at + size) (drop size bytes))
unfolding cut_from
next_cut at bytes long =
    same_cuts (length bytes) (suc (length bytes)) at bytes (omega arith) (omega arith)
    ∙ rw (le-ltb (length bytes) 19 long)
    (by_reading at bytes (header at bytes 0) (λ size. cut_from (length bytes) (at + size) (drop size bytes)) (λ size. cuts (at + size) (drop size bytes))
    (λ size. let d = length-drop size bytes in same_cuts (length bytes) (length (drop size bytes)) (at + size) (drop size bytes) (omega arith) (omega arith)))

-- if no header is complete, no event is
pub no_header : (at : ℕ) (bytes : List ℕ) (known : List Known) → length bytes < 19 → seen_from known (cuts at bytes) ≡ record { known = known; fault = None }
unfolding cut_from seen_from
no_header at bytes known short =
    ap (seen_from known) (same_cuts (length bytes) (suc (length bytes)) at bytes (omega arith) (omega arith)) ∙ rw (lt-ltb (length bytes) 19 short) refl

pub short_header : (at : ℕ) (bytes : List ℕ) (known : List Known) (place : ℕ) → 19 ≤ length bytes → header at bytes 0 ≡ Short place → seen_from known (cuts at bytes) ≡ record { known = known; fault = None }
unfolding seen_from
short_header at bytes known place long is = rw (next_cut at bytes long, is) refl

-- a header with a wrong field
pub wrong_header : (at : ℕ) (bytes : List ℕ) (known : List Known) (place : ℕ) (field : Field) → 19 ≤ length bytes → header at bytes 0 ≡ Wrong place field → seen_from known (cuts at bytes) ≡ record { known = known; fault = Some (at, field) }
unfolding seen_from judge
wrong_header at bytes known place field long is = rw (next_cut at bytes long, is) refl

-- a header that is not allowed here
pub misplaced : (at : ℕ) (bytes : List ℕ) (known : List Known) (head : Header) (after : ℕ) (field : Field) → 19 ≤ length bytes → header at bytes 0 ≡ Read head after → header_fault at known head ≡ Some field →
    seen_from known (cuts at bytes) ≡ record { known = known; fault = Some (at, field) }
unfolding seen_from judge
misplaced at bytes known head after field long is bad = rw (next_cut at bytes long, is) (go (nat_le head.size (length bytes)))
  where
    go : (b : Bool) → seen_from known (if b then record { at = at; head = Read head after; payload = Some (drop 19 (take head.size bytes)) } ∷ cuts (at + head.size) (drop head.size bytes) else record { at = at; head = Read head after; payload = None } ∷ [])
        ≡ record { known = known; fault = Some (at, field) }
    go true = rw bad refl
    go false = rw bad refl

-- an event that is not complete
pub not_whole : (at : ℕ) (bytes : List ℕ) (known : List Known) (head : Header) (after : ℕ) → 19 ≤ length bytes → header at bytes 0 ≡ Read head after → header_fault at known head ≡ None → length bytes < head.size →
    seen_from known (cuts at bytes) ≡ record { known = known; fault = None }
unfolding seen_from judge
not_whole at bytes known head after long is good short = rw (next_cut at bytes long, is, lt-leb head.size (length bytes) short, good) refl

-- a complete event
pub whole_event : (at : ℕ) (bytes : List ℕ) (known : List Known) (head : Header) (after : ℕ) → 19 ≤ length bytes → header at bytes 0 ≡ Read head after → header_fault at known head ≡ None → head.size ≤ length bytes →
    seen_from known (cuts at bytes) ≡ seen_by at known (judge_payload known at head (drop 19 (take head.size bytes))) (λ event. seen_from (event ∷ known) (cuts (at + head.size) (drop head.size bytes)))
unfolding seen_from judge
whole_event at bytes known head after long is good whole = rw (next_cut at bytes long, is, le-leb head.size (length bytes) whole, good) refl

-- an event with a payload field that does not end within the payload, or with a wrong one
pub short_payload : (at : ℕ) (bytes : List ℕ) (known : List Known) (head : Header) (after place : ℕ) → 19 ≤ length bytes → header at bytes 0 ≡ Read head after → header_fault at known head ≡ None → head.size ≤ length bytes →
    content_in at known head (drop 19 (take head.size bytes)) 0 ≡ Short place → seen_from known (cuts at bytes) ≡ record { known = known; fault = Some (at, EventSize) }
unfolding judge_payload
short_payload at bytes known head after place long is good whole content = whole_event at bytes known head after long is good whole ∙ rw content refl

pub wrong_payload : (at : ℕ) (bytes : List ℕ) (known : List Known) (head : Header) (after place : ℕ) (field : Field) → 19 ≤ length bytes → header at bytes 0 ≡ Read head after → header_fault at known head ≡ None → head.size ≤ length bytes →
    content_in at known head (drop 19 (take head.size bytes)) 0 ≡ Wrong place field → seen_from known (cuts at bytes) ≡ record { known = known; fault = Some (at, field) }
unfolding judge_payload
wrong_payload at bytes known head after place field long is good whole content = whole_event at bytes known head after long is good whole ∙ rw content refl

-- an event that was read and that its apply-status rows make bad
pub wrong_status : (at : ℕ) (bytes : List ℕ) (known : List Known) (head : Header) (says : Content) → Reads at bytes known head says → has_statuses known head.server says ≡ false →
    seen_from known (cuts at bytes) ≡ record { known = known; fault = Some (at, Status) }
unfolding judge_payload
wrong_status at bytes known head says reads bad = whole_event at bytes known head reads.after reads.long reads.head_read reads.good reads.whole ∙ rw (reads.content_read, bad) refl

-- an event that was read and is good: the reading continues after it, whatever bytes follow
good_event : (at : ℕ) (bytes : List ℕ) (known : List Known) (head : Header) (says : Content) → Reads at bytes known head says → has_statuses known head.server says ≡ true →
    seen_from known (cuts at bytes) ≡ seen_from (record { end = at + head.size; server = head.server; says = says } ∷ known) (cuts (at + head.size) (drop head.size bytes))
unfolding judge_payload
good_event at bytes known head says reads good = whole_event at bytes known head reads.after reads.long reads.head_read reads.good reads.whole ∙ rw (reads.content_read, good) refl

reads_more : (at : ℕ) (bytes more : List ℕ) (known : List Known) (head : Header) (says : Content) → Reads at bytes known head says → Reads at (bytes ++ more) known head says
reads_more at bytes more known head says reads =
    let l = length-append bytes more in
    let long = reads.long in
    let whole = reads.whole in record {
      long = omega arith;
      whole = omega arith;
      after = reads.after;
      head_read = header_more at bytes more reads.long ∙ reads.head_read;
      good = reads.good;
      place = reads.place;
      content_read = ap (λ (event : List ℕ). content_in at known head (drop 19 event) 0) (take-append-le head.size bytes more reads.whole) ∙ reads.content_read;
    }

pub goes_past : (at : ℕ) (bytes more : List ℕ) (known : List Known) (head : Header) (says : Content) → Reads at bytes known head says → has_statuses known head.server says ≡ true →
    seen_from known (cuts at (bytes ++ more)) ≡ seen_from (record { end = at + head.size; server = head.server; says = says } ∷ known) (cuts (at + head.size) (drop head.size bytes ++ more))
goes_past at bytes more known head says reads good =
    good_event at (bytes ++ more) known head says (reads_more at bytes more known head says reads) good
    ∙ ap (λ (rest : List ℕ). seen_from (record { end = at + head.size; server = head.server; says = says } ∷ known) (cuts (at + head.size) rest)) (drop-append-le head.size bytes more reads.whole)
