-- A decoder gets from event to event.
use Rattle.std.proofs.Common.{◌≡◌, ◌≢◌, ℕ, ◌+◌, ◌<◌, ◌≤◌, Bool, true, false, List, [], ◌∷◌, ◌++◌, length, take, drop, Option, Some, None, Result, Ok, Err, refl, sym, ap, subst, ◌∙◌, arith, length-append, length-drop, append_assoc, take_all, ◌-◌}
use Rattle.std.specs.Prelude.{OnOk, ◌==◌, not, if◌then◌else◌, is_some}
use Rattle.std.specs.Option.{option_map, option_map_or}
use Rattle.std.proofs.lemmas.Bool.{lt-ltb, le-ltb, eqb-true}
use Rattle.std.proofs.lemmas.List.{append-nil, take-append-le, drop-append-le}
use Rattle.std.specs.Str.{bytes_eq}
use Rattle.rb_base.specs.declared.faults.CodecFault.{CodecFault}
use Rattle.rb_base.specs.declared.faults.CodecFault.TheVariants as codec
use Rattle.rb_base.specs.declared.faults.Field.{Field}
use Rattle.rb_base.specs.declared.faults.Field.TheVariants as fields
use Rattle.rb_read_defs.specs.Reading.{Reading, Read, Short, Wrong, answer_of}
use Rattle.rb_read_defs.specs.Events.{header}
use Rattle.rb_read_defs.specs.Stream.{Known, magic, cuts, open_epoch, is_open, is_outside, header_fault, content_in, seen_from, seen_of, body_read, step_of, steps_of}
use Rattle.rb_read_defs.specs.declared.answers.Content.{Content}
use Rattle.rb_read_defs.specs.declared.answers.Content.TheVariants as contents
use Rattle.rb_read_defs.specs.declared.answers.Header.{Header}
use Rattle.rb_read_defs.specs.declared.answers.Step.{Step}
use Rattle.rb_read_defs.specs.declared.answers.Step.TheVariants as steps
use Rattle.rb_read_defs.proofs.Growing.{header_size, seen_later, seen_more}
use Rattle.rb_stream.specs.Epoch.{IsOpen}
use Rattle.rb_stream.specs.Fault.{fault_at}
use Rattle.rb_stream.specs.Decoder.{StandsFor, Answers}
use Rattle.rb_stream.specs.Ready.{IsReady}
use Rattle.rb_stream.specs.Next.{GoesOn, StandsAt, IsAheadOf, Reads, Meets, GoesPast, Stays, EndsQuiet, AnswersAhead}
use Rattle.rb_stream.specs.declared.fault.StreamFault.{StreamFault}
use Rattle.rb_stream.specs.declared.fault.StreamFault.TheVariants as faults
use Rattle.rb_stream.specs.declared.epoch.OpenEpoch.{OpenEpoch}
use Rattle.rb_stream.specs.declared.decoder.Decoder.{Decoder}
use Rattle.rb_stream.proofs.CutLaws.{short_payload, wrong_payload, wrong_status, goes_past}

-- the reading of a call that returned this value
pub read_of : {X : Type 0} (r : Reading X) (value : X) → Ok value ≡ answer_of r → (after : ℕ) × (r ≡ Read value after)
read_of (Read found after) value is = (after, ap (λ x. Read x after) (let same : Ok found ≡ Ok value = sym is in cc))
read_of {X} (Short at) value is = absurd (let no : ◌≡◌ {A = Result X CodecFault} (Ok value) (Err (codec.Short at)) = is in cc)
read_of {X} (Wrong at field) value is = absurd (let no : ◌≡◌ {A = Result X CodecFault} (Ok value) (Err (codec.BadField at field)) = is in cc)

pub short_of : {X : Type 0} (r : Reading X) (place : ℕ) → Err (codec.Short place) ≡ answer_of r → r ≡ Short place
short_of {X} (Read found after) place is = absurd (let no : ◌≡◌ {A = Result X CodecFault} (Err (codec.Short place)) (Ok found) = is in cc)
short_of {X} (Short at) place is = ap Short (let same : ◌≡◌ {A = Result X CodecFault} (Err (codec.Short at)) (Err (codec.Short place)) = sym is in cc)
short_of {X} (Wrong at field) place is = absurd (let no : ◌≡◌ {A = Result X CodecFault} (Err (codec.Short place)) (Err (codec.BadField at field)) = is in cc)

pub wrong_of : {X : Type 0} (r : Reading X) (place : ℕ) (field : fields.the_data) → Err (codec.BadField place field) ≡ answer_of r → r ≡ Wrong place field
wrong_of {X} (Read found after) place field is = absurd (let no : ◌≡◌ {A = Result X CodecFault} (Err (codec.BadField place field)) (Ok found) = is in cc)
wrong_of {X} (Short at) place field is = absurd (let no : ◌≡◌ {A = Result X CodecFault} (Err (codec.BadField place field)) (Err (codec.Short at)) = is in cc)
wrong_of {X} (Wrong at other) place field is = let same : ◌≡◌ {A = Result X CodecFault} (Err (codec.BadField at other)) (Err (codec.BadField place field)) = sym is in cc

-- an epoch is open exactly if the decoder holds one
pub open_is : (current : Option OpenEpoch) (known : List Known) → IsOpen current (open_epoch known) → is_some current ≡ is_open known
open_is current known held = go current (open_epoch known) held
  where
    go : (current : Option OpenEpoch) (events : Option (List Known)) → IsOpen current events → is_some current ≡ is_some events
    go None None held = refl
    go (Some epoch) (Some events) held = refl
    go None (Some events) held = absurd held
    go (Some epoch) None held = absurd held

-- no epoch is open after an event exactly if the event is outside an epoch
still_open : (event : Known) (events : Option (List Known)) → not (is_some events) ≡ not (is_some (option_map (λ inner. event ∷ inner) events))
still_open event None = refl
still_open event (Some inner) = refl

pub outside_of : (end server : ℕ) (says : Content) (known : List Known) → is_outside known (record { end = end; server = server; says = says }) ≡ not (is_open (record { end = end; server = server; says = says } ∷ known))
unfolding open_epoch
outside_of end server contents.Formats known = still_open (record { end = end; server = server; says = contents.Formats }) (open_epoch known)
outside_of end server contents.Begins known = refl
outside_of end server contents.Ends known = refl
outside_of end server (contents.Rotates to) known = still_open (record { end = end; server = server; says = contents.Rotates to }) (open_epoch known)
outside_of end server (contents.Maps table) known = still_open (record { end = end; server = server; says = contents.Maps table }) (open_epoch known)
outside_of end server (contents.Changes all) known = still_open (record { end = end; server = server; says = contents.Changes all }) (open_epoch known)
outside_of end server (contents.Statuses rows) known = still_open (record { end = end; server = server; says = contents.Statuses rows }) (open_epoch known)
outside_of end server contents.Skipped known = still_open (record { end = end; server = server; says = contents.Skipped }) (open_epoch known)

-- a header that was read has a length of at least 19 bytes
pub size_of_header : (at : ℕ) (bytes : List ℕ) (head : Header) → Ok head ≡ answer_of (header at bytes 0) → 19 ≤ head.size
size_of_header at bytes head is = let (after, read) = read_of (header at bytes 0) head is in header_size at bytes head after read

-- an event whose content cannot be read is bad
pub payload_fails : (at : ℕ) (bytes : List ℕ) (known : List Known) (head : Header) (after : ℕ) (fault : CodecFault) → 19 ≤ length bytes → header at bytes 0 ≡ Read head after → header_fault at known head ≡ None → head.size ≤ length bytes →
    (◌≢◌ {A = Result Content CodecFault} (Err fault) (Err codec.NoMemory) → Err fault ≡ answer_of (content_in at known head (drop 19 (take head.size bytes)) 0)) → Meets at bytes known (Err (fault_at at fault))
payload_fails at bytes known head after (codec.Short place) long is good whole answer =
    short_payload at bytes known head after place long is good whole (short_of (content_in at known head (drop 19 (take head.size bytes)) 0) place (answer (λ same. let no : ◌≡◌ {A = Result Content CodecFault} (Err (codec.Short place)) (Err codec.NoMemory) = same in cc)))
payload_fails at bytes known head after (codec.BadField place field) long is good whole answer =
    wrong_payload at bytes known head after place field long is good whole (wrong_of (content_in at known head (drop 19 (take head.size bytes)) 0) place field (answer (λ same. let no : ◌≡◌ {A = Result Content CodecFault} (Err (codec.BadField place field)) (Err codec.NoMemory) = same in cc)))
payload_fails at bytes known head after codec.NoMemory long is good whole answer = tt

-- a decoder after an event that it has decoded
pub stands_after : (before after : Decoder) (position : ℕ) (bytes : List ℕ) (known : List Known) (head : Header) (says : Content) (given : Option Step) → StandsAt before position bytes known → before.magic_due ≡ false →
    Reads before.at before.unread known head says → GoesPast known head says (Ok given) before after →
    StandsAt after position bytes (record { end = before.at + head.size; server = head.server; says = says } ∷ known)
stands_after before after position bytes known head says given stands due reads (good, gives, knows, at, unread, magic_due, counted) =
    let whole = reads.whole in
    let size = ap length unread ∙ length-drop head.size before.unread in
    let fed = stands.fed in record {
      fed = omega (arith, whole, size, fed, at);
      on = subst (λ (b : Bool). GoesOn b position bytes (record { end = before.at + head.size; server = head.server; says = says } ∷ known) after.at after.unread) (sym (magic_due ∙ due))
          (λ more. before_on due stands.on more ∙ goes_past before.at before.unread more known head says reads good
          ∙ sym (ap (λ (start : ℕ). seen_from (record { end = before.at + head.size; server = head.server; says = says } ∷ known) (cuts start (after.unread ++ more))) at
          ∙ ap (λ (rest : List ℕ). seen_from (record { end = before.at + head.size; server = head.server; says = says } ∷ known) (cuts (before.at + head.size) (rest ++ more))) unread));
      counted = counted ∙ ap (λ (n : ℕ). if is_outside known (record { end = before.at + head.size; server = head.server; says = says }) then before.at + head.size else n) stands.counted;
      knows = knows;
    }
  where
    before_on : before.magic_due ≡ false → GoesOn before.magic_due position bytes known before.at before.unread → GoesOn false position bytes known before.at before.unread
    before_on due on = subst (λ (b : Bool). GoesOn b position bytes known before.at before.unread) due on

-- the events that a decoder has decoded are the first ones that can be read
pub first_seen : (decoder : Decoder) (position : ℕ) (bytes : List ℕ) (known : List Known) → StandsAt decoder position bytes known → (later : List Known) × ((seen_of position bytes).known ≡ later ++ known)
first_seen decoder position bytes known stands = go decoder.magic_due stands.on
  where
    go : (b : Bool) → GoesOn b position bytes known decoder.at decoder.unread → (later : List Known) × ((seen_of position bytes).known ≡ later ++ known)
    go true (start, at, whole, none) = ((seen_of position bytes).known, sym (append-nil (seen_of position bytes).known) ∙ ap (λ (events : List Known). (seen_of position bytes).known ++ events) (sym none))
    go false on =
        let (later, is) = seen_later known (cuts decoder.at (decoder.unread ++ [])) in
        (later, ap (λ (all : List ℕ). (seen_of position all).known) (sym (append-nil bytes)) ∙ ap (λ seen. seen.known) (on []) ∙ is)

-- they are all events that can be read, if no further event can be read after them
pub all_seen : (decoder : Decoder) (position : ℕ) (bytes : List ℕ) (known : List Known) → StandsAt decoder position bytes known → decoder.magic_due ≡ false → seen_of position bytes ≡ seen_from known (cuts decoder.at decoder.unread)
all_seen decoder position bytes known stands due =
    ap (seen_of position) (sym (append-nil bytes)) ∙ on [] ∙ ap (λ (rest : List ℕ). seen_from known (cuts decoder.at rest)) (append-nil decoder.unread)
  where
    on : GoesOn false position bytes known decoder.at decoder.unread
    on = subst (λ (b : Bool). GoesOn b position bytes known decoder.at decoder.unread) due stands.on

-- the payload of an event
pub payload_is : (size : ℕ) (slice unread : List ℕ) → slice ≡ unread → take (length (take size slice) - 19) (drop 19 (take size slice)) ≡ drop 19 (take size unread)
payload_is size slice unread is =
    let l = length-drop 19 (take size slice) in
    take_all (length (take size slice) - 19) (drop 19 (take size slice)) (omega arith) ∙ ap (λ (xs : List ℕ). drop 19 (take size xs)) is

-- a log whose magic number is not complete, complete, or replaced by other bytes
pub magic_short : (position : ℕ) (bytes unread : List ℕ) → position ≡ 0 → bytes ≡ unread → length unread < 4 → seen_of position bytes ≡ record { known = []; fault = None }
unfolding seen_of
magic_short position bytes unread start whole short = subst (λ (p : ℕ). seen_of p bytes ≡ record { known = []; fault = None }) (sym start) (rw (lt-ltb (length bytes) 4 (let l = ap length whole in omega arith)) refl)

pub magic_wrong : (position : ℕ) (bytes unread : List ℕ) → position ≡ 0 → bytes ≡ unread → 4 ≤ length unread → bytes_eq (take 4 unread) magic ≡ false → seen_of position bytes ≡ record { known = []; fault = Some (0, fields.Magic) }
unfolding seen_of
magic_wrong position bytes unread start whole long other =
    subst (λ (p : ℕ). seen_of p bytes ≡ record { known = []; fault = Some (0, fields.Magic) }) (sym start)
    (subst (λ (xs : List ℕ). seen_of 0 xs ≡ record { known = []; fault = Some (0, fields.Magic) }) (sym whole) (rw (le-ltb (length unread) 4 long, other) refl))

pub magic_there : (position : ℕ) (bytes unread : List ℕ) → position ≡ 0 → bytes ≡ unread → 4 ≤ length unread → bytes_eq (take 4 unread) magic ≡ true → (more : List ℕ) → seen_of position (bytes ++ more) ≡ seen_from [] (cuts 4 (drop 4 unread ++ more))
unfolding seen_of
magic_there position bytes unread start whole long same more =
    let l = length-append unread more in
    subst (λ (p : ℕ). seen_of p (bytes ++ more) ≡ seen_from [] (cuts 4 (drop 4 unread ++ more))) (sym start)
    (subst (λ (xs : List ℕ). seen_of 0 (xs ++ more) ≡ seen_from [] (cuts 4 (drop 4 unread ++ more))) (sym whole)
    (rw (le-ltb (length (unread ++ more)) 4 (omega arith), take-append-le 4 unread more long, drop-append-le 4 unread more long, same) refl))

-- the state in which a decoder begins
pub begins : (position : ℕ) → GoesOn (position == 0) position [] [] position []
unfolding seen_of
begins position = go (position == 0) refl
  where
    go : (b : Bool) → (position == 0) ≡ b → GoesOn b position [] [] position []
    go true is = let zero_is : position ≡ 0 = eqb-true position 0 is in (zero_is, zero_is, refl, refl)
    go false is = λ more. rw is refl

-- more bytes after those that are there
pub goes_on_more : (b : Bool) (position : ℕ) (bytes piece : List ℕ) (known : List Known) (at : ℕ) (unread after : List ℕ) → after ≡ unread ++ piece → GoesOn b position bytes known at unread → GoesOn b position (bytes ++ piece) known at after
goes_on_more true position bytes piece known at unread after is (start, first, whole, none) = (start, first, ap (λ (xs : List ℕ). xs ++ piece) whole ∙ sym is, none)
goes_on_more false position bytes piece known at unread after is on = λ more.
    ap (seen_of position) (append_assoc bytes piece more) ∙ on (piece ++ more)
    ∙ ap (λ (xs : List ℕ). seen_from known (cuts at xs)) (sym (ap (λ (xs : List ℕ). xs ++ more) is ∙ append_assoc unread piece more))

pub seen_first : (position : ℕ) (bytes piece : List ℕ) (passed : List Known) → ((later : List Known) × ((seen_of position bytes).known ≡ later ++ passed)) → (later : List Known) × ((seen_of position (bytes ++ piece)).known ≡ later ++ passed)
seen_first position bytes piece passed (later, is) =
    let (more, all) = (seen_more position bytes piece).0 in
    (more ++ later, all ∙ ap (λ (events : List Known). more ++ events) is ∙ sym (append_assoc more later passed))

-- what a decoder that is ready has decoded
pub is_ahead : (decoder : Decoder) (position : ℕ) (bytes : List ℕ) (passed : List Known) → IsReady decoder position bytes passed → IsAheadOf decoder position bytes passed
unfolding IsReady
is_ahead decoder position bytes passed ready = ready

-- a decoder that has decoded these events is ready
pub is_ready : (decoder : Decoder) (position : ℕ) (bytes : List ℕ) (passed : List Known) → IsAheadOf decoder position bytes passed → IsReady decoder position bytes passed
unfolding IsReady
is_ready decoder position bytes passed ahead = ahead

-- a decoder that was fed more bytes: only its bytes change
pub fed_more : (before after : Decoder) (position : ℕ) (bytes piece : List ℕ) (passed : List Known) → after.unread ≡ before.unread ++ piece → after.at ≡ before.at → after.magic_due ≡ before.magic_due → after.rotated ≡ before.rotated → after.current ≡ before.current →
    after.counted ≡ before.counted → after.settled ≡ before.settled → StandsFor before position bytes passed → StandsFor after position (bytes ++ piece) passed
fed_more before after position bytes piece passed unread at due rotated current counted settled stands =
    let fed : after.at + length after.unread ≡ position + length (bytes ++ piece) =
    (let l = ap length unread ∙ length-append before.unread piece in let m = length-append bytes piece in let f = stands.fed in omega arith) in
    let ahead = is_ahead before position bytes passed stands.ready in
    let all = ahead.quiet ++ passed in record {
      fed = fed;
      seen = seen_first position bytes piece passed stands.seen;
      settled = settled ∙ stands.settled;
      ready = is_ready after position (bytes ++ piece) passed (record {
        quiet = ahead.quiet;
        silent = ahead.silent;
        stands = record {
          fed = fed;
          on = subst (λ (b : Bool). GoesOn b position (bytes ++ piece) all after.at after.unread) (sym due)
              (subst (λ (n : ℕ). GoesOn before.magic_due position (bytes ++ piece) all n after.unread) (sym at) (goes_on_more before.magic_due position bytes piece all before.at before.unread after.unread unread ahead.stands.on));
          counted = counted ∙ ahead.stands.counted;
          knows = record { rotated = rotated ∙ ahead.stands.knows.rotated; current = subst (λ (o : Option OpenEpoch). IsOpen o (open_epoch all)) (sym current) ahead.stands.knows.current };
        };
      });
    }

-- if the magic number comes next, nothing is decoded yet
pub due_first : (decoder : Decoder) (position : ℕ) (bytes : List ℕ) (passed : List Known) → decoder.magic_due ≡ true → IsAheadOf decoder position bytes passed → (passed ≡ []) × StandsAt decoder position bytes []
due_first decoder position bytes passed due ahead =
    let (start, at, whole, none) = subst (λ (b : Bool). GoesOn b position bytes (ahead.quiet ++ passed) decoder.at decoder.unread) due ahead.stands.on in
    (both ahead.quiet passed none, subst (λ (known : List Known). StandsAt decoder position bytes known) none ahead.stands)
  where
    both : (front following : List Known) → front ++ following ≡ [] → following ≡ []
    both [] following is = is
    both (event ∷ front) following is = absurd (let no : ◌≡◌ {A = List Known} (event ∷ (front ++ following)) [] = is in cc)

pub ahead_of_none : (decoder : Decoder) (position : ℕ) (bytes : List ℕ) (passed : List Known) → passed ≡ [] → StandsAt decoder position bytes [] → IsAheadOf decoder position bytes passed
ahead_of_none decoder position bytes passed none stands =
    subst (λ (events : List Known). IsAheadOf decoder position bytes events) (sym none) (record { quiet = []; silent = refl; stands = stands })

-- the reading of the bytes ends at their start
pub ends_at_start : (decoder : Decoder) (position : ℕ) (bytes : List ℕ) (passed : List Known) (fault : Option (ℕ × Field)) → passed ≡ [] → seen_of position bytes ≡ record { known = []; fault = fault } → StandsAt decoder position bytes [] → EndsQuiet position bytes passed fault decoder
ends_at_start decoder position bytes passed fault none seen stands = record {
  silent = ap (λ all. steps_of all.known) seen ∙ ap steps_of (sym none);
  fault = ap (λ all. all.fault) seen;
  stands = subst (λ (known : List Known). StandsAt decoder position bytes known) (sym (ap (λ all. all.known) seen)) stands;
}

-- the reading of the bytes ends after the events that were decoded
pub ends_quiet : (decoder : Decoder) (position : ℕ) (bytes : List ℕ) (passed : List Known) (fault : Option (ℕ × Field)) (ahead : IsAheadOf decoder position bytes passed) → decoder.magic_due ≡ false →
    seen_from (ahead.quiet ++ passed) (cuts decoder.at decoder.unread) ≡ record { known = ahead.quiet ++ passed; fault = fault } → EndsQuiet position bytes passed fault decoder
ends_quiet decoder position bytes passed fault ahead due seen =
    let all = all_seen decoder position bytes (ahead.quiet ++ passed) ahead.stands due ∙ seen in record {
      silent = ap (λ what. steps_of what.known) all ∙ ahead.silent;
      fault = ap (λ what. what.fault) all;
      stands = subst (λ (known : List Known). StandsAt decoder position bytes known) (sym (ap (λ what. what.known) all)) ahead.stands;
    }

-- no event gives the step `NeedMore`
never_needs : (known : List Known) (end server : ℕ) (says : Content) → step_of known (record { end = end; server = server; says = says }) ≡ steps.NeedMore ∷ [] → ⊥
never_needs known end server contents.Formats is = let no : ◌≡◌ {A = List Step} (steps.Format ∷ []) (steps.NeedMore ∷ []) = is in cc
never_needs known end server contents.Begins is = let no : ◌≡◌ {A = List Step} [] (steps.NeedMore ∷ []) = is in cc
never_needs known end server contents.Ends is = go (open_epoch known) is
  where
    go : (events : Option (List Known)) → option_map_or (λ inner. steps.Epoch (body_read inner server) end ∷ []) events [] ≡ steps.NeedMore ∷ [] → ⊥
    go None same = let no : ◌≡◌ {A = List Step} [] (steps.NeedMore ∷ []) = same in cc
    go (Some inner) same = let no : ◌≡◌ {A = List Step} (steps.Epoch (body_read inner server) end ∷ []) (steps.NeedMore ∷ []) = same in cc
never_needs known end server (contents.Rotates to) is = let no : ◌≡◌ {A = List Step} (steps.Rotate to.position to.name ∷ []) (steps.NeedMore ∷ []) = is in cc
never_needs known end server (contents.Maps table) is = let no : ◌≡◌ {A = List Step} [] (steps.NeedMore ∷ []) = is in cc
never_needs known end server (contents.Changes all) is = let no : ◌≡◌ {A = List Step} [] (steps.NeedMore ∷ []) = is in cc
never_needs known end server (contents.Statuses rows) is = let no : ◌≡◌ {A = List Step} [] (steps.NeedMore ∷ []) = is in cc
never_needs known end server contents.Skipped is = let no : ◌≡◌ {A = List Step} [] (steps.NeedMore ∷ []) = is in cc

-- an event that gives a step
pub gives : (before after : Decoder) (position : ℕ) (bytes : List ℕ) (passed : List Known) (head : Header) (says : Content) (step : Step) (ahead : IsAheadOf before position bytes passed) → before.magic_due ≡ false →
    Reads before.at before.unread (ahead.quiet ++ passed) head says → GoesPast (ahead.quiet ++ passed) head says (Ok (Some step)) before after → AnswersAhead position bytes passed (Ok step) after
gives before after position bytes passed head says step ahead due reads past = by_step step (sym past.1) (stands_after before after position bytes (ahead.quiet ++ passed) head says (Some step) ahead.stands due reads past)
  where
    event : Known
    event = record { end = before.at + head.size; server = head.server; says = says }

    by_step : (one : Step) → step_of (ahead.quiet ++ passed) event ≡ one ∷ [] → StandsAt after position bytes (event ∷ (ahead.quiet ++ passed)) → AnswersAhead position bytes passed (Ok one) after
    by_step steps.NeedMore is stands = absurd (never_needs (ahead.quiet ++ passed) (before.at + head.size) head.server says is)
    by_step steps.Format is stands = (ahead.quiet, event, ahead.silent, is, stands)
    by_step (steps.Epoch body end) is stands = (ahead.quiet, event, ahead.silent, is, stands)
    by_step (steps.Rotate to name) is stands = (ahead.quiet, event, ahead.silent, is, stands)

-- an event that gives no step
pub passes_quiet : (before after : Decoder) (position : ℕ) (bytes : List ℕ) (passed : List Known) (head : Header) (says : Content) (ahead : IsAheadOf before position bytes passed) → before.magic_due ≡ false →
    Reads before.at before.unread (ahead.quiet ++ passed) head says → GoesPast (ahead.quiet ++ passed) head says (Ok None) before after → IsAheadOf after position bytes passed
unfolding steps_of
passes_quiet before after position bytes passed head says ahead due reads past = record {
  quiet = record { end = before.at + head.size; server = head.server; says = says } ∷ ahead.quiet;
  silent = ap (λ (given : List Step). steps_of (ahead.quiet ++ passed) ++ given) (sym past.1) ∙ append-nil (steps_of (ahead.quiet ++ passed)) ∙ ahead.silent;
  stands = stands_after before after position bytes (ahead.quiet ++ passed) head says None ahead.stands due reads past;
}

-- a decoder that is unchanged
stays : (before after : Decoder) (position : ℕ) (bytes : List ℕ) (known : List Known) → StandsAt before position bytes known → Stays known before after → StandsAt after position bytes known
stays before after position bytes known stands same =
    let l = ap length same.unread in let a = same.at in let f = stands.fed in record {
      fed = omega (arith, l, a, f);
      on = subst (λ (b : Bool). GoesOn b position bytes known after.at after.unread) (sym same.magic_due)
          (subst (λ (n : ℕ). GoesOn before.magic_due position bytes known n after.unread) (sym same.at) (subst (λ (xs : List ℕ). GoesOn before.magic_due position bytes known before.at xs) (sym same.unread) stands.on));
      counted = same.counted ∙ stands.counted;
      knows = same.knows;
    }

-- an event that was not taken: it is bad, or memory allocation failed
pub refuses : (before after : Decoder) (position : ℕ) (bytes : List ℕ) (passed : List Known) (head : Header) (says : Content) (fault : StreamFault) (ahead : IsAheadOf before position bytes passed) → before.magic_due ≡ false →
    Reads before.at before.unread (ahead.quiet ++ passed) head says → GoesPast (ahead.quiet ++ passed) head says (Err fault) before after → AnswersAhead position bytes passed (Err fault) after
refuses before after position bytes passed head says faults.NoMemory ahead due reads past = record { quiet = ahead.quiet; silent = ahead.silent; stands = stays before after position bytes (ahead.quiet ++ passed) ahead.stands past }
refuses before after position bytes passed head says (faults.BadEvent place field) ahead due reads (bad, here, status, same) =
    let new : IsAheadOf after position bytes passed = record { quiet = ahead.quiet; silent = ahead.silent; stands = stays before after position bytes (ahead.quiet ++ passed) ahead.stands same } in
    subst (λ (at : ℕ). EndsQuiet position bytes passed (Some (at, field)) after) (sym here)
    (subst (λ (f : Field). EndsQuiet position bytes passed (Some (before.at, f)) after) (sym status)
    (ends_quiet after position bytes passed (Some (before.at, fields.Status)) new (same.magic_due ∙ due)
    (ap (λ (n : ℕ). seen_from (ahead.quiet ++ passed) (cuts n after.unread)) same.at
    ∙ ap (λ (xs : List ℕ). seen_from (ahead.quiet ++ passed) (cuts before.at xs)) same.unread
    ∙ wrong_status before.at before.unread (ahead.quiet ++ passed) head says reads bad)))

-- the result of a fault in the next event, or of its absence
pub meets_fault : (decoder : Decoder) (position : ℕ) (bytes : List ℕ) (passed : List Known) (fault : StreamFault) (ahead : IsAheadOf decoder position bytes passed) → decoder.magic_due ≡ false → Meets decoder.at decoder.unread (ahead.quiet ++ passed) (Err fault) → AnswersAhead position bytes passed (Err fault) decoder
meets_fault decoder position bytes passed faults.NoMemory ahead due meets = ahead
meets_fault decoder position bytes passed (faults.BadEvent place field) ahead due meets = ends_quiet decoder position bytes passed (Some (place, field)) ahead due meets

-- a decoder has decoded events that give no step
pub record HasPassed (start now : Decoder) : Type 0 where
  pub ahead : (position : ℕ) (bytes : List ℕ) (passed : List Known) → IsAheadOf start position bytes passed → IsAheadOf now position bytes passed
  pub due : now.magic_due ≡ false
  pub settled : now.settled ≡ start.settled

-- the same for a call that may run out of memory
pub if_fed : {E : Type 0} (result : Result (Unit {0}) E) (before after : Decoder) (piece : List ℕ) → OnOk result (after.unread ≡ before.unread ++ piece) → after.at ≡ before.at → after.magic_due ≡ before.magic_due → after.rotated ≡ before.rotated → after.current ≡ before.current →
    after.counted ≡ before.counted → after.settled ≡ before.settled → OnOk result ((position : ℕ) (bytes : List ℕ) (passed : List Known) → StandsFor before position bytes passed → StandsFor after position (bytes ++ piece) passed)
if_fed (Ok value) before after piece unread at due rotated current counted settled = λ position bytes passed stands. fed_more before after position bytes piece passed unread at due rotated current counted settled stands
if_fed (Err fault) before after piece unread at due rotated current counted settled = tt

-- at first no epoch is open
pub none_at_first : IsOpen None (open_epoch [])
unfolding open_epoch
none_at_first = tt

-- the steps of the decoded events count as returned
pub counts : (before after : Decoder) (position : ℕ) (bytes : List ℕ) (known : List Known) → after.at ≡ before.at → after.unread ≡ before.unread → after.magic_due ≡ before.magic_due → after.rotated ≡ before.rotated → after.current ≡ before.current →
    after.counted ≡ before.counted → after.settled ≡ before.counted → StandsAt before position bytes known → StandsFor after position bytes known
counts before after position bytes known at unread due rotated current counted settled stands =
    let new : StandsAt after position bytes known = stays before after position bytes known stands (record {
      knows = record { rotated = rotated ∙ stands.knows.rotated; current = subst (λ (o : Option OpenEpoch). IsOpen o (open_epoch known)) (sym current) stands.knows.current };
      at = at;
      unread = unread;
      magic_due = due;
      counted = counted;
    }) in record {
      fed = new.fed;
      seen = first_seen after position bytes known new;
      settled = settled ∙ stands.counted;
      ready = is_ready after position bytes known (record { quiet = []; silent = refl; stands = new });
    }

pub answers : (result : Result Step StreamFault) (before after : Decoder) (position : ℕ) (bytes : List ℕ) (passed : List Known) → (result ≡ Err faults.NoMemory → ⊥) → after.at ≡ before.at → after.unread ≡ before.unread → after.magic_due ≡ before.magic_due → after.rotated ≡ before.rotated → after.current ≡ before.current →
    after.counted ≡ before.counted → after.settled ≡ before.counted → AnswersAhead position bytes passed result before → Answers position bytes passed result after
answers (Err faults.NoMemory) before after position bytes passed some at unread due rotated current counted settled answer = absurd (some refl)
answers (Err (faults.BadEvent place field)) before after position bytes passed some at unread due rotated current counted settled answer =
    (record { silent = answer.silent; fault = answer.fault }, counts before after position bytes (seen_of position bytes).known at unread due rotated current counted settled answer.stands)
answers (Ok steps.NeedMore) before after position bytes passed some at unread due rotated current counted settled answer =
    (record { silent = answer.silent; fault = answer.fault }, counts before after position bytes (seen_of position bytes).known at unread due rotated current counted settled answer.stands)
answers (Ok steps.Format) before after position bytes passed some at unread due rotated current counted settled (quiet, event, silent, given, stands) =
    (event ∷ (quiet ++ passed), record { quiet = quiet; silent = silent; event = event; events = refl; given = given }, counts before after position bytes (event ∷ (quiet ++ passed)) at unread due rotated current counted settled stands)
answers (Ok (steps.Epoch body end)) before after position bytes passed some at unread due rotated current counted settled (quiet, event, silent, given, stands) =
    (event ∷ (quiet ++ passed), record { quiet = quiet; silent = silent; event = event; events = refl; given = given }, counts before after position bytes (event ∷ (quiet ++ passed)) at unread due rotated current counted settled stands)
answers (Ok (steps.Rotate to name)) before after position bytes passed some at unread due rotated current counted settled (quiet, event, silent, given, stands) =
    (event ∷ (quiet ++ passed), record { quiet = quiet; silent = silent; event = event; events = refl; given = given }, counts before after position bytes (event ∷ (quiet ++ passed)) at unread due rotated current counted settled stands)

-- if memory allocation fails, a decoder represents the same as before
pub wants : (start after : Decoder) (position : ℕ) (bytes : List ℕ) (passed : List Known) → after.settled ≡ start.settled → StandsFor start position bytes passed → IsAheadOf after position bytes passed → StandsFor after position bytes passed
wants start after position bytes passed settled stands ahead = record { fed = ahead.stands.fed; seen = stands.seen; settled = settled ∙ stands.settled; ready = is_ready after position bytes passed ahead }

-- an option that has no value is `None`
pub none_of : {X : Type 0} (o : Option X) → ((x : X) → o ≡ Some x → ⊥) → o ≡ None
none_of None none = refl
none_of (Some x) none = absurd (none x refl)
