-- The steps that a decoder returns, and what they print.
use Rattle.std.proofs.Common.{◌≡◌, ℕ, zero, suc, ◌+◌, ◌<◌, ◌≤◌, Bool, true, false, List, [], ◌∷◌, ◌++◌, length, drop, refl, sym, ap, ap₂, subst, ◌∙◌, arith, append_assoc, append-nil, length-append, Result, Ok, Err}
use Rattle.std.specs.Prelude.{◌==◌, nat_le, nat_lt, if◌then◌else◌, take, find, Option, Some, None, IfSome}
use Rattle.std.specs.List.{flat_map, AllByRecursion}
use Rattle.std.specs.Option.{option_map_or}
use Rattle.std.specs.Str.{bytes_eq}
use Rattle.std.proofs.lemmas.Bool.Decides.{nat_tests}
use Rattle.std.proofs.lemmas.List.{flat_map_more, length-drop}
use Rattle.rb_base.specs.declared.faults.Field.{Field}
use Rattle.rb_base.specs.declared.faults.Field.TheVariants as fields
use Rattle.rb_base.specs.declared.schema.Mapped.{Mapped}
use Rattle.rb_base.specs.declared.change.Change.{Change}
use Rattle.rb_read_defs.specs.Reading.{Reading, Read, Short, Wrong}
use Rattle.rb_read_defs.specs.declared.answers.Content.{Content}
use Rattle.rb_read_defs.specs.declared.answers.Content.TheVariants.{Formats, Begins, Ends, Rotates, Maps, Changes, Statuses, Skipped}
use Rattle.rb_read_defs.specs.Stream.{Cut, Known, Judged, Good, Bad, Unfinished, seen_of, seen_from, seen_by, judge, cuts, cut_from, cut_by, magic, steps_of, step_of, open_epoch, body_read, maps_of, tables_named, tables_read}
use Rattle.rb_read_defs.specs.Events.{header}
use Rattle.rb_read_defs.specs.declared.answers.Header.{Header}
use Rattle.rb_read_defs.specs.declared.answers.Step.{Step}
use Rattle.rb_read_defs.specs.declared.answers.Step.TheVariants as steps
use Rattle.rb_read_defs.proofs.TablesNamed.{tables_ascend}
use Rattle.rb_read_defs.proofs.Ids as named
use Rattle.rb_stream.specs.Decoder.{StandsFor, GivesStep, Answers}
use Rattle.rb_stream.specs.declared.decoder.Decoder.{Decoder}
use Rattle.rb_stream.specs.declared.fault.StreamFault.{StreamFault}
use Rattle.rb_stream.specs.declared.fault.StreamFault.TheVariants as faults
use Rattle.rb_text_defs.specs.LogText.{Ascend}
use Rattle.rb_top.specs.ReadLog.{step_text}
use Rattle.rb_top.specs.ReadLoop.{is_taken, IsPrintable, HasTaken, HasTakenAll}

-- no more events are seen than are cut out of the bytes
seen_few : (earlier : List Known) (all : List Cut) → length (seen_from earlier all).known ≤ length earlier + length all
unfolding seen_from
seen_few earlier [] = omega arith
seen_few earlier (cut ∷ all) = go (judge earlier cut) (λ event. seen_few (event ∷ earlier) all)
  where
    go : (j : Judged) → ((event : Known) → length (seen_from (event ∷ earlier) all).known ≤ length (event ∷ earlier) + length all) →
        length (seen_by cut.at earlier j (λ event. seen_from (event ∷ earlier) all)).known ≤ length earlier + length (cut ∷ all)
    go (Good event) rest = let r = rest event in omega arith
    go (Bad field) rest = omega arith
    go Unfinished rest = omega arith

-- and no more are cut out than there are bytes
cuts_few : (most at : ℕ) (bytes : List ℕ) → length (cut_from most at bytes) ≤ most
unfolding cut_from
cuts_few zero at bytes = omega arith
cuts_few (suc most) at bytes = by_length (nat_lt (length bytes) 19) (λ size. cuts_few most (at + size) (drop size bytes))
  where
    by_size : (b : Bool) (head : Header) (after : ℕ) → length (cut_from most (at + head.size) (drop head.size bytes)) ≤ most →
        length (if b then record { at = at; head = Read head after; payload = Some (drop 19 (take head.size bytes)) } ∷ cut_from most (at + head.size) (drop head.size bytes) else record { at = at; head = Read head after; payload = None } ∷ []) ≤ suc most
    by_size true head after rest = omega arith
    by_size false head after rest = omega arith

    by_header : (r : Reading Header) → ((size : ℕ) → length (cut_from most (at + size) (drop size bytes)) ≤ most) → length (cut_by at bytes r (λ size. cut_from most (at + size) (drop size bytes))) ≤ suc most
    by_header (Read head after) rest = by_size (nat_le head.size (length bytes)) head after (rest head.size)
    by_header (Short place) rest = omega arith
    by_header (Wrong place field) rest = omega arith

    by_length : (b : Bool) → ((size : ℕ) → length (cut_from most (at + size) (drop size bytes)) ≤ most) →
        length (if b then [] else cut_by at bytes (header at bytes 0) (λ size. cut_from most (at + size) (drop size bytes))) ≤ suc most
    by_length true rest = omega arith
    by_length false rest = by_header (header at bytes 0) rest

-- there are no more events than bytes
known_few : (bytes : List ℕ) → length (seen_of 0 bytes).known ≤ length bytes
unfolding seen_of
known_few bytes = go (nat_lt (length bytes) 4) (bytes_eq (take 4 bytes) magic)
  where
    go : (b c : Bool) → length (if b then record { known = []; fault = None } else (if c then seen_from [] (cuts 4 (drop 4 bytes)) else record { known = []; fault = Some (0, fields.Magic) })).known ≤ length bytes
    go true c = omega arith
    go false true = omega (arith, seen_few [] (cuts 4 (drop 4 bytes)), cuts_few (length (drop 4 bytes)) 4 (drop 4 bytes), length-drop 4 bytes)
    go false false = omega arith

-- a step that was taken
gives : (bytes : List ℕ) (passed : List Known) (step : Step) (decoder : Decoder) → is_taken step ≡ true → Answers 0 bytes passed (Ok step) decoder → (now : List Known) × GivesStep passed step now × StandsFor decoder 0 bytes now
gives bytes passed (steps.Epoch body end) decoder is given = given
gives bytes passed (steps.Rotate position name) decoder is given = given
gives bytes passed steps.Format decoder is given = given
gives bytes passed steps.NeedMore decoder is given = absurd (let no : false ≡ true = is in cc)

-- and none
needs_more : (step : Step) → is_taken step ≡ false → step ≡ steps.NeedMore
needs_more (steps.Epoch body end) is = absurd (let no : true ≡ false = is in cc)
needs_more (steps.Rotate position name) is = absurd (let no : true ≡ false = is in cc)
needs_more steps.Format is = absurd (let no : true ≡ false = is in cc)
needs_more steps.NeedMore is = refl

-- what a decoder returns next, at whatever it represents
abbrev pub AnswersNext : (before after : Decoder) → Result Step StreamFault → Type 0
AnswersNext before after result = (position : ℕ) (bytes : List ℕ) (passed : List Known) → StandsFor before position bytes passed → Answers position bytes passed result after

-- one step more
pub taken_more : (before after : Decoder) (bytes : List ℕ) (passed : List Known) (first text now : List ℕ) (turns : ℕ) (result : Result Step StreamFault) (step : Step) →
    result ≡ Ok step → is_taken step ≡ true → AnswersNext before after result → HasTaken before bytes passed first text turns → now ≡ text ++ step_text step → HasTaken after bytes passed first now (turns + 1)
unfolding steps_of
taken_more before after bytes passed first text now turns result step is some next had put =
    let answered = subst (λ (r : Result Step StreamFault). Answers 0 bytes had.now r after) is (next 0 bytes had.now had.stands) in
    let (events, given, stands) = gives bytes had.now step after some answered in
    record {
      now = events;
      stands = stands;
      taken = had.taken ++ step ∷ [];
      steps =
          ap steps_of given.events ∙ ap₂ (λ (a b : List Step). a ++ b) given.silent given.given ∙ ap (λ (all : List Step). all ++ step ∷ []) had.steps
          ∙ append_assoc (steps_of passed) had.taken (step ∷ []);
      text = put ∙ ap (λ (t : List ℕ). t ++ step_text step) had.text ∙ flat_map_more step_text first had.taken step;
      counted = let all = ap length given.events in let l = length-append given.quiet had.now in let c = had.counted in omega arith;
    }

-- all steps, if none is left
pub taken_all : (before after : Decoder) (bytes : List ℕ) (passed : List Known) (first text now : List ℕ) (turns : ℕ) (result : Result Step StreamFault) (step : Step) →
    result ≡ Ok step → is_taken step ≡ false → AnswersNext before after result → HasTaken before bytes passed first text turns → now ≡ text ++ step_text step → HasTakenAll after bytes passed first now None
unfolding step_text
taken_all before after bytes passed first text now turns result step is none next had put =
    let answered = subst (λ (r : Result Step StreamFault). Answers 0 bytes had.now r after) (is ∙ ap Ok (needs_more step none)) (next 0 bytes had.now had.stands) in
    record {
      stands = answered.1;
      taken = had.taken;
      steps = answered.0.silent ∙ had.steps;
      text = put ∙ ap (λ (s : Step). text ++ step_text s) (needs_more step none) ∙ append-nil text ∙ had.text;
      fault = answered.0.fault;
    }

-- all steps before a bad event
pub taken_to_bad : (before after : Decoder) (bytes : List ℕ) (passed : List Known) (first text : List ℕ) (turns : ℕ) (result : Result Step StreamFault) (at : ℕ) (field : Field) →
    result ≡ Err (faults.BadEvent at field) → AnswersNext before after result → HasTaken before bytes passed first text turns → HasTakenAll after bytes passed first text (Some (at, field))
taken_to_bad before after bytes passed first text turns result at field is next had =
    let answered = subst (λ (r : Result Step StreamFault). Answers 0 bytes had.now r after) is (next 0 bytes had.now had.stands) in
    record { stands = answered.1; taken = had.taken; steps = answered.0.silent ∙ had.steps; text = had.text; fault = answered.0.fault }

-- there are no more steps than bytes
pub taken_few : (decoder : Decoder) (bytes : List ℕ) (passed : List Known) (first text : List ℕ) (turns : ℕ) → HasTaken decoder bytes passed first text turns → turns ≤ length bytes
taken_few decoder bytes passed first text turns had =
    let (later, is) = had.stands.seen in
    let all = ap length is in
    let l = length-append later had.now in
    let c = had.counted in
    omega (arith, known_few bytes)

-- a table that is found has the id
found_id : (id : ℕ) (tables : List Mapped) → IfSome (find (λ table. table.id == id) tables) (λ table. table.id ≡ id)
found_id id [] = tt
found_id id (table ∷ tables) = go (table.id == id) refl (found_id id tables)
  where
    go : (b : Bool) → (table.id == id) ≡ b → IfSome (find (λ table. table.id == id) tables) (λ table. table.id ≡ id) → IfSome (if b then Some table else find (λ table. table.id == id) tables) (λ table. table.id ≡ id)
    go true is rest = grind (arith, nat_tests)
    go false is rest = rest

-- the tables that are found of some ids
abbrev of_ids : List Mapped → List ℕ → List Mapped
of_ids maps ids = flat_map (λ id. option_map_or (λ table. table ∷ []) (find (λ table. table.id == id) maps) []) ids

all_above : (low : ℕ) (maps : List Mapped) (ids : List ℕ) → AllByRecursion (λ id. low < id) ids → AllByRecursion (λ table. low < table.id) (of_ids maps ids)
all_above low maps [] all = tt
all_above low maps (id ∷ ids) all = go (find (λ table. table.id == id) maps) (found_id id maps) (all_above low maps ids all.1)
  where
    go : (o : Option Mapped) → IfSome o (λ table. table.id ≡ id) → AllByRecursion (λ table. low < table.id) (of_ids maps ids) → AllByRecursion (λ table. low < table.id) (option_map_or (λ table. table ∷ []) o [] ++ of_ids maps ids)
    go None is rest = rest
    go (Some table) is rest = (let less = all.0 in omega arith, rest)

found_ascend : (maps : List Mapped) (ids : List ℕ) → named.Ascend ids → Ascend (of_ids maps ids)
unfolding Ascend
found_ascend maps [] up = tt
found_ascend maps (id ∷ ids) up = go (find (λ table. table.id == id) maps) (found_id id maps) (found_ascend maps ids up.1)
  where
    go : (o : Option Mapped) → IfSome o (λ table. table.id ≡ id) → Ascend (of_ids maps ids) → Ascend (option_map_or (λ table. table ∷ []) o [] ++ of_ids maps ids)
    go None is rest = rest
    go (Some table) is rest = (all_above table.id maps ids (subst (λ (low : ℕ). AllByRecursion (λ other. low < other) ids) (sym is) up.0), rest)

-- the tables of an epoch that is read ascend
tables_up : (events : List Known) (changes : List Change) → Ascend (tables_read events changes)
tables_up events changes = found_ascend (maps_of events) (tables_named changes) (tables_ascend changes)

all_printable : (earlier : List Known) (event : Known) → AllByRecursion IsPrintable (step_of earlier event)
all_printable earlier event = go event.says
  where
    ended : (o : Option (List Known)) → AllByRecursion IsPrintable (option_map_or (λ events. steps.Epoch (body_read events event.server) event.end ∷ []) o [])
    ended None = tt
    ended (Some events) = (tables_up events (body_read events event.server).changes, tt)

    go : (says : Content) → AllByRecursion IsPrintable (step_of earlier (record { end = event.end; server = event.server; says = says }))
    go Formats = (tt, tt)
    go (Rotates to) = (tt, tt)
    go Ends = ended (open_epoch earlier)
    go Begins = tt
    go (Maps table) = tt
    go (Changes changes) = tt
    go (Statuses rows) = tt
    go Skipped = tt

-- a step that a decoder returns can be printed
pub printable : (before after : Decoder) (bytes : List ℕ) (passed : List Known) (result : Result Step StreamFault) (step : Step) → result ≡ Ok step → AnswersNext before after result → StandsFor before 0 bytes passed → IsPrintable step
printable before after bytes passed result step is next stands = go step (subst (λ (r : Result Step StreamFault). Answers 0 bytes passed r after) is (next 0 bytes passed stands))
  where
    of_step : (step : Step) → (now : List Known) × GivesStep passed step now × StandsFor after 0 bytes now → IsPrintable step
    of_step step (now, given, stands) = (subst (λ (all : List Step). AllByRecursion IsPrintable all) given.given (all_printable (given.quiet ++ passed) given.event)).0

    go : (step : Step) → Answers 0 bytes passed (Ok step) after → IsPrintable step
    go (steps.Epoch body end) given = of_step (steps.Epoch body end) given
    go (steps.Rotate position name) given = tt
    go steps.Format given = tt
    go steps.NeedMore given = tt
