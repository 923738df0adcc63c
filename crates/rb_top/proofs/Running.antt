-- What a run that goes on, or stops, leaves of its log and of its report.
use Rattle.std.proofs.Common.{◌≡◌, ℕ, ◌+◌, ◌*◌, ◌<◌, ◌≤◌, List, [], ◌∷◌, ◌++◌, length, fold, refl, sym, ap, ap₂, subst, ◌∙◌, arith, append_assoc}
use Rattle.std.specs.Prelude.{sum_by, codes, Result, Ok, Err}
use Rattle.std.specs.List.{AllByRecursion, flat_map}
use Rattle.std.proofs.lemmas.List.{append-nil, take_all, take-append-le, length-append}
use Rattle.std.proofs.lemmas.List.Sums.{fold-append, sum_by-append, sum_by-cons}
use Rattle.std.proofs.lemmas.Grind.{flat_map-append}
use Rattle.rb_base.specs.declared.site.SiteId.{SiteId}
use Rattle.rb_base.specs.declared.site.SiteId.TheVariants.{A}
use Rattle.rb_base.specs.declared.body.EpochBody.{EpochBody}
use Rattle.rb_base.specs.declared.body.IndexRow.{IndexRow}
use Rattle.rb_base.specs.declared.script.Setup.{Setup}
use Rattle.rb_log_defs.specs.File.{binlog_files, index_rows}
use Rattle.rb_base.specs.declared.outcome.Outcome.{Outcome}
use Rattle.rb_journal_defs.specs.Body.{Shape}
use Rattle.rb_text_defs.specs.declared.script.LinedEvent.{LinedEvent}
use Rattle.rb_text_defs.specs.declared.script.Script.{Script}
use Rattle.rb_text_defs.specs.Legal.{IsLegal, IsLegalEvent, changes_in_event}
use Rattle.rb_text_defs.specs.Report.{outcome_line, log_lines, table_lines, text_of_lines}
use Rattle.rb_play_defs.specs.Step.{Progress, written_bodies}
use Rattle.rb_play_defs.specs.Play.{shape_of, steps_of_event, joined_outcome, after_steps, outcomes_of, Played, played_on, not_played, play_of, play, log_of, tables_left, log_rows, report_of, HoldsLogOf}
use Rattle.rb_play_defs.specs.UnfinishedLog.{HoldsUnfinishedLog}
use Rattle.rb_play_defs.specs.Sound.{IsSound}
use Rattle.rb_play_defs.proofs.Grows.{Begins, begins_self, goes_on, goes_steps}
use Rattle.rb_print.proofs.ReportLaws.{report_pieces}
use Rattle.rb_device_defs.specs.Image.{HoldsLog, IsLogImage}
use Rattle.rb_device_defs.proofs.ImageLaws.{whole_is_image}
use Rattle.rb_site.specs.declared.site.Site.{Site}
use Rattle.rb_site.specs.Site.{IsSite, limit_of}
use Rattle.rb_site.proofs.SiteLaws.{is_primary}
use Rattle.rb_pair.proofs.PairLaws.{is_sound, holds_log}
use Rattle.rb_cluster.proofs.Results.{err_same}
use Rattle.rb_pair.proofs.ActLaws.{more_of}
use Rattle.rb_pair.proofs.HeldLaws.{none_first}
use Rattle.rb_pair.specs.Fault.{IsNotEmpty, HasPairCause}
use Rattle.rb_pair.specs.Held.{AreEmpty, IsFirstHeld}
use Rattle.rb_pair.specs.declared.fault.PairFault.{PairFault}
use Rattle.rb_pair.specs.declared.fault.PairFault.TheVariants as faults
use Rattle.rb_pair.specs.declared.pair.Pair.{Pair}
use Rattle.rb_pair.specs.Pair.{IsPair, HasRoom, events_of, changes_of}
use Rattle.rb_top.specs.Run.{reported}
use Rattle.rb_top.proofs.PrintLaws.{rose_later}

-- the log of all bodies so far is an unfinished one of those that begin with them
pub whole_part : (limit : ℕ) (first whole : List EpochBody) (seen : ℕ → List ℕ) → Begins first whole → HoldsLog A limit first seen → HoldsUnfinishedLog A limit 0 whole seen
whole_part limit first whole seen more held =
    more_of A limit 0 first whole seen more (record {
      count = length first;
      least_are_there = omega arith;
      within = omega arith;
      image = subst (λ (bodies : List EpochBody). IsLogImage A limit bodies seen) (sym (take_all (length first) first (omega arith))) (whole_is_image A limit first seen held);
    })

-- a log without a body is an unfinished one of any bodies
pub part_of_any : (limit : ℕ) (bodies : List EpochBody) (seen : ℕ → List ℕ) → IsLogImage A limit [] seen → HoldsUnfinishedLog A limit 0 bodies seen
part_of_any limit bodies seen image = record { count = 0; least_are_there = omega arith; within = omega arith; image = image }

-- an unfinished log is one of any number of bodies at least
any_count : (limit least : ℕ) (bodies : List EpochBody) (seen : ℕ → List ℕ) → HoldsUnfinishedLog A limit least bodies seen → HoldsUnfinishedLog A limit 0 bodies seen
any_count limit least bodies seen left = record { count = left.count; least_are_there = omega arith; within = left.within; image = left.image }

-- one more event is played
pub play_more : (setup : Setup) (lined : List LinedEvent) (event : LinedEvent) → play_of setup (lined ++ event ∷ []) ≡ played_on setup (play_of setup lined) event
unfolding play_of
play_more setup lined event = fold-append (played_on setup) (not_played setup) lined (event ∷ [])

-- the events after one more
pub whole_more : (all done rest later : List LinedEvent) (lined : LinedEvent) → all ≡ done ++ rest → rest ≡ lined ∷ later → all ≡ (done ++ lined ∷ []) ++ later
whole_more all done rest later lined whole next = whole ∙ ap (λ (events : List LinedEvent). done ++ events) next ∙ sym (append_assoc done (lined ∷ []) later)

-- the lines that report events, and one more
printed_more : (outcomes : List (ℕ × Outcome)) (line : ℕ) (outcome : Outcome) → reported (outcomes ++ (line, outcome) ∷ []) ≡ reported outcomes ++ (outcome_line line outcome ++ 10 ∷ [])
printed_more outcomes line outcome =
    flat_map-append (λ lined. outcome_line lined.0 lined.1 ++ 10 ∷ []) outcomes ((line, outcome) ∷ [])
    ∙ ap (λ (text : List ℕ). reported outcomes ++ text) (append-nil (outcome_line line outcome ++ 10 ∷ []))

-- how many changes some events may make
abbrev pub changes_in : List LinedEvent → ℕ
changes_in lined = sum_by (λ (one : LinedEvent). changes_in_event one.event) lined

changes_more : (lined : List LinedEvent) (event : LinedEvent) → changes_in (lined ++ event ∷ []) ≡ changes_in lined + changes_in_event event.event
changes_more lined event =
    sum_by-append (λ (one : LinedEvent). changes_in_event one.event) lined (event ∷ [])
    ∙ ap (λ n. changes_in lined + n) (let one = sum_by-cons (λ (one : LinedEvent). changes_in_event one.event) event [] in let same : changes_in (event ∷ []) ≡ changes_in_event event.event = omega arith in same)

-- a pair represents the run after some events, and has counted them
pub record HasPlayed (setup : Setup) (lined : List LinedEvent) (pair : Pair) (seen : ℕ → List ℕ) : Type 0 where
  pub stands : IsPair setup pair seen (play_of setup lined).sites
  pub events : events_of pair ≡ length lined
  pub changes : changes_of pair ≡ changes_in lined

pub starts : (setup : Setup) (pair : Pair) (seen : ℕ → List ℕ) → IsPair setup pair seen (not_played setup).sites → (events_of pair ≡ 0) × (changes_of pair ≡ 0) → HasPlayed setup [] pair seen
unfolding play_of
starts setup pair seen held none = record { stands = held; events = none.0; changes = none.1 }

pub printed_nothing : (setup : Setup) (text : List ℕ) → text ≡ text ++ reported (play_of setup []).outcomes
unfolding play_of
printed_nothing setup text = sym (append-nil text)

-- and an event later
pub played_more : (setup : Setup) (lined : List LinedEvent) (event : LinedEvent) (old new : Pair) (before seen : ℕ → List ℕ) → HasPlayed setup lined old before → IsPair setup new seen (after_steps setup (play_of setup lined).sites (steps_of_event event.event)) →
    (events_of new ≡ events_of old + 1) × (changes_of new ≡ changes_of old + changes_in_event event.event) → HasPlayed setup (lined ++ event ∷ []) new seen
played_more setup lined event old new before seen held stands counts = record {
  stands = subst (λ (played : Played). IsPair setup new seen played.sites) (sym (play_more setup lined event)) stands;
  events = omega (arith, counts.0, held.events, length-append lined (event ∷ []));
  changes = omega (arith, counts.1, held.changes, changes_more lined event);
}

pub text_more : (setup : Setup) (lined : List LinedEvent) (event : LinedEvent) (outcome : Outcome) (start text : List ℕ) → outcome ≡ joined_outcome (outcomes_of setup (play_of setup lined).sites (steps_of_event event.event)) → text ≡ start ++ reported (play_of setup lined).outcomes →
    text ++ (outcome_line event.line outcome ++ 10 ∷ []) ≡ start ++ reported (play_of setup (lined ++ event ∷ [])).outcomes
text_more setup lined event outcome start text is so_far =
    ap (λ (t : List ℕ). t ++ (outcome_line event.line outcome ++ 10 ∷ [])) so_far
    ∙ append_assoc start (reported (play_of setup lined).outcomes) (outcome_line event.line outcome ++ 10 ∷ [])
    ∙ ap (λ (t : List ℕ). start ++ t)
    (ap (λ o. reported (play_of setup lined).outcomes ++ (outcome_line event.line o ++ 10 ∷ [])) is
    ∙ sym (printed_more (play_of setup lined).outcomes event.line (joined_outcome (outcomes_of setup (play_of setup lined).sites (steps_of_event event.event))))
    ∙ ap (λ (played : Played). reported played.outcomes) (sym (play_more setup lined event)))

-- if no event is left, the run is whole
pub played_whole : (setup : Setup) (events done rest : List LinedEvent) (pair : Pair) (seen : ℕ → List ℕ) → events ≡ done ++ rest → rest ≡ [] → HasPlayed setup done pair seen →
    IsPair setup pair seen (play (record { setup = setup; events = events })).sites
played_whole setup events done rest pair seen whole end held =
    subst (λ (all : List LinedEvent). IsPair setup pair seen (play_of setup all).sites) (sym (whole ∙ ap (λ (later : List LinedEvent). done ++ later) end ∙ append-nil done)) held.stands

-- what holds of all holds of those after the first
all_after : {X : Type 0} (P : X → Type 0) (xs ys : List X) → AllByRecursion P (xs ++ ys) → AllByRecursion P ys
all_after P [] ys all = all
all_after P (x ∷ xs) ys all = all_after P xs ys all.1

-- the room that an event needs is there
pub room_for : (script : Script) (pair : Pair) (seen : ℕ → List ℕ) (done : List LinedEvent) (lined : LinedEvent) (rest : List LinedEvent) → IsLegal script → script.events ≡ done ++ (lined ∷ rest) → HasPlayed script.setup done pair seen → HasRoom script.setup pair lined.event
room_for script pair seen done lined rest legal is held =
    let nodes : ℕ = script.setup.a.groups * script.setup.a.replicas in
    let there = all_after (λ (l : LinedEvent). IsLegalEvent script.setup.tables nodes l.event) done (lined ∷ rest) (subst (AllByRecursion (λ (l : LinedEvent). IsLegalEvent script.setup.tables nodes l.event)) is legal.events) in
    let many : length script.events ≡ length done + length (lined ∷ rest) = ap length is ∙ length-append done (lined ∷ rest) in
    let changes : changes_in script.events ≡ changes_in done + (changes_in_event lined.event + changes_in rest) =
    ap changes_in is ∙ sum_by-append (λ (l : LinedEvent). changes_in_event l.event) done (lined ∷ rest)
    ∙ ap (λ n. changes_in done + n) (sum_by-cons (λ (l : LinedEvent). changes_in_event l.event) lined rest) in record {
      legal = there.0;
      events = (let few = legal.few_events in let counted = held.events in omega arith);
      changes = (let few = legal.few_changes in let counted = held.changes in omega arith);
    }

-- the bodies written so far are the first of those that the script writes
pub begins_whole : (script : Script) (played : Played) (done rest : List LinedEvent) → script.events ≡ done ++ rest → play_of script.setup done ≡ played → IsSound (shape_of script.setup A) played.sites.a → Begins (written_bodies (shape_of script.setup A) played.sites.a) (log_of script)
unfolding play_of
begins_whole script played done rest is so_far sound =
    let shape = shape_of script.setup A in
    let ends : fold (played_on script.setup) played rest ≡ play script =
    ap (λ (p : Played). fold (played_on script.setup) p rest) (sym so_far) ∙ sym (fold-append (played_on script.setup) (not_played script.setup) done rest) ∙ ap (fold (played_on script.setup) (not_played script.setup)) (sym is) in
    subst (λ (p : Played). Begins (written_bodies shape played.sites.a) (written_bodies shape p.sites.a)) ends (goes_on script.setup A rest played sound).grows

-- a run that stopped in an event
pub stopped_in : (script : Script) (pair : Pair) (before seen : ℕ → List ℕ) (done : List LinedEvent) (lined : LinedEvent) (rest : List LinedEvent) → script.events ≡ (done ++ lined ∷ []) ++ rest → HasPlayed script.setup done pair before →
    HoldsUnfinishedLog A script.setup.a.limit (play_of script.setup done).sites.a.written (written_bodies (shape_of script.setup A) (after_steps script.setup (play_of script.setup done).sites (steps_of_event lined.event)).a) seen → HoldsUnfinishedLog A script.setup.a.limit 0 (log_of script) seen
stopped_in script pair before seen done lined rest is held left =
    let next = after_steps script.setup (play_of script.setup done).sites (steps_of_event lined.event) in
    let least = (play_of script.setup done).sites.a.written in
    any_count script.setup.a.limit least (log_of script) seen
    (more_of A script.setup.a.limit least (written_bodies (shape_of script.setup A) next.a) (log_of script) seen
    (begins_whole script (played_on script.setup (play_of script.setup done) lined) (done ++ lined ∷ []) rest is (play_more script.setup done lined) (goes_steps script.setup A (steps_of_event lined.event) (play_of script.setup done).sites (is_sound script.setup pair before (play_of script.setup done).sites held.stands)).sound) left)

-- a run that stopped after some of its events
pub stopped_after : (script : Script) (pair : Pair) (seen : ℕ → List ℕ) (done rest : List LinedEvent) → script.events ≡ done ++ rest → IsPair script.setup pair seen (play_of script.setup done).sites → HoldsUnfinishedLog A script.setup.a.limit 0 (log_of script) seen
stopped_after script pair seen done rest is held =
    whole_part script.setup.a.limit (written_bodies (shape_of script.setup A) (play_of script.setup done).sites.a) (log_of script) seen (begins_whole script (play_of script.setup done) done rest is refl (is_sound script.setup pair seen (play_of script.setup done).sites held)) (holds_log script.setup pair seen (play_of script.setup done).sites held)

-- the whole of a run
pub whole_after : (script : Script) (pair : Pair) (seen : ℕ → List ℕ) → IsPair script.setup pair seen (play script).sites → HoldsUnfinishedLog A script.setup.a.limit 0 (log_of script) seen
whole_after script pair seen held = stopped_after script pair seen script.events [] (sym (append-nil script.events)) held

pub one_log : (script : Script) (pair : Pair) (seen : ℕ → List ℕ) → IsPair script.setup pair seen (play script).sites → HoldsLogOf script seen
one_log script pair seen held = holds_log script.setup pair seen (play script).sites held

pub whole_log : (script : Script) (seen : ℕ → List ℕ) → HoldsLogOf script seen → HoldsUnfinishedLog A script.setup.a.limit 0 (log_of script) seen
whole_log script seen log = whole_part script.setup.a.limit (log_of script) (log_of script) seen (begins_self (log_of script)) log

-- the lines of its log
abbrev pub log_text : Script → List ℕ
log_text script = text_of_lines (log_lines A (log_rows script.setup.a.limit (log_of script)))

five : (a b c d e : List ℕ) → (((a ++ b) ++ c) ++ d) ++ e ≡ a ++ (b ++ (c ++ (d ++ e)))
five a b c d e = simp append_assoc

-- the report of a run
pub report_is : (script : Script) (title text log tables end : List ℕ) → title ≡ text_of_lines (codes "ndb replication report" ∷ []) →
    text ≡ title ++ reported (play script).outcomes → log ≡ text ++ log_text script →
    tables ≡ log ++ flat_map (λ table. text_of_lines (table_lines A table)) (tables_left script.setup.tables (play script).sites.a.journal) →
    end ≡ tables ++ text_of_lines (codes "end" ∷ []) → end ≡ report_of script
unfolding report_of
report_is script title text log tables end title_is text_is log_is tables_is end_is =
    let head : List ℕ = text_of_lines (codes "ndb replication report" ∷ []) in
    let lines : List ℕ = reported (play script).outcomes in
    let last : List ℕ = text_of_lines (codes "end" ∷ []) in
    let rows : List ℕ = flat_map (λ table. text_of_lines (table_lines A table)) (tables_left script.setup.tables (play script).sites.a.journal) in
    end_is ∙ ap (λ (t : List ℕ). t ++ last) tables_is ∙ ap (λ (t : List ℕ). (t ++ rows) ++ last) log_is
    ∙ ap (λ (t : List ℕ). ((t ++ log_text script) ++ rows) ++ last) text_is
    ∙ ap (λ (t : List ℕ). (((t ++ lines) ++ log_text script) ++ rows) ++ last) title_is
    ∙ five head lines (log_text script) rows last
    ∙ sym (report_pieces (play script).outcomes (log_rows script.setup.a.limit (log_of script)) (tables_left script.setup.tables (play script).sites.a.journal))

-- the lines of the log that a site represents
pub log_put : (shape : Shape) (site : Site) (seen : ℕ → List ℕ) (run : Progress) (files : ℕ) (rows : List IndexRow) (old new text : List ℕ) → IsSite shape site seen run → new ≡ old ++ text → text ≡ text_of_lines (log_lines A (record { files = files; rows = rows })) →
    files ≡ length (binlog_files shape.site (limit_of site) (written_bodies shape run)) → rows ≡ index_rows shape.site (limit_of site) (written_bodies shape run) →
    new ≡ old ++ text_of_lines (log_lines A (log_rows (limit_of site) (written_bodies shape run)))
log_put shape site seen run files rows old new text held put lines files_are rows_are =
    let bodies = written_bodies shape run in
    put ∙ ap (λ (t : List ℕ). old ++ t)
    (lines ∙ ap₂ (λ (n : ℕ) (r : List IndexRow). text_of_lines (log_lines A (record { files = n; rows = r })))
    (files_are ∙ ap (λ (id : SiteId). length (binlog_files id (limit_of site) bodies)) (is_primary shape site seen run held))
    (rows_are ∙ ap (λ (id : SiteId). index_rows id (limit_of site) bodies) (is_primary shape site seen run held)))

-- two sites whose devices are empty begin
held_is : {T : Type 0} (result : Result T PairFault) → IsNotEmpty result → (site : SiteId) × (file : ℕ) × (size : ℕ) × (result ≡ Err (faults.NotEmpty site file size))
held_is (Ok value) held = absurd held
held_is (Err (faults.NotEmpty site file size)) held = (site, file, size, refl)
held_is (Err (faults.DiskFault site)) held = absurd held
held_is (Err faults.NoMemory) held = absurd held

pub begins_when_empty : {T U : Type 0} (created : Result T PairFault) (result : Result U PairFault) (fault : PairFault) (seen_a seen_b : ℕ → List ℕ) → created ≡ Err fault → result ≡ Err fault → AreEmpty seen_a seen_b →
    ((site : SiteId) (file size : ℕ) → created ≡ Err (faults.NotEmpty site file size) → IsFirstHeld site file size seen_a seen_b) → IsNotEmpty result → ⊥
begins_when_empty {T} created result fault seen_a seen_b was is empty named held =
    let (site, file, size, same) = held_is result held in
    none_first site file size seen_a seen_b empty (named site file size (err_same T result fault (faults.NotEmpty site file size) is same created was))

-- the cause of a fault in a later event is one in the whole run
pub cause_later : {T U : Type 0} (before between now : ℕ) (stepped : Result T PairFault) (result : Result U PairFault) (fault : PairFault) → stepped ≡ Err fault → result ≡ Err fault → before ≤ between → HasPairCause between now stepped → HasPairCause before now result
cause_later {T} before between now stepped result fault was is later cause = record {
  later = omega (arith, later, cause.later);
  failed = λ site same.
      let (at, rose) = cause.failed site (err_same T result fault (faults.DiskFault site) is same stepped was) in
      (at, rose_later before between now later rose);
}
