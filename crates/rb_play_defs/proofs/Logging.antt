-- The bodies that a run writes: their number, their room, and those that a fault may leave.
use Rattle.std.proofs.Common.{◌≡◌, ℕ, ◌≤◌, Bool, true, false, cond, List, [], ◌∷◌, ◌++◌, length, filter, refl, sym, ap, subst, ◌∙◌, arith, zero, suc, ◌+◌, ◌<◌, map, get_or, inl, inr, length-append, take}
use Rattle.std.specs.Prelude.{Option, None, nat_le, ◌⊎◌, IfSome}
use Rattle.std.proofs.lemmas.List.{append-nil, length-take-le, take-append-le, take_all}
use Rattle.rb_base.specs.declared.site.SiteId.{SiteId}
use Rattle.rb_journal_defs.specs.Journal.{closed_epochs, Journal}
use Rattle.rb_journal_defs.specs.Body.{Shape, body_of, has_something_to_log, completed_bodies}
use Rattle.rb_journal_defs.proofs.Counts.{filter_length, body_own}
use Rattle.rb_play_defs.specs.Step.{Progress, takeable, written_bodies, with_taken, worth_logging, with_all_taken}
use Rattle.rb_play_defs.specs.Sound.{IsSound}
use Rattle.rb_play_defs.proofs.Takes.{written_more, written_is}
use Rattle.rb_play_defs.proofs.Grows.{written_within, Begins, goes_taken}
use Rattle.rb_play_defs.specs.Point.{AreDeclared, most_closed, most_own}
use Rattle.std.specs.List.{AllByRecursion, last_or}
use Rattle.std.specs.List.Sorted.{IsNonDecreasingBy}
use Rattle.std.proofs.lemmas.List.Elements.{All-from_recursion}
use Rattle.std.proofs.lemmas.List.Kept.{IsNonDecreasingBy-filter}
use Rattle.rb_base.specs.declared.body.EpochBody.{EpochBody}
use Rattle.rb_base.specs.declared.body.IndexRow.{IndexRow}
use Rattle.rb_log_defs.specs.File.{binlog_of, index_rows}
use Rattle.rb_journal_defs.specs.Order.{AreAuthored}
use Rattle.rb_journal_defs.specs.Counts.{own_changes}
use Rattle.rb_journal_defs.proofs.Order.{Rises, closed_rise, upto}
use Rattle.rb_message_defs.proofs.Messages.{all_more, all_mapped}
use Rattle.rb_device_defs.specs.Image.{HasRoomInLog, CanBeLogged, IsLogImage}
use Rattle.rb_device_defs.proofs.RowLaws.{never_fall_by, few_full}
use Rattle.rb_device_defs.proofs.ImageLaws.{last_row}
use Rattle.rb_play_defs.specs.Fitting.{JournalFits}
use Rattle.rb_play_defs.proofs.Fits.{all_filtered}
use Rattle.rb_play_defs.proofs.Sounds.{closed_all_below}
use Rattle.rb_play_defs.proofs.BodyFits.{can_be_written, few_bytes}
use Rattle.rb_play_defs.specs.UnfinishedLog.{HoldsUnfinishedLog}

-- the bodies after an epoch that is taken
pub bodies_with : (shape : Shape) (run : Progress) (e : ℕ) (rest : List ℕ) → IsSound shape run → takeable shape run ≡ e ∷ rest → has_something_to_log (body_of shape e run.journal) ≡ true →
    written_bodies shape (with_taken shape run e) ≡ written_bodies shape run ++ body_of shape e run.journal ∷ []
bodies_with shape run e rest sound front logged = written_more shape run e rest sound front ∙ ap (λ (b : Bool). written_bodies shape run ++ cond b (body_of shape e run.journal ∷ []) []) logged

pub bodies_without : (shape : Shape) (run : Progress) (e : ℕ) (rest : List ℕ) → IsSound shape run → takeable shape run ≡ e ∷ rest → has_something_to_log (body_of shape e run.journal) ≡ false →
    written_bodies shape (with_taken shape run e) ≡ written_bodies shape run
bodies_without shape run e rest sound front logged = written_more shape run e rest sound front ∙ ap (λ (b : Bool). written_bodies shape run ++ cond b (body_of shape e run.journal ∷ []) []) logged ∙ append-nil (written_bodies shape run)

-- this many bodies are written
pub count_is : (shape : Shape) (run : Progress) → IsSound shape run → length (written_bodies shape run) ≡ run.written
count_is shape run sound = length-take-le run.written (completed_bodies shape run.journal) (written_within shape run sound)

-- no more bodies are written than epochs are closed
pub written_small : (shape : Shape) (run : Progress) → IsSound shape run → length (closed_epochs run.journal) ≤ most_closed → run.written ≤ most_closed
written_small shape run sound few =
    let upto = filter (λ epoch. nat_le epoch run.last) (closed_epochs run.journal) in
    let logged = filter_length (λ epoch. has_something_to_log (body_of shape epoch run.journal)) upto in
    let taken = filter_length (λ epoch. nat_le epoch run.last) (closed_epochs run.journal) in
    let written = sound.written in
    omega arith

-- an epoch has no more changes than the site made itself
pub few_changes : (shape : Shape) (e : ℕ) (j : Journal) → AreAuthored shape.site j → length (body_of shape e j).changes ≤ own_changes j
unfolding body_of
few_changes shape e j authored = body_own shape e j authored

-- so its body has room
pub has_room : (shape : Shape) (e : ℕ) (j : Journal) → AreDeclared shape → length shape.tables ≤ 65536 → JournalFits shape j → AreAuthored shape.site j → own_changes j ≤ most_own → e < 18446744073709551616 → HasRoomInLog (body_of shape e j)
unfolding body_of
has_room shape e j declared tables fits authored few below = record {
  written = can_be_written shape e j declared fits;
  small = omega (arith, few, tables, few_bytes shape e j 0 declared fits, few_changes shape e j authored);
  few = omega (arith, few, few_changes shape e j authored);
  epoch = omega (arith, below);
}

-- what a run has written can be logged
pub worth_room : (shape : Shape) (run : Progress) → AreDeclared shape → length shape.tables ≤ 65536 → IsSound shape run → JournalFits shape run.journal → own_changes run.journal ≤ most_own → run.opened < 18446744073709551616 →
    AllByRecursion (λ e. HasRoomInLog (body_of shape e run.journal)) (worth_logging shape run.journal (upto run.last run.journal))
worth_room shape run declared tables sound fits few opened =
    let journal = run.journal in
    let below : AllByRecursion (λ e. e < run.opened) (worth_logging shape journal (upto run.last journal)) =
    all_filtered (λ e. e < run.opened) (λ e. has_something_to_log (body_of shape e journal)) (upto run.last journal)
    (all_filtered (λ e. e < run.opened) (λ e. nat_le e run.last) (closed_epochs journal) (closed_all_below run.opened journal sound.order)) in
    all_more (λ e. e < run.opened) (λ e. HasRoomInLog (body_of shape e journal)) (worth_logging shape journal (upto run.last journal))
    (λ e under. has_room shape e journal declared tables fits sound.authored few (omega (arith, under, opened))) below

pub rises_order : (top : ℕ) (xs : List ℕ) → Rises top xs → IsNonDecreasingBy (λ e. e) xs
rises_order top [] rises i k d up within = absurd (omega (arith, within))
rises_order top (x ∷ xs) rises zero zero d up within = omega arith
rises_order top (x ∷ xs) rises zero (suc k) d up within = let l : x < get_or xs k d = All-from_recursion (λ y. x < y) xs rises.2 k d (omega (arith, within)) in omega (arith, l)
rises_order top (x ∷ xs) rises (suc i) zero d up within = absurd (omega (arith, up))
rises_order top (x ∷ xs) rises (suc i) (suc k) d up within = rises_order top xs rises.3 i k d (omega (arith, up)) (omega (arith, within))

pub epochs_are : (shape : Shape) (j : Journal) (es : List ℕ) → map (λ (body : EpochBody). body.epoch.0) (map (λ e. body_of shape e j) es) ≡ map (λ e. e) es
unfolding body_of
epochs_are shape j [] = refl
epochs_are shape j (e ∷ es) = ap (λ (xs : List ℕ). e ∷ xs) (epochs_are shape j es)

pub can_be_logged : (shape : Shape) (run : Progress) → AreDeclared shape → length shape.tables ≤ 65536 → IsSound shape run → JournalFits shape run.journal → own_changes run.journal ≤ most_own → run.opened < 18446744073709551616 → CanBeLogged (written_bodies shape run)
can_be_logged shape run declared tables sound fits few opened =
    let journal = run.journal in
    let epochs = worth_logging shape journal (upto run.last journal) in
    let bodies : List EpochBody = map (λ e. body_of shape e journal) epochs in
    let rise : IsNonDecreasingBy (λ e. e) epochs =
    IsNonDecreasingBy-filter (λ e. e) (λ e. has_something_to_log (body_of shape e journal)) (upto run.last journal)
    (IsNonDecreasingBy-filter (λ e. e) (λ e. nat_le e run.last) (closed_epochs journal) (rises_order run.opened (closed_epochs journal) (closed_rise run.opened journal sound.order))) in
    subst CanBeLogged (sym (written_is shape run sound)) (record {
      room = All-from_recursion HasRoomInLog bodies (all_mapped HasRoomInLog (λ e. body_of shape e journal) epochs (worth_room shape run declared tables sound fits few opened));
      in_order = never_fall_by {X = ℕ} {Y = EpochBody} (λ e. e) (λ body. body.epoch.0) epochs bodies 0 (epochs_are shape journal epochs) rise;
    })

pub last_in_few : (site : SiteId) (limit : ℕ) (bodies : List EpochBody) → length bodies ≤ most_closed → (bodies ≡ []) ⊎ ((earlier : List EpochBody) × (body : EpochBody) × (bodies ≡ earlier ++ body ∷ [])) →
    IfSome (last_or None (index_rows site limit bodies)) (λ row. row.file < 4294967294)
unfolding binlog_of
last_in_few site limit bodies few (inl none) = subst (λ (bs : List EpochBody). IfSome (last_or None (index_rows site limit bs)) (λ row. row.file < 4294967294)) (sym none) tt
last_in_few site limit bodies few (inr (earlier, body, is)) =
    let long : length bodies ≡ length earlier + 1 = ap length is ∙ length-append earlier (body ∷ []) in
    subst (λ (bs : List EpochBody). IfSome (last_or None (index_rows site limit bs)) (λ row. row.file < 4294967294)) (sym is)
    (subst (λ (o : Option IndexRow). IfSome o (λ row. row.file < 4294967294)) (sym (last_row site limit earlier body)) (omega (arith, long, few, few_full site limit earlier)))

-- an image of what a run has written is one of a part of what more is written
pub part_of : (shape : Shape) (run next : Progress) (whole : List EpochBody) (limit : ℕ) (seen : ℕ → List ℕ) → IsSound shape next → run.written ≤ next.written → Begins (written_bodies shape next) whole →
    IsLogImage shape.site limit (written_bodies shape next) seen → HoldsUnfinishedLog shape.site limit run.written whole seen
part_of shape run next whole limit seen sound least begins image =
    let n = count_is shape next sound in
    let all : length whole ≡ length (written_bodies shape next) + length begins.rest = ap length begins.whole_is ∙ length-append (written_bodies shape next) begins.rest in
    let front : take next.written whole ≡ written_bodies shape next =
    ap (take next.written) begins.whole_is ∙ take-append-le next.written (written_bodies shape next) begins.rest (omega arith) ∙ take_all next.written (written_bodies shape next) (omega arith) in
    record {
      count = next.written;
      least_are_there = least;
      within = omega arith;
      image = subst (λ (bs : List EpochBody). IsLogImage shape.site limit bs seen) (sym front) image;
    }

-- `inject` begins with what is written
pub turn_begins : (shape : Shape) (run : Progress) → IsSound shape run → Begins (written_bodies shape run) (written_bodies shape (with_all_taken shape run))
turn_begins shape run sound = (goes_taken shape run (takeable shape run) sound refl).grows
