-- An injector after an epoch that was taken, and what a fault leaves.
use Rattle.std.proofs.Common.{◌≡◌, ℕ, ◌<◌, ◌≤◌, Bool, true, false, List, [], ◌∷◌, ◌++◌, length, refl, sym, ap, subst, ◌∙◌, arith, inl, inr}
use Rattle.std.specs.Prelude.{if◌then◌else◌, Some}
use Rattle.rb_base.specs.declared.body.EpochBody.{EpochBody}
use Rattle.rb_log_defs.specs.Epoch.{epoch_bytes}
use Rattle.rb_log_defs.specs.Fits.{CanBeWritten}
use Rattle.rb_message_defs.specs.declared.answers.Assembled.{Assembled}
use Rattle.rb_device_defs.specs.Image.{IsLogImage}
use Rattle.rb_device_defs.proofs.ImageLaws.{whole_is_image, image_same}
use Rattle.rb_journal_defs.specs.Body.{Shape, body_of, has_something_to_log}
use Rattle.rb_evbuf.specs.Buffer.{StandsFor}
use Rattle.rb_evbuf.specs.declared.buffer.EventBuffer.{EventBuffer}
use Rattle.rb_inject.specs.Body.{body_of_assembled}
use Rattle.rb_inject.specs.Injector as inject
use Rattle.rb_inject.specs.Injector.{LeavesImage}
use Rattle.rb_inject.specs.declared.injector.Injector.{Injector}
use Rattle.rb_play_defs.specs.Step.{Progress, fed_by, takeable, written_bodies, with_taken, with_all_taken}
use Rattle.rb_play_defs.specs.Sound.{IsSound}
use Rattle.rb_play_defs.specs.UnfinishedLog.{HoldsUnfinishedLog}
use Rattle.rb_play_defs.proofs.Takes.{sound_taken, taken_more}
use Rattle.rb_play_defs.proofs.Grows.{Begins}
use Rattle.rb_play_defs.proofs.Covering.{written_within_last, taken_above}
use Rattle.rb_cluster.specs.Cluster.{log_setup}
use Rattle.rb_cluster.specs.Taken.{IsLogAt, log_of, HasTaken}
use Rattle.rb_play_defs.proofs.Points.{point_taken}
use Rattle.rb_play_defs.proofs.BodyFits.{can_be_written, few_bytes}
use Rattle.rb_play_defs.proofs.Logging.{bodies_with, bodies_without, count_is, written_small, few_changes, part_of, turn_begins}
use Rattle.rb_cluster.proofs.InjectLaws.{body_there, body_made, IsNext}
use Rattle.rb_cluster.proofs.LogLaws.{log_named, few_files, written_epoch}

-- the bodies after an epoch that is taken
pub bodies_taken : (shape : Shape) (run : Progress) (e : ℕ) (rest : List ℕ) → IsSound shape run → takeable shape run ≡ e ∷ rest → inject.bodies_with (written_bodies shape run) (body_of shape e run.journal) ≡ written_bodies shape (with_taken shape run e)
bodies_taken shape run e rest sound front = go (has_something_to_log (body_of shape e run.journal)) refl
  where
    chosen : Bool → List EpochBody
    chosen some = if some then written_bodies shape run ++ body_of shape e run.journal ∷ [] else written_bodies shape run

    go : (b : Bool) → has_something_to_log (body_of shape e run.journal) ≡ b → chosen (has_something_to_log (body_of shape e run.journal)) ≡ written_bodies shape (with_taken shape run e)
    go true some = ap chosen some ∙ sym (bodies_with shape run e rest sound front some)
    go false none = ap chosen none ∙ sym (bodies_without shape run e rest sound front none)

-- the injector after it
pub injector_took : (shape : Shape) (events new : EventBuffer) (its after : Injector) (seen now : ℕ → List ℕ) (run : Progress) (e : ℕ) (rest : List ℕ) (body : EpochBody) → IsLogAt (log_of events its) seen shape run → takeable shape run ≡ e ∷ rest →
    body ≡ body_of shape e run.journal → StandsFor new (fed_by shape (with_taken shape run e)) →
    inject.StandsFor after (log_setup shape its) (inject.bodies_with (written_bodies shape run) body) now → IsLogAt (log_of new after) now shape (with_taken shape run e)
injector_took shape events new its after seen now run e rest body held front is fed log = record {
  point = point_taken shape run e rest held.point front;
  log = record {
    events = fed;
    injector = log_named shape after (inject.limit_of its) (written_bodies shape (with_taken shape run e)) now
        (subst (λ (bodies : List EpochBody). inject.StandsFor after (log_setup shape its) bodies now) (ap (inject.bodies_with (written_bodies shape run)) is ∙ bodies_taken shape run e rest held.point.sound front) log);
  };
}

-- nothing was taken
pub injector_same : (shape : Shape) (events new : EventBuffer) (its : Injector) (seen : ℕ → List ℕ) (run : Progress) → IsLogAt (log_of events its) seen shape run → StandsFor new (fed_by shape run) → IsLogAt (log_of new its) seen shape run
injector_same shape events new its seen run held fed = record { point = held.point; log = record { events = fed; injector = held.log.injector } }

-- nothing was written
pub part_same : (shape : Shape) (events : EventBuffer) (its : Injector) (seen now : ℕ → List ℕ) (run : Progress) → IsLogAt (log_of events its) seen shape run → IsLogImage shape.site (inject.limit_of its) (written_bodies shape run) now →
    HoldsUnfinishedLog shape.site (inject.limit_of its) run.written (written_bodies shape (with_all_taken shape run)) now
part_same shape events its seen now run held image = part_of shape run run (written_bodies shape (with_all_taken shape run)) (inject.limit_of its) now held.point.sound (omega arith) (turn_begins shape run held.point.sound) image

-- the next body was
part_next : (shape : Shape) (events : EventBuffer) (its : Injector) (seen now : ℕ → List ℕ) (run : Progress) (e : ℕ) (rest : List ℕ) → IsLogAt (log_of events its) seen shape run → takeable shape run ≡ e ∷ rest →
    IsLogImage shape.site (inject.limit_of its) (written_bodies shape (with_taken shape run e)) now → HoldsUnfinishedLog shape.site (inject.limit_of its) run.written (written_bodies shape (with_all_taken shape run)) now
part_next shape events its seen now run e rest held front image =
    let next = with_taken shape run e in
    let sound = sound_taken shape run e rest held.point.sound front in
    part_of shape run next (written_bodies shape (with_all_taken shape run)) (inject.limit_of its) now sound (omega arith)
    (subst (λ (p : Progress). Begins (written_bodies shape next) (written_bodies shape p)) (sym (taken_more shape run e rest held.point.sound front)) (turn_begins shape next sound)) image

-- what a fault of a call leaves
pub part_left : (shape : Shape) (events : EventBuffer) (its : Injector) (seen now : ℕ → List ℕ) (run : Progress) (e : ℕ) (rest : List ℕ) (body : EpochBody) → IsLogAt (log_of events its) seen shape run → takeable shape run ≡ e ∷ rest →
    body ≡ body_of shape e run.journal → (has_something_to_log body ≡ false → (file : ℕ) → now file ≡ seen file) → LeavesImage (log_setup shape its) (written_bodies shape run) body now →
    HoldsUnfinishedLog shape.site (inject.limit_of its) run.written (written_bodies shape (with_all_taken shape run)) now
part_left shape events its seen now run e rest body held front is nothing leaves = go (has_something_to_log body) refl leaves
  where
    go : (b : Bool) → has_something_to_log body ≡ b → LeavesImage (log_setup shape its) (written_bodies shape run) body now → HoldsUnfinishedLog shape.site (inject.limit_of its) run.written (written_bodies shape (with_all_taken shape run)) now
    go b some (inl image) = part_same shape events its seen now run held image
    go true some (inr image) =
        part_next shape events its seen now run e rest held front
        (subst (λ (bodies : List EpochBody). IsLogImage shape.site (inject.limit_of its) bodies now) (ap (λ (one : EpochBody). written_bodies shape run ++ one ∷ []) is ∙ sym (bodies_with shape run e rest held.point.sound front (sym (ap has_something_to_log is) ∙ some))) image.1)
    go false none (inr image) =
        part_same shape events its seen now run held
        (image_same shape.site (inject.limit_of its) (written_bodies shape run) seen now (nothing none) (whole_is_image shape.site (inject.limit_of its) (written_bodies shape run) seen held.log.injector.held))

-- the next epoch is later than the last one that is logged
pub next_later : (shape : Shape) (events : EventBuffer) (its : Injector) (seen : ℕ → List ℕ) (run : Progress) (assembled : Assembled) → IsLogAt (log_of events its) seen shape run → IsNext shape run assembled → inject.written_of its < assembled.epoch.0
next_later shape events its seen run assembled held next =
    omega (arith, written_epoch its (log_setup shape its) (written_bodies shape run) seen held.log.injector, written_within_last shape run held.point.sound, taken_above shape run next.epoch next.rest next.front, next.number)

-- its body can be written
pub next_writable : (shape : Shape) (events : EventBuffer) (its : Injector) (seen : ℕ → List ℕ) (run : Progress) (assembled : Assembled) → IsLogAt (log_of events its) seen shape run → IsNext shape run assembled → CanBeWritten (inject.body_for its assembled)
next_writable shape events its seen run assembled held next =
    subst CanBeWritten (sym (body_made shape events its seen run next.epoch assembled held next.made)) (can_be_written shape next.epoch run.journal held.point.declared held.point.fits)

-- it has few changes
pub next_few : (shape : Shape) (events : EventBuffer) (its : Injector) (seen : ℕ → List ℕ) (run : Progress) (assembled : Assembled) → IsLogAt (log_of events its) seen shape run → IsNext shape run assembled → length (inject.body_for its assembled).changes < 4294967296
next_few shape events its seen run assembled held next =
    omega (arith, ap (λ (body : EpochBody). length body.changes) (body_made shape events its seen run next.epoch assembled held next.made), few_changes shape next.epoch run.journal held.point.sound.authored, held.point.few)

-- it is never too large
pub next_small : (shape : Shape) (events : EventBuffer) (its : Injector) (seen : ℕ → List ℕ) (run : Progress) (assembled : Assembled) → IsLogAt (log_of events its) seen shape run → IsNext shape run assembled → length (epoch_bytes (inject.body_for its assembled) 0) ≤ 2147483647
next_small shape events its seen run assembled held next =
    omega (arith, ap (λ (body : EpochBody). length (epoch_bytes body 0)) (body_made shape events its seen run next.epoch assembled held next.made), few_bytes shape next.epoch run.journal 0 held.point.declared held.point.fits, few_changes shape next.epoch run.journal held.point.sound.authored, held.point.few, held.log.injector.legal.few)

-- and there is a number for one more file
pub next_file : (shape : Shape) (events : EventBuffer) (its : Injector) (seen : ℕ → List ℕ) (run : Progress) → IsLogAt (log_of events its) seen shape run → inject.last_file_of its < 4294967294
next_file shape events its seen run held =
    few_files its (log_setup shape its) (written_bodies shape run) seen held.log.injector (omega (arith, count_is shape run held.point.sound, written_small shape run held.point.sound held.point.few_closed))

-- what a call leaves that logs it
pub next_logged : (shape : Shape) (events new : EventBuffer) (its after : Injector) (seen now : ℕ → List ℕ) (run : Progress) (assembled : Assembled) (logged : Bool) → IsLogAt (log_of events its) seen shape run → (next : IsNext shape run assembled) →
    StandsFor new (fed_by shape (with_taken shape run next.epoch)) → inject.StandsFor after (log_setup shape its) (inject.bodies_with (written_bodies shape run) (body_of_assembled shape.site shape.tables assembled)) now →
    logged ≡ has_something_to_log (inject.body_for its assembled) → HasTaken shape run (log_of new after) now (Some logged)
next_logged shape events new its after seen now run assembled logged held next fed log is = (
  next.epoch,
  next.rest,
  next.front,
  injector_took shape events new its after seen now run next.epoch next.rest (body_of_assembled shape.site shape.tables assembled) held next.front (body_there shape run next.epoch assembled held.point.declared next.made) fed log,
  is ∙ ap has_something_to_log (body_made shape events its seen run next.epoch assembled held next.made),
)

-- and one that fails
pub next_failed : (shape : Shape) (events : EventBuffer) (its : Injector) (seen now : ℕ → List ℕ) (run : Progress) (assembled : Assembled) → IsLogAt (log_of events its) seen shape run → IsNext shape run assembled →
    (has_something_to_log (inject.body_for its assembled) ≡ false → (file : ℕ) → now file ≡ seen file) → LeavesImage (log_setup shape its) (written_bodies shape run) (body_of_assembled shape.site shape.tables assembled) now →
    HoldsUnfinishedLog shape.site (inject.limit_of its) run.written (written_bodies shape (with_all_taken shape run)) now
next_failed shape events its seen now run assembled held next nothing leaves =
    let there = body_there shape run next.epoch assembled held.point.declared next.made in
    part_left shape events its seen now run next.epoch next.rest (body_of_assembled shape.site shape.tables assembled) held next.front there
    (λ none. nothing (ap has_something_to_log (body_made shape events its seen run next.epoch assembled held next.made ∙ sym there) ∙ none)) leaves
