-- The epochs that the injector takes, one after another.
use Rattle.std.proofs.Common.{◌≡◌, ℕ, zero, suc, ◌+◌, Bool, true, false, cond, List, [], ◌∷◌, ◌++◌, length, map, take, refl, sym, ap, subst, ◌∙◌, inr, arith}
use Rattle.std.specs.Prelude.{Option, Some, None, unwrap_or}
use Rattle.std.specs.List.{AllByRecursion, slice_get, last_or, take_while}
use Rattle.std.specs.Option.{option_map_or}
use Rattle.std.proofs.lemmas.List.{map-append, take-append-le, take_all, length-append, length-map}
use Rattle.std.proofs.lemmas.List.Elements.{filter-append}
use Rattle.std.proofs.lemmas.List.Sums.{take_while-cons}
use Rattle.rb_base.specs.declared.message.Sent.{Sent}
use Rattle.rb_base.specs.declared.outcome.Outcome.TheVariants as outcomes
use Rattle.rb_base.specs.declared.body.EpochBody.{EpochBody}
use Rattle.rb_journal_defs.specs.Journal.{Journal, closed_epochs}
use Rattle.rb_journal_defs.specs.Body.{Shape, body_of, has_something_to_log, completed_epochs, completed_bodies}
use Rattle.rb_journal_defs.specs.Transaction.{first_of}
use Rattle.rb_journal_defs.proofs.Bodies.{if_logged}
use Rattle.rb_journal_defs.proofs.Order.{following, upto, upto_next, closed_cut, first_is_closed}
use Rattle.rb_message_defs.specs.Received.{is_whole, answer_to}
use Rattle.rb_message_defs.specs.Taken.{taken_epochs}
use Rattle.rb_message_defs.proofs.Assembly.{IsFedFrom, taken_rest}
use Rattle.rb_play_defs.specs.Step.{Progress, unchanged, delivered_message, deliver_step, answer_outcome, fed_by, takeable, worth_logging, with_all_taken, injected, last_written, written_bodies, with_taken, after_delivery, all_delivered}
use Rattle.rb_play_defs.specs.Sound.{IsOwn, IsSound}

pub of_sent : {X : Type 0} → (P : X → Type 0) (xs : List X) (k : ℕ) (x : X) → AllByRecursion P xs → slice_get xs k ≡ Some x → P x
of_sent P [] k x all same = absurd (let g : None ≡ Some x = same in cc)
of_sent P (y ∷ xs) zero x all same = subst P (let g : Some y ≡ Some x = same in cc) all.0
of_sent P (y ∷ xs) (suc k) x all same = of_sent P xs k x all.1 same

-- a delivery
pub sound_delivered : (shape : Shape) (place : ℕ) (run : Progress) (sent : Sent) → IsSound shape run → slice_get run.sent place ≡ Some sent → IsSound shape (delivered_message place sent.message run)
sound_delivered shape place run sent sound there = record { order = sound.order; near = sound.near; authored = sound.authored; some = sound.some; sent = sound.sent; last = sound.last; nodes = sound.nodes; written = sound.written; received = (of_sent (λ (s : Sent). IsOwn shape run.journal s.message) run.sent place sent sound.sent there, sound.received) }

pub sound_deliver : (shape : Shape) (place : ℕ) (run : Progress) → IsSound shape run → IsSound shape (deliver_step shape place run).run
unfolding deliver_step
sound_deliver shape place run sound = go (slice_get run.sent place) refl
  where
    go : (x : Option Sent) → slice_get run.sent place ≡ x → IsSound shape (option_map_or (λ sent. record { run = delivered_message place sent.message run; outcome = answer_outcome (answer_to (fed_by shape run) sent.message) }) x (unchanged run (outcomes.NoMessage place (length run.sent)))).run
    go None q = sound
    go (Some sent) q = sound_delivered shape place run sent sound q

pub sound_all_delivered : (shape : Shape) (places : List ℕ) (run : Progress) → IsSound shape run → IsSound shape (all_delivered shape places run)
sound_all_delivered shape [] run sound = sound
sound_all_delivered shape (place ∷ places) run sound = sound_all_delivered shape places (after_delivery shape run place) (sound_deliver shape place run sound)

-- the history of the event buffer is one of the journal's messages
pub fed_from : (shape : Shape) (run : Progress) → IsSound shape run → IsFedFrom shape run.opened run.journal (fed_by shape run)
fed_from shape run sound = record { order = sound.order; some = sound.some; buckets = refl; last = sound.last; received = sound.received }

worth_append : (shape : Shape) (j : Journal) (xs ys : List ℕ) → worth_logging shape j (xs ++ ys) ≡ worth_logging shape j xs ++ worth_logging shape j ys
worth_append shape j xs ys = filter-append (λ epoch. has_something_to_log (body_of shape epoch j)) xs ys

-- the epochs after the last taken one begin with the first one that can be taken
taken_prefix : (p : ℕ → Bool) (es : List ℕ) (e : ℕ) (rest : List ℕ) → take_while p es ≡ e ∷ rest → (later : List ℕ) × (es ≡ e ∷ later)
taken_prefix p [] e rest same = absurd (let g : [] ≡ e ∷ rest = same in cc)
taken_prefix p (x ∷ xs) e rest same = go (p x) (sym (take_while-cons p x xs) ∙ same)
  where
    go : (b : Bool) → cond b (x ∷ take_while p xs) [] ≡ e ∷ rest → (later : List ℕ) × (x ∷ xs ≡ e ∷ later)
    go true same = let xe : x ≡ e = cc in (xs, ap (λ (y : ℕ). y ∷ xs) xe)
    go false same = absurd (let g : [] ≡ e ∷ rest = same in cc)

pub prefix_of : (shape : Shape) (run : Progress) (e : ℕ) (rest : List ℕ) → takeable shape run ≡ e ∷ rest → (later : List ℕ) × (following run.last run.journal ≡ e ∷ later)
unfolding taken_epochs
prefix_of shape run e rest same = taken_prefix (is_whole (fed_by shape run)) (following run.last run.journal) e rest same

pub sound_taken : (shape : Shape) (run : Progress) (e : ℕ) (rest : List ℕ) → IsSound shape run → takeable shape run ≡ e ∷ rest → IsSound shape (with_taken shape run e)
sound_taken shape run e rest sound same =
    let front = prefix_of shape run e rest same in
    let first : first_of (following run.last run.journal) ≡ Some e = ap (λ (es : List ℕ). first_of es) front.1 in
    let upto_e = upto_next run.opened run.last e run.journal front.0 sound.order front.1 in
    record {
      order = sound.order;
      near = sound.near;
      authored = sound.authored;
      some = sound.some;
      sent = sound.sent;
      received = sound.received;
      last = inr (first_is_closed e run.last run.journal first);
      nodes = sound.nodes;
      written = ap (λ (n : ℕ). n + length (worth_logging shape run.journal (e ∷ []))) sound.written
          ∙ sym (length-append (worth_logging shape run.journal (upto run.last run.journal)) (worth_logging shape run.journal (e ∷ [])))
          ∙ ap length (sym (worth_append shape run.journal (upto run.last run.journal) (e ∷ [])) ∙ ap (worth_logging shape run.journal) (sym upto_e));
    }

-- the epochs that can be taken after the first one
pub takeable_rest : (shape : Shape) (run : Progress) (e : ℕ) (rest : List ℕ) → IsSound shape run → takeable shape run ≡ e ∷ rest → takeable shape (with_taken shape run e) ≡ rest
takeable_rest shape run e rest sound same = taken_rest run.opened e rest run.journal (fed_by shape run) sound.order same

unwrap_last : (e d : ℕ) (rest : List ℕ) → unwrap_or (last_or None (e ∷ rest)) d ≡ unwrap_or (last_or None rest) e
unwrap_last e d [] = refl
unwrap_last e d (x ∷ rest) = unwrap_any x d e rest
  where
    unwrap_any : (x a b : ℕ) (rest : List ℕ) → unwrap_or (last_or (Some x) rest) a ≡ unwrap_or (last_or (Some x) rest) b
    unwrap_any x a b [] = refl
    unwrap_any x a b (y ∷ rest) = unwrap_any y a b rest

-- the injector that takes one epoch or more takes the first one and then the others
pub taken_more : (shape : Shape) (run : Progress) (e : ℕ) (rest : List ℕ) → IsSound shape run → takeable shape run ≡ e ∷ rest → with_all_taken shape run ≡ with_all_taken shape (with_taken shape run e)
taken_more shape run e rest sound same =
    let later = takeable_rest shape run e rest sound same in
    let lasts : unwrap_or (last_or None (takeable shape run)) run.last ≡ unwrap_or (last_or None (takeable shape (with_taken shape run e))) e =
    ap (λ (es : List ℕ). unwrap_or (last_or None es) run.last) same ∙ unwrap_last e run.last rest ∙ sym (ap (λ (es : List ℕ). unwrap_or (last_or None es) e) later) in
    let all : length (worth_logging shape run.journal (takeable shape run)) ≡ length (worth_logging shape run.journal (e ∷ [])) + length (worth_logging shape run.journal rest) =
    ap (λ (es : List ℕ). length (worth_logging shape run.journal es)) same ∙ ap length (worth_append shape run.journal (e ∷ []) rest) ∙ length-append (worth_logging shape run.journal (e ∷ [])) (worth_logging shape run.journal rest) in
    let following_it : length (worth_logging shape run.journal (takeable shape (with_taken shape run e))) ≡ length (worth_logging shape run.journal rest) = ap (λ (es : List ℕ). length (worth_logging shape run.journal es)) later in
    let counts : run.written + length (worth_logging shape run.journal (takeable shape run)) ≡ run.written + length (worth_logging shape run.journal (e ∷ [])) + length (worth_logging shape run.journal (takeable shape (with_taken shape run e))) = omega arith in
    ap (λ (l : ℕ). record run { last = l; written = run.written + length (worth_logging shape run.journal (takeable shape run)) }) lasts
    ∙ ap (λ (w : ℕ). record run { last = unwrap_or (last_or None (takeable shape (with_taken shape run e))) e; written = w }) counts

pub taken_end : (shape : Shape) (run : Progress) → takeable shape run ≡ [] → with_all_taken shape run ≡ run
taken_end shape run none =
    let counts : run.written + length (worth_logging shape run.journal (takeable shape run)) ≡ run.written = let z : length (worth_logging shape run.journal (takeable shape run)) ≡ 0 = ap (λ (es : List ℕ). length (worth_logging shape run.journal es)) none in omega arith in
    ap (λ (l : ℕ). record run { last = l; written = run.written + length (worth_logging shape run.journal (takeable shape run)) }) (ap (λ (es : List ℕ). unwrap_or (last_or None es) run.last) none)
    ∙ ap (λ (w : ℕ). record run { written = w }) counts

-- the site stays sound when its epochs are taken
pub sound_all_taken : (shape : Shape) (run : Progress) (es : List ℕ) → IsSound shape run → takeable shape run ≡ es → IsSound shape (with_all_taken shape run)
sound_all_taken shape run [] sound same = subst (IsSound shape) (sym (taken_end shape run same)) sound
sound_all_taken shape run (e ∷ rest) sound same =
    subst (IsSound shape) (sym (taken_more shape run e rest sound same))
    (sound_all_taken shape (with_taken shape run e) rest (sound_taken shape run e rest sound same) (takeable_rest shape run e rest sound same))

-- another acknowledged epoch changes nothing of this
pub sound_acknowledged : (shape : Shape) (run : Progress) (acknowledged : ℕ) → IsSound shape run → IsSound shape (record run { acknowledged = acknowledged })
sound_acknowledged shape run acknowledged sound = record { order = sound.order; near = sound.near; authored = sound.authored; some = sound.some; sent = sound.sent; received = sound.received; last = sound.last; nodes = sound.nodes; written = sound.written }

-- the site stays sound after an `inject` event
pub sound_injected : (shape : Shape) (run : Progress) → IsSound shape run → IsSound shape (injected shape run)
sound_injected shape run sound = sound_acknowledged shape (with_all_taken shape run) (last_written shape (with_all_taken shape run)) (sound_all_taken shape run (takeable shape run) sound refl)

-- the logged bodies are those of the epochs up to the last taken one that have something to log
pub written_is : (shape : Shape) (run : Progress) → IsSound shape run → written_bodies shape run ≡ map (λ epoch. body_of shape epoch run.journal) (worth_logging shape run.journal (upto run.last run.journal))
unfolding completed_bodies completed_epochs
written_is shape run sound =
    let cut = closed_cut run.opened run.last run.journal sound.order in
    let first = worth_logging shape run.journal (upto run.last run.journal) in
    let later = worth_logging shape run.journal (following run.last run.journal) in
    let parts : worth_logging shape run.journal (closed_epochs run.journal) ≡ first ++ later = ap (worth_logging shape run.journal) cut ∙ worth_append shape run.journal (upto run.last run.journal) (following run.last run.journal) in
    let made = λ (epoch : ℕ). body_of shape epoch run.journal in
    let count : run.written ≡ length (map made first) = sound.written ∙ sym (length-map first made) in
    ap (λ (es : List ℕ). take run.written (map made es)) parts
    ∙ ap (take run.written) (map-append made first later)
    ∙ take-append-le run.written (map made first) (map made later) (omega arith)
    ∙ take_all run.written (map made first) (omega arith)

-- the body of a taken epoch is appended to the logged bodies, if it has something to log
pub written_more : (shape : Shape) (run : Progress) (e : ℕ) (rest : List ℕ) → IsSound shape run → takeable shape run ≡ e ∷ rest → written_bodies shape (with_taken shape run e) ≡ written_bodies shape run ++ if_logged (body_of shape e run.journal)
written_more shape run e rest sound same =
    let front = prefix_of shape run e rest same in
    let made = λ (epoch : ℕ). body_of shape epoch run.journal in
    let next = sound_taken shape run e rest sound same in
    written_is shape (with_taken shape run e) next
    ∙ ap (λ (es : List ℕ). map made (worth_logging shape run.journal es)) (upto_next run.opened run.last e run.journal front.0 sound.order front.1)
    ∙ ap (map made) (worth_append shape run.journal (upto run.last run.journal) (e ∷ []))
    ∙ map-append made (worth_logging shape run.journal (upto run.last run.journal)) (worth_logging shape run.journal (e ∷ []))
    ∙ ap (λ (bs : List EpochBody). bs ++ map made (worth_logging shape run.journal (e ∷ []))) (sym (written_is shape run sound))
    ∙ ap (λ (bs : List EpochBody). written_bodies shape run ++ bs) (one (has_something_to_log (made e)))
  where
    one : (b : Bool) → map (λ epoch. body_of shape epoch run.journal) (cond b (e ∷ []) []) ≡ cond b (body_of shape e run.journal ∷ []) []
    one true = refl
    one false = refl
