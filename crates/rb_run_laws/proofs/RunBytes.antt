-- Bounds on the lengths of a run's epochs and of its log's files.
use Rattle.std.proofs.Common.{◌≡◌, ℕ, zero, suc, ◌+◌, ◌*◌, ◌<◌, ◌≤◌, ◌^◌, Bool, true, false, cond, List, [], ◌∷◌, length, map, filter, take, arith}
use Rattle.std.specs.Prelude.{sum_by}
use Rattle.std.specs.List.{AllByRecursion}
use Rattle.std.proofs.lemmas.List.{length-map}
use Rattle.std.proofs.lemmas.List.Sums.{sum_by-cons, sum_by-take-le}
use Rattle.rb_base.specs.declared.site.SiteId.TheVariants.{A}
use Rattle.rb_base.specs.declared.schema.Schema.{Schema}
use Rattle.rb_base.specs.declared.body.EpochBody.{EpochBody}
use Rattle.rb_journal_defs.specs.Journal.{Journal, closed_epochs}
use Rattle.rb_journal_defs.specs.Body.{body_of, completed_bodies, completed_epochs, has_something_to_log}
use Rattle.rb_journal_defs.specs.Order.{AreAuthored}
use Rattle.rb_journal_defs.proofs.Counts.{weight_in, own_weight, own_epochs, body_within, filter_length}
use Rattle.rb_journal_defs.proofs.Order.{closed_rise}
use Rattle.rb_message_defs.proofs.Messages.{all_mapped, all_more}
use Rattle.rb_text_defs.specs.Script.{most_changes, most_lines, most_tables}
use Rattle.rb_text_defs.specs.Legal.{IsLegalTable}
use Rattle.rb_text_defs.specs.declared.script.Script.{Script}
use Rattle.rb_text_defs.specs.Legal.{IsLegal}
use Rattle.rb_play_defs.specs.Step.{Progress}
use Rattle.rb_play_defs.specs.Play.{shape_of, play, log_of}
use Rattle.rb_play_defs.proofs.Fits.{all_filtered}
use Rattle.rb_run_laws.proofs.BodyReads.{primary, most_bytes_of, IsShortBody, body_short}
use Rattle.rb_run_laws.proofs.RunKeeps.{Keeps, epochs_low, all_taken, keeps_play}

-- the completed epochs are among the closed ones
filtered_bytes : (body : ℕ → EpochBody) (test : ℕ → Bool) (epochs : List ℕ) → sum_by most_bytes_of (map body (filter test epochs)) ≤ sum_by (λ epoch. most_bytes_of (body epoch)) epochs
filtered_bytes body test [] = omega arith
filtered_bytes body test (epoch ∷ epochs) = go (test epoch) (filtered_bytes body test epochs)
  where
    more : sum_by (λ epoch. most_bytes_of (body epoch)) (epoch ∷ epochs) ≡ most_bytes_of (body epoch) + sum_by (λ epoch. most_bytes_of (body epoch)) epochs
    more = sum_by-cons (λ epoch. most_bytes_of (body epoch)) epoch epochs

    go : (b : Bool) → sum_by most_bytes_of (map body (filter test epochs)) ≤ sum_by (λ epoch. most_bytes_of (body epoch)) epochs → sum_by most_bytes_of (map body (cond b (epoch ∷ filter test epochs) (filter test epochs))) ≤ sum_by (λ epoch. most_bytes_of (body epoch)) (epoch ∷ epochs)
    go true rest = omega (arith, more, sum_by-cons most_bytes_of (body epoch) (map body (filter test epochs)))
    go false rest = omega (arith, more)

all_bytes : (buckets : ℕ) (schemas : List Schema) (journal : Journal) (epochs : List ℕ) → AreAuthored A journal → sum_by (λ epoch. most_bytes_of (body_of (primary buckets schemas) epoch journal)) epochs ≤ 3962 * length epochs + 2047 * sum_by (λ epoch. weight_in own_weight epoch journal) epochs
unfolding body_of
all_bytes buckets schemas journal [] authored = omega arith
all_bytes buckets schemas journal (epoch ∷ epochs) authored =
    omega (
      arith,
      sum_by-cons (λ epoch. most_bytes_of (body_of (primary buckets schemas) epoch journal)) epoch epochs,
      sum_by-cons (λ epoch. weight_in own_weight epoch journal) epoch epochs,
      body_within (primary buckets schemas) epoch journal authored,
      all_bytes buckets schemas journal epochs authored,
    )

-- the length of the epochs that a run logged
written_bytes : (buckets : ℕ) (schemas : List Schema) (run : Progress) → Keeps schemas buckets [] run → (n : ℕ) → sum_by most_bytes_of (take n (completed_bodies (primary buckets schemas) run.journal)) ≤ 3962 * most_lines + 2047 * most_changes
unfolding completed_bodies completed_epochs
written_bytes buckets schemas run keeps n =
    let shape = primary buckets schemas in
    let closed = closed_epochs run.journal in
    let body = λ (epoch : ℕ). body_of shape epoch run.journal in
    let test = λ (epoch : ℕ). has_something_to_log (body_of shape epoch run.journal) in
    omega (
      arith,
      sum_by-take-le most_bytes_of (map body (filter test closed)) n,
      filtered_bytes body test closed,
      all_bytes buckets schemas run.journal closed keeps.sound.authored,
      own_epochs run.opened closed run.journal (closed_rise run.opened run.journal keeps.sound.order),
      keeps.few_epochs,
      keeps.few_changes,
    )

written_count : (buckets : ℕ) (schemas : List Schema) (run : Progress) → Keeps schemas buckets [] run → (n : ℕ) → length (take n (completed_bodies (primary buckets schemas) run.journal)) ≤ most_lines
unfolding completed_bodies completed_epochs
written_count buckets schemas run keeps n =
    let shape = primary buckets schemas in
    let closed = closed_epochs run.journal in
    let body = λ (epoch : ℕ). body_of shape epoch run.journal in
    let test = λ (epoch : ℕ). has_something_to_log (body_of shape epoch run.journal) in
    omega (arith, taken n (map body (filter test closed)), length-map (filter test closed) body, filter_length test closed, keeps.few_epochs)
  where
    taken : {X : Type 0} (n : ℕ) (xs : List X) → length (take n xs) ≤ length xs
    taken zero xs = omega arith
    taken (suc n) [] = omega arith
    taken (suc n) (x ∷ xs) = omega (arith, taken n xs)

completed_short : (buckets : ℕ) (schemas : List Schema) (run : Progress) → AllByRecursion IsLegalTable schemas → length schemas ≤ most_tables → Keeps schemas buckets [] run → AllByRecursion IsShortBody (completed_bodies (primary buckets schemas) run.journal)
unfolding completed_bodies completed_epochs
completed_short buckets schemas run legal few keeps =
    let shape = primary buckets schemas in
    let logged = filter (λ epoch. has_something_to_log (body_of shape epoch run.journal)) (closed_epochs run.journal) in
    all_mapped IsShortBody (λ epoch. body_of shape epoch run.journal) logged
    (all_more (λ epoch. epoch < 2 ^ 64) (λ epoch. IsShortBody (body_of shape epoch run.journal)) logged (λ epoch below. body_short buckets schemas epoch run.journal legal few keeps.fits keeps.room)
    (all_filtered (λ epoch. epoch < 2 ^ 64) (λ epoch. has_something_to_log (body_of shape epoch run.journal)) (closed_epochs run.journal) (epochs_low schemas buckets run keeps)))

-- the log of a legal script's run is short
pub record IsShortLog (script : Script) : Type 0 where
  pub few : length (log_of script) ≤ most_lines
  pub short : AllByRecursion IsShortBody (log_of script)
  pub bytes : sum_by most_bytes_of (log_of script) ≤ 3962 * most_lines + 2047 * most_changes

pub log_short : (script : Script) → IsLegal script → IsShortLog script
log_short script legal =
    let buckets = script.setup.a.groups * script.setup.a.replicas in
    let run = (play script).sites.a in
    let keeps = keeps_play script legal in
    record {
      few = written_count buckets script.setup.tables run keeps run.written;
      short = all_taken IsShortBody run.written (completed_bodies (shape_of script.setup A) run.journal) (completed_short buckets script.setup.tables run legal.setup.tables legal.setup.few_tables keeps);
      bytes = written_bytes buckets script.setup.tables run keeps run.written;
    }
