-- Facts about the journal at each point of a run of legal events, and therefore about the logged
-- bodies: their changes fit the tables, and their numbers have 64 bits.
use Rattle.std.proofs.Common.{◌≡◌, ℕ, zero, suc, ◌+◌, ◌*◌, ◌<◌, ◌≤◌, ◌^◌, Bool, List, [], ◌∷◌, length, filter, take, refl, sym, ap, subst, ◌∙◌, arith}
use Rattle.std.specs.Prelude.{sum_by, None, All}
use Rattle.std.proofs.Math.Nat.{mul-pos}
use Rattle.std.specs.List.{AllByRecursion}
use Rattle.std.proofs.lemmas.List.{append-nil}
use Rattle.std.proofs.lemmas.List.Elements.{All-from_recursion}
use Rattle.std.proofs.lemmas.List.Sums.{sum_by-cons}
use Rattle.rb_base.specs.declared.site.SiteId.{SiteId}
use Rattle.rb_base.specs.declared.site.SiteId.TheVariants.{A, B}
use Rattle.rb_base.specs.declared.schema.Schema.{Schema}
use Rattle.rb_base.specs.declared.script.ClientOp.{ClientOp}
use Rattle.rb_base.specs.declared.script.Setup.{Setup}
use Rattle.rb_journal_defs.specs.Journal.{Journal, closed_epochs}
use Rattle.rb_journal_defs.specs.Counts.{own_changes}
use Rattle.rb_journal_defs.specs.Body.{Shape, body_of, has_something_to_log, completed_epochs, completed_bodies}
use Rattle.rb_journal_defs.specs.Transaction.{refusal_of}
use Rattle.rb_message_defs.proofs.Messages.{all_mapped, all_more}
use Rattle.rb_text_defs.specs.declared.script.Script.{Script}
use Rattle.rb_text_defs.specs.Script.{most_changes, most_lines, most_tables}
use Rattle.rb_text_defs.specs.Legal.{IsLegal, IsLegalOperation, IsLegalTable}
use Rattle.rb_play_defs.specs.Fitting.{JournalFits}
use Rattle.rb_play_defs.specs.Sound.{IsSound}
use Rattle.rb_play_defs.specs.Step.{Progress, rows_of, committed, closed, site_step}
use Rattle.rb_play_defs.specs.Play.{HasBuckets, shape_of, Sites, beginnings, after_step, not_played, play_of, play, log_of}
use Rattle.rb_play_defs.specs.declared.event.SiteEvent.{SiteEvent}
use Rattle.rb_play_defs.specs.declared.event.SiteEvent.TheVariants as happenings
use Rattle.rb_play_defs.proofs.Along.{along_events, steps_of}
use Rattle.rb_play_defs.proofs.Alike.{Alike, by_journal}
use Rattle.rb_play_defs.proofs.Counts.{transactions_in, closes_in, changes_in_step, counted_event}
use Rattle.rb_play_defs.proofs.Fits.{all_filtered, changes_fit}
use Rattle.rb_play_defs.proofs.Grows.{goes_site, sound_at_first}
use Rattle.rb_play_defs.proofs.Sounds.{closed_all_below}
use Rattle.rb_play_defs.proofs.Steps.{IsLegalAt, IsLegalStep, all_legal, all_transactions, all_closes, all_changes_in, add_at_most}
use Rattle.rb_read_defs.specs.Readable.{IsReadable}
use Rattle.rb_run_laws.proofs.LegalFits.{operations_fit}
use Rattle.rb_run_laws.proofs.Room.{JournalHasRoom, changes_room}
use Rattle.rb_run_laws.proofs.BodyReads.{primary, body_reads}

-- a run with these steps still to come: all changes fit and have room, and there are and will be
-- few transactions, epochs and changes
pub record Keeps (schemas : List Schema) (buckets : ℕ) (later : List (SiteId × SiteEvent)) (run : Progress) : Type 0 where
  pub sound : IsSound (primary buckets schemas) run
  pub fits : JournalFits (primary buckets schemas) run.journal
  pub room : JournalHasRoom (primary buckets schemas) run.journal
  pub legal : AllByRecursion (IsLegalStep schemas buckets) later
  pub drawn : run.drawn + all_transactions later < 2 ^ 64
  pub few_epochs : length (closed_epochs run.journal) + all_closes later ≤ most_lines
  pub few_changes : own_changes run.journal + all_changes_in later ≤ most_changes

-- what an event leaves of the journal's changes
record Written (schemas : List Schema) (buckets : ℕ) (run next : Progress) : Type 0 where
  fits : JournalFits (primary buckets schemas) next.journal
  room : JournalHasRoom (primary buckets schemas) next.journal

-- the changes of a transaction fit and have room
written_commit : (schemas : List Schema) (buckets : ℕ) (run : Progress) (operations : List ClientOp) → JournalFits (primary buckets schemas) run.journal → JournalHasRoom (primary buckets schemas) run.journal → run.drawn + 1 < 2 ^ 64 →
    AllByRecursion (IsLegalOperation schemas) operations → refusal_of (rows_of run) operations ≡ None → Written schemas buckets run (committed (primary buckets schemas) operations run)
written_commit schemas buckets run operations fits room few legal free = record {
  fits = (changes_fit (primary buckets schemas) 1 (run.drawn + 1) operations run.journal fits (operations_fit schemas operations legal) free, fits);
  room = (changes_room (primary buckets schemas) schemas 1 (run.drawn + 1) operations run.journal room few legal, room);
}

-- so do those of each event
written_event : (schemas : List Schema) (buckets : ℕ) (run : Progress) (event : SiteEvent) → JournalFits (primary buckets schemas) run.journal → JournalHasRoom (primary buckets schemas) run.journal → run.drawn + transactions_in event < 2 ^ 64 → IsLegalAt schemas buckets event →
    Written schemas buckets run (site_step (primary buckets schemas) run event).run
written_event schemas buckets run event fits room few legal =
    by_journal (primary buckets schemas) run (λ event next. run.drawn + transactions_in event < 2 ^ 64 → IsLegalAt schemas buckets event → Written schemas buckets run next)
    (λ event next alike few legal. record { fits = subst (JournalFits (primary buckets schemas)) (sym alike.journal) fits; room = subst (JournalHasRoom (primary buckets schemas)) (sym alike.journal) room })
    (λ operations free few legal. written_commit schemas buckets run operations fits room few legal.1 free)
    (λ gci few legal. record { fits = (tt, fits); room = (tt, room) })
    event few legal

-- a step at site A
keeps_event : (schemas : List Schema) (buckets : ℕ) (site : SiteId) (event : SiteEvent) (later : List (SiteId × SiteEvent)) (run : Progress) → Keeps schemas buckets ((site, event) ∷ later) run → Keeps schemas buckets later (site_step (primary buckets schemas) run event).run
keeps_event schemas buckets site event later run keeps =
    let counts = counted_event (primary buckets schemas) run event in
    let transactions = sum_by-cons (λ (step : SiteId × SiteEvent). transactions_in step.1) (site, event) later in
    let closes = sum_by-cons (λ (step : SiteId × SiteEvent). closes_in step.1) (site, event) later in
    let changes = sum_by-cons (λ (step : SiteId × SiteEvent). changes_in_step step.1) (site, event) later in
    let written = written_event schemas buckets run event keeps.fits keeps.room (let few = keeps.drawn in omega arith) keeps.legal.0.1 in record {
      sound = (goes_site (primary buckets schemas) run event keeps.sound).sound;
      fits = written.fits;
      room = written.room;
      legal = keeps.legal.1;
      drawn = omega (arith, keeps.drawn, counts.drawn);
      few_epochs = omega (arith, keeps.few_epochs, counts.closed);
      few_changes = omega (arith, keeps.few_changes, counts.own);
    }

keeps_step : (setup : Setup) (site : SiteId) (event : SiteEvent) (later : List (SiteId × SiteEvent)) (sites : Sites) → Keeps setup.tables (setup.a.groups * setup.a.replicas) ((site, event) ∷ later) sites.a → Keeps setup.tables (setup.a.groups * setup.a.replicas) later (after_step setup sites (site, event)).a
keeps_step setup A event later sites keeps = keeps_event setup.tables (setup.a.groups * setup.a.replicas) A event later sites.a keeps
keeps_step setup B event later sites keeps = let no : B ≡ A = keeps.legal.0.0 in absurd cc

-- the bodies of a journal
pub all_taken : {X : Type 0} → (P : X → Type 0) (n : ℕ) (xs : List X) → AllByRecursion P xs → AllByRecursion P (take n xs)
all_taken P zero xs all = tt
all_taken P (suc n) [] all = tt
all_taken P (suc n) (x ∷ xs) all = (all.0, all_taken P n xs all.1)

-- the closed epochs have 64 bits
pub epochs_low : (schemas : List Schema) (buckets : ℕ) (run : Progress) → Keeps schemas buckets [] run → AllByRecursion (λ epoch. epoch < 2 ^ 64) (closed_epochs run.journal)
epochs_low schemas buckets run keeps =
    all_more (λ epoch. epoch < run.opened) (λ epoch. epoch < 2 ^ 64) (closed_epochs run.journal) (λ epoch below. (let near = keeps.sound.near in let few = keeps.few_epochs in omega arith)) (closed_all_below run.opened run.journal keeps.sound.order)

completed_read : (buckets : ℕ) (schemas : List Schema) (run : Progress) → AllByRecursion IsLegalTable schemas → length schemas ≤ most_tables → Keeps schemas buckets [] run → AllByRecursion IsReadable (completed_bodies (primary buckets schemas) run.journal)
unfolding completed_bodies completed_epochs
completed_read buckets schemas run legal few keeps =
    let shape = primary buckets schemas in
    let logged = filter (λ epoch. has_something_to_log (body_of shape epoch run.journal)) (closed_epochs run.journal) in
    all_mapped IsReadable (λ epoch. body_of shape epoch run.journal) logged
    (all_more (λ epoch. epoch < 2 ^ 64) (λ epoch. IsReadable (body_of shape epoch run.journal)) logged (λ epoch below. body_reads buckets schemas epoch run.journal legal few below keeps.fits keeps.room)
    (all_filtered (λ epoch. epoch < 2 ^ 64) (λ epoch. has_something_to_log (body_of shape epoch run.journal)) (closed_epochs run.journal) (epochs_low schemas buckets run keeps)))

-- site A of a legal script has buckets
pub has_buckets : (script : Script) → IsLegal script → HasBuckets script.setup.a
has_buckets script legal = record { some = mul-pos (omega (arith, legal.setup.a.groups.0)) (omega (arith, legal.setup.a.replicas.0)); each = omega (arith, legal.setup.a.replicas.0) }

pub keeps_play : (script : Script) → IsLegal script → Keeps script.setup.tables (script.setup.a.groups * script.setup.a.replicas) [] (play script).sites.a
unfolding play_of
keeps_play script legal =
    let setup = script.setup in
    let steps = steps_of script.events in
    let most = add_at_most script.events in
    along_events setup (λ later sites. Keeps setup.tables (setup.a.groups * setup.a.replicas) later sites.a)
    (λ step later sites keeps. keeps_step setup step.0 step.1 later sites keeps)
    script.events [] (not_played setup)
    (subst (λ (later : List (SiteId × SiteEvent)). Keeps setup.tables (setup.a.groups * setup.a.replicas) later (beginnings setup).a) (sym (append-nil steps)) (record {
      sound = sound_at_first setup A (has_buckets script legal);
      fits = tt;
      room = tt;
      legal = all_legal setup.tables (setup.a.groups * setup.a.replicas) script.events legal.events;
      drawn = omega (arith, legal.few_events, most.transactions);
      few_epochs = omega (arith, legal.few_events, most.closes);
      few_changes = omega (arith, legal.few_changes, most.changes);
    }))

-- each body that a legal script's run completes is readable
pub completed_readable : (script : Script) → IsLegal script → All IsReadable (completed_bodies (shape_of script.setup A) (play script).sites.a.journal)
completed_readable script legal =
    All-from_recursion IsReadable (completed_bodies (shape_of script.setup A) (play script).sites.a.journal)
    (completed_read (script.setup.a.groups * script.setup.a.replicas) script.setup.tables (play script).sites.a legal.setup.tables legal.setup.few_tables (keeps_play script legal))

-- each body that it logs is readable
pub written_read : (script : Script) → IsLegal script → All IsReadable (log_of script)
written_read script legal =
    All-from_recursion IsReadable (log_of script)
    (all_taken IsReadable (play script).sites.a.written (completed_bodies (shape_of script.setup A) (play script).sites.a.journal)
    (completed_read (script.setup.a.groups * script.setup.a.replicas) script.setup.tables (play script).sites.a legal.setup.tables legal.setup.few_tables (keeps_play script legal)))
