-- What the injector leaves of a site.
use Rattle.std.proofs.Common.{◌≡◌, ℕ, List, [], ◌∷◌, refl, sym, ap, subst, ◌∙◌}
use Rattle.std.specs.Prelude.{Option, Some, None}
use Rattle.std.specs.Option.{option_map, option_map_or}
use Rattle.rb_base.specs.declared.site.SiteId.{SiteId}
use Rattle.rb_base.specs.declared.site.SiteId.TheVariants.{A}
use Rattle.rb_base.specs.declared.schema.Mapped.{Mapped}
use Rattle.rb_journal_defs.specs.Body.{Shape, body_of}
use Rattle.rb_journal_defs.specs.Transaction.{first_of}
use Rattle.rb_message_defs.specs.declared.answers.Assembled.{Assembled}
use Rattle.rb_message_defs.specs.Received.{Fed, AreChained, assembled_of, taken_from}
use Rattle.rb_message_defs.proofs.Chained.{are_chained}
use Rattle.rb_message_defs.proofs.Assembly.{journal_assembly, assembled_is_taken}
use Rattle.rb_evbuf.specs.Buffer.{StandsFor}
use Rattle.rb_evbuf.specs.declared.buffer.EventBuffer.{EventBuffer}
use Rattle.rb_play_defs.specs.Step.{Progress, fed_by, takeable, with_taken}
use Rattle.rb_play_defs.proofs.Takes.{fed_from}
use Rattle.rb_inject.specs.Body.{body_of_assembled}
use Rattle.rb_inject.specs.Injector as inject
use Rattle.rb_inject.specs.declared.injector.Injector.{Injector}
use Rattle.rb_play_defs.specs.Point.{AreDeclared}
use Rattle.rb_cluster.specs.Taken.{IsLogAt, log_of}
use Rattle.rb_inject.proofs.JournalBodies.{body_is}

-- what the event buffer assembles
pub next_is : (shape : Shape) (events : EventBuffer) (its : Injector) (seen : ℕ → List ℕ) (run : Progress) (result : Option Assembled) → IsLogAt (log_of events its) seen shape run →
    ((fed : Fed) → StandsFor events fed → AreChained fed.received → result ≡ assembled_of fed) → result ≡ option_map (journal_assembly shape run.last run.journal) (first_of (takeable shape run))
next_is shape events its seen run result held answers =
    answers (fed_by shape run) held.log.events (are_chained shape run.opened run.journal run.received held.point.sound.order held.point.sound.received)
    ∙ assembled_is_taken shape run.opened run.journal (fed_by shape run) (fed_from shape run held.point.sound)

-- no epoch is whole
pub none_taken : (f : ℕ → Assembled) (epochs : List ℕ) → None ≡ option_map f (first_of epochs) → epochs ≡ []
none_taken f [] same = refl
none_taken f (e ∷ epochs) same = absurd (let g : None ≡ Some (f e) = same in cc)

-- the next epoch is whole
pub one_taken : (f : ℕ → Assembled) (epochs : List ℕ) (assembled : Assembled) → Some assembled ≡ option_map f (first_of epochs) → (e : ℕ) × (rest : List ℕ) × (epochs ≡ e ∷ rest) × (assembled ≡ f e)
one_taken f [] assembled same = absurd (let g : Some assembled ≡ None = same in cc)
one_taken f (e ∷ epochs) assembled same = (e, epochs, refl, (let g : Some assembled ≡ Some (f e) = same in cc))

-- the event buffer after it
pub buffer_stays : (shape : Shape) (events : EventBuffer) (its : Injector) (seen : ℕ → List ℕ) (run : Progress) (new : EventBuffer) → IsLogAt (log_of events its) seen shape run →
    ((fed : Fed) → StandsFor events fed → AreChained fed.received → None ≡ assembled_of fed) →
    ((fed : Fed) → StandsFor events fed → AreChained fed.received → StandsFor new (taken_from fed)) → StandsFor new (fed_by shape run)
buffer_stays shape events its seen run new held answers taken =
    let fed = fed_by shape run in
    let chained = are_chained shape run.opened run.journal run.received held.point.sound.order held.point.sound.received in
    subst (λ (o : Option Assembled). StandsFor new (record fed { last = option_map_or (λ assembled. assembled.epoch.0) o fed.last })) (sym (answers fed held.log.events chained)) (taken fed held.log.events chained)

pub buffer_taken : (shape : Shape) (events : EventBuffer) (its : Injector) (seen : ℕ → List ℕ) (run : Progress) (new : EventBuffer) (assembled : Assembled) (e : ℕ) → IsLogAt (log_of events its) seen shape run → assembled.epoch.0 ≡ e →
    ((fed : Fed) → StandsFor events fed → AreChained fed.received → Some assembled ≡ assembled_of fed) →
    ((fed : Fed) → StandsFor events fed → AreChained fed.received → StandsFor new (taken_from fed)) → StandsFor new (fed_by shape (with_taken shape run e))
buffer_taken shape events its seen run new assembled e held is answers taken =
    let fed = fed_by shape run in
    let chained = are_chained shape run.opened run.journal run.received held.point.sound.order held.point.sound.received in
    subst (λ (n : ℕ). StandsFor new (record fed { last = n })) is
    (subst (λ (o : Option Assembled). StandsFor new (record fed { last = option_map_or (λ assembled. assembled.epoch.0) o fed.last })) (sym (answers fed held.log.events chained)) (taken fed held.log.events chained))

-- the body of what was assembled is the journal's
pub body_there : (shape : Shape) (run : Progress) (e : ℕ) (assembled : Assembled) → AreDeclared shape → assembled ≡ journal_assembly shape run.last run.journal e → body_of_assembled shape.site shape.tables assembled ≡ body_of shape e run.journal
body_there shape run e assembled declared made =
    ap (λ (s : SiteId). body_of_assembled s shape.tables assembled) declared.primary
    ∙ ap (body_of_assembled A shape.tables) made
    ∙ body_is shape run.last e run.journal declared.primary

-- and so is what the injector makes of it
pub body_made : (shape : Shape) (events : EventBuffer) (its : Injector) (seen : ℕ → List ℕ) (run : Progress) (e : ℕ) (assembled : Assembled) → IsLogAt (log_of events its) seen shape run → assembled ≡ journal_assembly shape run.last run.journal e →
    inject.body_for its assembled ≡ body_of shape e run.journal
body_made shape events its seen run e assembled held made =
    ap (λ (s : SiteId). body_of_assembled s its.tables assembled) held.log.injector.site_is
    ∙ ap (λ (ts : List Mapped). body_of_assembled shape.site ts assembled) held.log.injector.tables_are
    ∙ body_there shape run e assembled held.point.declared made

-- the next epoch, as it was assembled
pub record IsNext (shape : Shape) (run : Progress) (assembled : Assembled) : Type 0 where
  pub epoch : ℕ
  pub rest : List ℕ
  pub front : takeable shape run ≡ epoch ∷ rest
  pub number : assembled.epoch.0 ≡ epoch
  pub made : assembled ≡ journal_assembly shape run.last run.journal epoch

pub next_there : (shape : Shape) (events : EventBuffer) (its : Injector) (seen : ℕ → List ℕ) (run : Progress) (assembled : Assembled) → IsLogAt (log_of events its) seen shape run →
    ((fed : Fed) → StandsFor events fed → AreChained fed.received → Some assembled ≡ assembled_of fed) → IsNext shape run assembled
next_there shape events its seen run assembled held answers =
    let (e, rest, front, made) = one_taken (journal_assembly shape run.last run.journal) (takeable shape run) assembled (next_is shape events its seen run (Some assembled) held answers) in
    record { epoch = e; rest = rest; front = front; number = ap (λ (a : Assembled). a.epoch.0) made; made = made }
