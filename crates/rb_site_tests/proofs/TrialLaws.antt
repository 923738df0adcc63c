-- The setup and the events of the tests.
use Rattle.std.proofs.Common.{◌≡◌, ℕ, ◌+◌, ◌≤◌, List, [], ◌∷◌, false, refl, sym, subst, arith, length}
use Rattle.std.specs.Prelude.{Some}
use Rattle.std.specs.List.{AllByRecursion}
use Rattle.rb_base.specs.declared.site.SiteId.TheVariants.{A}
use Rattle.rb_base.specs.declared.row.Value.TheVariants as values
use Rattle.rb_base.specs.declared.script.Setup.{Setup}
use Rattle.rb_base.specs.declared.script.Op.TheVariants.{Ins}
use Rattle.rb_base.specs.declared.script.ClientOp.{ClientOp}
use Rattle.rb_base.specs.declared.outcome.Outcome.{Outcome}
use Rattle.rb_journal_defs.specs.Journal.{closed_epochs}
use Rattle.rb_journal_defs.specs.Counts.{own_changes}
use Rattle.rb_journal_defs.specs.Body.{Shape}
use Rattle.rb_play_defs.specs.Fitting.{OperationFits}
use Rattle.rb_play_defs.specs.Step.{Progress, beginning, site_step}
use Rattle.rb_play_defs.specs.Play.{shape_of}
use Rattle.rb_play_defs.specs.declared.event.SiteEvent.{SiteEvent}
use Rattle.rb_play_defs.specs.declared.event.SiteEvent.TheVariants.{Tx, Close}
use Rattle.rb_play_defs.proofs.Counts.{Counted, counted_event}
use Rattle.rb_play_defs.specs.Point.{AreDeclared, EventFits}
use Rattle.rb_site.specs.Site.{IsSite, CanTake, Plays}
use Rattle.rb_site.specs.declared.site.Site.{Site}
use Rattle.rb_site_tests.specs.Trial.{one_setup}

abbrev pub one_node : Shape
one_node = shape_of one_setup A

abbrev pub insert_of : (key number : ℕ) → ClientOp
insert_of key number = record { op = Ins; table = 1; key = key; row = Some (record { values = values.Num key ∷ values.Num number ∷ [] }) }

abbrev pub insert : (key number : ℕ) → SiteEvent
insert key number = Tx (insert_of key number ∷ [])

-- the table is declared
pub is_declared : (setup : Setup) → setup ≡ one_setup → AreDeclared (shape_of setup A)
is_declared setup same = subst (λ (s : Setup). AreDeclared (shape_of s A)) (sym same) (record {
  primary = refl;
  schemas = one_setup.tables;
  tables = refl;
  small = (record { short = omega arith; some = omega arith; few = omega arith; schema = refl; name = omega arith }, tt);
})

-- a row fits it
insert_fits : (key number : ℕ) → AllByRecursion (OperationFits one_node.tables) (insert_of key number ∷ [])
insert_fits key number = (record { declared = (omega arith, omega arith); row = record { keyed = refl; fits = (tt, (tt, tt)) } }, tt)

-- a site that has taken this many events
pub record IsEarly (site : Site) (seen : ℕ → List ℕ) (run : Progress) (count : ℕ) : Type 0 where
  pub held : IsSite one_node site seen run
  pub made : own_changes run.journal ≤ count
  pub closed : length (closed_epochs run.journal) ≤ count

early_fits : (site : Site) (seen : ℕ → List ℕ) (run : Progress) (count key number : ℕ) → count ≤ 10 → IsEarly site seen run count → EventFits one_node run (insert key number)
early_fits site seen run count key number few early = record { fit = insert_fits key number; some = omega arith; room = omega (arith, early.made) }

-- it can insert a row
pub can_insert : (site : Site) (seen : ℕ → List ℕ) (run : Progress) (event : SiteEvent) (count key number : ℕ) → event ≡ insert key number → count ≤ 10 → IsEarly site seen run count → CanTake site seen event
can_insert site seen run event count key number same few early =
    (one_node, run, early.held, subst (EventFits one_node run) (sym same) (early_fits site seen run count key number few early))

-- and close an epoch
pub close_fits : (site : Site) (seen : ℕ → List ℕ) (run : Progress) (count : ℕ) → count ≤ 10 → IsEarly site seen run count → EventFits one_node run (Close false)
close_fits site seen run count few early = omega (arith, early.closed)

-- the run after an insertion
abbrev pub after_insert : (key number : ℕ) → Progress → Progress
after_insert key number run = (site_step one_node run (insert key number)).run

pub begins : (site : Site) (seen : ℕ → List ℕ) (setup : Setup) → setup ≡ one_setup → IsSite (shape_of setup A) site seen (beginning setup.a.groups setup.a.replicas) → IsEarly site seen (beginning 1 1) 0
begins site seen setup same held = record {
  held = subst (λ (s : Setup). IsSite (shape_of s A) site seen (beginning s.a.groups s.a.replicas)) same held;
  made = omega arith;
  closed = omega arith;
}

-- what an insertion leaves of it
pub inserted : (old new : Site) (seen after : ℕ → List ℕ) (run : Progress) (event : SiteEvent) (outcome : Outcome) (count key number : ℕ) → event ≡ insert key number → count ≤ 10 → IsEarly old seen run count → ((shape : Shape) (run : Progress) → Plays shape run event old seen new after outcome) → IsEarly new after (after_insert key number run) (count + 1)
inserted old new seen after run event outcome count key number same few early step =
    let counts : Counted A run (after_insert key number run) 1 0 1 = counted_event one_node run (insert key number) in record {
      held = subst (λ (e : SiteEvent). IsSite one_node new after (site_step one_node run e).run) same
          (step one_node run early.held (subst (EventFits one_node run) (sym same) (early_fits old seen run count key number few early))).0;
      made = omega (arith, early.made, counts.own);
      closed = omega (arith, early.closed, counts.closed);
    }
