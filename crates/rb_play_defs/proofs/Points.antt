-- Points of a run, one after the other.
use Rattle.std.proofs.Common.{◌≡◌, ℕ, ◌+◌, ◌*◌, ◌≤◌, List, ◌∷◌, length, refl, sym, ap, subst, arith, Bool, [], length-append}
use Rattle.rb_journal_defs.specs.Journal.{Journal, closed_epochs, Client, Closed, Entry, own_of}
use Rattle.rb_journal_defs.specs.Counts.{own_changes, applied_changes, applied_of}
use Rattle.rb_journal_defs.specs.Body.{Shape}
use Rattle.rb_play_defs.specs.Step.{Progress, takeable, with_taken, rows_of, tx_changes, committed, closed}
use Rattle.rb_play_defs.specs.Sound.{IsSound, IsCovered}
use Rattle.rb_play_defs.specs.Fitting.{JournalFits}
use Rattle.rb_play_defs.proofs.Alike.{Alike}
use Rattle.rb_play_defs.proofs.Takes.{sound_taken}
use Rattle.rb_play_defs.proofs.Covering.{covered_taken, covered_commit, covered_close}
use Rattle.rb_play_defs.specs.Point.{IsPoint, most_own, most_closed, most_applied, TxFits, CloseFits}
use Rattle.std.specs.Prelude.{None}
use Rattle.std.proofs.lemmas.List.Sums.{sum_by-cons}
use Rattle.rb_base.specs.Site.{server_of}
use Rattle.rb_base.specs.declared.change.Change.{Change}
use Rattle.rb_base.specs.declared.script.ClientOp.{ClientOp}
use Rattle.rb_journal_defs.specs.Transaction.{refusal_of}
use Rattle.rb_play_defs.proofs.Sounds.{sound_commit, sound_close}
use Rattle.rb_play_defs.proofs.Fits.{changes_fit}
use Rattle.rb_play_defs.proofs.Counts.{as_many_changes}

-- the open epoch has 64 bits, and so have some later ones
pub opened_low : (shape : Shape) (run : Progress) → IsPoint shape run → run.opened ≤ 4294967296 * (most_closed + 1)
opened_low shape run point = (let near = point.sound.near in let few = point.few_closed in omega arith)

-- the point after an event that adds no entry
pub point_alike : (shape : Shape) (run now : Progress) → IsPoint shape run → Alike run now → IsSound shape now → IsCovered shape now → IsPoint shape now
point_alike shape run now point alike sound covered = record {
  declared = point.declared;
  sound = sound;
  fits = subst (JournalFits shape) (sym alike.journal) point.fits;
  covered = covered;
  numbered = omega (arith, alike.drawn, ap own_changes alike.journal, ap (applied_changes shape.site) alike.journal, point.numbered);
  few = subst (λ (journal : Journal). own_changes journal ≤ most_own) (sym alike.journal) point.few;
  few_closed = subst (λ (journal : Journal). length (closed_epochs journal) ≤ most_closed) (sym alike.journal) point.few_closed;
  few_applied = subst (λ (journal : Journal). applied_changes shape.site journal ≤ most_applied) (sym alike.journal) point.few_applied;
}

-- the point after an epoch is taken
pub point_taken : (shape : Shape) (run : Progress) (epoch : ℕ) (rest : List ℕ) → IsPoint shape run → takeable shape run ≡ epoch ∷ rest → IsPoint shape (with_taken shape run epoch)
point_taken shape run epoch rest point front =
    point_alike shape run (with_taken shape run epoch) point (record { journal = refl; opened = refl; drawn = refl })
    (sound_taken shape run epoch rest point.sound front) (covered_taken shape run epoch rest point.sound front point.covered)

-- one entry more
pub counted : (o t : ℕ) (changes : List Change) (j : Journal) → own_changes (Client o t changes ∷ j) ≡ own_changes j + length changes
counted o t changes j = omega (arith, sum_by-cons (λ (entry : Entry). length (own_of entry)) (Client o t changes) j)

-- the point after a transaction
pub point_committed : (shape : Shape) (operations : List ClientOp) (run : Progress) → IsPoint shape run → TxFits shape run operations → refusal_of (rows_of run) operations ≡ None → IsPoint shape (committed shape operations run)
point_committed shape operations run point fits free =
    let changes = tx_changes shape operations run in
    let own = counted run.opened (run.drawn + 1) changes run.journal in
    let applied = sum_by-cons (λ (entry : Entry). length (applied_of shape.site entry)) (Client run.opened (run.drawn + 1) changes) run.journal in
    let all = as_many_changes (rows_of run) (server_of shape.site) (run.drawn + 1) operations in record {
      declared = point.declared;
      sound = sound_commit shape operations run point.sound;
      fits = (changes_fit shape (server_of shape.site) (run.drawn + 1) operations run.journal point.fits fits.fit free, point.fits);
      covered = covered_commit shape operations run point.sound point.covered;
      numbered = omega (arith, own, all, applied, point.numbered, fits.some);
      few = omega (arith, own, all, fits.room);
      few_closed = point.few_closed;
      few_applied = omega (arith, point.few_applied, applied);
    }

-- the point after the close
pub point_closed : (shape : Shape) (gci : Bool) (run : Progress) → IsPoint shape run → CloseFits run → IsPoint shape (closed shape gci run)
point_closed shape gci run point room =
    let own = sum_by-cons (λ (entry : Entry). length (own_of entry)) (Closed run.opened) run.journal in
    let applied = sum_by-cons (λ (entry : Entry). length (applied_of shape.site entry)) (Closed run.opened) run.journal in record {
      declared = point.declared;
      sound = sound_close shape gci run point.sound;
      fits = (tt, point.fits);
      covered = covered_close shape gci run point.sound point.covered;
      numbered = omega (arith, own, applied, point.numbered);
      few = omega (arith, own, point.few);
      few_closed = omega (arith, room, length-append (closed_epochs run.journal) (run.opened ∷ []));
      few_applied = omega (arith, point.few_applied, applied);
    }
