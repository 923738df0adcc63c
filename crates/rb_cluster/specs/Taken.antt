-- What the epochs of an `inject` leave of a log.
use Rattle.std.specs.Prelude.{◌≡◌, ℕ, Bool, List, [], ◌∷◌, Option, Some, None}
use Rattle.rb_journal_defs.specs.Body.{Shape, body_of, has_something_to_log}
use Rattle.rb_evbuf.specs.declared.buffer.EventBuffer.{EventBuffer}
use Rattle.rb_inject.specs.declared.injector.Injector.{Injector}
use Rattle.rb_play_defs.specs.Step.{Progress, takeable, with_taken}
use Rattle.rb_play_defs.specs.Point.{IsPoint}
use Rattle.rb_cluster.specs.Cluster.{HoldsLog}
use Rattle.rb_cluster.specs.declared.log.Log.{Log}

-- a log over its device, at a point of a run
pub record IsLogAt (its : Log) (seen : ℕ → List ℕ) (shape : Shape) (run : Progress) : Type 0 where
  pub point : IsPoint shape run
  pub log : HoldsLog its seen shape run

-- an event buffer and an injector, as a log
abbrev pub log_of : EventBuffer → Injector → Log
log_of events its = record { events = events; injector = its }

-- no epoch is whole and nothing changed; or the next epoch was taken, and logged if it has
-- something to log
abbrev pub HasTaken : Shape → Progress → Log → (seen : ℕ → List ℕ) → Option Bool → Type 0
HasTaken shape run log seen None = (takeable shape run ≡ []) × IsLogAt log seen shape run
HasTaken shape run log seen (Some logged) =
    (epoch : ℕ) × (rest : List ℕ) × (takeable shape run ≡ epoch ∷ rest) × IsLogAt log seen shape (with_taken shape run epoch)
    × (logged ≡ has_something_to_log (body_of shape epoch run.journal))
