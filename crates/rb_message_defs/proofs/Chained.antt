-- The messages of one journal are chained, and the epoch that can be assembled from them is the
-- journal's.
use Rattle.std.proofs.Common.{◌≡◌, ℕ, ◌<◌, ◌≤◌, List, [], subst, inl, inr, arith}
use Rattle.std.specs.Prelude.{◌⊎◌, Some, None, Contains}
use Rattle.std.specs.List.{AllByRecursion, slice_get}
use Rattle.std.proofs.lemmas.List.Elements.{All-from_recursion}
use Rattle.rb_base.specs.declared.change.Change.{Change}
use Rattle.rb_base.specs.declared.message.Message.{Message}
use Rattle.rb_base.specs.declared.message.Message.TheVariants.{Part, Done}
use Rattle.rb_journal_defs.specs.Journal.{Journal, previous_closed}
use Rattle.rb_journal_defs.specs.Body.{Shape, changes_in, in_bucket}
use Rattle.rb_journal_defs.specs.Order.{InOrder, IsClosed}
use Rattle.rb_journal_defs.proofs.Order.{closed_below, closed_positive, previous_below, none_between, changes_closed}
use Rattle.rb_message_defs.specs.Message.{epoch_in, IsMessageOf}
use Rattle.rb_message_defs.specs.Received.{AreChained}
use Rattle.rb_message_defs.proofs.Messages.{IsSentOf}

-- a fact about all items of a list holds for each of them
pub of_all : {X : Type 0} → (P : X → Type 0) (xs : List X) (x : X) → AllByRecursion P xs → Contains xs x → P x
of_all P xs x all there = subst P there.2 (All-from_recursion P xs all there.0 x there.1)

-- the epoch of a message is open or closed
epoch_known : (shape : Shape) (o : ℕ) (j : Journal) (m : Message) → InOrder o j → IsMessageOf shape j m → (epoch_in m ≡ o) ⊎ IsClosed (epoch_in m) j
epoch_known shape o j (Done bucket epoch prev count) h is = inr is.0
epoch_known shape o j (Part bucket epoch place change) h is = changes_closed shape.site o epoch.0 j h some
  where
    some : changes_in shape.site epoch.0 j ≡ [] → ⊥
    some none = let g : None ≡ Some change = subst (λ (cs : List Change). slice_get (in_bucket shape.buckets bucket cs) place ≡ Some change) none is in cc

above : (shape : Shape) (o : ℕ) (j : Journal) (e : ℕ) (m : Message) → InOrder o j → IsClosed e j → previous_closed e j < epoch_in m → (epoch_in m ≡ o) ⊎ IsClosed (epoch_in m) j → e ≤ epoch_in m
above shape o j e m h c l (inl q) = let b : e < o = closed_below o e j h c in omega arith
above shape o j e m h c l (inr d) = none_between o e (epoch_in m) j h d l

-- the messages of one journal are chained
pub are_chained : (shape : Shape) (o : ℕ) (j : Journal) (received : List Message) → InOrder o j → AllByRecursion (IsSentOf shape j) received → AreChained received
are_chained shape o j received h all = λ bucket epoch prev count there.
    let is : IsMessageOf shape j (Done bucket epoch prev count) = (of_all (IsSentOf shape j) received (Done bucket epoch prev count) all there).1 in
    let low : previous_closed epoch.0 j < epoch.0 = previous_below epoch.0 j (closed_positive o epoch.0 j h is.0) in
    let p = is.1 in (
      omega arith,
      λ m among l.
          let own : IsMessageOf shape j m = (of_all (IsSentOf shape j) received m all among).1 in
          above shape o j epoch.0 m h is.0 (let q = is.1 in omega arith) (epoch_known shape o j m h own),
    )
