-- The messages that nodes resend are messages of the journal.
use Rattle.std.proofs.Common.{◌≡◌, ℕ, ◌+◌, ◌<◌, Bool, true, false, cond, List, [], ◌∷◌, ◌++◌, length, filter, refl, sym, ap, subst, ◌∙◌, arith, inl, inr, append_assoc, length-append}
use Rattle.std.specs.Prelude.{nat_lt, Some}
use Rattle.std.specs.List.{AllByRecursion, enumerate_from, flat_map, slice_get}
use Rattle.rb_base.specs.declared.change.Change.{Change}
use Rattle.rb_base.specs.declared.message.Message.{Message}
use Rattle.rb_base.specs.declared.message.Message.TheVariants.{Part}
use Rattle.rb_base.specs.declared.message.Sent.{Sent}
use Rattle.rb_journal_defs.specs.Journal.{Journal, closed_epochs}
use Rattle.rb_journal_defs.specs.Body.{Shape, part_of}
use Rattle.rb_journal_defs.specs.Order.{IsClosed}
use Rattle.rb_journal_defs.proofs.Order.{Among, among_closed}
use Rattle.rb_message_defs.specs.Nodes.{part_messages, messages_of, unacknowledged, sent_from}
use Rattle.rb_message_defs.proofs.Messages.{IsSentOf, get_end, all_joined, all_mapped}

-- a fact about all items of all lists holds for the items of their concatenation
pub all_flat : {X Y : Type 0} → (P : Y → Type 0) (f : X → List Y) (xs : List X) → AllByRecursion (λ x. AllByRecursion P (f x)) xs → AllByRecursion P (flat_map f xs)
all_flat P f [] all = tt
all_flat P f (x ∷ xs) all = all_joined P (f x) (flat_map f xs) all.0 (all_flat P f xs all.1)

numbered_there : (all done rest : List Change) → all ≡ done ++ rest → AllByRecursion (λ numbered. slice_get all numbered.0 ≡ Some numbered.1) (enumerate_from (length done) rest)
numbered_there all done [] is = tt
numbered_there all done (change ∷ rest) is =
    let count : length (done ++ change ∷ []) ≡ length done + 1 = omega (arith, length-append done (change ∷ [])) in (
      ap (λ (changes : List Change). slice_get changes (length done)) is ∙ get_end done change rest,
      subst (λ (n : ℕ). AllByRecursion (λ numbered. slice_get all numbered.0 ≡ Some numbered.1) (enumerate_from n rest)) count
          (numbered_there all (done ++ change ∷ []) rest (is ∙ sym (append_assoc done (change ∷ []) rest))),
    )

pub parts_are_own : (shape : Shape) (epoch bucket : ℕ) (j : Journal) → bucket < shape.buckets → AllByRecursion (IsSentOf shape j) (part_messages shape epoch bucket j)
parts_are_own shape epoch bucket j within =
    all_mapped (IsSentOf shape j) (λ numbered. Part bucket (record { 0 = epoch }) numbered.0 numbered.1) (enumerate_from 0 (part_of shape epoch bucket j))
    (both (enumerate_from 0 (part_of shape epoch bucket j)) (numbered_there (part_of shape epoch bucket j) [] (part_of shape epoch bucket j) refl))
  where
    both : (xs : List (ℕ × Change)) → AllByRecursion (λ numbered. slice_get (part_of shape epoch bucket j) numbered.0 ≡ Some numbered.1) xs
        → AllByRecursion (λ numbered. IsSentOf shape j (Part bucket (record { 0 = epoch }) numbered.0 numbered.1)) xs
    both [] all = tt
    both (x ∷ xs) all = ((within, all.0), both xs all.1)

pub messages_are_own : (shape : Shape) (bucket : ℕ) (j : Journal) (epoch : ℕ) → bucket < shape.buckets → IsClosed epoch j → AllByRecursion (IsSentOf shape j) (messages_of shape bucket j epoch)
messages_are_own shape bucket j epoch within closed =
    all_joined (IsSentOf shape j) (part_messages shape epoch bucket j) _ (parts_are_own shape epoch bucket j within) ((within, (closed, refl, refl)), tt)

-- the closed epochs that pass a test are closed
closed_are : (j : Journal) (test : ℕ → Bool) (epochs : List ℕ) → ((e : ℕ) → Among e epochs → IsClosed e j) → AllByRecursion (λ e. IsClosed e j) (filter test epochs)
closed_are j test [] all = tt
closed_are j test (e ∷ es) all = go (test e) (closed_are j test es (λ f among. all f (inr among)))
  where
    go : (b : Bool) → AllByRecursion (λ e. IsClosed e j) (filter test es) → AllByRecursion (λ e. IsClosed e j) (cond b (e ∷ filter test es) (filter test es))
    go true rest = (all e (inl refl), rest)
    go false rest = rest

pub again_is_own : (shape : Shape) (acknowledged opened : ℕ) (j : Journal) (bucket : ℕ) → bucket < shape.buckets → AllByRecursion (IsSentOf shape j) (unacknowledged shape acknowledged opened j bucket)
again_is_own shape acknowledged opened j bucket within =
    all_joined (IsSentOf shape j) (flat_map (messages_of shape bucket j) (filter (nat_lt acknowledged) (closed_epochs j))) (part_messages shape opened bucket j)
    (all_flat (IsSentOf shape j) (messages_of shape bucket j) (filter (nat_lt acknowledged) (closed_epochs j))
    (each (filter (nat_lt acknowledged) (closed_epochs j)) (closed_are j (nat_lt acknowledged) (closed_epochs j) (λ e among. among_closed e j among))))
    (parts_are_own shape opened bucket j within)
  where
    each : (epochs : List ℕ) → AllByRecursion (λ e. IsClosed e j) epochs → AllByRecursion (λ e. AllByRecursion (IsSentOf shape j) (messages_of shape bucket j e)) epochs
    each [] all = tt
    each (e ∷ es) all = (messages_are_own shape bucket j e within all.0, each es all.1)

-- the sender of a message does not matter
pub sent_from_own : (shape : Shape) (j : Journal) (sender : ℕ) (ms : List Message) → AllByRecursion (IsSentOf shape j) ms → AllByRecursion (λ (s : Sent). IsSentOf shape j s.message) (sent_from sender ms)
sent_from_own shape j sender [] all = tt
sent_from_own shape j sender (m ∷ ms) all = (all.0, sent_from_own shape j sender ms all.1)
