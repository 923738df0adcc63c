-- The Parts of changes that are committed one after the other.
use Rattle.std.proofs.Common.{◌≡◌, ℕ, ◌+◌, ◌<◌, Bool, true, false, cond, List, [], ◌∷◌, ◌++◌, length, take, get_or, refl, sym, ap, ◌∙◌, append_assoc, eq-eqb}
use Rattle.std.specs.Prelude.{◌==◌, if◌then◌else◌}
use Rattle.std.specs.List.{AllByRecursion}
use Rattle.std.proofs.lemmas.List.{append-nil, take_more}
use Rattle.std.proofs.lemmas.List.Elements.{filter-append}
use Rattle.rb_base.specs.Bucket.{bucket_number}
use Rattle.rb_base.specs.declared.change.Change.{Change}
use Rattle.rb_base.specs.declared.message.Message.{Message}
use Rattle.rb_journal_defs.specs.Body.{in_bucket}
use Rattle.rb_message_defs.specs.Message.{part_message, parts_sent}
use Rattle.rb_message_defs.specs.Nodes.{sent_from}
use Rattle.rb_message_defs.proofs.Messages.{parts_sent_first}

-- a change more in the part of its bucket
pub in_bucket_more : (buckets b : ℕ) (cs : List Change) (c : Change) → in_bucket buckets b (cs ++ c ∷ []) ≡ in_bucket buckets b cs ++ (if bucket_number c.table c.key buckets == b then c ∷ [] else [])
in_bucket_more buckets b cs c = filter-append (λ change. bucket_number change.table change.key buckets == b) cs (c ∷ [])

-- one more change after these in the open epoch
pub both_changes : (o e : ℕ) (before cs : List Change) (c : Change) → cond (o == e) (cond (o == e) (before ++ cs) before ++ c ∷ []) (cond (o == e) (before ++ cs) before) ≡ cond (o == e) (before ++ (cs ++ c ∷ [])) before
both_changes o e before cs c = go (o == e)
  where
    go : (b : Bool) → cond b (cond b (before ++ cs) before ++ c ∷ []) (cond b (before ++ cs) before) ≡ cond b (before ++ (cs ++ c ∷ [])) before
    go true = append_assoc before cs (c ∷ [])
    go false = refl

pub here_changes : (o : ℕ) (before cs : List Change) → cond (o == o) (before ++ cs) before ≡ before ++ cs
here_changes o before cs = rw (eq-eqb o o refl) refl

-- and its Part
pub parts_more : (buckets o : ℕ) (earlier cs : List Change) (c : Change) → parts_sent buckets o earlier (cs ++ c ∷ []) ≡ parts_sent buckets o earlier cs ++ part_message buckets o (earlier ++ cs) c ∷ []
unfolding parts_sent
parts_more buckets o earlier [] c = ap (λ (es : List Change). part_message buckets o es c ∷ []) (append-nil earlier ∙ sym (append-nil earlier))
parts_more buckets o earlier (d ∷ cs) c =
    parts_sent_first buckets o earlier (cs ++ c ∷ []) d
    ∙ ap (λ (ms : List Message). part_message buckets o earlier d ∷ ms) (parts_more buckets o (earlier ++ d ∷ []) cs c ∙ ap (λ (es : List Change). parts_sent buckets o (earlier ++ d ∷ []) cs ++ part_message buckets o es c ∷ []) (append_assoc earlier (d ∷ []) cs))
    ∙ ap (λ (ms : List Message). ms ++ part_message buckets o (earlier ++ d ∷ cs) c ∷ []) (sym (parts_sent_first buckets o earlier cs d))

-- the changes up to the one that a loop is at, and it
pub upto_here : (changes : List Change) (i : ℕ) (c : Change) → i < length changes → c ≡ get_or changes i c → take i changes ++ c ∷ [] ≡ take (i + 1) changes
upto_here changes i c within is = sym (take_more changes i c within ∙ ap (λ (d : Change). take i changes ++ d ∷ []) (sym is))

-- messages of one sender
pub from_sender : (most sender : ℕ) (messages : List Message) → sender < most → AllByRecursion (λ m. m.sender < most) (sent_from sender messages)
from_sender most sender [] below = tt
from_sender most sender (message ∷ messages) below = (below, from_sender most sender messages below)
