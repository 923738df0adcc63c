-- The share of a group says what the run says: the same needed epoch, and the same messages.
use Rattle.std.proofs.Common.{◌≡◌, ℕ, Bool, true, false, cond, List, [], ◌∷◌, ◌++◌, length, map, filter, refl, ap, ◌∙◌}
use Rattle.std.specs.Prelude.{◌==◌, nat_lt, if◌then◌else◌, unwrap_or}
use Rattle.std.specs.List.{enumerate_from, find, flat_map, list_any}
use Rattle.rb_base.specs.declared.change.Change.{Change}
use Rattle.rb_base.specs.declared.message.Message.{Message}
use Rattle.rb_base.specs.declared.message.Message.TheVariants.{Part, Done}
use Rattle.rb_journal_defs.specs.Journal.{Journal, closed_epochs, previous_closed}
use Rattle.rb_journal_defs.specs.Body.{Shape, part_of, in_bucket, changes_in}
use Rattle.rb_message_defs.specs.Message.{done_message}
use Rattle.rb_message_defs.specs.Nodes.{numbers_in, part_messages, messages_of, unacknowledged}
use Rattle.rb_group.specs.Kept.{Kept, needed_in, parts_in, done_in, unacknowledged_in}
use Rattle.rb_play_defs.specs.Step.{Progress, needed_of}
use Rattle.rb_nodes.specs.Nodes.{kept_in, share_of}
use Rattle.rb_cluster.specs.Net.{buffered_by}

-- the closed epochs after a journal's closes
epochs_of_closes : (j : Journal) (es : List ℕ) → map (λ (close : ℕ × ℕ). close.0) (map (λ epoch. (epoch, previous_closed epoch j)) es) ≡ es
epochs_of_closes j [] = refl
epochs_of_closes j (e ∷ es) = ap (λ (xs : List ℕ). e ∷ xs) (epochs_of_closes j es)

-- the share needs the same epoch
pub needed_share : (shape : Shape) (run : Progress) (number : ℕ) → needed_in (share_of shape.buckets (buffered_by shape run) number) ≡ needed_of run
needed_share shape run number =
    ap (λ (es : List ℕ). unwrap_or (find (nat_lt run.acknowledged) es) run.opened) (epochs_of_closes run.journal (closed_epochs run.journal))

-- it keeps the changes of the group's buckets
kept_share : (shape : Shape) (run : Progress) (number epoch bucket : ℕ) → list_any (λ other. other == bucket) (numbers_in run.nodes number) ≡ true →
    kept_in (buffered_by shape run) shape.buckets number epoch bucket ≡ part_of shape epoch bucket run.journal
kept_share shape run number epoch bucket is =
    ap (λ (b : Bool). if b then in_bucket shape.buckets bucket (changes_in shape.site epoch run.journal) else []) is

-- and what is not acknowledged of them is the run's
pub unacknowledged_share : (shape : Shape) (run : Progress) (number bucket : ℕ) → list_any (λ other. other == bucket) (numbers_in run.nodes number) ≡ true →
    unacknowledged_in (share_of shape.buckets (buffered_by shape run) number) bucket ≡ unacknowledged shape run.acknowledged run.opened run.journal bucket
unacknowledged_share shape run number bucket is =
    ap (λ (ms : List Message). ms ++ parts_in share bucket run.opened) (closed (closed_epochs run.journal))
    ∙ ap (λ (ms : List Message). flat_map (messages_of shape bucket run.journal) (filter (nat_lt a) (closed_epochs run.journal)) ++ ms) (parts run.opened)
  where
    a : ℕ
    a = run.acknowledged

    share : Kept
    share = share_of shape.buckets (buffered_by shape run) number

    parts : (epoch : ℕ) → parts_in share bucket epoch ≡ part_messages shape epoch bucket run.journal
    parts epoch = ap (λ (cs : List Change). map (λ (numbered : ℕ × Change). Part bucket (record { 0 = epoch }) numbered.0 numbered.1) (enumerate_from 0 cs)) (kept_share shape run number epoch bucket is)

    done : (epoch : ℕ) → done_in share bucket (epoch, previous_closed epoch run.journal) ≡ done_message shape epoch bucket run.journal
    done epoch = ap (λ (cs : List Change). Done bucket (record { 0 = epoch }) (record { 0 = previous_closed epoch run.journal }) (length cs)) (kept_share shape run number epoch bucket is)

    told : (close : ℕ × ℕ) → List Message
    told close = parts_in share bucket close.0 ++ done_in share bucket close ∷ []

    one : (epoch : ℕ) → told (epoch, previous_closed epoch run.journal) ≡ messages_of shape bucket run.journal epoch
    one epoch = ap (λ (ms : List Message). ms ++ done_in share bucket (epoch, previous_closed epoch run.journal) ∷ []) (parts epoch)
        ∙ ap (λ (m : Message). part_messages shape epoch bucket run.journal ++ m ∷ []) (done epoch)

    closed : (es : List ℕ) → flat_map told (filter (λ close. nat_lt a close.0) (map (λ epoch. (epoch, previous_closed epoch run.journal)) es)) ≡ flat_map (messages_of shape bucket run.journal) (filter (nat_lt a) es)
    closed [] = refl
    closed (e ∷ es) = go (nat_lt a e) (closed es)
      where
        go : (b : Bool) → flat_map told (filter (λ close. nat_lt a close.0) (map (λ epoch. (epoch, previous_closed epoch run.journal)) es)) ≡ flat_map (messages_of shape bucket run.journal) (filter (nat_lt a) es)
            → flat_map told (cond b ((e, previous_closed e run.journal) ∷ filter (λ close. nat_lt a close.0) (map (λ epoch. (epoch, previous_closed epoch run.journal)) es)) (filter (λ close. nat_lt a close.0) (map (λ epoch. (epoch, previous_closed epoch run.journal)) es)))
            ≡ flat_map (messages_of shape bucket run.journal) (cond b (e ∷ filter (nat_lt a) es) (filter (nat_lt a) es))
        go true rest = ap (λ (ms : List Message). ms ++ flat_map told (filter (λ close. nat_lt a close.0) (map (λ epoch. (epoch, previous_closed epoch run.journal)) es))) (one e)
            ∙ ap (λ (ms : List Message). messages_of shape bucket run.journal e ++ ms) rest
        go false rest = rest
