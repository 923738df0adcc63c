-- What an outbox represents after one more message, a delivery, a drop or a failure.
use Rattle.std.proofs.Common.{◌≡◌, ℕ, suc, ◌<◌, ◌≤◌, Bool, true, false, List, [], ◌∷◌, ◌++◌, length, filter, refl, sym, ap, subst, ◌∙◌, arith, length-append, eqb-true}
use Rattle.std.specs.Prelude.{Result, Ok, Err, OnOk, Option, Some, None, ◌==◌, not, nat_lt, if◌then◌else◌}
use Rattle.std.specs.List.{AllByRecursion, list_any, slice_get}
use Rattle.std.specs.Option.{option_map_or}
use Rattle.std.specs.Ordering.{nat_cmp}
use Rattle.std.specs.BTreeMap.{is_at}
use Rattle.std.specs.BTreeSet.{insert_key}
use Rattle.std.specs.Set.{remove_key}
use Rattle.std.proofs.lemmas.Bool.{eqb-false}
use Rattle.std.proofs.lemmas.List.{get_or-set_same, get_or-set_other, length-set}
use Rattle.std.proofs.lemmas.List.Elements.{filter-append, filter_agree}
use Rattle.std.proofs.lemmas.Option.{slice_get-get_or, get_or_from_slice_get}
use Rattle.std.proofs.Math.ListN.{get_or, set}
use Rattle.rb_base.specs.declared.message.Sent.{Sent}
use Rattle.rb_journal_defs.specs.Body.{numbers_below}
use Rattle.rb_journal_defs.specs.Transaction.{first_of}
use Rattle.rb_message_defs.specs.Nodes.{is_gone, waiting_places}
use Rattle.rb_message_defs.proofs.Messages.{all_joined}
use Rattle.rb_message_defs.proofs.Places.{of_all}
use Rattle.rb_message_defs.proofs.Keys.{insert_last, below_next, below_more, none_removed, removed_kept, removed_below}
use Rattle.rb_message_defs.proofs.Waiting.{same_below, kept_of_kept, gone_as_before, not_gone_yet, kept_alone, waiting_more, waiting_without, gone_later}
use Rattle.rb_nodes.specs.Outbox.{HoldsSent}
use Rattle.rb_nodes.specs.declared.outbox.Outbox.{Outbox}

-- what the counts of the nodes say, if they are unchanged
same_counts : (failed_at : ℕ → ℕ) (old new : List ℕ) → new ≡ old → ((node : ℕ) → node < length old → slice_get old node ≡ Some (failed_at node)) → (node : ℕ) → node < length new → slice_get new node ≡ Some (failed_at node)
same_counts failed_at old new same were = subst (λ (counts : List ℕ). (node : ℕ) → node < length counts → slice_get counts node ≡ Some (failed_at node)) (sym same) were

same_senders : (sent : List Sent) (old new : List ℕ) → new ≡ old → AllByRecursion (λ (m : Sent). m.sender < length old) sent → AllByRecursion (λ (m : Sent). m.sender < length new) sent
same_senders sent old new same were = subst (λ (counts : List ℕ). AllByRecursion (λ (m : Sent). m.sender < length counts) sent) (sym same) were

-- an outbox in which one more message was sent
pub sent_more : (old new : Outbox) (sent : List Sent) (delivered : List ℕ) (failed_at : ℕ → ℕ) (message : Sent) (at : ℕ) → HoldsSent old sent delivered failed_at → at ≡ length old.sent.items →
    message.sender < length old.failed.items → new.sent.items ≡ old.sent.items ++ message ∷ [] → new.waiting.keys ≡ insert_key nat_cmp old.waiting.keys at → new.failed.items ≡ old.failed.items →
    HoldsSent new (sent ++ message ∷ []) delivered failed_at
sent_more old new sent delivered failed_at message at held place sender items keys failed =
    let n : at ≡ length sent = place ∙ ap length held.sent_is in
    let more : length (sent ++ message ∷ []) ≡ suc (length sent) = let s = length-append sent (message ∷ []) in omega arith in
    let kept : ℕ → Bool = λ place. not (is_gone failed_at sent place) in
    let kept_now : ℕ → Bool = λ place. not (is_gone failed_at (sent ++ message ∷ []) place) in
    let inserted : new.waiting.keys ≡ old.waiting.keys ++ length sent ∷ [] =
    keys ∙ ap (λ (m : ℕ). insert_key nat_cmp old.waiting.keys m) n ∙ insert_last (length sent) old.waiting.keys held.within in
    let front : filter kept_now old.waiting.keys ≡ filter kept old.waiting.keys =
    same_below (length sent) kept_now kept old.waiting.keys held.within (λ x l. ap not (gone_as_before failed_at sent message x l)) in
    let end : filter kept_now (length sent ∷ []) ≡ length sent ∷ [] =
    kept_alone kept_now (length sent) (ap not (not_gone_yet failed_at sent message held.failed_within)) in
    record {
      sent_is = items ∙ ap (λ (ss : List Sent). ss ++ message ∷ []) held.sent_is;
      failed_is = same_counts failed_at old.failed.items new.failed.items failed held.failed_is;
      senders = same_senders (sent ++ message ∷ []) old.failed.items new.failed.items failed
          (all_joined (λ (m : Sent). m.sender < length old.failed.items) sent (message ∷ []) held.senders (sender, tt));
      failed_within = λ node. let l : failed_at node ≤ length sent = held.failed_within node in omega arith;
      waiting =
          ap (filter kept_now) inserted
          ∙ filter-append kept_now old.waiting.keys (length sent ∷ [])
          ∙ ap (λ (ks : List ℕ). ks ++ filter kept_now (length sent ∷ [])) (front ∙ held.waiting)
          ∙ ap (λ (ks : List ℕ). waiting_places failed_at sent delivered ++ ks) end
          ∙ sym (waiting_more failed_at sent delivered message held.failed_within held.below);
      within = subst (λ (m : ℕ). AllByRecursion (λ k. k < m) new.waiting.keys) (sym more)
          (subst (AllByRecursion (λ (k : ℕ). k < suc (length sent))) (sym inserted) (below_more (length sent) old.waiting.keys held.within));
      below = subst (λ (m : ℕ). AllByRecursion (λ k. k < m) delivered) (sym more) (below_next (length sent) delivered held.below);
    }

-- an outbox of which one place more was delivered
pub delivered_more : (old new : Outbox) (sent : List Sent) (delivered : List ℕ) (failed_at : ℕ → ℕ) (place : ℕ) → HoldsSent old sent delivered failed_at → place < length old.sent.items →
    new.sent.items ≡ old.sent.items → new.waiting.keys ≡ remove_key (is_at (nat_cmp place)) old.waiting.keys → new.failed.items ≡ old.failed.items → HoldsSent new sent (place ∷ delivered) failed_at
delivered_more old new sent delivered failed_at place held within items keys failed =
    let n : length old.sent.items ≡ length sent = ap length held.sent_is in
    let kept : ℕ → Bool = λ place. not (is_gone failed_at sent place) in
    record {
      sent_is = items ∙ held.sent_is;
      failed_is = same_counts failed_at old.failed.items new.failed.items failed held.failed_is;
      senders = same_senders sent old.failed.items new.failed.items failed held.senders;
      failed_within = held.failed_within;
      waiting =
          ap (filter kept) keys
          ∙ removed_kept place kept old.waiting.keys
          ∙ ap (remove_key (is_at (nat_cmp place))) held.waiting
          ∙ sym (waiting_without failed_at sent place delivered);
      within = subst (AllByRecursion (λ (k : ℕ). k < length sent)) (sym keys) (removed_below (length sent) place old.waiting.keys held.within);
      below = (omega arith, held.below);
    }

-- an outbox from which a place was dropped whose sender failed
pub dropped_gone : (old new : Outbox) (sent : List Sent) (delivered : List ℕ) (failed_at : ℕ → ℕ) (place : ℕ) → HoldsSent old sent delivered failed_at → is_gone failed_at sent place ≡ true →
    new.sent.items ≡ old.sent.items → new.waiting.keys ≡ remove_key (is_at (nat_cmp place)) old.waiting.keys → new.failed.items ≡ old.failed.items → HoldsSent new sent delivered failed_at
dropped_gone old new sent delivered failed_at place held gone items keys failed =
    let kept : ℕ → Bool = λ place. not (is_gone failed_at sent place) in
    record {
      sent_is = items ∙ held.sent_is;
      failed_is = same_counts failed_at old.failed.items new.failed.items failed held.failed_is;
      senders = same_senders sent old.failed.items new.failed.items failed held.senders;
      failed_within = held.failed_within;
      waiting =
          ap (filter kept) keys
          ∙ removed_kept place kept old.waiting.keys
          ∙ none_removed place kept old.waiting.keys (ap not gone)
          ∙ held.waiting;
      within = subst (AllByRecursion (λ (k : ℕ). k < length sent)) (sym keys) (removed_below (length sent) place old.waiting.keys held.within);
      below = held.below;
    }

-- the first key, if its sender did not fail since, is the first place that waits
pub first_kept : (outbox : Outbox) (sent : List Sent) (delivered : List ℕ) (failed_at : ℕ → ℕ) (place : ℕ) → HoldsSent outbox sent delivered failed_at → slice_get outbox.waiting.keys 0 ≡ Some place →
    is_gone failed_at sent place ≡ false → Some place ≡ first_of (waiting_places failed_at sent delivered)
first_kept outbox sent delivered failed_at place held first stays =
    sym (ap first_of (sym held.waiting) ∙ head_kept (λ place. not (is_gone failed_at sent place)) outbox.waiting.keys first (ap not stays))
  where
    head_kept : (test : ℕ → Bool) (keys : List ℕ) → slice_get keys 0 ≡ Some place → test place ≡ true → first_of (filter test keys) ≡ Some place
    head_kept test [] none kept = none
    head_kept test (x ∷ keys) same kept =
        let px : place ≡ x = let s : Some x ≡ Some place = same in cc in
        let kx : test x ≡ true = ap test (sym px) ∙ kept in
        rw kx same

-- an outbox one of whose nodes failed
pub failed_now : (old new : Outbox) (sent : List Sent) (delivered : List ℕ) (failed_at : ℕ → ℕ) (node count : ℕ) → HoldsSent old sent delivered failed_at → node < length old.failed.items → count ≡ length old.sent.items →
    new.sent.items ≡ old.sent.items → new.waiting.keys ≡ old.waiting.keys → new.failed.items ≡ set old.failed.items node count → HoldsSent new sent delivered (λ other. if other == node then length sent else failed_at other)
failed_now old new sent delivered failed_at node count held known all items keys failed =
    let n : count ≡ length sent = all ∙ ap length held.sent_is in
    let after : ℕ → ℕ = λ other. if other == node then length sent else failed_at other in
    let size : length (set old.failed.items node count) ≡ length old.failed.items = length-set old.failed.items node count in
    let kept : ℕ → Bool = λ place. not (is_gone failed_at sent place) in
    let kept_now : ℕ → Bool = λ place. not (is_gone after sent place) in
    let fewer : (place : ℕ) → kept_now place ≡ true → kept place ≡ true =
    λ place. gone_later failed_at after place (slice_get sent place) (λ other. later (other == node) (failed_at other) (length sent) (held.failed_within other)) in
    record {
      sent_is = items ∙ held.sent_is;
      failed_is = subst (λ (counts : List ℕ). (other : ℕ) → other < length counts → slice_get counts other ≡ Some (after other)) (sym failed)
          (λ other l. slice_get-get_or (set old.failed.items node count) other 0 l
          ∙ ap Some (read old.failed.items node count other (failed_at other) (length sent) known n (held.failed_is other (omega arith))));
      senders = subst (λ (counts : List ℕ). AllByRecursion (λ (m : Sent). m.sender < length counts) sent) (sym failed)
          (subst (λ (many : ℕ). AllByRecursion (λ (m : Sent). m.sender < many) sent) (sym size) held.senders);
      failed_within = λ other. within (other == node) (failed_at other) (length sent) (held.failed_within other);
      waiting =
          ap (filter kept_now) keys
          ∙ sym (kept_of_kept (λ place. true) kept kept_now old.waiting.keys fewer)
          ∙ ap (filter kept_now) held.waiting
          ∙ kept_of_kept (λ place. not (list_any (λ other. other == place) delivered)) kept kept_now (numbers_below (length sent)) fewer;
      within = subst (AllByRecursion (λ (k : ℕ). k < length sent)) (sym keys) held.within;
      below = held.below;
    }
  where
    later : (b : Bool) (before most : ℕ) → before ≤ most → before ≤ (if b then most else before)
    later true before most l = l
    later false before most l = omega arith

    within : (b : Bool) (before most : ℕ) → before ≤ most → (if b then most else before) ≤ most
    within true before most l = omega arith
    within false before most l = l

    read : (counts : List ℕ) (node count other before most : ℕ) → node < length counts → count ≡ most → slice_get counts other ≡ Some before → get_or (set counts node count) other 0 ≡ (if other == node then most else before)
    read counts node count other before most known n was = go (other == node) refl
      where
        go : (b : Bool) → (other == node) ≡ b → get_or (set counts node count) other 0 ≡ (if b then most else before)
        go true q =
            let same : other ≡ node = eqb-true other node q in
            ap (λ (k : ℕ). get_or (set counts node count) k 0) same ∙ get_or-set_same counts node count 0 known ∙ n
        go false q = get_or-set_other counts node other count 0 (eqb-false other node q) ∙ get_or_from_slice_get counts other before 0 was

-- how many places of an outbox wait whose sender did not fail since
pub still_waiting : Outbox → ℕ
still_waiting outbox = length (filter (λ place. not (is_gone (λ node. get_or outbox.failed.items node 0) outbox.sent.items place)) outbox.waiting.keys)

pub still_waiting_is : (outbox : Outbox) (sent : List Sent) (delivered : List ℕ) (failed_at : ℕ → ℕ) → HoldsSent outbox sent delivered failed_at → still_waiting outbox ≡ length (waiting_places failed_at sent delivered)
unfolding still_waiting
still_waiting_is outbox sent delivered failed_at held =
    let counted : ℕ → ℕ = λ node. get_or outbox.failed.items node 0 in
    ap (λ (ss : List Sent). length (filter (λ place. not (is_gone counted ss place)) outbox.waiting.keys)) held.sent_is
    ∙ ap length (filter_agree (λ place. not (is_gone counted sent place)) (λ place. not (is_gone failed_at sent place))
    (λ place. ap not (same_gone place (slice_get sent place) (λ message there. get_or_from_slice_get outbox.failed.items message.sender (failed_at message.sender) 0 (held.failed_is message.sender (of_all (λ (m : Sent). m.sender < length outbox.failed.items) sent place message held.senders there))))) outbox.waiting.keys)
    ∙ ap length held.waiting
  where
    same_gone : (place : ℕ) (found : Option Sent) → ((message : Sent) → found ≡ Some message → get_or outbox.failed.items message.sender 0 ≡ failed_at message.sender) →
        option_map_or (λ (m : Sent). nat_lt place (get_or outbox.failed.items m.sender 0)) found false ≡ option_map_or (λ (m : Sent). nat_lt place (failed_at m.sender)) found false
    same_gone place None same = refl
    same_gone place (Some m) same = ap (nat_lt place) (same m refl)

-- what holds anyway holds on Ok
pub on_ok : {X E : Type 0} → (result : Result X E) (P : Type 0) → P → OnOk result P
on_ok (Ok x) P p = p
on_ok (Err e) P p = tt
